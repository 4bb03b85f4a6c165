use Rattle.std.proofs.Common.{◌≡◌, ◌≤◌, ◌-◌, length, vec_items}
use Rattle.text.specs.Hex.{joined, octets_from}
use Rattle.text.proofs.hex.read_octets.Given as goal

abbrev pub invariant-loop-first : goal.invariant-loop-first
invariant-loop-first l =
    (length l.rest ≤ length l.text)
    × (joined (vec_items l.octets) (octets_from 0 (length l.text - length l.rest) l.rest) ≡ octets_from 0 0 l.text)

abbrev pub decreases-loop-first : goal.decreases-loop-first
decreases-loop-first l = length l.rest
