use Rattle.std.proofs.Common.{◌≡◌, take, map}
use Rattle.digits.proofs.Packs.{pair_read}
use Rattle.digits.proofs.number.packing.unpack.Given as goal

abbrev pub invariant-loop-n : goal.invariant-loop-n
invariant-loop-n l = take l.n l.pair-items ≡ take l.n (map pair_read l.octets)
