-- What the first octets of a DSS 1 message say: 08, 01, reference with its flag, type.
-- Rests on lists of octets; the faults are those of the source.
use Rattle.std.specs.Prelude.{◌≡◌, ℕ, ◌+◌, ◌<◌, Bool, cond, List, ◌∷◌, length, take, ◌≢◌, slice_index}
use Rattle.inspection.specs.declared.header.HeaderFault.{HeaderFault}
use Rattle.inspection.specs.declared.header.HeaderFault.TheVariants.{NotDss1, ReferenceLength, BreaksOff}

-- a message with a header: its octets are those that its parts stand for
pub record Headed (octets : List ℕ) (reference : ℕ) (toOrigin : Bool) (kind : ℕ) (header list : List ℕ) : Type 0 where
  pub parts : octets ≡ 8 ∷ 1 ∷ (reference + cond toOrigin 128 0) ∷ kind ∷ list
  pub small : reference < 128
  pub front : header ≡ take 4 octets

-- octets without one
abbrev pub Headless : List ℕ → HeaderFault → Type 0
Headless octets (NotDss1 a) = (0 < length octets) × (slice_index octets 0 ≡ a) × (a ≢ 8)
Headless octets (ReferenceLength a) = (1 < length octets) × (slice_index octets 1 ≡ a) × (a ≢ 1)
Headless octets (BreaksOff p) = (p ≡ length octets) × (p < 4)
