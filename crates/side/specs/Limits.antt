-- How much the contents of a message may hold.
-- Rests on lengths and numbers alone.
use Rattle.std.specs.Prelude.{ℕ, ◌+◌, cond, ◌==◌}
use Rattle.values.specs.declared.types.Capability.{Capability}
use Rattle.values.specs.declared.types.Capability.TheVariants.{Speech, Unrestricted, Audio}

-- the octets that a part of so many octets takes in a message, with its tag and its length
abbrev pub cost : ℕ → ℕ
cost n = cond (n == 0) 0 (n + 2)

-- the information transfer capability that the low five bits of a bearer's first octet tell
abbrev pub capability_code : Capability → ℕ
capability_code Speech = 0
capability_code Unrestricted = 8
capability_code Audio = 16
