-- Which bearer capabilities are served, by length and information transfer capability.
-- Rests on lists and numbers alone; the types are those of the source.
use Rattle.std.specs.Prelude.{ℕ, ◌%◌, cond, List, length, Ok, Err, Result, ◌==◌, nat_lt, slice_index}
use Rattle.values.specs.declared.types.Capability.{Capability}
use Rattle.values.specs.declared.types.Capability.TheVariants.{Speech, Unrestricted, Audio}
use Rattle.values.specs.declared.types.BearerFault.{BearerFault}
use Rattle.values.specs.declared.types.BearerFault.TheVariants.{TooShort, TooLong, Capability as Unserved}

-- the information transfer capability, by its code
abbrev pub capability_of : ℕ → Result Capability BearerFault
capability_of code =
    cond (code == 0) (Ok Speech)
    (cond (code == 8) (Ok Unrestricted)
    (cond (code == 16) (Ok Audio) (Err (Unserved code))))

-- 2 to 11 octets, and the code in the low five bits of the first
abbrev pub bearer_in : List ℕ → Result Capability BearerFault
bearer_in octets =
    cond (nat_lt (length octets) 2) (Err TooShort)
    (cond (nat_lt 11 (length octets)) (Err TooLong) (capability_of (slice_index octets 0 % 32)))
