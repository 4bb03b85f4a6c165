-- The legs of a side over lent records: the first of them, up to the system's most.
-- Rests on lists alone.
use Rattle.std.specs.Prelude.{ℕ, ◌≤◌, min, List, ◌++◌, length, take, drop, replicate}
use Rattle.std.proofs.Common.{arith, length-take}

abbrev pub legs_of : {R : Type 0} → ℕ → List R → List R
legs_of most records = take most records

-- at opening every leg's record is blank, and the records beyond the most are as they were
abbrev pub opened : {R : Type 0} → ℕ → R → List R → List R
opened most blank records = replicate (min (length records) most) blank ++ drop most records

pub legs_few : {R : Type 0} (most : ℕ) (records : List R) → length (legs_of most records) ≤ most
legs_few most records = simp length-take (omega arith)
