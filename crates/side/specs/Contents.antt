-- The carried parts as they are seen from outside: a list of tags with their contents, in ascending order.
-- Rests on the values that hold them.
use Rattle.std.specs.Prelude.{ℕ, ◌+◌, cond, List, [], ◌∷◌, ◌++◌, length, take, drop, Some, None, Option, ◌==◌, nat_lt}
use Rattle.std.specs.Borrow.{Bor}
use Rattle.side.specs.declared.parts.Parts.{Parts}
use Rattle.side.specs.declared.kinds.PartsFault.{PartsFault}
use Rattle.side.specs.declared.kinds.PartsFault.TheVariants.{TotalOver, UserUserOver}
use Rattle.side.specs.Limits.{cost}

pub record Part : Type 0 where
  pub tag : ℕ
  pub contents : List ℕ

-- a part that is there if it has contents
abbrev pub part : ℕ → List ℕ → List Part
part tag contents = cond (length contents == 0) [] (record { tag = tag; contents = contents } ∷ [])

-- n octets from a place on
abbrev pub cut : ℕ → ℕ → List ℕ → List ℕ
cut start n octets = take n (drop start octets)

abbrev pub calling_of : Parts → List ℕ
calling_of p = cut 0 p.lengths.calling p.octets

abbrev pub called_of : Parts → List ℕ
called_of p = cut p.lengths.calling p.lengths.called p.octets

abbrev pub low_of : Parts → List ℕ
low_of p = cut (p.lengths.calling + p.lengths.called) p.lengths.low p.octets

abbrev pub high_of : Parts → List ℕ
high_of p = cut (p.lengths.calling + p.lengths.called + p.lengths.low) p.lengths.high p.octets

abbrev pub user_of : Parts → List ℕ
user_of p = cut (p.lengths.calling + p.lengths.called + p.lengths.low + p.lengths.high) p.lengths.user p.octets

-- the parts by their tags: calling and called subaddress, low and high layer compatibility, user-user
abbrev pub five : List ℕ → List ℕ → List ℕ → List ℕ → List ℕ → List Part
five a b c d e = part 0x6D a ++ (part 0x71 b ++ (part 0x7C c ++ (part 0x7D d ++ part 0x7E e)))

abbrev pub parts_of : Parts → List Part
parts_of p = five (calling_of p) (called_of p) (low_of p) (high_of p) (user_of p)

-- contents that came, or none
abbrev pub came : Option (Bor (List ℕ)) → List ℕ
came None = []
came (Some r) = r.now

-- what stands against parts of these lengths
abbrev pub parts_fault : ℕ → ℕ → ℕ → ℕ → ℕ → Option PartsFault
parts_fault a b c d e = cond (nat_lt 200 (cost a + cost b + cost c + cost d + cost e)) (Some TotalOver) (cond (nat_lt 129 e) (Some UserUserOver) None)
