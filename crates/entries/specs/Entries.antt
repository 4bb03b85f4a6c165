-- A list as a table of entries, each a tag and its contents; an entry that is empty is left out.
-- Rests on the octets of an element and on the reader's definitions.
use Rattle.std.specs.Prelude.{◌≡◌, ℕ, ◌+◌, ◌<◌, ◌≤◌, false, cond, List, [], ◌∷◌, ◌++◌, length, Some, None, Option, ◌==◌}
use Rattle.std.specs.Borrow.{Bor}
use Rattle.elements.specs.declared.types.EndRule.{EndRule}
use Rattle.elements.specs.Elements.{ends_list, stands_alone, contents_of}
use Rattle.writer.specs.declared.types.Item.{Item}
use Rattle.writer.specs.declared.types.Item.TheVariants.{Element, Absent}
use Rattle.writer.specs.Written.{element}

pub record Entry : Type 0 where
  pub tag : ℕ
  pub contents : List ℕ

-- an entry as octets
abbrev pub entry_octets : Entry → List ℕ
entry_octets e = cond (length e.contents == 0) [] (element e.tag e.contents)

-- a table as octets
abbrev pub listed : List Entry → List ℕ
listed [] = []
listed (e ∷ es) = entry_octets e ++ listed es

-- how many octets contents of that length take, with tag and length
abbrev pub weight : ℕ → ℕ
weight n = cond (n == 0) 0 (n + 2)

abbrev pub weights : List Entry → ℕ
weights [] = 0
weights (e ∷ es) = weight (length e.contents) + weights es

-- the contents under a tag; none is an empty list
abbrev pub under : ℕ → List Entry → List ℕ
under t [] = []
under t (e ∷ es) = cond (e.tag == t) e.contents (under t es)

-- what the reader finds under a tag; none is an empty list
abbrev pub or_none : Option (List ℕ) → List ℕ
or_none None = []
or_none (Some contents) = contents

abbrev pub found : EndRule → ℕ → List ℕ → List ℕ
found rule t octets = or_none (contents_of rule t octets)

-- tags that elements of this coding may have, each above the one before
abbrev pub Ascending : EndRule → ℕ → List Entry → Type 0
Ascending rule last [] = Unit {0}
Ascending rule last (e ∷ es) =
    (last < e.tag) × (ends_list rule e.tag ≡ false) × (stands_alone rule e.tag ≡ false) × (length e.contents ≤ 255) × Ascending rule e.tag es

-- an entry as the writer takes it
abbrev pub entry_item : ℕ → Bor (List ℕ) → Item
entry_item tag contents = cond (length contents.now == 0) Absent (Element tag contents)
