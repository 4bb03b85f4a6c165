-- A table of references to contents, as the writer takes it and as entries.
-- Rests on what an entry is, and on the writer's items.
use Rattle.std.specs.Prelude.{ℕ, List, [], ◌∷◌}
use Rattle.std.specs.Borrow.{Bor}
use Rattle.writer.specs.declared.types.Item.{Item}
use Rattle.entries.specs.Entries.{Entry, entry_item}

-- the items that the writer takes
abbrev pub items_of : List (ℕ × Bor (List ℕ)) → List Item
items_of [] = []
items_of (r ∷ rs) = entry_item r.0 r.1 ∷ items_of rs

-- the entries: each tag with the octets that its reference points to
abbrev pub entries_of : List (ℕ × Bor (List ℕ)) → List Entry
entries_of [] = []
entries_of (r ∷ rs) = record { tag = r.0; contents = r.1.now } ∷ entries_of rs
