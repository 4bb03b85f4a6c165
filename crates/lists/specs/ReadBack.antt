-- What reading a written list gives back: each element at its place with its contents, nothing else, and no fault.
-- Rests on the reader's definitions and on the table of elements that was written; not on how it was written.
use Rattle.std.specs.Prelude.{◌≡◌, ℕ, ◌+◌, cond, List, [], ◌∷◌, length, Some, None, Ok, Option, ◌==◌, nat_lt}
use Rattle.std.specs.Option.{option_map}
use Rattle.elements.specs.declared.types.EndRule.{EndRule}
use Rattle.elements.specs.Elements as read
use Rattle.elements.specs.Elements.{place_of, contents_of, checked}
use Rattle.writer.specs.declared.types.Item.{Item}
use Rattle.writer.specs.declared.types.Item.TheVariants.{Element, Single, Absent}

-- the first element of a table with the tag and at least one octet of contents, where the table's octets begin at p
abbrev pub held : ℕ → ℕ → List Item → Option read.Item
held t p [] = None
held t p (Element u contents ∷ is) =
    cond (u == t) (cond (nat_lt 0 (length contents.now)) (Some (record { place = p; tag = u; contents = contents.now })) (held t (p + (2 + length contents.now)) is))
    (held t (p + (2 + length contents.now)) is)
held t p (Single u ∷ is) = held t (p + 1) is
held t p (Absent ∷ is) = held t p is

-- the octets give back the table: for every tag the contents and the place of its first element that is not
-- empty, or none; and the list is whole, with nothing after its end
pub record ReadsBack (rule : EndRule) (items : List Item) (octets : List ℕ) : Type 0 where
  pub contents : (t : ℕ) → contents_of rule t octets ≡ option_map (λ e. e.contents) (held t 0 items)
  pub places : (t : ℕ) → place_of rule t octets ≡ option_map (λ e. e.place) (held t 0 items)
  pub whole : checked rule octets ≡ Ok (length octets)
