-- What was found in a message: how many whole elements it has, and whether it is broken.
-- Rests on what taking a list apart gives, and on the verdict on a list.
use Rattle.std.specs.Prelude.{◌≡◌, ◌==◌, ◌&&◌, ℕ, ◌≤◌, Bool, true, false, not, cond, List, ◌∷◌, length, Some, None, Option, Result}
use Rattle.std.specs.Result.{is_ok}
use Rattle.elements.specs.declared.types.EndRule.{EndRule}
use Rattle.elements.specs.declared.types.ListFault.{ListFault}
use Rattle.elements.specs.Elements.{checked}
use Rattle.writer.specs.declared.types.Item.{Item}
use Rattle.lists.specs.Apart.{TakenApart}
use Rattle.inspection.specs.declared.types.Found.{Found}

-- how the lists of both systems end
abbrev pub dss1 : EndRule
dss1 = record { end = None; singles = true }

abbrev pub isup : EndRule
isup = record { end = Some 0; singles = false }

-- so many elements are those of a list
pub record Counts (rule : EndRule) (list : List ℕ) (elements : ℕ) : Type 0 where
  pub items : List Item
  pub end : Result ℕ ListFault
  pub apart : TakenApart rule list items end
  pub count : elements ≡ length items

-- a list is not whole
abbrev pub broken_list : EndRule → List ℕ → Bool
broken_list rule list = not (is_ok (checked rule list))

-- the list behind the header of a DSS 1 message, if that has one
abbrev pub behind_header : List ℕ → Option (List ℕ)
behind_header (a ∷ b ∷ reference ∷ kind ∷ list) = cond (a == 8 && b == 1) (Some list) None
behind_header _ = None

-- a message with a header: its elements, and whether its list is broken
pub record Shown (list : List ℕ) (found : Found) : Type 0 where
  pub elements : Counts dss1 list found.elements
  pub broken : found.broken ≡ broken_list dss1 list
  pub refused : found.refused ≡ false

-- any message: one without a header is broken, and nothing else is found in it
abbrev pub Dss1Found : List ℕ → Found → Type 0
Dss1Found octets found =
    elim (behind_header octets) [
      | None ↦ found ≡ record { elements = 0; broken = true; same = false; refused = false }
      | Some list ↦ Shown list found
    ]

-- parameters: the elements that are nested in them are counted too, and so is what is broken there
pub record ParametersFound (list : List ℕ) (found : Found) : Type 0 where
  pub own : ℕ
  pub counts : Counts isup list own
  pub least : own ≤ found.elements
  pub broken : broken_list isup list ≡ true → found.broken ≡ true
  pub refused : found.refused ≡ false
