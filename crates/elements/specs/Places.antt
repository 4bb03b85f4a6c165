-- One element of a list at its place, and how the walk over the list goes on after it.
-- Rests on the walk over a list, on an element's contents as a list of numbers, and on what is seen at a place.
use Rattle.std.specs.Prelude.{◌≡◌, ℕ, ◌+◌, ◌≤◌, List, [], ◌∷◌, ◌++◌, length, take, drop, Some, None}
use Rattle.elements.specs.declared.types.EndRule.{EndRule}
use Rattle.elements.specs.declared.types.ListElement.{ListElement}
use Rattle.elements.specs.declared.types.Seen.{Seen}
use Rattle.elements.specs.declared.types.Seen.TheVariants.{Nothing, End, Single, Element, Broken}
use Rattle.elements.specs.Elements.{Walk, more, walk}

-- the walk over a list from a place on
abbrev pub walk_from : EndRule → List ℕ → ℕ → Walk
walk_from rule list p = walk rule 0 p (drop p list)

-- how many octets an element takes
abbrev pub size_of : ListElement → ℕ
size_of e = elim e.contents [ None ↦ 1 | Some c ↦ 2 + length c.now ]

-- an element as octets
abbrev pub octets_of : ListElement → List ℕ
octets_of e = elim e.contents [ None ↦ e.tag ∷ [] | Some c ↦ e.tag ∷ length c.now ∷ c.now ]

-- the walk that comes to an element, by the walk after it
abbrev pub with_element : ListElement → Walk → Walk
with_element e rest = elim e.contents [ None ↦ rest | Some c ↦ more (record { place = e.place; tag = e.tag; contents = c.now }) rest ]

-- the element stands at a place of the list
pub record StandsAt (rule : EndRule) (list : List ℕ) (p : ℕ) (e : ListElement) : Type 0 where
  pub place : e.place ≡ p
  pub within : p + size_of e ≤ length list
  pub octets : take (p + size_of e) list ≡ take p list ++ octets_of e
  pub walks : walk_from rule list p ≡ with_element e (walk_from rule list (p + size_of e))

-- no whole element is seen
abbrev pub Stops : Seen → Type 0
Stops Nothing = Unit {0}
Stops End = Unit {0}
Stops Single = ⊥
Stops (Element n) = ⊥
Stops Broken = Unit {0}
