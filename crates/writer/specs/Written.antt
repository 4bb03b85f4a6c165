-- What one step of writing adds to a buffer, and when it is refused.
-- Rests on the end rule of the coding (which tags are elements) and on lists of octets.
use Rattle.std.specs.Prelude.{◌≡◌, ℕ, ◌+◌, cond, ◌||◌, List, [], ◌∷◌, ◌++◌, length, take, drop, Some, None, Option, Result, MatchResult, nat_lt}
use Rattle.elements.specs.declared.types.EndRule.{EndRule}
use Rattle.elements.specs.Elements.{ends_list, stands_alone}
use Rattle.writer.specs.declared.types.WriteFault.{WriteFault}
use Rattle.writer.specs.declared.types.WriteFault.TheVariants.{NoRoom, TooLong, NotATag, OutOfOrder}

-- an element as octets
abbrev pub element : ℕ → List ℕ → List ℕ
element tag contents = tag ∷ length contents ∷ contents

-- the tag that ends the list, where the coding has one
abbrev pub ending : Option ℕ → List ℕ
ending None = []
ending (Some t) = t ∷ []

-- from `before`, written as far as `at`, to `after`, written as far as `end`: the octets stand at the end of
-- what was written, and what lies beyond is as it was
pub record Adds (octets : List ℕ) (at : ℕ) (before : List ℕ) (end : ℕ) (after : List ℕ) : Type 0 where
  pub count : end ≡ at + length octets
  pub front : take end after ≡ take at before ++ octets
  pub rest : drop end after ≡ drop end before

-- a step that was taken: nothing stood against it, and it added these octets
pub record Takes (fault : Option WriteFault) (octets : List ℕ) (at : ℕ) (before : List ℕ) (end : ℕ) (after : List ℕ) : Type 0 where
  pub fine : fault ≡ None
  pub adds : Adds octets at before end after

-- a step that was refused: this stood against it, and nothing changed
pub record Refuses (fault : Option WriteFault) (e : WriteFault) (before after : List ℕ) : Type 0 where
  pub because : fault ≡ Some e
  pub same : after ≡ before

-- a step, whichever way it went; `end` says how far its answer reaches
abbrev pub Step : {T : Type 0} → Option WriteFault → List ℕ → ℕ → List ℕ → List ℕ → (T → ℕ) → Result T WriteFault → Type 0
Step fault octets at before after end r = MatchResult r (λ x. Takes fault octets at before (end x) after) (λ e. Refuses fault e before after)

-- the same, where the next element's tag may not be below `last`
abbrev pub ListStep : {T : Type 0} → Option WriteFault → List ℕ → ℕ → List ℕ → List ℕ → (T → ℕ) → (T → ℕ) → ℕ → Result T WriteFault → Type 0
ListStep fault octets at before after end floor last r = MatchResult r (λ x. Takes fault octets at before (end x) after × (floor x ≡ last)) (λ e. Refuses fault e before after)

-- what stands against so many octets more, in a buffer of that size
abbrev pub room_fault : ℕ → ℕ → ℕ → Option WriteFault
room_fault at more size = cond (nat_lt size (at + more)) (Some NoRoom) None

-- what stands against an element of n octets of contents, after one with the tag `last`
abbrev pub element_fault : EndRule → ℕ → ℕ → ℕ → ℕ → ℕ → Option WriteFault
element_fault rule last at tag n size =
    cond (ends_list rule tag || stands_alone rule tag) (Some NotATag)
    (cond (nat_lt tag last) (Some OutOfOrder)
    (cond (nat_lt 255 n) (Some TooLong) (room_fault at (2 + n) size)))

-- what stands against an element of one octet
abbrev pub single_fault : EndRule → ℕ → ℕ → ℕ → Option WriteFault
single_fault rule at tag size = cond (ends_list rule tag) (Some NotATag) (cond (stands_alone rule tag) (room_fault at 1 size) (Some NotATag))
