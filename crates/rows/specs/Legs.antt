-- The legs of an exchange: which of its two sides, and which number there; and lists picked by a test.
-- Rests on nothing but the two sides' names.
use Rattle.std.specs.Prelude.{ℕ, Bool, true, false, cond, ◌&&◌, ◌||◌, List, [], ◌∷◌, ◌==◌}
use Rattle.rows.specs.declared.kinds.Which.{Which}
use Rattle.rows.specs.declared.kinds.Which.TheVariants.{First, Second}

abbrev pub other : Which → Which
other First = Second
other Second = First

-- a leg: its side and its number there
pub data Leg : Type 0 where
  leg : Which → ℕ → Leg

-- the leg with this number on the other side
abbrev pub across : Leg → ℕ → Leg
across (leg w l) n = leg (other w) n

abbrev pub same_which : Which → Which → Bool
same_which First First = true
same_which First Second = false
same_which Second First = false
same_which Second Second = true

abbrev pub same_leg : Leg → Leg → Bool
same_leg (leg w l) (leg v k) = same_which w v && l == k

-- those of a list that pass a test, in order
abbrev pub select : {A : Type 0} → (A → Bool) → List A → List A
select f [] = []
select f (x ∷ xs) = cond (f x) (x ∷ select f xs) (select f xs)

abbrev pub any : {A : Type 0} → (A → Bool) → List A → Bool
any f [] = false
any f (x ∷ xs) = f x || any f xs
