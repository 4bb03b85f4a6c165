-- What a cause and a progress indicator say, octet by octet.
-- Rests on lists and numbers alone.
use Rattle.std.specs.Prelude.{ℕ, ◌%◌, cond, List, [], ◌∷◌, Some, None, Option, nat_le}

-- location: the low four bits of an octet; what is said: the low seven bits of another
abbrev pub said : ℕ → ℕ → Option (ℕ × ℕ)
said place what = Some (place % 16, what % 128)

-- the value stands in the second octet, and in the third where bit 8 of the first is 0: an extension octet comes between
abbrev pub cause_in : List ℕ → Option (ℕ × ℕ)
cause_in [] = None
cause_in (a ∷ []) = None
cause_in (a ∷ b ∷ []) = cond (nat_le 128 a) (said a b) None
cause_in (a ∷ b ∷ c ∷ rest) = cond (nat_le 128 a) (said a b) (said a c)

-- the description stands in the second octet
abbrev pub progress_in : List ℕ → Option (ℕ × ℕ)
progress_in [] = None
progress_in (a ∷ []) = None
progress_in (a ∷ b ∷ rest) = said a b
