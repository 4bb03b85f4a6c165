-- Contents that are copied into octets that are there. Assumes nothing.
use Rattle.std.proofs.Common.{◌≡◌, ℕ, ◌+◌, ◌≤◌, List, ◌∷◌, ◌++◌, length, take, drop, ap, ◌∙◌, arith, length-append, length-drop}
use Rattle.std.proofs.lemmas.List.{take_at, length-take-le}

-- octets of which the first were copied over keep their number
pub laid_room : (ys zs : List ℕ) (n k : ℕ) → length ys ≡ n → k ≡ n → n ≤ length zs → length (ys ++ drop k zs) ≡ length zs
laid_room ys zs n k e f h = simp (length-append, length-drop) (omega arith)

-- an octet and what was copied behind it
pub first_then : (v w : ℕ) (ys xs zs : List ℕ) (n : ℕ) → v ≡ w → ys ≡ xs → n ≡ 1 + length xs → take n (v ∷ (ys ++ zs)) ≡ w ∷ xs
first_then v w ys xs zs n p q e = take_at (v ∷ ys) zs n (omega (arith, ap length q)) ∙ (λ i. p i ∷ q i)

-- the front of octets is no longer than it is asked to be
pub front_short : (n m : ℕ) (ys xs : List ℕ) → ys ≡ take n xs → n ≤ m → m ≤ length xs → length ys ≤ m
front_short n m ys xs e h k = let l = length-take-le n xs (omega arith) in omega (arith, ap length e)
