-- Which carried parts are kept. Assumes nothing.
use Rattle.std.proofs.Common.{◌≡◌, Bool, true, false, cond, List, [], ◌∷◌, ◌++◌, refl, ap}
use Rattle.side.specs.Contents.{Part}
use Rattle.side.specs.Meaning.{keep}

-- of parts one behind another those are kept that are kept of each
pub keep_append : (f : Part → Bool) (xs ys : List Part) → keep f (xs ++ ys) ≡ keep f xs ++ keep f ys
keep_append f [] ys = refl
keep_append f (x ∷ xs) ys = go (keep_append f xs ys) (f x)
  where
    go : keep f (xs ++ ys) ≡ keep f xs ++ keep f ys → (b : Bool) → cond b (x ∷ keep f (xs ++ ys)) (keep f (xs ++ ys)) ≡ cond b (x ∷ keep f xs) (keep f xs) ++ keep f ys
    go e true = ap (λ (r : List Part). x ∷ r) e
    go e false = e
