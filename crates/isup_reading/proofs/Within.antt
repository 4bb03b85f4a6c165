-- Places within a list, as the code holds them. Assumes nothing.
use Rattle.std.proofs.Common.{◌≡◌, ℕ, ◌<◌, ◌≤◌, List, length, Some, None, Option, unwrap_or, refl, arith}
use Rattle.elements.specs.declared.types.EndRule.{EndRule}
use Rattle.elements.specs.Elements.{place_of}
use Rattle.carried.proofs.Places.{place_within}

module _ (rule : EndRule) where
  -- the place of an element that is found, or 0
  pub place_or_zero : (t : ℕ) (xs : List ℕ) → unwrap_or (place_of rule t xs) 0 ≤ length xs
  place_or_zero t xs = at (place_of rule t xs) (λ k e. place_within rule t k xs e)
    where
      at : (o : Option ℕ) → ((k : ℕ) → o ≡ Some k → k < length xs) → unwrap_or o 0 ≤ length xs
      at None h = omega arith
      at (Some k) h = let i = h k refl in omega arith
