-- The bearer of a told setup is always one that is served, and the setup's own where that is served. Assumes nothing.
use Rattle.std.proofs.Common.{◌≡◌, ℕ, ◌≤◌, true, List, length, is_ok, Ok, Err, Result, refl, ap, arith}
use Rattle.std.proofs.Math.Dec.{lit≤}
use Rattle.values.specs.declared.types.Capability.{Capability}
use Rattle.values.specs.declared.types.Capability.TheVariants.{Audio}
use Rattle.values.specs.declared.types.BearerFault.{BearerFault}
use Rattle.values.specs.Bearers.{bearer_in}
use Rattle.side.proofs.Builds.{bearer_size}
use Rattle.carried.specs.Carried.{served_or, told_bearer}

abbrev pub Served : List ℕ → Type 0
Served b = (2 ≤ length b) × (length b ≤ 11) × ((capability : Capability) × (bearer_in b ≡ Ok capability))

-- a bearer that is served has 2 to 11 octets
pub bearer_good : (b : List ℕ) → is_ok (bearer_in b) ≡ true → Served b
bearer_good b e = by (bearer_in b) refl e
  where
    by : (r : Result Capability BearerFault) → bearer_in b ≡ r → is_ok r ≡ true → Served b
    by (Err f) h i = absurd (grind arith)
    by (Ok k) h i = let size = bearer_size b k h in (size.0, size.1, (k, h))

pub told_bearer_served : (b : List ℕ) → Served (told_bearer b)
told_bearer_served b = by (bearer_in b) refl
  where
    by : (r : Result Capability BearerFault) → bearer_in b ≡ r → Served (served_or r b)
    by (Err f) e = (lit≤ tt, lit≤ tt, (Audio, refl))
    by (Ok k) e = let size = bearer_size b k e in (size.0, size.1, (k, e))

pub told_bearer_is : (b : List ℕ) (k : Capability) → bearer_in b ≡ Ok k → told_bearer b ≡ b
told_bearer_is b k e = ap (λ r. served_or r b) e
