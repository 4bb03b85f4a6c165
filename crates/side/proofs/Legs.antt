-- What a search for a leg says of the leg. Assumes nothing.
use Rattle.std.proofs.Common.{◌≡◌, ℕ, Bool, true, cond, Some, None, arith}

-- a leg that was found has the number that was looked for
pub leg_found : (b : Bool) (l x : ℕ) → Some l ≡ cond b (Some x) None → (b ≡ true) × (l ≡ x)
leg_found b l x e = (grind arith, grind arith)
