-- Values that are refused together: what stands against both, and the place at which the first of them is refused. Assumes nothing.
use Rattle.std.proofs.Common.{MatchOption, ◌≡◌, ℕ, Bool, true, false, cond, leb, Some, None, Ok, Err, Option, Result, is_some, sym, refl, ap, ◌∙◌, arith}
use Rattle.std.specs.Option.{option_map, ok_or}
use Rattle.side.specs.declared.kinds.Refusal.{Refusal}
use Rattle.carried.specs.Carried.{bad_at, sooner, earlier, both, refused}

-- what stands against both values is the earlier of what stands against each
pub both_refused : {A B : Type 0} (x : Result A Refusal) (y : Result B Refusal) → refused (both x y) ≡ earlier (refused x) (refused y)
both_refused (Ok a) (Ok b) = refl
both_refused (Ok a) (Err f) = refl
both_refused (Err e) (Ok b) = refl
both_refused (Err e) (Err f) = refl

-- and where nothing does they are the two values
pub both_ok : {A B : Type 0} (x : Result A Refusal) (y : Result B Refusal) (v : A × B) → Ok v ≡ both x y → (x ≡ Ok v.0) × (y ≡ Ok v.1)
both_ok (Ok a) (Ok b) v e = (grind arith, grind arith)
both_ok (Ok a) (Err f) v e = absurd (grind arith)
both_ok (Err e) (Ok b) v h = absurd (grind arith)
both_ok (Err e) (Err f) v h = absurd (grind arith)

-- the refusal at the sooner of two places is the earlier of the refusals at each, where each stands at its place
pub sooner_refused : (at : ℕ → Refusal) → ((p : ℕ) → (at p).place ≡ p) → (a b : Option ℕ) →
    option_map at (sooner a b) ≡ earlier (option_map at a) (option_map at b)
sooner_refused at h None b = refl
sooner_refused at h (Some p) None = refl
sooner_refused at h (Some p) (Some q) = by (leb p q) ∙ sym (λ i. Some (cond (leb (h p i) (h q i)) (at p) (at q)))
  where
    by : (b : Bool) → Some (at (cond b p q)) ≡ Some (cond b (at p) (at q))
    by true = refl
    by false = refl

-- so values that are refused at places are refused together at the sooner of these
pub both_refused_at : {A B : Type 0} (at : ℕ → Refusal) → ((p : ℕ) → (at p).place ≡ p) → (x : Result A Refusal) (y : Result B Refusal) (a b : Option ℕ) →
    refused x ≡ option_map at a → refused y ≡ option_map at b → refused (both x y) ≡ option_map at (sooner a b)
both_refused_at at h x y a b e f = both_refused x y ∙ (λ i. earlier (e i) (f i)) ∙ sym (sooner_refused at h a b)

-- a value that is read, or refused at a place where it is not good
pub some_or_refused : {T : Type 0} (at : ℕ → Refusal) (place : ℕ) (good : Bool) (o : Option T) (m : Result T Refusal) →
    MatchOption o (good ≡ false) (λ _. good ≡ true) → m ≡ ok_or o (at place) → refused m ≡ option_map at (bad_at good place)
some_or_refused at place good (Some v) m h e = ap refused e ∙ sym (ap (λ g. option_map at (bad_at g place)) h)
some_or_refused at place good None m h e = ap refused e ∙ sym (ap (λ g. option_map at (bad_at g place)) h)

-- a reading is there where what it is read as is
pub read_is : {A B : Type 0} (f : A → B) (o : Option A) (p : Option B) → option_map f o ≡ p → MatchOption o (is_some p ≡ false) (λ _. is_some p ≡ true)
read_is f None p e = ap is_some (sym e)
read_is f (Some v) p e = ap is_some (sym e)
