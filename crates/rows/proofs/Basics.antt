-- Legs, updates of a state, and lists. Assumes nothing.
use Rattle.std.proofs.Common.{◌≡◌, ℕ, Bool, true, false, cond, T, eqb, List, [], ◌∷◌, ◌++◌, length, Some, None, Option, sym, refl, ap, ◌∙◌, ap₂, true≢false, arith}
use mathlib.Core.Bool.{false≢true}
use Rattle.std.proofs.lemmas.Bool.{and_parts, eq-eqb, eqb-true}
use Rattle.rows.specs.declared.kinds.Which.{Which}
use Rattle.rows.specs.declared.kinds.Which.TheVariants.{First, Second}
use Rattle.rows.specs.Legs.{other, Leg, leg, same_leg, same_which, select}
use Rattle.rows.specs.Exchange.{LegState, State, update}

pub some_inj : {A : Type 0} {a b : A} → ◌≡◌ {A = Option A} (Some a) (Some b) → a ≡ b
some_inj e = cc

pub none_some : {A : Type 0} {a : A} → ◌≡◌ {A = Option A} None (Some a) → ⊥
none_some e = let z : ◌≡◌ {A = ℕ} 0 1 = cc in omega arith

-- a Boolean that holds is true
pub of_t : (b : Bool) → T b → b ≡ true
of_t true t = refl
of_t false t = absurd t

pub other_other : (w : Which) → other (other w) ≡ w
other_other First = refl
other_other Second = refl

same_which_refl : (w : Which) → same_which w w ≡ true
same_which_refl First = refl
same_which_refl Second = refl

pub same_refl : (x : Leg) → same_leg x x ≡ true
same_refl (leg w l) = rw same_which_refl (eq-eqb l l refl)

same_which_eq : (w v : Which) → same_which w v ≡ true → w ≡ v
same_which_eq First First e = refl
same_which_eq First Second e = absurd (false≢true e)
same_which_eq Second First e = absurd (false≢true e)
same_which_eq Second Second e = refl

pub same_eq : (x y : Leg) → same_leg x y ≡ true → x ≡ y
same_eq (leg w l) (leg v k) e =
    let h = and_parts (same_which w v) (eqb l k) e in
    ap₂ leg (same_which_eq w v h.0) (eqb-true l k h.1)

pub select_append : {A : Type 0} (f : A → Bool) (xs ys : List A) → select f (xs ++ ys) ≡ select f xs ++ select f ys
select_append f [] ys = refl
select_append {A} f (x ∷ xs) ys = go (select_append f xs ys) (f x)
  where
    go : select f (xs ++ ys) ≡ select f xs ++ select f ys → (b : Bool) → cond b (x ∷ select f (xs ++ ys)) (select f (xs ++ ys)) ≡ cond b (x ∷ select f xs) (select f xs) ++ select f ys
    go ih true = ap (λ (r : List A). x ∷ r) ih
    go ih false = ih

-- two lists that begin one list, of one length, are equal
pub front_eq : {A : Type 0} (p q p' q' : List A) → p ++ q ≡ p' ++ q' → length p ≡ length p' → p ≡ p'
front_eq [] q [] q' e h = refl
front_eq [] q (y ∷ p') q' e h = absurd (omega arith)
front_eq (x ∷ p) q [] q' e h = absurd (omega arith)
front_eq {A} (x ∷ p) q (y ∷ p') q' e h =
    let hd : x ≡ y = cc in
    let tl : p ++ q ≡ p' ++ q' = cc in
    let r : p ≡ p' = front_eq p q p' q' tl (omega arith) in
    cc

-- an update at its own leg, and at another
pub update_same : (s : State) (x : Leg) (v : LegState) → update s x v x ≡ v
update_same s x v = rw (same_refl x)

pub update_other : (s : State) (x z : Leg) (v : LegState) → same_leg z x ≡ false → update s x v z ≡ s z
update_other s x z v e = rw e

-- a leg of the set is not one out of it
pub split_legs : (L : Leg → Bool) (x z : Leg) → L z ≡ true → L x ≡ false → same_leg z x ≡ false
split_legs L x z hz hx = go (same_leg z x) refl
  where
    go : (b : Bool) → same_leg z x ≡ b → b ≡ false
    go true e = absurd (true≢false (sym hz ∙ ap L (same_eq z x e) ∙ hx))
    go false e = refl
