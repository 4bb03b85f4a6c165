-- Counts over lists of calls, and the standing calls of a history taken event by event. Assumes nothing.
use Rattle.std.proofs.Common.{◌≡◌, ℕ, zero, suc, ◌+◌, ◌<◌, ◌≤◌, Bool, true, false, cond, not, ◌&&◌, eqb, ◌⊎◌, List, [], ◌∷◌, ◌++◌, length, sym, refl, ap, ◌∙◌, inl, inr, true≢false, append_assoc, append-nil, arith}
use mathlib.Core.List.{Memᴰ}
use Rattle.std.proofs.lemmas.Bool.{eq-eqb, eqb-true}
use Rattle.rows.specs.declared.kinds.Which.TheVariants.{First}
use Rattle.rows.specs.Legs.{leg, select}
use Rattle.rows.specs.Calls.{Call, has, Event, begins, clears, cut_off, plain, outlives, setups, standing, ended}
use Rattle.rows.proofs.Basics.{select_append}

abbrev pub count : {A : Type 0} → (A → Bool) → List A → ℕ
count f [] = 0
count f (x ∷ xs) = cond (f x) 1 0 + count f xs

pub count_append : {A : Type 0} (f : A → Bool) (xs ys : List A) → count f (xs ++ ys) ≡ count f xs + count f ys
count_append f [] ys = omega arith
count_append f (x ∷ xs) ys = let h = count_append f xs ys in omega arith

pub count_none : {A : Type 0} (f : A → Bool) (xs : List A) → ((x : A) → Memᴰ x xs → f x ≡ false) → count f xs ≡ 0
count_none f [] h = refl
count_none f (x ∷ xs) h =
    let i = count_none f xs (λ y m. h y (Memᴰ.tail m)) in
    rw (h x (Memᴰ.head refl)) (omega arith)

pub count_select : {A : Type 0} (f g : A → Bool) (xs : List A) → ((x : A) → Memᴰ x xs → f x ≡ true → g x ≡ true) → count f (select g xs) ≡ count f xs
count_select f g [] h = refl
count_select {A} f g (x ∷ xs) h = go (f x) refl (g x) refl (count_select f g xs (λ y m. h y (Memᴰ.tail m)))
  where
    go : (a : Bool) → f x ≡ a → (b : Bool) → g x ≡ b → count f (select g xs) ≡ count f xs → count f (cond b (x ∷ select g xs) (select g xs)) ≡ cond a 1 0 + count f xs
    go a i true j e = rw i (omega arith)
    go true i false j e = absurd (true≢false (sym (h x (Memᴰ.head refl) i) ∙ j))
    go false i false j e = omega arith

pub count_some : {A : Type 0} (f : A → Bool) (xs : List A) → count f xs ≡ 1 → (x : A) × Memᴰ x xs × (f x ≡ true)
count_some f [] e = absurd (omega arith)
count_some {A} f (x ∷ xs) e = go (f x) refl (count_some f xs)
  where
    go : (a : Bool) → f x ≡ a → (count f xs ≡ 1 → (x : A) × Memᴰ x xs × (f x ≡ true)) → (y : A) × Memᴰ y (x ∷ xs) × (f y ≡ true)
    go true i ih = (x, Memᴰ.head refl, i)
    go false i ih =
        let e' : cond false 1 0 + count f xs ≡ 1 = rw i at e in
        let r = ih (omega arith) in
        (r.0, Memᴰ.tail r.1, r.2)

pub mem_select : {A : Type 0} (f : A → Bool) (xs : List A) (x : A) → Memᴰ x (select f xs) → Memᴰ x xs × (f x ≡ true)
mem_select f [] x m = elim m [ ]
mem_select {A} f (y ∷ ys) x m = go (f y) refl (mem_select f ys x) m
  where
    go : (b : Bool) → f y ≡ b → (Memᴰ x (select f ys) → Memᴰ x ys × (f x ≡ true)) → Memᴰ x (cond b (y ∷ select f ys) (select f ys)) → Memᴰ x (y ∷ ys) × (f x ≡ true)
    go true i ih (Memᴰ.head e) = (Memᴰ.head e, ap f e ∙ i)
    go true i ih (Memᴰ.tail k) = let r = ih k in (Memᴰ.tail r.0, r.1)
    go false i ih k = let r = ih k in (Memᴰ.tail r.0, r.1)

pub select_all : {A : Type 0} (f : A → Bool) (xs : List A) → ((x : A) → Memᴰ x xs → f x ≡ true) → select f xs ≡ xs
select_all f [] h = refl
select_all {A} f (x ∷ xs) h =
    let r = select_all f xs (λ y m. h y (Memᴰ.tail m)) in
    rw (h x (Memᴰ.head refl)) (ap (λ (t : List A). x ∷ t) r)

select_select : {A : Type 0} (f g : A → Bool) (xs : List A) → select f (select g xs) ≡ select (λ x. g x && f x) xs
select_select f g [] = refl
select_select {A} f g (x ∷ xs) = go (g x) (select_select f g xs)
  where
    go : (b : Bool) → select f (select g xs) ≡ select (λ x. g x && f x) xs →
        select f (cond b (x ∷ select g xs) (select g xs)) ≡ cond (b && f x) (x ∷ select (λ x. g x && f x) xs) (select (λ x. g x && f x) xs)
    go true e = ap (λ (t : List A). cond (f x) (x ∷ t) t) e
    go false e = e

-- the standing calls after one more event
abbrev pub noted : List Call → Event → List Call
noted cs (begins d) = cs ++ (d ∷ [])
noted cs (clears z) = select (λ d. not (has z d)) cs
noted cs (cut_off z) = select (λ d. not (has z d)) cs
noted cs plain = cs

abbrev pub all_noted : List Call → List Event → List Call
all_noted cs [] = cs
all_noted cs (e ∷ es) = all_noted (noted cs e) es

noted_is : (es : List Event) (cs : List Call) → all_noted cs es ≡ select (outlives es) cs ++ standing es
noted_is [] cs = sym (append-nil _ ∙ select_all (λ d. true) cs (λ x m. refl))
noted_is (begins d ∷ es) cs =
    noted_is es (cs ++ (d ∷ [])) ∙ ap (λ (t : List Call). t ++ standing es) (select_append (outlives es) cs (d ∷ []))
    ∙ append_assoc (select (outlives es) cs) (select (outlives es) (d ∷ [])) (standing es) ∙ ap (λ (t : List Call). select (outlives es) cs ++ t) (go (outlives es d))
  where
    go : (b : Bool) → cond b (d ∷ []) [] ++ standing es ≡ cond b (d ∷ standing es) (standing es)
    go true = refl
    go false = refl
noted_is (clears z ∷ es) cs =
    noted_is es (select (λ d. not (has z d)) cs) ∙ ap (λ (t : List Call). t ++ standing es) (select_select (outlives es) (λ d. not (has z d)) cs)
noted_is (cut_off z ∷ es) cs =
    noted_is es (select (λ d. not (has z d)) cs) ∙ ap (λ (t : List Call). t ++ standing es) (select_select (outlives es) (λ d. not (has z d)) cs)
noted_is (plain ∷ es) cs = noted_is es cs

pub standing_is : (es : List Event) → all_noted [] es ≡ standing es
standing_is es = noted_is es []

-- each setup's call stands or has ended
pub setups_are : (es : List Event) → setups es ≡ length (standing es) + ended es
setups_are [] = refl
setups_are (begins d ∷ es) = go (outlives es d) (setups_are es)
  where
    go : (b : Bool) → setups es ≡ length (standing es) + ended es →
        suc (setups es) ≡ length (cond b (d ∷ standing es) (standing es)) + cond b (ended es) (suc (ended es))
    go true h = omega arith
    go false h = omega arith
setups_are (clears z ∷ es) = setups_are es
setups_are (cut_off z ∷ es) = setups_are es
setups_are (plain ∷ es) = setups_are es

-- the calls, counted by their legs of the first side
abbrev pub tally : List Call → ℕ → ℕ
tally cs zero = 0
tally cs (suc n) = count (has (leg First n)) cs + tally cs n

abbrev hits : ℕ → ℕ → ℕ
hits k zero = 0
hits k (suc n) = cond (eqb n k) 1 0 + hits k n

tally_cons : (d : Call) (cs : List Call) (n : ℕ) → tally (d ∷ cs) n ≡ hits d.one n + tally cs n
tally_cons d cs zero = refl
tally_cons d cs (suc n) = let h = tally_cons d cs n in omega arith

tally_nil : (n : ℕ) → tally [] n ≡ 0
tally_nil zero = refl
tally_nil (suc n) = let h = tally_nil n in omega arith

eqb_cases : (n k : ℕ) → ((n ≡ k) × (eqb n k ≡ true)) ⊎ ((n ≡ k → ⊥) × (eqb n k ≡ false))
eqb_cases n k = go (eqb n k) refl
  where
    go : (b : Bool) → eqb n k ≡ b → ((n ≡ k) × (eqb n k ≡ true)) ⊎ ((n ≡ k → ⊥) × (eqb n k ≡ false))
    go true e = inl (eqb-true n k e, e)
    go false e = inr ((λ h. true≢false (sym (eq-eqb n n refl) ∙ ap (eqb n) h ∙ e)), e)

hits_none : (k n : ℕ) → n ≤ k → hits k n ≡ 0
hits_none k zero h = refl
hits_none k (suc n) h = go (eqb_cases n k) (hits_none k n (omega arith))
  where
    go : ((n ≡ k) × (eqb n k ≡ true)) ⊎ ((n ≡ k → ⊥) × (eqb n k ≡ false)) → hits k n ≡ 0 → cond (eqb n k) 1 0 + hits k n ≡ 0
    go (inl e) i = absurd (let q = e.0 in omega arith)
    go (inr e) i = rw e.1 (omega arith)

hits_one : (k n : ℕ) → k < n → hits k n ≡ 1
hits_one k zero h = absurd (omega arith)
hits_one k (suc n) h = go (eqb_cases n k) (hits_one k n)
  where
    go : ((n ≡ k) × (eqb n k ≡ true)) ⊎ ((n ≡ k → ⊥) × (eqb n k ≡ false)) → (k < n → hits k n ≡ 1) → cond (eqb n k) 1 0 + hits k n ≡ 1
    go (inl e) i = let q = e.0 in let z = hits_none k n (omega arith) in rw e.1 (omega arith)
    go (inr e) i = let q = e.0 in let z = i (omega arith) in rw e.1 (omega arith)

pub tally_length : (n : ℕ) (cs : List Call) → ((d : Call) → Memᴰ d cs → d.one < n) → tally cs n ≡ length cs
tally_length n [] h = tally_nil n
tally_length n (d ∷ cs) h =
    let a = tally_cons d cs n in
    let b = hits_one d.one n (h d (Memᴰ.head refl)) in
    let c = tally_length n cs (λ x m. h x (Memᴰ.tail m)) in
    omega arith
