-- Records that are filled, and the legs among them. Assumes nothing.
use Rattle.std.proofs.Common.{◌≡◌, ℕ, zero, suc, ◌+◌, ◌<◌, min, List, [], ◌∷◌, ◌++◌, length, get_or, take, drop, set, replicate, sym, refl, ap, ◌∙◌, le_of_suc-le-suc, not-suc-le-zero, add-one, arith, length-take, get_or-take}
use Rattle.std.specs.List.{FoldsTo}
use lib.Seq.{take-set-lt}
use Rattle.std.proofs.lemmas.List.{drop-set-lt, drop_min, get_or_read}
use Rattle.book.specs.Legs.{legs_of, opened}

-- a call that always answers the same fills with it
pub all_same : {P A : Type 0} (R : P → A → P → Type 0) (a : A) → ((p : P) (x : A) (q : P) → R p x q → x ≡ a) → (p : P) (xs : List A) (q : P) → FoldsTo R p xs q → xs ≡ replicate (length xs) a
all_same R a same p [] q h = refl
all_same R a same p (x ∷ xs) q h = λ i. same p x h.0 h.1 i ∷ all_same R a same h.0 xs q h.2 i

pub filled_front : {A : Type 0} (n most : ℕ) (xs ys : List A) (a : A) → n ≡ min most (length xs) → length ys ≡ length (take n xs) → ys ≡ replicate (length ys) a → ys ++ drop n xs ≡ opened most a xs
filled_front n most xs ys a e l same =
    let t : length (take n xs) ≡ min (length xs) most = simp length-take (omega arith) in
    let front : ys ≡ replicate (min (length xs) most) a = same ∙ ap (λ k. replicate k a) (l ∙ t) in
    let back : drop n xs ≡ drop most xs = ap (λ k. drop k xs) e ∙ drop_min most xs in
    (λ i. front i ++ back i)

module _ {A : Type 0} (n : ℕ) (xs : List A) (l : ℕ) (h : l < length (legs_of n xs)) where
  below : l < n
  below = let k = length-take n xs in omega arith

  pub within : l < length xs
  within = let k = length-take n xs in omega arith

  pub leg_put : (x : A) → legs_of n (set xs l x) ≡ set (legs_of n xs) l x
  leg_put x = take-set-lt n xs l x below

  pub leg_get : (x d : A) → x ≡ get_or xs l x → x ≡ get_or (legs_of n xs) l d
  leg_get x d e = get_or_read xs l x within e d ∙ sym (get_or-take n xs l d below)

  pub rest_put : (x : A) → drop n (set xs l x) ≡ drop n xs
  rest_put x = drop-set-lt n xs l x below

pub legs_count : {A : Type 0} (n : ℕ) (xs : List A) → length (legs_of n xs) ≡ min (length xs) n
legs_count n xs = simp length-take (omega arith)

-- records that are filled one by one

next : {A : Type 0} (i : ℕ) (xs : List A) (a : A) → i < length xs → set (replicate i a ++ drop i xs) i a ≡ replicate (suc i) a ++ drop (suc i) xs
next zero [] a h = absurd (not-suc-le-zero h)
next (suc i) [] a h = absurd (not-suc-le-zero h)
next zero (x ∷ xs) a h = refl
next (suc i) (x ∷ xs) a h = ap (λ t. a ∷ t) (next i xs a (le_of_suc-le-suc h))

pub fill_next : {A : Type 0} (i : ℕ) (xs ys : List A) (a b : A) → i < length xs → ys ≡ replicate i a ++ drop i xs → b ≡ a → set ys i b ≡ replicate (i + 1) a ++ drop (i + 1) xs
fill_next i xs ys a b h e f =
    (λ j. set (e j) i (f j)) ∙ next i xs a h ∙ ap (λ k. replicate k a ++ drop k xs) (sym (add-one i))

pub filled : {A : Type 0} (i n : ℕ) (xs ys : List A) (a : A) → i ≡ min (length xs) n → ys ≡ replicate i a ++ drop i xs → ys ≡ opened n a xs
filled i n xs ys a e h =
    let back : drop i xs ≡ drop n xs = ap (λ k. drop k xs) (e ∙ omega arith) ∙ drop_min n xs in
    h ∙ (λ j. replicate (e j) a ++ back j)
