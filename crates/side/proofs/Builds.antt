-- How the carried parts are laid one behind another, and that each is found again. Assumes nothing.
use Rattle.std.proofs.Common.{◌≡◌, ℕ, ◌+◌, ◌-◌, ◌%◌, ◌<◌, ◌≤◌, Bool, cond, ltb, List, [], ◌++◌, length, get_or, take, drop, Some, Ok, Err, Result, sym, refl, ap, ◌∙◌, append_assoc, append-nil, arith, length-append, length-drop}
use Rattle.std.proofs.lemmas.List.{drop-take, take-take, drop_at, take_at, get_or_append_left}
use Rattle.std.proofs.lemmas.Bool.{cond-true, lt-ltb}
use Rattle.std.proofs.lemmas.Bool.Decides.{nat_tests}
use Rattle.side.specs.declared.kinds.PartsFault.TheVariants.{TotalOver}
use Rattle.values.specs.declared.types.BearerFault.{BearerFault}
use Rattle.values.specs.declared.types.BearerFault.TheVariants.{TooShort, TooLong}
use Rattle.values.specs.declared.types.Capability.{Capability}
use Rattle.values.specs.Bearers.{bearer_in, capability_of}
use Rattle.side.specs.Limits.{cost, capability_code}
use Rattle.side.specs.Contents.{cut, five, parts_fault}
use Rattle.writer.specs.Written.{Adds}
use Rattle.writer.proofs.Puts.{then}

-- a count that is cut short is no more than the count
clipped : (n r : ℕ) → r ≡ cond (ltb 200 n) 201 (cost n) → r ≤ cost n
clipped n r e = grind (arith, nat_tests)

pub over : (a b c d e p q r s t : ℕ) → p ≡ cond (ltb 200 a) 201 (cost a) → q ≡ cond (ltb 200 b) 201 (cost b) → r ≡ cond (ltb 200 c) 201 (cost c) → s ≡ cond (ltb 200 d) 201 (cost d) → t ≡ cond (ltb 200 e) 201 (cost e) →
    200 < p + q + r + s + t → parts_fault a b c d e ≡ Some TotalOver
over a b c d e p q r s t hp hq hr hs ht h =
    let i = clipped a p hp in
    let j = clipped b q hq in
    let k = clipped c r hr in
    let l = clipped d s hs in
    let m = clipped e t ht in
    let n : 200 < cost a + cost b + cost c + cost d + cost e = omega arith in
    cond-true _ _ _ (lt-ltb 200 (cost a + cost b + cost c + cost d + cost e) n)

-- a piece out of octets that begin with others laid one behind another
pub piece : (xs p q r : List ℕ) (n s k : ℕ) → take n xs ≡ p ++ (q ++ r) → s ≡ length p → k ≡ length q → s + k ≤ n → cut s k xs ≡ q
piece xs p q r n s k e hs hk h =
    sym (drop-take s k xs)
    ∙ ap (drop s) (sym (take-take (s + k) n xs h) ∙ ap (take (s + k)) e)
    ∙ drop-take s k (p ++ (q ++ r))
    ∙ ap (take k) (drop_at p (q ++ r) s (sym hs))
    ∙ take_at q r k (sym hk)

-- five contents laid one behind another, each found again by the lengths of those before it
module _ (A B C D E : List ℕ) (o₀ o₁ o₂ o₃ o₄ o₅ : List ℕ) (i j k l m : ℕ)
    (p : Adds A 0 o₀ i o₁) (q : Adds B i o₁ j o₂) (r : Adds C j o₂ k o₃) (s : Adds D k o₃ l o₄) (t : Adds E l o₄ m o₅)
    (a b c d e : ℕ) (x : a ≡ length A) (y : b ≡ length B) (z : c ≡ length C) (v : d ≡ length D) (w : e ≡ length E) where
  all : take m o₅ ≡ A ++ (B ++ (C ++ (D ++ E)))
  all = (then p refl (then q refl (then r refl (then s refl t)))).front

  ab : take m o₅ ≡ (A ++ B) ++ (C ++ (D ++ E))
  ab = all ∙ sym (append_assoc A B (C ++ (D ++ E)))

  abc : take m o₅ ≡ ((A ++ B) ++ C) ++ (D ++ E)
  abc = ab ∙ sym (append_assoc (A ++ B) C (D ++ E))

  abcd : take m o₅ ≡ (((A ++ B) ++ C) ++ D) ++ (E ++ [])
  abcd = abc ∙ sym (append_assoc ((A ++ B) ++ C) D E) ∙ ap (λ l. (((A ++ B) ++ C) ++ D) ++ l) (sym (append-nil E))

  n₂ : length (A ++ B) ≡ length A + length B
  n₂ = length-append A B

  n₃ : length ((A ++ B) ++ C) ≡ length A + length B + length C
  n₃ = length-append (A ++ B) C ∙ ap (λ n. n + length C) n₂

  n₄ : length (((A ++ B) ++ C) ++ D) ≡ length A + length B + length C + length D
  n₄ = length-append ((A ++ B) ++ C) D ∙ ap (λ n. n + length D) n₃

  pub laid : five (cut 0 a o₅) (cut a b o₅) (cut (a + b) c o₅) (cut (a + b + c) d o₅) (cut (a + b + c + d) e o₅) ≡ five A B C D E
  laid =
      let end : m ≡ length A + length B + length C + length D + length E = omega (arith, p.count, q.count, r.count, s.count, t.count) in
      let A' : cut 0 a o₅ ≡ A = piece o₅ [] A (B ++ (C ++ (D ++ E))) m 0 a all refl x (omega arith) in
      let B' : cut a b o₅ ≡ B = piece o₅ A B (C ++ (D ++ E)) m a b all x y (omega arith) in
      let C' : cut (a + b) c o₅ ≡ C = piece o₅ (A ++ B) C (D ++ E) m (a + b) c ab (omega (arith, n₂)) z (omega arith) in
      let D' : cut (a + b + c) d o₅ ≡ D = piece o₅ ((A ++ B) ++ C) D E m (a + b + c) d abc (omega (arith, n₃)) v (omega arith) in
      let E' : cut (a + b + c + d) e o₅ ≡ E = piece o₅ (((A ++ B) ++ C) ++ D) E [] m (a + b + c + d) e abcd (omega (arith, n₄)) w (omega arith) in
      (λ i. five (A' i) (B' i) (C' i) (D' i) (E' i))

-- what a bearer that is served holds
pub bearer_size : (xs : List ℕ) (k : Capability) → bearer_in xs ≡ Ok k → (2 ≤ length xs) × (length xs ≤ 11)
bearer_size xs k e = (grind (arith, nat_tests), grind (arith, nat_tests))

pub bearer_code : (xs : List ℕ) (k : Capability) → bearer_in xs ≡ Ok k → get_or xs 0 0 % 32 ≡ capability_code k
bearer_code xs k e = code (get_or xs 0 0 % 32) k (inner (ltb (length xs) 2) (ltb 11 (length xs)) (capability_of (get_or xs 0 0 % 32)) k e)
  where
    inner : (a b : Bool) (r : Result Capability BearerFault) (k : Capability) → cond a (Err TooShort) (cond b (Err TooLong) r) ≡ Ok k → r ≡ Ok k
    inner a b r k h = grind arith

    code : (n : ℕ) (k : Capability) → capability_of n ≡ Ok k → n ≡ capability_code k
    code n k h = grind (arith, nat_tests)

-- octets that were copied over the front of others take as much room as those
pub same_room : (ys zs : List ℕ) (n : ℕ) → length ys ≡ n → n ≤ length zs → length (ys ++ drop (n - 0) zs) ≡ length zs
same_room ys zs n e h = simp (length-append, length-drop) (omega arith)

-- the first octet of octets that were copied to the front
pub first_of : (xs ys zs : List ℕ) → ys ≡ xs → 1 ≤ length xs → get_or (ys ++ zs) 0 0 ≡ get_or xs 0 0
first_of xs ys zs e h = get_or_append_left ys zs 0 0 (omega (arith, ap length e)) ∙ ap (λ l. get_or l 0 0) e

-- how long each of five contents is, by the places between which it was laid
module _ (A B C D E : List ℕ) (o₀ o₁ o₂ o₃ o₄ o₅ : List ℕ) (a b c d e : ℕ)
    (p : Adds A 0 o₀ a o₁) (q : Adds B a o₁ b o₂) (r : Adds C b o₂ c o₃) (s : Adds D c o₃ d o₄) (t : Adds E d o₄ e o₅) where
  pub a_is : a ≡ length A
  a_is = omega (arith, p.count)

  pub b_is : b - a ≡ length B
  b_is = omega (arith, q.count)

  pub c_is : c - b ≡ length C
  c_is = omega (arith, r.count)

  pub d_is : d - c ≡ length D
  d_is = omega (arith, s.count)

  pub e_is : e - d ≡ length E
  e_is = omega (arith, t.count)
