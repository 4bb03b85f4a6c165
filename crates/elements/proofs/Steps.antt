-- How a walk over a list goes on from place to place. Assumes nothing.
use Rattle.std.proofs.Common.{◌≡◌, ℕ, zero, suc, ◌+◌, ◌<◌, ◌≤◌, ◌⊎◌, List, [], ◌∷◌, length, get_or, take, drop, Some, sym, ap, ◌∙◌, arith}
use Rattle.std.proofs.lemmas.List.{drop_more, drop-drop, drop_all, length-take, length-drop}
use Rattle.std.proofs.lemmas.Bool.{cond-true, eq-eqb, lt-ltb}
use Rattle.std.proofs.lemmas.Bool.Decides.{nat_tests}
use Rattle.elements.specs.declared.types.EndRule.{EndRule}
use Rattle.elements.specs.declared.types.Seen.{Seen}
use Rattle.elements.specs.declared.types.Seen.TheVariants.{Nothing, End, Single, Element, Broken}
use Rattle.elements.specs.Elements.{begun, seen, ended, ran_out, broke_off, Walk, more, stop, walk, item_in}

pub skipped : (rule : EndRule) (k p : ℕ) (xs : List ℕ) → k ≤ length xs → walk rule k p xs ≡ walk rule 0 (p + k) (drop k xs)
skipped rule zero p [] h = ap (λ q. stop (ran_out q)) (omega arith)
skipped rule (suc k) p [] h = absurd (omega arith)
skipped rule zero p (x ∷ xs) h = ap (λ q. walk rule 0 q (x ∷ xs)) (omega arith)
skipped rule (suc k) p (x ∷ xs) h = skipped rule k (p + 1) xs (omega arith) ∙ ap (λ q. walk rule 0 q (drop k xs)) (omega arith)

-- the walk from the tag t at p, where xs are the octets after it, by what is seen there
abbrev pub onward : EndRule → ℕ → ℕ → List ℕ → Seen → Walk
onward rule p t xs Nothing = stop (ran_out p)
onward rule p t xs End = stop (ended p)
onward rule p t xs Single = walk rule 0 (p + 1) xs
onward rule p t xs (Element n) = more (record { place = p; tag = t; contents = take n (drop 1 xs) }) (walk rule (n + 1) (p + 1) xs)
onward rule p t xs Broken = stop (broke_off p)

module _ (rule : EndRule) (xs : List ℕ) (p : ℕ) (h : p < length xs) where
  pub here : seen rule (drop p xs) ≡ begun rule (get_or xs p 0) (drop (p + 1) xs)
  here = ap (seen rule) (drop_more xs p 0 h)

  pub goes : (s : Seen) → s ≡ seen rule (drop p xs) → walk rule 0 p (drop p xs) ≡ onward rule p (get_or xs p 0) (drop (p + 1) xs) s
  goes s e =
      ap (walk rule 0 p) (drop_more xs p 0 h)
      ∙ ap (onward rule p (get_or xs p 0) (drop (p + 1) xs)) (sym (e ∙ here))

  -- what follows an element
  pub beyond : (n : ℕ) → p + 2 + n ≤ length xs → walk rule (n + 1) (p + 1) (drop (p + 1) xs) ≡ walk rule 0 (p + (2 + n)) (drop (p + (2 + n)) xs)
  beyond n f =
      skipped rule (n + 1) (p + 1) (drop (p + 1) xs) (omega (arith, length-drop (p + 1) xs))
      ∙ ap (walk rule 0 (p + 1 + (n + 1))) (drop-drop (n + 1) (p + 1) xs)
      ∙ ap (λ q. walk rule 0 q (drop q xs)) (omega arith)

  -- a function of the walk, at what is seen
  pub turned : {X : Type 0} (F : Walk → X) (v : X) (s : Seen) → s ≡ seen rule (drop p xs) → F (walk rule 0 p (drop p xs)) ≡ v → F (onward rule p (get_or xs p 0) (drop (p + 1) xs) s) ≡ v
  turned F v s e inv = ap F (sym (goes s e)) ∙ inv

module _ (w p t n : ℕ) (xs : List ℕ) (rest : Walk) (fits : p + 2 + n ≤ length xs) where
  pub takes : t ≡ w → 0 < n → item_in w (more (record { place = p; tag = t; contents = take n (drop 1 (drop (p + 1) xs)) }) rest) ≡ Some (record { place = p; tag = w; contents = take n (drop (p + 2) xs) })
  takes e h =
      let k : 0 < length (take n (drop 1 (drop (p + 1) xs))) = omega (arith, length-take n (drop 1 (drop (p + 1) xs)), length-drop 1 (drop (p + 1) xs), length-drop (p + 1) xs) in
      let d : drop 1 (drop (p + 1) xs) ≡ drop (p + 2) xs = drop-drop 1 (p + 1) xs ∙ ap (λ q. drop q xs) (omega arith) in
      cond-true _ _ _ (eq-eqb _ _ e) ∙ cond-true _ _ _ (lt-ltb _ _ k) ∙ (λ i. Some (record { place = p; tag = e i; contents = take n (d i) }))

  pub passes : ((t ≡ w) × (n ≤ 0)) ⊎ (t ≡ w → ⊥) → item_in w (more (record { place = p; tag = t; contents = take n (drop 1 (drop (p + 1) xs)) }) rest) ≡ item_in w rest
  passes either = grind (arith, nat_tests, length-take, length-drop)

pub at_end : {X : Type 0} (F : Walk → X) (v : X) (rule : EndRule) (p : ℕ) (xs : List ℕ) → length xs ≤ p → F (walk rule 0 p (drop p xs)) ≡ v → F (stop (ran_out p)) ≡ v
at_end F v rule p xs h inv = ap (λ l. F (walk rule 0 p l)) (sym (drop_all p xs h)) ∙ inv
