-- Elements that are found, and what is wrong with a list, have their places within it. Assumes nothing.
use Rattle.std.proofs.Common.{◌≡◌, ℕ, zero, suc, ◌+◌, ◌<◌, ◌≤◌, Bool, true, false, cond, eqb, ltb, List, [], ◌∷◌, length, take, drop, Some, None, Err, Option, refl, subst, arith}
use Rattle.std.specs.Option.{option_map}
use Rattle.elements.specs.declared.types.EndRule.{EndRule}
use Rattle.elements.specs.declared.types.Seen.{Seen}
use Rattle.elements.specs.declared.types.Seen.TheVariants.{Nothing, End, Single, Element, Broken}
use Rattle.elements.specs.declared.types.ListFault.{ListFault}
use Rattle.elements.specs.declared.types.ListFault.TheVariants.{BreaksOff, NoEnd}
use Rattle.elements.specs.Elements.{Item, begun, walk, item_in, place_of, verdict, checked, ran_out_at}
use Rattle.elements.proofs.Steps.{onward}

-- an element that breaks off begins within the list; an end tag that is missing may be so behind it
abbrev pub Inside : ℕ → ListFault → Type 0
Inside n (BreaksOff k) = k < n
Inside n (NoEnd k) = k ≤ n

module _ (rule : EndRule) where
  ran_out : (o : Option ℕ) (p n : ℕ) (f : ListFault) → p ≤ n → ran_out_at o p ≡ Err f → Inside n f
  ran_out None p n f h e = absurd (grind arith)
  ran_out (Some t) p n f h e = let i : NoEnd p ≡ f = grind arith in subst (Inside n) i h

  faults : (xs : List ℕ) (skip p : ℕ) (f : ListFault) → verdict rule (walk rule skip p xs) ≡ Err f → Inside (p + length xs) f
  faults [] skip p f e = ran_out rule.end p (p + 0) f (omega arith) e
  faults (x ∷ xs) (suc n) p f e = subst (λ n. Inside n f) (omega arith) (faults xs n (p + 1) f e)
  faults (t ∷ xs) zero p f e = at (begun rule t xs) (λ n z. faults xs n (p + 1) f z) e
    where
      further : Inside (p + 1 + length xs) f → Inside (p + length (t ∷ xs)) f
      further h = subst (λ n. Inside n f) (omega arith) h

      at : (s : Seen) → ((n : ℕ) → verdict rule (walk rule n (p + 1) xs) ≡ Err f → Inside (p + 1 + length xs) f) → verdict rule (onward rule p t xs s) ≡ Err f → Inside (p + length (t ∷ xs)) f
      at Nothing more z = ran_out rule.end p (p + length (t ∷ xs)) f (omega arith) z
      at End more z = absurd (grind arith)
      at Single more z = further (more 0 z)
      at (Element n) more z = further (more (n + 1) z)
      at Broken more z = let i : BreaksOff p ≡ f = grind arith in subst (Inside (p + length (t ∷ xs))) i (omega arith)

  pub fault_within : (xs : List ℕ) (f : ListFault) → checked rule xs ≡ Err f → Inside (length xs) f
  fault_within xs f e = subst (λ n. Inside n f) (omega arith) (faults xs 0 0 f e)

  module _ (t k : ℕ) where
    pub places : (xs : List ℕ) (skip p : ℕ) → option_map (λ e. e.place) (item_in t (walk rule skip p xs)) ≡ Some k → k < p + length xs
    places [] skip p e = absurd (grind arith)
    places (x ∷ xs) (suc n) p e = let i = places xs n (p + 1) e in omega arith
    places (u ∷ xs) zero p e = at (begun rule u xs) (λ n z. places xs n (p + 1) z) e
      where
        picked : (a b : Bool) (c : Item) (o : Option Item) → c.place ≡ p → (option_map (λ e. e.place) o ≡ Some k → k < p + length (u ∷ xs)) → option_map (λ e. e.place) (cond a (cond b (Some c) o) o) ≡ Some k → k < p + length (u ∷ xs)
        picked true true c o h rest z = let i : c.place ≡ k = grind arith in omega arith
        picked true false c o h rest z = rest z
        picked false b c o h rest z = rest z

        at : (s : Seen) → ((n : ℕ) → option_map (λ e. e.place) (item_in t (walk rule n (p + 1) xs)) ≡ Some k → k < p + 1 + length xs) → option_map (λ e. e.place) (item_in t (onward rule p u xs s)) ≡ Some k → k < p + length (u ∷ xs)
        at Nothing more z = absurd (grind arith)
        at End more z = absurd (grind arith)
        at Single more z = let i = more 0 z in omega arith
        at (Element n) more z =
            picked (eqb u t) (ltb 0 (length (take n (drop 1 xs)))) (record { place = p; tag = u; contents = take n (drop 1 xs) }) (item_in t (walk rule (n + 1) (p + 1) xs)) refl
            (λ y. let i = more (n + 1) y in omega arith) z
        at Broken more z = absurd (grind arith)

    -- an element that is found begins within the list
    pub place_within : (xs : List ℕ) → place_of rule t xs ≡ Some k → k < length xs
    place_within xs e = let i = places xs 0 0 e in omega arith
