-- What stands at a place of a list, from its octets. Assumes nothing.
use Rattle.std.proofs.Common.{◌≡◌, ℕ, ◌+◌, ◌-◌, ◌<◌, ◌≤◌, true, false, cond, ltb, List, length, get_or, drop, sym, ap, ◌∙◌, arith}
use Rattle.std.proofs.lemmas.List.{drop_all, get_or-drop, length-drop}
use Rattle.std.proofs.lemmas.Bool.{cond-true, cond-false, lt-ltb, le-ltb}
use Rattle.elements.specs.declared.types.EndRule.{EndRule}
use Rattle.elements.specs.declared.types.Seen.TheVariants.{Nothing, End, Single, Element, Broken}
use Rattle.elements.specs.Elements.{ends_list, stands_alone, seen}
pub use Rattle.elements.proofs.Steps.{here}

pub past : (rule : EndRule) (xs : List ℕ) (p : ℕ) → length xs ≤ p → Nothing ≡ seen rule (drop p xs)
past rule xs p h = sym (ap (seen rule) (drop_all p xs h))

module _ (rule : EndRule) (xs : List ℕ) (p : ℕ) (h : p < length xs) where
  pub end_seen : true ≡ ends_list rule (get_or xs p 0) → End ≡ seen rule (drop p xs)
  end_seen e = sym (here rule xs p h ∙ cond-true _ _ _ (sym e))

  module _ (e : false ≡ ends_list rule (get_or xs p 0)) where
    pub single_seen : true ≡ stands_alone rule (get_or xs p 0) → Single ≡ seen rule (drop p xs)
    single_seen s = sym (here rule xs p h ∙ cond-false _ _ _ (sym e) ∙ cond-true _ _ _ (sym s))

    module _ (s : false ≡ stands_alone rule (get_or xs p 0)) where
      rest : seen rule (drop p xs) ≡ cond (ltb (get_or (drop (p + 1) xs) 0 0) (length (drop (p + 1) xs))) (Element (get_or (drop (p + 1) xs) 0 0)) Broken
      rest = here rule xs p h ∙ cond-false _ _ _ (sym e) ∙ cond-false _ _ _ (sym s)

      first : get_or (drop (p + 1) xs) 0 0 ≡ get_or xs (p + 1) 0
      first = get_or-drop (p + 1) xs 0 0 ∙ ap (λ k. get_or xs k 0) (omega arith)

      pub whole_seen : (n : ℕ) → n ≡ get_or xs (p + 1) 0 → n < length xs - p - 1 → Element n ≡ seen rule (drop p xs)
      whole_seen n g l =
          let k : get_or (drop (p + 1) xs) 0 0 < length (drop (p + 1) xs) = omega (arith, first, length-drop (p + 1) xs) in
          ap Element (g ∙ sym first) ∙ sym (rest ∙ cond-true _ _ _ (lt-ltb _ _ k))

      pub broken_seen : length xs - p - 1 ≤ get_or xs (p + 1) 0 → Broken ≡ seen rule (drop p xs)
      broken_seen l =
          let k : length (drop (p + 1) xs) ≤ get_or (drop (p + 1) xs) 0 0 = omega (arith, first, length-drop (p + 1) xs) in
          sym (rest ∙ cond-false _ _ _ (le-ltb _ _ k))
