-- A whole element that is seen at a place stands there, and the walk goes on after it. Assumes nothing.
use Rattle.std.proofs.Common.{◌≡◌, ℕ, suc, ◌+◌, ◌-◌, ◌<◌, ◌≤◌, Bool, cond, ltb, List, ◌∷◌, ◌++◌, length, get_or, take, drop, Some, None, refl, sym, ap, ◌∙◌, arith, length-drop, Bor}
use Rattle.std.proofs.Math.Seq.{take-add}
use Rattle.std.proofs.lemmas.List.{take_more, drop_more, drop-drop, get_or-drop, length-take-le}
use Rattle.std.proofs.lemmas.Bool.Decides.{nat_tests}
use Rattle.elements.specs.declared.types.EndRule.{EndRule}
use Rattle.elements.specs.declared.types.Seen.TheVariants.{End, Single, Element, Broken}
use Rattle.elements.specs.Elements.{ends_list, stands_alone, seen, more}
use Rattle.elements.specs.Places.{StandsAt, walk_from}
use Rattle.elements.proofs.Steps.{here, goes, beyond}

-- the length that is seen is the octet after the tag
length_seen : (a b : Bool) (m n k : ℕ) → Element n ≡ cond a End (cond b Single (cond (ltb m k) (Element m) Broken)) → n ≡ m
length_seen a b m n k e = grind (arith, nat_tests)

module _ (rule : EndRule) (list : List ℕ) (p : ℕ) (h : p < length list) where
  pub single_stands : Single ≡ seen rule (drop p list) → StandsAt rule list p (record { place = p; tag = get_or list p 0; contents = None })
  single_stands s = record { place = refl; within = omega arith; octets = take_more list p 0 h; walks = goes rule list p h Single s }

  module _ (n : ℕ) (fits : p + 2 + n ≤ length list) (s : Element n ≡ seen rule (drop p list)) (c : Bor (List ℕ)) (cs : c.now ≡ take (p + 2 + n - (p + 2)) (drop (p + 2) list)) where
    body : c.now ≡ take n (drop (p + 2) list)
    body = cs ∙ ap (λ k. take k (drop (p + 2) list)) (omega arith)

    size : length c.now ≡ n
    size = ap length body ∙ length-take-le n (drop (p + 2) list) (omega (arith, length-drop (p + 2) list))

    second : n ≡ get_or list (p + 1) 0
    second =
        length_seen (ends_list rule (get_or list p 0)) (stands_alone rule (get_or list p 0)) _ n _ (s ∙ here rule list p h)
        ∙ get_or-drop (p + 1) list 0 0
        ∙ ap (λ k. get_or list k 0) (omega arith)

    three : take (2 + n) (drop p list) ≡ get_or list p 0 ∷ length c.now ∷ c.now
    three =
        let t : ℕ = get_or list p 0 in
        let m : ℕ = get_or list (p + 1) 0 in
        let two : drop p list ≡ t ∷ m ∷ drop (p + 2) list = drop_more list p 0 h ∙ ap (λ l. t ∷ l) (drop_more list (p + 1) 0 (omega arith) ∙ ap (λ k. m ∷ drop k list) (omega arith)) in
        let k : 2 + n ≡ suc (suc n) = omega arith in
        let count : m ≡ length c.now = omega (arith, size, second) in
        ap (λ l. take (2 + n) l) two ∙ ap (λ j. take j (t ∷ m ∷ drop (p + 2) list)) k ∙ (λ i. t ∷ count i ∷ sym body i)

    pub element_stands : StandsAt rule list p (record { place = p; tag = get_or list p 0; contents = Some c })
    element_stands =
        let same : p + (2 + length c.now) ≡ p + (2 + n) = omega (arith, size) in
        let inner : take n (drop 1 (drop (p + 1) list)) ≡ c.now =
        ap (take n) (drop-drop 1 (p + 1) list ∙ ap (λ q. drop q list) (omega arith)) ∙ sym body in
        record {
          place = refl;
          within = omega (arith, size);
          octets = ap (λ q. take q list) same ∙ take-add p (2 + n) list ∙ ap (λ l. take p list ++ l) three;
          walks =
              goes rule list p h (Element n) s
              ∙ ap (λ w. more (record { place = p; tag = get_or list p 0; contents = take n (drop 1 (drop (p + 1) list)) }) w) (beyond rule list p h n fits)
              ∙ (λ i. more (record { place = p; tag = get_or list p 0; contents = inner i }) (walk_from rule list (sym same i)));
        }
