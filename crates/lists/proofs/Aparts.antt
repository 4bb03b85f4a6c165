-- A list is taken apart element by element, as far as it stops. Assumes nothing.
use Rattle.std.proofs.Common.{◌≡◌, ℕ, suc, ◌+◌, ◌-◌, ◌<◌, ◌≤◌, Bool, true, cond, ltb, List, [], ◌∷◌, ◌++◌, length, get_or, take, drop, Some, None, Ok, Option, Result, sym, refl, ap, ◌∙◌, arith, length-drop, Bor}
use Rattle.std.proofs.lemmas.List.{take_more, drop_more, get_or-drop, length-take-le}
use Rattle.std.proofs.Math.Seq.{take-add}
use Rattle.std.proofs.lemmas.Bool.Decides.{nat_tests}
use Rattle.elements.specs.declared.types.EndRule.{EndRule}
use Rattle.elements.specs.declared.types.ListElement.{ListElement}
use Rattle.elements.specs.declared.types.ListFault.{ListFault}
use Rattle.elements.specs.declared.types.Seen.{Seen}
use Rattle.elements.specs.declared.types.Seen.TheVariants.{Nothing, End, Single, Element, Broken}
use Rattle.elements.specs.Elements.{is_tag, ends_list, stands_alone, begun, seen, verdict, walk, ran_out_at, checked}
use Rattle.elements.specs.Places as read
use Rattle.elements.specs.Places.{size_of, walk_from, StandsAt, Stops}
use Rattle.elements.proofs.Steps.{here, onward, turned}
use Rattle.writer.specs.declared.types.Item.{Item}
use Rattle.writer.specs.declared.types.Item.TheVariants as item
use Rattle.writer.specs.Written.{element, ending}
use Rattle.writer.specs.Items.{octets_of, written}
use Rattle.writer.specs.Entries.{entry_of}
use Rattle.writer.proofs.Tables.{written_push}
use Rattle.lists.specs.Apart.{reach, closing, TakenApart}

is_tag_some : (o : Option ℕ) (t : ℕ) → is_tag o t ≡ true → o ≡ Some t
is_tag_some None t e = absurd (let z : ◌≡◌ {A = ℕ} 0 1 = cc in omega arith)
is_tag_some (Some u) t e = ap Some (grind (arith, nat_tests))

end_seen : (a b : Bool) (s : Seen) → End ≡ cond a End (cond b Single s) → (s ≡ End → ⊥) → a ≡ true
end_seen a b s e d = grind arith

-- what a list comes to from a place on, and how many octets end it there
abbrev Shut : EndRule → ℕ → List ℕ → Result ℕ ListFault → Type 0
Shut rule p xs v = (m : ℕ) × (reach v ≡ p + m) × (closing rule v ≡ take m xs)

ran : (end : Option ℕ) (singles : Bool) (p : ℕ) (xs : List ℕ) → Shut (record { end = end; singles = singles }) p xs (ran_out_at end p)
ran None singles p xs = (0, omega arith, refl)
ran (Some t) singles p xs = (0, omega arith, refl)

module _ (rule : EndRule) (p t : ℕ) (xs : List ℕ) where
  shut_by : (s : Seen) → s ≡ begun rule t xs → Stops s → Shut rule p (t ∷ xs) (verdict rule (onward rule p t xs s))
  shut_by Nothing e h = ran rule.end rule.singles p (t ∷ xs)
  shut_by End e h = (1, refl, ap ending (is_tag_some rule.end t (end_seen (ends_list rule t) (stands_alone rule t) _ e (λ z. grind arith))))
  shut_by Single e h = absurd h
  shut_by (Element n) e h = absurd h
  shut_by Broken e h = (0, omega arith, refl)

shut : (rule : EndRule) (p : ℕ) (xs : List ℕ) → Stops (seen rule xs) → Shut rule p xs (verdict rule (walk rule 0 p xs))
shut rule p [] h = ran rule.end rule.singles p []
shut rule p (t ∷ xs) h = shut_by rule p t xs (begun rule t xs) refl h

entry_octets : (place tag : ℕ) (contents : Option (Bor (List ℕ))) →
    let element : ListElement = record { place = place; tag = tag; contents = contents } in octets_of (entry_of element) ≡ read.octets_of element
entry_octets place tag None = refl
entry_octets place tag (Some c) = refl

module _ (rule : EndRule) (list : List ℕ) (p : ℕ) (items : List Item) (e : written items ≡ take p list) where
  pub one_more : (element : ListElement) → StandsAt rule list p element → written (items ++ entry_of element ∷ []) ≡ take (p + size_of element) list
  one_more element stands =
      written_push items (entry_of element)
      ∙ (λ i. e i ++ entry_octets element.place element.tag element.contents i)
      ∙ sym stands.octets

  pub ends : Stops (seen rule (drop p list)) → (v : Result ℕ ListFault) → v ≡ verdict rule (walk_from rule list p) → v ≡ checked rule list → TakenApart rule list items v
  ends h v f g =
      let s = shut rule p (drop p list) h in
      record {
        verdict = g;
        octets =
            ap (λ o. written items ++ closing rule o) f
            ∙ (λ i. e i ++ s.2 i)
            ∙ sym (take-add p s.0 list)
            ∙ ap (λ k. take k list) (sym (ap reach f ∙ s.1));
      }

-- a list is taken apart octet by octet

-- the length that is seen is the octet after the tag
length_seen : (a b : Bool) (m n k : ℕ) → Element n ≡ cond a End (cond b Single (cond (ltb m k) (Element m) Broken)) → n ≡ m
length_seen a b m n k e = grind (arith, nat_tests)

module _ (rule : EndRule) (list : List ℕ) (p : ℕ) (h : p < length list) (items : List Item) (e : written items ≡ take p list) where
  pub single_more : written (items ++ item.Single (get_or list p 0) ∷ []) ≡ take (p + 1) list
  single_more = written_push items (item.Single (get_or list p 0)) ∙ ap (λ l. l ++ (get_or list p 0 ∷ [])) e ∙ sym (take_more list p 0 h)

  pub element_more : (n : ℕ) → p + 2 + n ≤ length list → Element n ≡ seen rule (drop p list) → (r : Bor (List ℕ)) → r.now ≡ take (p + 2 + n - (p + 2)) (drop (p + 2) list) → written (items ++ item.Element (get_or list p 0) r ∷ []) ≡ take (p + (2 + n)) list
  element_more n fits s r cs =
      let t : ℕ = get_or list p 0 in
      let m : ℕ = get_or list (p + 1) 0 in
      let two : drop p list ≡ t ∷ m ∷ drop (p + 2) list = drop_more list p 0 h ∙ ap (λ l. t ∷ l) (drop_more list (p + 1) 0 (omega arith) ∙ ap (λ k. m ∷ drop k list) (omega arith)) in
      let first : get_or (drop (p + 1) list) 0 0 ≡ m = get_or-drop (p + 1) list 0 0 ∙ ap (λ k. get_or list k 0) (omega arith) in
      let long : n ≡ m = length_seen (ends_list rule t) (stands_alone rule t) _ n _ (s ∙ here rule list p h) ∙ first in
      let body : r.now ≡ take n (drop (p + 2) list) = cs ∙ ap (λ k. take k (drop (p + 2) list)) (omega arith) in
      let count : length r.now ≡ m = ap length body ∙ length-take-le n (drop (p + 2) list) (omega (arith, length-drop (p + 2) list)) ∙ long in
      let k : 2 + n ≡ suc (suc n) = omega arith in
      written_push items (item.Element t r) ∙ ap (λ l. l ++ element t r.now) e
      ∙ ap (λ l. take p list ++ l) ((λ i. t ∷ count i ∷ body i) ∙ sym (ap (λ l. take (2 + n) l) two ∙ ap (λ j. take j (t ∷ m ∷ drop (p + 2) list)) k))
      ∙ sym (take-add p (2 + n) list)

  pub end_ends : End ≡ seen rule (drop p list) → verdict rule (walk rule 0 p (drop p list)) ≡ verdict rule (walk rule 0 0 list) → TakenApart rule list items (Ok (p + 1))
  end_ends s inv =
      let t : ℕ = get_or list p 0 in
      let tag : rule.end ≡ Some t = is_tag_some rule.end t (end_seen (ends_list rule t) (stands_alone rule t) _ (s ∙ here rule list p h) (λ z. grind arith)) in
      record {
        verdict = turned rule list p h (verdict rule) _ End s inv;
        octets = ap (λ o. written items ++ ending o) tag ∙ ap (λ l. l ++ (t ∷ [])) e ∙ sym (take_more list p 0 h);
      }
