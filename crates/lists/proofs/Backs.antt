-- A written list is walked element by element. Assumes nothing.
use Rattle.std.proofs.Common.{◌≡◌, ℕ, ◌+◌, Bool, true, false, cond, ◌||◌, eqb, ltb, List, [], ◌∷◌, ◌++◌, length, take, drop, Some, None, Ok, Option, sym, refl, ap, ◌∙◌, append_assoc, add-one, arith, length-append}
use Rattle.std.proofs.lemmas.List.{take_at, drop_at}
use Rattle.std.proofs.lemmas.Bool.{cond-true, cond-false, lt-ltb, eq-eqb}
use Rattle.std.specs.Option.{option_map}
use Rattle.elements.specs.declared.types.EndRule.{EndRule}
use Rattle.elements.specs.declared.types.Seen.TheVariants as seen
use Rattle.elements.specs.Elements as read
use Rattle.elements.specs.Elements.{is_tag, ends_list, stands_alone, begun, Walk, more, stop, walk, item_in, verdict, place_of, contents_of, checked}
use Rattle.elements.proofs.Steps.{onward, skipped}
use Rattle.writer.specs.declared.types.Item.{Item}
use Rattle.writer.specs.declared.types.Item.TheVariants.{Element, Single, Absent}
use Rattle.writer.specs.declared.types.WriteFault.{WriteFault}
use Rattle.writer.specs.declared.types.WriteFault.TheVariants.{NotATag}
use Rattle.writer.specs.Written.{element, ending, element_fault, single_fault, Adds}
use Rattle.writer.specs.Items.{octets_of, written, or_else, table_fault}
use Rattle.lists.specs.ReadBack.{held, ReadsBack}

sees : (rule : EndRule) (t : ℕ) (cs rest : List ℕ) → ends_list rule t ≡ false → stands_alone rule t ≡ false → begun rule t (length cs ∷ (cs ++ rest)) ≡ seen.Element (length cs)
sees rule t cs rest e s =
    cond-false _ _ _ e ∙ cond-false _ _ _ s ∙ cond-true _ _ _ (lt-ltb (length cs) (length (length cs ∷ (cs ++ rest))) (omega (arith, length-append cs rest)))

pub walk_element : (rule : EndRule) (p t : ℕ) (cs rest : List ℕ) → ends_list rule t ≡ false → stands_alone rule t ≡ false →
    walk rule 0 p (element t cs ++ rest) ≡ more (record { place = p; tag = t; contents = cs }) (walk rule 0 (p + (2 + length cs)) rest)
walk_element rule p t cs rest e s =
    let xs : List ℕ = length cs ∷ (cs ++ rest) in
    let on : walk rule (length cs + 1) (p + 1) xs ≡ walk rule 0 (p + (2 + length cs)) rest =
    skipped rule (length cs + 1) (p + 1) xs (omega (arith, length-append cs rest))
    ∙ ap (λ k. walk rule 0 (p + 1 + (length cs + 1)) (drop k xs)) (add-one (length cs))
    ∙ ap (walk rule 0 (p + 1 + (length cs + 1))) (drop_at cs rest (length cs) refl)
    ∙ ap (λ q. walk rule 0 q rest) (omega arith) in
    ap (onward rule p t xs) (sees rule t cs rest e s)
    ∙ (λ i. more (record { place = p; tag = t; contents = take_at cs rest (length cs) refl i }) (on i))

pub walk_single : (rule : EndRule) (p t : ℕ) (rest : List ℕ) → ends_list rule t ≡ false → stands_alone rule t ≡ true → walk rule 0 p (t ∷ rest) ≡ walk rule 0 (p + 1) rest
walk_single rule p t rest e s = ap (onward rule p t rest) (cond-false _ _ _ e ∙ cond-true _ _ _ s)

-- the tags of entries against which nothing stands
element_tag : (rule : EndRule) (last at t n size : ℕ) → element_fault rule last at t n size ≡ None → (ends_list rule t ≡ false) × (stands_alone rule t ≡ false)
element_tag rule last at t n size e = ((neither (ends_list rule t) (stands_alone rule t) _ e).0, (neither (ends_list rule t) (stands_alone rule t) _ e).1)
  where
    neither : (a b : Bool) (o : Option WriteFault) → cond (a || b) (Some NotATag) o ≡ None → (a ≡ false) × (b ≡ false)
    neither a b o h = (grind arith, grind arith)

single_tag : (rule : EndRule) (at t size : ℕ) → single_fault rule at t size ≡ None → (ends_list rule t ≡ false) × (stands_alone rule t ≡ true)
single_tag rule at t size e = ((only (ends_list rule t) (stands_alone rule t) _ e).0, (only (ends_list rule t) (stands_alone rule t) _ e).1)
  where
    only : (a b : Bool) (o : Option WriteFault) → cond a (Some NotATag) (cond b o (Some NotATag)) ≡ None → (a ≡ false) × (b ≡ true)
    only a b o h = (grind arith, grind arith)

both : (a b : Option WriteFault) → or_else a b ≡ None → (a ≡ None) × (b ≡ None)
both a b e = (grind arith, grind arith)

-- the walk of a list's end alone
module _ (rule : EndRule) (p : ℕ) where
  stops : (t : ℕ) → rule.end ≡ Some t → walk rule 0 p (t ∷ []) ≡ stop (read.ended p)
  stops t h = ap (onward rule p t []) (cond-true _ _ _ (ap (λ o. is_tag o t) h ∙ eq-eqb t t refl))

  end_item : (t : ℕ) (o : Option ℕ) → rule.end ≡ o → item_in t (walk rule 0 p (ending o)) ≡ None
  end_item t None h = refl
  end_item t (Some e) h = ap (item_in t) (stops e h)

  end_verdict : (o : Option ℕ) → rule.end ≡ o → verdict rule (walk rule 0 p (ending o)) ≡ Ok (p + length (ending o))
  end_verdict None h = ap (λ o. read.ran_out_at o p) h ∙ ap Ok (omega arith)
  end_verdict (Some e) h = ap (verdict rule) (stops e h)

module _ (rule : EndRule) (size : ℕ) where
  pub finds : (t p : ℕ) (items : List Item) (last at : ℕ) → table_fault rule last at items size ≡ None → item_in t (walk rule 0 p (written items ++ ending rule.end)) ≡ held t p items
  finds t p [] last at e = end_item rule p t rule.end refl
  finds t p (Element u cs ∷ is) last at e =
      let f = both _ _ e in
      let g = element_tag rule last at u (length cs.now) size f.0 in
      ap (λ l. item_in t (walk rule 0 p l)) (append_assoc (element u cs.now) (written is) (ending rule.end))
      ∙ ap (item_in t) (walk_element rule p u cs.now (written is ++ ending rule.end) g.0 g.1)
      ∙ ap (λ o. cond (eqb u t) (cond (ltb 0 (length cs.now)) (Some (record { place = p; tag = u; contents = cs.now })) o) o) (finds t (p + (2 + length cs.now)) is u (at + length (octets_of (Element u cs))) f.1)
  finds t p (Single u ∷ is) last at e =
      let f = both _ _ e in
      let g = single_tag rule at u size f.0 in
      ap (item_in t) (walk_single rule p u (written is ++ ending rule.end) g.0 g.1) ∙ finds t (p + 1) is last (at + 1) f.1
  finds t p (Absent ∷ is) last at e = finds t p is last (at + 0) e

  pub passes : (p : ℕ) (items : List Item) (last at : ℕ) → table_fault rule last at items size ≡ None → verdict rule (walk rule 0 p (written items ++ ending rule.end)) ≡ Ok (p + length (written items ++ ending rule.end))
  passes p [] last at e = end_verdict rule p rule.end refl
  passes p (Element u cs ∷ is) last at e =
      let f = both _ _ e in
      let g = element_tag rule last at u (length cs.now) size f.0 in
      let n = length-append (element u cs.now) (written is ++ ending rule.end) in
      ap (λ l. verdict rule (walk rule 0 p l)) (append_assoc (element u cs.now) (written is) (ending rule.end))
      ∙ ap (verdict rule) (walk_element rule p u cs.now (written is ++ ending rule.end) g.0 g.1)
      ∙ passes (p + (2 + length cs.now)) is u (at + length (octets_of (Element u cs))) f.1
      ∙ ap Ok (omega arith)
      ∙ ap (λ l. Ok (p + length l)) (sym (append_assoc (element u cs.now) (written is) (ending rule.end)))
  passes p (Single u ∷ is) last at e =
      let f = both _ _ e in
      let g = single_tag rule at u size f.0 in
      ap (verdict rule) (walk_single rule p u (written is ++ ending rule.end) g.0 g.1) ∙ passes (p + 1) is last (at + 1) f.1 ∙ ap Ok (omega arith)
  passes p (Absent ∷ is) last at e = passes p is last (at + 0) e

-- what a writer leaves at the front of a buffer reads back
pub reads_back : (rule : EndRule) (size : ℕ) (items : List Item) (before after : List ℕ) (n : ℕ) → table_fault rule 0 0 items size ≡ None → Adds (written items ++ ending rule.end) 0 before n after → ReadsBack rule items (take n after)
reads_back rule size items before after n e p =
    let octets : take n after ≡ written items ++ ending rule.end = p.front in
    record {
      contents = λ t. ap (contents_of rule t) octets ∙ ap (option_map (λ i. i.contents)) (finds rule size t 0 items 0 0 e);
      places = λ t. ap (place_of rule t) octets ∙ ap (option_map (λ i. i.place)) (finds rule size t 0 items 0 0 e);
      whole = ap (checked rule) octets ∙ passes rule size 0 items 0 0 e ∙ ap Ok (omega arith) ∙ ap (λ l. Ok (length l)) (sym octets);
    }
