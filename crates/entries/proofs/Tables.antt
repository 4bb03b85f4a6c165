-- A table whose tags ascend is read back, entry by entry. Assumes nothing.
use Rattle.std.proofs.Common.{◌≡◌, ℕ, ◌+◌, ◌<◌, ◌≤◌, Bool, true, false, cond, eqb, ltb, List, [], ◌∷◌, ◌++◌, length, Some, None, Ok, Option, sym, refl, ap, ◌∙◌, append_assoc, append-nil, arith, length-append}
use Rattle.std.proofs.lemmas.Bool.Decides.{nat_tests}
use Rattle.std.proofs.lemmas.Bool.{cond-false, ne_eqb, lt-ltb}
use Rattle.std.specs.Option.{option_map}
use Rattle.elements.specs.declared.types.EndRule.{EndRule}
use Rattle.elements.specs.Elements as read
use Rattle.elements.specs.Elements.{ends_list, stands_alone, walk, item_in, verdict, checked}
use Rattle.writer.specs.Written.{element, ending, room_fault}
use Rattle.lists.proofs.Backs as backs
use Rattle.lists.proofs.Backs.{walk_element}
use Rattle.entries.specs.Entries.{Entry, entry_octets, listed, weight, weights, under, or_none, found, Ascending}

-- what is found under a tag in a list that begins at p
abbrev pub found_from : EndRule → ℕ → ℕ → List ℕ → List ℕ
found_from rule t p octets = or_none (option_map (λ e. e.contents) (item_in t (walk rule 0 p octets)))

-- tags that ascend from one that is not below t leave nothing under t
pub above : (rule : EndRule) (t last : ℕ) (es : List Entry) → t ≤ last → Ascending rule last es → under t es ≡ []
above rule t last [] h a = refl
above rule t last (e ∷ es) h a =
    let k : last < e.tag = a.0 in
    let ih : under t es ≡ [] = above rule t e.tag es (omega arith) a.4 in
    grind (arith, nat_tests)

-- contents that are not empty are written
pub full : (u c : ℕ) (cs : List ℕ) → entry_octets (record { tag = u; contents = c ∷ cs }) ≡ element u (c ∷ cs)
full u c cs = cond-false _ _ _ (ne_eqb (length (c ∷ cs)) 0 (λ h. omega arith))

-- an entry and what follows it: v is what is found beyond, at whatever place
module _ (rule : EndRule) (t p u : ℕ) (xs v : List ℕ) (e : ends_list rule u ≡ false) (s : stands_alone rule u ≡ false) where
  picks : (a b : Bool) (i : read.Item) (o : Option read.Item) → b ≡ true → or_none (option_map (λ i. i.contents) (cond a (cond b (Some i) o) o)) ≡ cond a i.contents (or_none (option_map (λ i. i.contents) o))
  picks true b i o h = ap (λ b. or_none (option_map (λ i. i.contents) (cond b (Some i) o))) h
  picks false b i o h = refl

  found_entry : (cs : List ℕ) → ((q : ℕ) → found_from rule t q xs ≡ v) → (u ≡ t → v ≡ []) →
      found_from rule t p (entry_octets (record { tag = u; contents = cs }) ++ xs) ≡ cond (eqb u t) cs v
  found_entry [] beyond single = let b = beyond p in grind (arith, nat_tests)
  found_entry (c ∷ cs) beyond single =
      ap (λ l. found_from rule t p (l ++ xs)) (full u c cs)
      ∙ ap (λ w. or_none (option_map (λ i. i.contents) (item_in t w))) (walk_element rule p u (c ∷ cs) xs e s)
      ∙ picks (eqb u t) (ltb 0 (length (c ∷ cs))) (record { place = p; tag = u; contents = c ∷ cs }) (item_in t (walk rule 0 (p + (2 + length (c ∷ cs))) xs)) (lt-ltb 0 (length (c ∷ cs)) (omega arith))
      ∙ ap (cond (eqb u t) (c ∷ cs)) (beyond (p + (2 + length (c ∷ cs))))

  passed_entry : (cs : List ℕ) (n : ℕ) → ((q : ℕ) → verdict rule (walk rule 0 q xs) ≡ Ok (q + n)) →
      verdict rule (walk rule 0 p (entry_octets (record { tag = u; contents = cs }) ++ xs)) ≡ Ok (p + (length (entry_octets (record { tag = u; contents = cs })) + n))
  passed_entry [] n beyond = beyond p ∙ ap Ok (omega arith)
  passed_entry (c ∷ cs) n beyond =
      ap (λ l. verdict rule (walk rule 0 p (l ++ xs))) (full u c cs)
      ∙ ap (verdict rule) (walk_element rule p u (c ∷ cs) xs e s)
      ∙ beyond (p + (2 + length (c ∷ cs)))
      ∙ ap Ok (omega arith)
      ∙ ap (λ l. Ok (p + (length l + n))) (sym (full u c cs))

module _ (rule : EndRule) where
  -- nothing stands against the end of a list in a buffer of that size
  end_fits : room_fault 0 (length (ending rule.end)) (length (ending rule.end)) ≡ None
  end_fits = grind (arith, nat_tests)

  -- what is found does not hang on the place at which the list begins
  pub finds : (t p last : ℕ) (es : List Entry) → Ascending rule last es → found_from rule t p (listed es ++ ending rule.end) ≡ under t es
  finds t p last [] a = ap (λ o. or_none (option_map (λ i. i.contents) o)) (backs.finds rule (length (ending rule.end)) t p [] 0 0 end_fits)
  finds t p last (e ∷ es) a =
      ap (found_from rule t p) (append_assoc (entry_octets e) (listed es) (ending rule.end))
      ∙ found_entry rule t p e.tag (listed es ++ ending rule.end) (under t es) a.1 a.2 e.contents
      (λ q. finds t q e.tag es a.4) (λ h. above rule t e.tag es (omega arith) a.4)

  pub passes : (p last : ℕ) (es : List Entry) → Ascending rule last es → verdict rule (walk rule 0 p (listed es ++ ending rule.end)) ≡ Ok (p + length (listed es ++ ending rule.end))
  passes p last [] a = backs.passes rule (length (ending rule.end)) p [] 0 0 end_fits
  passes p last (e ∷ es) a =
      ap (λ l. verdict rule (walk rule 0 p l)) (append_assoc (entry_octets e) (listed es) (ending rule.end))
      ∙ passed_entry rule 0 p e.tag (listed es ++ ending rule.end) [] a.1 a.2 e.contents (length (listed es ++ ending rule.end)) (λ q. passes q e.tag es a.4)
      ∙ ap (λ n. Ok (p + n)) (sym (ap length (append_assoc (entry_octets e) (listed es) (ending rule.end)) ∙ length-append (entry_octets e) (listed es ++ ending rule.end)))

  pub reads_found : (last : ℕ) (es : List Entry) → Ascending rule last es → (t : ℕ) → found rule t (listed es ++ ending rule.end) ≡ under t es
  reads_found last es a t = finds t 0 last es a

  pub reads_whole : (last : ℕ) (es : List Entry) → Ascending rule last es → checked rule (listed es ++ ending rule.end) ≡ Ok (length (listed es ++ ending rule.end))
  reads_whole last es a = passes 0 last es a ∙ ap Ok (omega arith)

  -- where no tag ends the list its octets are the table's alone
  module _ (none : rule.end ≡ None) where
    bare : (es : List Entry) → listed es ++ ending rule.end ≡ listed es
    bare es = ap (λ o. listed es ++ ending o) none ∙ append-nil (listed es)

    pub reads_found_bare : (last : ℕ) (es : List Entry) → Ascending rule last es → (t : ℕ) → found rule t (listed es) ≡ under t es
    reads_found_bare last es a t = ap (found rule t) (sym (bare es)) ∙ reads_found last es a t

    pub whole_bare : (last : ℕ) (es : List Entry) → Ascending rule last es → checked rule (listed es) ≡ Ok (length (listed es))
    whole_bare last es a = ap (checked rule) (sym (bare es)) ∙ reads_whole last es a ∙ ap (λ l. Ok (length l)) (bare es)

-- how long a table is
pub listed_length : (es : List Entry) → length (listed es) ≡ weights es
listed_length [] = refl
listed_length (e ∷ es) = length-append (entry_octets e) (listed es) ∙ (λ i. one e.tag e.contents i + listed_length es i)
  where
    one : (u : ℕ) (cs : List ℕ) → length (entry_octets (record { tag = u; contents = cs })) ≡ weight (length cs)
    one u cs = grind (arith, nat_tests)

pub light : (n : ℕ) → weight n ≤ n + 2
light n = grind (arith, nat_tests)
