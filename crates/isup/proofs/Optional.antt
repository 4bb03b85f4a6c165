-- The tables of the optional list: how long they are, that their tags ascend, and when they are empty. Assumes nothing.
use Rattle.std.proofs.Common.{◌≡◌, ℕ, ◌+◌, ◌<◌, ◌≤◌, false, ◌&&◌, eqb, List, [], ◌∷◌, ◌++◌, length, drop, Some, Result, MatchResult, sym, refl, ap, ◌∙◌, subst, append_assoc, append-nil, arith, lit<, length-append, Bor}
use Rattle.std.proofs.lemmas.List.{take-append-drop}
use Rattle.std.proofs.lemmas.Bool.{cond-false}
use Rattle.std.proofs.lemmas.Bool.Decides.{nat_tests}
use Rattle.std.proofs.lemmas.Result.{MatchResult-weaker}
use Rattle.entries.specs.Codings.{dss1, isup}
use Rattle.entries.specs.Entries.{Entry, entry_octets, listed, weight, Ascending, entry_item}
use Rattle.entries.specs.Rows.{items_of, entries_of}
use Rattle.entries.proofs.Rows as rows
use Rattle.entries.proofs.Tables.{listed_length, light}
use Rattle.writer.specs.declared.types.Item.{Item}
use Rattle.writer.specs.declared.types.WriteFault.{WriteFault}
use Rattle.writer.specs.Items.{written, nest_fault, table_fault}
use Rattle.writer.specs.Written.{element, Adds, Step, ListStep}
use Rattle.writer.proofs.Puts.{then, moved}
use Rattle.side.specs.Limits.{cost}
use Rattle.side.specs.declared.parts.Parts.{Parts}
use Rattle.side.specs.Contents.{parts_of, calling_of, called_of, low_of, high_of, user_of}
use Rattle.side.proofs.Limited.{parts_within}
use Rattle.carried.proofs.PartLaws.{within_weights, part_calling, part_called, part_low, part_high, part_user}
use Rattle.isup_meaning.specs.Writing.{pointer_to, tail}
use Rattle.isup.specs.Writes.{access_of, behind_of, optional_of, no_access, message_of, Wrote}

-- the parts of a value weigh at most 200
pub total : (p : Parts) → cost (length (calling_of p)) + cost (length (called_of p)) + cost (length (low_of p)) + cost (length (high_of p)) + cost (length (user_of p)) ≤ 200
total p =
    omega (
      arith,
      within_weights (parts_of p) (parts_within p),
      ap (λ l. cost (length l)) (part_calling p),
      ap (λ l. cost (length l)) (part_called p),
      ap (λ l. cost (length l)) (part_low p),
      ap (λ l. cost (length l)) (part_high p),
      ap (λ l. cost (length l)) (part_user p),
    )

held : (n : ℕ) → n ≤ cost n
held n = grind (arith, nat_tests)

weightless : (n m : ℕ) → eqb (weight n + m) 0 ≡ (eqb n 0 && eqb m 0)
weightless n m = grind (arith, nat_tests)

last_none : (n : ℕ) → eqb (weight n + 0) 0 ≡ eqb n 0
last_none n = grind (arith, nat_tests)

none_five : (a b c d e : ℕ) → eqb (weight a + (weight b + (weight c + (weight d + (weight e + 0))))) 0 ≡ (eqb a 0 && (eqb b 0 && (eqb c 0 && (eqb d 0 && eqb e 0))))
none_five a b c d e =
    weightless a (weight b + (weight c + (weight d + (weight e + 0))))
    ∙ ap (λ x. eqb a 0 && x) (weightless b (weight c + (weight d + (weight e + 0)))
    ∙ ap (λ x. eqb b 0 && x) (weightless c (weight d + (weight e + 0))
    ∙ ap (λ x. eqb c 0 && x) (weightless d (weight e + 0)
    ∙ ap (λ x. eqb d 0 && x) (last_none e))))

module _ (progress : List ℕ) (p : Parts) where
  -- a table with nothing in it is empty
  pub access_none : no_access progress p ≡ eqb (length (listed (access_of progress p))) 0
  access_none = sym (ap (λ n. eqb n 0) (listed_length (access_of progress p)) ∙ none_five (length progress) (length (calling_of p)) (length (called_of p)) (length (low_of p)) (length (high_of p)))

  pub access_octets : (ts : List Entry) → ts ≡ access_of progress p → false ≡ no_access progress p → element 3 (listed ts ++ []) ≡ entry_octets (record { tag = 3; contents = listed (access_of progress p) })
  access_octets ts e f = ap (element 3) (append-nil (listed ts) ∙ ap listed e) ∙ sym (cond-false _ _ _ (sym (f ∙ access_none)))

  module _ (few : length progress ≤ 2) where
    pub access_length : length (listed (access_of progress p)) + cost (length (user_of p)) ≤ 204
    access_length = let t = total p in omega (arith, listed_length (access_of progress p), light (length progress))

    pub access_ascends : Ascending dss1 0 (access_of progress p)
    access_ascends =
        let t = total p in
        let a = held (length (calling_of p)) in
        let b = held (length (called_of p)) in
        let c = held (length (low_of p)) in
        let d = held (length (high_of p)) in
        (lit< tt, refl, refl, omega arith, (lit< tt, refl, refl, omega arith, (lit< tt, refl, refl, omega arith, (lit< tt, refl, refl, omega arith, (lit< tt, refl, refl, omega arith, tt)))))

-- access transport as the code makes it: five references, and the items that are made of them
module _ (p : Parts) (g a b c d : Bor (List ℕ)) (ig ia ib ic id : Item) (eg : ig ≡ entry_item 0x1E g) (ea : ia ≡ entry_item 0x6D a) (eb : ib ≡ entry_item 0x71 b) (ec : ic ≡ entry_item 0x7C c) (ed : id ≡ entry_item 0x7D d)
    (progress : List ℕ) (ng : g.now ≡ progress) (na : a.now ≡ calling_of p) (nb : b.now ≡ called_of p) (nc : c.now ≡ low_of p) (nd : d.now ≡ high_of p) where
  abbrev five_items : List Item
  five_items = ig ∷ ia ∷ ib ∷ ic ∷ id ∷ []

  abbrev five_rows : List (ℕ × Bor (List ℕ))
  five_rows = (0x1E, g) ∷ (0x6D, a) ∷ (0x71, b) ∷ (0x7C, c) ∷ (0x7D, d) ∷ []

  five_same : five_items ≡ items_of five_rows
  five_same i = eg i ∷ ea i ∷ eb i ∷ ec i ∷ ed i ∷ []

  five_are : entries_of five_rows ≡ access_of progress p
  five_are i = record { tag = 0x1E; contents = ng i } ∷ record { tag = 0x6D; contents = na i } ∷ record { tag = 0x71; contents = nb i } ∷ record { tag = 0x7C; contents = nc i } ∷ record { tag = 0x7D; contents = nd i } ∷ []

  pub nest_never : (last at size : ℕ) (e : WriteFault) → length progress ≤ 2 → last ≤ 3 → at + 206 ≤ size → nest_fault isup dss1 last at 3 five_items size ≡ Some e → ⊥
  nest_never last at size e few l room f =
      let n : length (listed (entries_of five_rows) ++ []) ≤ 204 =
      omega (arith, ap length (append-nil (listed (entries_of five_rows))), ap (λ t. length (listed t)) five_are, access_length progress p few) in
      rows.nest_not_refused isup dss1 five_items five_rows five_same 3 last at size e (subst (Ascending dss1 0) (sym five_are) (access_ascends progress p few)) refl refl l (omega arith) (omega arith) f

  pub nest_writes : (at end : ℕ) (before after : List ℕ) → false ≡ no_access progress p → Adds (element 3 (written five_items ++ [])) at before end after →
      Adds (entry_octets (record { tag = 3; contents = listed (access_of progress p) })) at before end after
  nest_writes at end before after f q =
      subst (λ o. Adds o at before end after) (access_octets progress p (entries_of five_rows) five_are f) (rows.nest_adds isup dss1 five_items five_rows five_same 3 at end before after q)

  -- a list that is nested adds access transport, or there is no room for it
  pub nest_step : {T : Type 0} (next floor : T → ℕ) (r : Result T WriteFault) (front at last : ℕ) (before after : List ℕ) → length progress ≤ 2 → at ≡ front → last ≡ 0 → false ≡ no_access progress p →
      ListStep (nest_fault isup dss1 last at 3 five_items (length before)) (element 3 (written five_items ++ [])) at before after next floor 3 r →
      MatchResult r (λ x. Adds (entry_octets (record { tag = 3; contents = listed (access_of progress p) })) front before (next x) after × (floor x ≤ 3)) (λ _. length before < front + 206)
  nest_step next floor r front at last before after few ea el f s =
      MatchResult-weaker r s
      (λ x q. (moved ea refl (nest_writes at (next x) before after f q.0.adds), omega (arith, q.1)))
      (λ e q. let never : at + 206 ≤ length before → ⊥ = λ h. nest_never last at (length before) e few (omega arith) h q.because in omega arith)

pub entry_light : (t : ℕ) (l : List ℕ) → length (entry_octets (record { tag = t; contents = l })) ≤ length l + 2
entry_light t l = grind (arith, nat_tests)

-- the whole list, step by step
pub list_writes : (progress : List ℕ) (p : Parts) (bearer : List ℕ) {at at' m end : ℕ} {x y z : List ℕ} → at' ≡ at →
    Adds (entry_octets (record { tag = 3; contents = listed (access_of progress p) })) at' x m y → Adds (listed (behind_of p bearer) ++ (0 ∷ [])) m y end z → Adds (listed (optional_of progress p bearer) ++ (0 ∷ [])) at x end z
list_writes progress p bearer {at} {at'} {m} {end} {x} {y} {z} e q r =
    subst (λ o. Adds o at x end z) (sym (append_assoc (entry_octets (record { tag = 3; contents = listed (access_of progress p) })) (listed (behind_of p bearer)) (0 ∷ [])))
    (then (moved e refl q) refl r)

-- and what stands behind it
module _ (p : Parts) (b u : Bor (List ℕ)) (ib iu : Item) (eb : ib ≡ entry_item 0x1D b) (eu : iu ≡ entry_item 0x20 u) (nu : u.now ≡ user_of p) where
  abbrev two_rows : List (ℕ × Bor (List ℕ))
  two_rows = (0x1D, b) ∷ (0x20, u) ∷ []

  two_same : (ib ∷ iu ∷ []) ≡ items_of two_rows
  two_same i = eb i ∷ eu i ∷ []

  two_are : entries_of two_rows ≡ behind_of p b.now
  two_are i = record { tag = 0x1D; contents = b.now } ∷ record { tag = 0x20; contents = nu i } ∷ []

  behind_ascends : length b.now ≤ 11 → Ascending isup 3 (behind_of p b.now)
  behind_ascends few =
      let t = total p in
      let k = held (length (user_of p)) in
      (lit< tt, refl, refl, omega arith, (lit< tt, refl, refl, omega arith, tt))

  behind_length : length (listed (behind_of p b.now) ++ (0 ∷ [])) ≡ weight (length b.now) + (weight (length (user_of p)) + 0) + 1
  behind_length = length-append (listed (behind_of p b.now)) (0 ∷ []) ∙ ap (λ n. n + 1) (listed_length (behind_of p b.now))

  pub close_never : (last at size : ℕ) (e : WriteFault) → length b.now ≤ 11 → last ≤ 3 → at + (14 + cost (length (user_of p))) ≤ size → table_fault isup last at (ib ∷ iu ∷ []) size ≡ Some e → ⊥
  close_never last at size e few l room f =
      let n : length (listed (entries_of two_rows) ++ (0 ∷ [])) ≤ 14 + cost (length (user_of p)) =
      omega (arith, ap (λ t. length (listed t ++ (0 ∷ []))) two_are, behind_length, light (length b.now)) in
      rows.not_refused isup (ib ∷ iu ∷ []) two_rows two_same last 3 at size e l (subst (Ascending isup 3) (sym two_are) (behind_ascends few)) (omega arith) f

  pub close_writes : (at end : ℕ) (before after : List ℕ) → Adds (written (ib ∷ iu ∷ []) ++ (0 ∷ [])) at before end after → Adds (listed (behind_of p b.now) ++ (0 ∷ [])) at before end after
  close_writes at end before after q =
      subst (λ t. Adds (listed t ++ (0 ∷ [])) at before end after) two_are (rows.adds isup (ib ∷ iu ∷ []) two_rows two_same at end before after q)

  -- a list that is closed has both, or there is no room for them
  pub close_step : {T : Type 0} (end : T → ℕ) (r : Result T WriteFault) (last at front : ℕ) (before after : List ℕ) (progress : List ℕ) (whole : List ℕ) → length progress ≤ 2 → length b.now ≤ 11 → last ≤ 3 → length before ≡ length whole →
      Adds (entry_octets (record { tag = 3; contents = listed (access_of progress p) })) front whole at before →
      Step (table_fault isup last at (ib ∷ iu ∷ []) (length before)) (written (ib ∷ iu ∷ []) ++ (0 ∷ [])) at before after end r →
      MatchResult r (λ x. Adds (listed (optional_of progress p b.now) ++ (0 ∷ [])) front whole (end x) after) (λ _. length whole < front + 230)
  close_step end r last at front before after progress whole few short l same q s =
      MatchResult-weaker r s
      (λ x k. list_writes progress p b.now refl q (close_writes at (end x) before after k.adds))
      (λ e k.
      let never : at + (14 + cost (length (user_of p))) ≤ length before → ⊥ = λ h. close_never last at (length before) e short l h k.because in
      let n = q.count in
      omega (arith, entry_light 3 (listed (access_of progress p)), access_length progress p few))

-- a message from the front of a buffer, step by step
pub message_writes : (fixed between progress : List ℕ) (p : Parts) (bearer : List ℕ) (d at k₁ k₂ k₃ n r : ℕ) (o₀ o₁ o₂ o₃ o₄ : List ℕ) → at ≡ 0 → d ≡ pointer_to (1 + length between) (listed (optional_of progress p bearer)) →
    Adds fixed at o₀ k₁ o₁ → Adds (d ∷ []) k₁ o₁ k₂ o₂ → Adds between k₂ o₂ k₃ o₃ → Adds (tail (listed (optional_of progress p bearer))) k₃ o₃ n o₄ → r ≡ n →
    Wrote (message_of fixed between (listed (optional_of progress p bearer))) o₀ o₄ r
message_writes fixed between progress p bearer d at k₁ k₂ k₃ n r o₀ o₁ o₂ o₃ o₄ e f q₁ q₂ q₃ q₄ g =
    let list : List ℕ = listed (optional_of progress p bearer) in
    let all : Adds (fixed ++ (d ∷ (between ++ tail list))) 0 o₀ n o₄ = then (moved e refl q₁) refl (then q₂ refl (then q₃ refl q₄)) in
    let same : fixed ++ (d ∷ (between ++ tail list)) ≡ message_of fixed between list = ap (λ v. fixed ++ (v ∷ (between ++ tail list))) f in
    wrote (message_of fixed between list) n r o₀ o₄ (subst (λ m. Adds m 0 o₀ n o₄) same all) g
  where
    wrote : (m : List ℕ) (n r : ℕ) (before after : List ℕ) → Adds m 0 before n after → r ≡ n → Wrote m before after r
    wrote m n r before after q g =
        let k : n ≡ length m = omega (arith, q.count) in
        record { count = g ∙ k; buffer = sym (take-append-drop n after) ∙ (λ i. q.front i ++ q.rest i) ∙ ap (λ j. m ++ drop j before) k }
