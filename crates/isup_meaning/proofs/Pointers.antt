-- What the pointers of a written message reach: the field, and the list with every entry of its table. Assumes nothing.
use Rattle.std.proofs.Common.{◌≡◌, ℕ, ◌+◌, ◌<◌, ◌≤◌, Bool, true, false, eqb, List, [], ◌∷◌, ◌++◌, length, get_or, take, drop, None, sym, refl, ap, ◌∙◌, append_assoc, arith, length-append}
use Rattle.std.proofs.lemmas.List.{get_or_at, get_or-append-add, take_at, drop_at, nil_from_length}
use Rattle.std.proofs.lemmas.Bool.{cond-true, cond-false, lt-ltb, le-leb, ne_eqb, eqb-true}
use Rattle.elements.specs.Elements.{checked}
use Rattle.entries.specs.Codings.{isup}
use Rattle.entries.specs.Entries.{Entry, listed, under, found, Ascending}
use Rattle.entries.proofs.Tables.{reads_found, reads_whole}
use Rattle.isup_meaning.specs.Reading.{pointed, field_in, list_in, field_fault, optional_fault, list_fault}
use Rattle.isup_meaning.specs.Writing.{pointer_to, tail}

-- a field behind its pointer, the pointer to the list and its length
module _ (o pre field rest : List ℕ) (at p : ℕ) (a : length pre ≡ at) (e : o ≡ pre ++ (2 ∷ p ∷ length field ∷ (field ++ rest))) where
  two : get_or o at 0 ≡ 2
  two = ap (λ l. get_or l at 0) e ∙ get_or_at pre 2 (p ∷ length field ∷ (field ++ rest)) 0 at a

  reach : pointed o at ≡ at + 2
  reach = ap (λ n. at + n) two

  long : length o ≡ at + (3 + (length field + length rest))
  long = ap length e ∙ omega (arith, length-append pre (2 ∷ p ∷ length field ∷ (field ++ rest)), length-append field rest)

  count : get_or o (pointed o at) 0 ≡ length field
  count =
      ap (λ k. get_or o k 0) reach
      ∙ ap (λ l. get_or l (at + 2) 0) e
      ∙ ap (λ k. get_or (pre ++ (2 ∷ p ∷ length field ∷ (field ++ rest))) (k + 2) 0) (sym a)
      ∙ get_or-append-add pre (2 ∷ p ∷ length field ∷ (field ++ rest)) 2 0

  behind : drop (pointed o at + 1) o ≡ field ++ rest
  behind =
      ap (λ k. drop (k + 1) o) reach
      ∙ ap (drop (at + 2 + 1)) (e ∙ sym (append_assoc pre (2 ∷ p ∷ length field ∷ []) (field ++ rest)))
      ∙ drop_at (pre ++ (2 ∷ p ∷ length field ∷ [])) (field ++ rest) (at + 2 + 1) (omega (arith, length-append pre (2 ∷ p ∷ length field ∷ [])))

  pub field_whole : field_fault o at ≡ None
  field_whole =
      let here : at < length o = omega (arith, long) in
      let fits : pointed o at + 1 + get_or o (pointed o at) 0 ≤ length o = omega (arith, long, reach, count) in
      cond-true _ _ _ (lt-ltb at (length o) here)
      ∙ cond-false _ _ _ (ap (λ n. eqb n 0) two)
      ∙ cond-true _ _ _ (le-leb (pointed o at + 1 + get_or o (pointed o at) 0) (length o) fits)

  pub field_back : field_in o at ≡ field
  field_back =
      cond-false _ _ _ (ap (λ n. eqb n 0) two)
      ∙ ap (λ n. take n (drop (pointed o at + 1) o)) count
      ∙ ap (take (length field)) behind
      ∙ take_at field rest (length field) refl

-- a table behind its pointer and what lies between
module _ (o pre mid : List ℕ) (es : List Entry) (asc : Ascending isup 0 es) (at d : ℕ) (a : length pre ≡ at) (m : d ≡ 1 + length mid)
    (e : o ≡ pre ++ (pointer_to d (listed es) ∷ (mid ++ tail (listed es)))) where
  -- nothing in the table: no octets, and a pointer of 00
  module _ (none : eqb (length (listed es)) 0 ≡ true) where
    nil : listed es ≡ []
    nil = nil_from_length (listed es) (eqb-true (length (listed es)) 0 none)

    zero_at : get_or o at 0 ≡ 0
    zero_at =
        ap (λ l. get_or l at 0) e
        ∙ get_or_at pre (pointer_to d (listed es)) (mid ++ tail (listed es)) 0 at a
        ∙ cond-true _ _ _ none

    pub none_found : (t : ℕ) → found isup t (list_in o at) ≡ under t es
    none_found t =
        ap (found isup t) (cond-true _ _ _ (ap (λ n. eqb n 0) zero_at))
        ∙ ap (λ l. found isup t (l ++ (0 ∷ []))) (sym nil)
        ∙ reads_found isup 0 es asc t

    pub none_whole : optional_fault o at ≡ None
    none_whole =
        let here : at < length o = omega (arith, ap length e, length-append pre (pointer_to d (listed es) ∷ (mid ++ tail (listed es)))) in
        cond-true _ _ _ (lt-ltb at (length o) here)
        ∙ cond-true _ _ _ (ap (λ n. eqb n 0) zero_at)

  -- something in the table: the pointer reaches it
  module _ (some : eqb (length (listed es)) 0 ≡ false) where
    d_at : get_or o at 0 ≡ d
    d_at =
        ap (λ l. get_or l at 0) e
        ∙ get_or_at pre (pointer_to d (listed es)) (mid ++ tail (listed es)) 0 at a
        ∙ cond-false _ _ _ some

    not_zero : eqb (get_or o at 0) 0 ≡ false
    not_zero = ne_eqb (get_or o at 0) 0 (λ z. omega (arith, d_at))

    reached : drop (pointed o at) o ≡ listed es ++ (0 ∷ [])
    reached =
        ap (λ n. drop (at + n) o) d_at
        ∙ ap (drop (at + d)) (e ∙ sym (append_assoc pre (pointer_to d (listed es) ∷ mid) (tail (listed es))))
        ∙ drop_at (pre ++ (pointer_to d (listed es) ∷ mid)) (tail (listed es)) (at + d) (omega (arith, length-append pre (pointer_to d (listed es) ∷ mid)))
        ∙ cond-false _ _ _ some

    pub some_found : (t : ℕ) → found isup t (list_in o at) ≡ under t es
    some_found t =
        ap (found isup t) (cond-false _ _ _ not_zero ∙ reached)
        ∙ reads_found isup 0 es asc t

    pub some_whole : optional_fault o at ≡ None
    some_whole =
        let here : at < length o = omega (arith, ap length e, length-append pre (pointer_to d (listed es) ∷ (mid ++ tail (listed es)))) in
        cond-true _ _ _ (lt-ltb at (length o) here)
        ∙ cond-false _ _ _ not_zero
        ∙ ap (list_fault at (pointed o at)) (ap (checked isup) reached ∙ reads_whole isup 0 es asc)

  pub list_found : (t : ℕ) → found isup t (list_in o at) ≡ under t es
  list_found t = by (eqb (length (listed es)) 0) refl
    where
      by : (b : Bool) → eqb (length (listed es)) 0 ≡ b → found isup t (list_in o at) ≡ under t es
      by true z = none_found z t
      by false z = some_found z t

  pub list_whole : optional_fault o at ≡ None
  list_whole = by (eqb (length (listed es)) 0) refl
    where
      by : (b : Bool) → eqb (length (listed es)) 0 ≡ b → optional_fault o at ≡ None
      by true z = none_whole z
      by false z = some_whole z
