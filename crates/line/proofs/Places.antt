-- Where a wrong digit can stand. Assumes nothing.
use Rattle.std.proofs.Common.{◌≡◌, ℕ, ◌+◌, ◌-◌, ◌^◌, ◌<◌, Bool, true, false, cond, ◌&&◌, eqb, ltb, List, [], ◌∷◌, length, get_or, take, drop, Some, None, Ok, Err, Option, Result, sym, ap, ◌∙◌, lt_trans, arith, lit<}
use Rattle.std.proofs.lemmas.List.{take_rest}
use Rattle.std.proofs.lemmas.Bool.{ltb-false, cond-true, eq-eqb}
use Rattle.digits.specs.declared.types.DigitFault.{DigitFault}
use Rattle.digits.specs.declared.types.DigitFault.TheVariants.{NoDigits, TooMany, NotADigit}
use Rattle.digits.specs.Dialling.{digit_char, stray_from, dialled}
use Rattle.line_meaning.specs.Lines.{digit_place, setup_read, headed, event_kind, body_read, event_read, reads}
use Rattle.side.specs.declared.kinds.Kind.{Kind}

stray_within : (p : ℕ) (text : List ℕ) (k : ℕ) → stray_from p text ≡ Some k → k < p + length text
stray_within p [] k e = absurd (grind arith)
stray_within p (c ∷ cs) k e = at (digit_char c) (λ w. stray_within (p + 1) cs k w) e
  where
    at : (b : Bool) → (stray_from (p + 1) cs ≡ Some k → k < p + 1 + length cs) → cond b (stray_from (p + 1) cs) (Some p) ≡ Some k → k < p + length (c ∷ cs)
    at true onward z = let i = onward z in omega arith
    at false onward z = let i : p ≡ k = grind arith in omega arith

fits : (text : List ℕ) (f : DigitFault) → Err f ≡ dialled text → digit_place f < 2 ^ 64
fits text NoDigits e = lit< tt
fits text TooMany e = lit< tt
fits text (NotADigit k) e =
    let i = only (eqb (length text) 0) (ltb 20 (length text)) (stray_from 0 text) (sym e) in
    let j = stray_within 0 text k i.1 in
    let m = ltb-false 20 (length text) i.0 in
    let b : 8 + k < 36 = omega arith in
    lt_trans b (lit< tt)
  where
    only : (a b : Bool) (o : Option ℕ) → cond {A = Result (List ℕ) DigitFault} a (Err NoDigits) (cond b (Err TooMany) (elim o [ None ↦ Ok text | Some j ↦ Err (NotADigit j) ])) ≡ Err (NotADigit k) → (b ≡ false) × (o ≡ Some k)
    only a b o h = (grind arith, grind arith)

-- the place of a wrong digit is a place
pub place_fits : (m : List ℕ) (f : DigitFault) → Err f ≡ dialled (take (length m - 8) (drop 8 m)) → digit_place f < 2 ^ 64
place_fits m f e = fits (take (length m - 8) (drop 8 m)) f e

-- what is read behind the head
pub setup_read_from : (m : List ℕ) (r : Result (List ℕ) DigitFault) → r ≡ dialled (take (length m - 8) (drop 8 m)) → setup_read m r ≡ setup_read m (dialled (drop 8 m))
setup_read_from m r e = ap (setup_read m) (e ∙ ap dialled (take_rest m 8))

-- a message that passes every test before its body is what its body is
pub whole : (n : ℕ) (o : List ℕ) (k : Kind) → true ≡ headed o → Some k ≡ event_kind (get_or o 6 0) → (ltb (get_or o 5 0) n && ltb (get_or o 5 0) 64) ≡ true → get_or o 7 0 ≡ length o - 8 → body_read o k ≡ reads n o
whole n o k h e l c =
    sym (cond-true _ _ _ (sym h) ∙ ap (event_read n o) (sym e) ∙ cond-true _ _ _ l ∙ cond-true _ _ _ (eq-eqb (get_or o 7 0) (length o - 8) c))
