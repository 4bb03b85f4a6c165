-- A text of digits is the number that it dials. Assumes nothing.
use Rattle.std.proofs.Common.{◌≡◌, ℕ, Bool, false, cond, eqb, ltb, List, length, Some, None, Ok, Err, Option, subst, arith}
use Rattle.std.proofs.lemmas.Bool.{ltb-false, eqb-false}
use Rattle.digits.specs.declared.types.DigitFault.TheVariants.{NoDigits, TooMany, NotADigit}
use Rattle.digits.specs.Dialling.{stray_from, dialled, Number}
use Rattle.digits.proofs.Steps.{all_digits}

-- a text that dials a number is one
pub text_of_number : (text d : List ℕ) → dialled text ≡ Ok d → Number d
text_of_number text d e =
    let f = only (eqb (length text) 0) (ltb 20 (length text)) (stray_from 0 text) text d e in
    let z = eqb-false (length text) 0 f.1 in
    subst Number f.0 (omega arith, ltb-false 20 (length text) f.2, all_digits 0 text f.3)
  where
    only : (a b : Bool) (o : Option ℕ) (text d : List ℕ) → cond a (Err NoDigits) (cond b (Err TooMany) (elim o [ None ↦ Ok text | Some k ↦ Err (NotADigit k) ])) ≡ Ok d → (text ≡ d) × (a ≡ false) × (b ≡ false) × (o ≡ None)
    only a b o text d h = (grind arith, grind arith, grind arith, grind arith)
