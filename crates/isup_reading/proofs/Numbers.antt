-- Called numbers by their places. Assumes nothing.
use Rattle.std.proofs.Common.{◌≡◌, ℕ, ◌-◌, ◌%◌, ◌≤◌, leb, List, [], ◌∷◌, length, get_or, take, drop, Some, Ok, Err, Option, Result, sym, refl, ap, ◌∙◌, subst, arith}
use Rattle.std.proofs.lemmas.List.{take_rest}
use Rattle.std.specs.Result.{result_ok}
use Rattle.values.specs.Numbers.{type_of_nature}
use Rattle.digits.specs.Dialling.{characters, held_by}
use Rattle.digits.specs.Signals.{unpacked}
use Rattle.digits.specs.declared.types.DigitFault.{DigitFault}
use Rattle.digits.specs.declared.number.Digits.{Digits}
use Rattle.values.specs.declared.types.NumberType.{NumberType}
use Rattle.isup_meaning.specs.Reading.{numbered, number_in}

by_place : (xs : List ℕ) → 2 ≤ length xs → numbered (type_of_nature (get_or xs 0 0 % 128)) (unpacked (leb 128 (get_or xs 0 0)) (drop 2 xs)) ≡ number_in xs
by_place [] h = absurd (omega arith)
by_place (a ∷ []) h = absurd (omega arith)
by_place (a ∷ b ∷ s) h = refl

by_rest : (xs : List ℕ) → 2 ≤ length xs → numbered (type_of_nature (get_or xs 0 0 % 128)) (unpacked (leb 128 (get_or xs 0 0)) (take (length xs - 2) (drop 2 xs))) ≡ number_in xs
by_rest xs h = ap (λ l. numbered (type_of_nature (get_or xs 0 0 % 128)) (unpacked (leb 128 (get_or xs 0 0)) l)) (take_rest xs 2) ∙ by_place xs h

pub number_there : (xs : List ℕ) (t : NumberType) (r : Result Digits DigitFault) (d : Digits) → 2 ≤ length xs → Some t ≡ type_of_nature (get_or xs 0 0 % 128) →
    held_by r ≡ unpacked (leb 128 (get_or xs 0 0)) (take (length xs - 2) (drop 2 xs)) → Some d ≡ result_ok r → Some (t, characters d) ≡ number_in xs
number_there xs t (Err f) d h e p q = absurd (cc)
number_there xs t (Ok x) d h e p q =
    let i : d ≡ x = cc in
    let back : Some (t, characters x) ≡ number_in xs = (λ k. numbered (e k) (p k)) ∙ by_rest xs h in
    subst (λ y. Some (t, characters y) ≡ number_in xs) (sym i) back

pub number_by_place : (xs : List ℕ) (t : Option NumberType) (r : Result (List ℕ) DigitFault) → 2 ≤ length xs →
    t ≡ type_of_nature (get_or xs 0 0 % 128) → r ≡ unpacked (leb 128 (get_or xs 0 0)) (take (length xs - 2) (drop 2 xs)) → numbered t r ≡ number_in xs
number_by_place xs t r h e f =
    (λ i. numbered (e i) (f i)) ∙ by_rest xs h
