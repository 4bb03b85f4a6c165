-- What a dialled number is: 1 to 20 digits, and what is said of a text that is none.
-- Rests on nothing but lists and numbers; the types are those of the source.
use Rattle.std.specs.Prelude.{ℕ, ◌+◌, ◌<◌, ◌≤◌, Bool, cond, ◌&&◌, List, [], ◌∷◌, length, take, Some, None, Ok, Err, Option, Result, ◌==◌, nat_le, nat_lt, slice_index}
use Rattle.digits.specs.declared.types.DigitFault.{DigitFault}
use Rattle.digits.specs.declared.types.DigitFault.TheVariants.{NoDigits, TooMany, NotADigit}
use Rattle.digits.specs.declared.number.Digits.{Digits}

-- a character that is a digit, 0 to 9
abbrev pub digit_char : ℕ → Bool
digit_char c = nat_le 48 c && nat_le c 57

-- the place of the first character that is no digit, where the first character stands at place p
abbrev pub stray_from : ℕ → List ℕ → Option ℕ
stray_from p [] = None
stray_from p (c ∷ cs) = cond (digit_char c) (stray_from (p + 1) cs) (Some p)

-- the digits of a text, or what is wrong with it
abbrev pub dialled : List ℕ → Result (List ℕ) DigitFault
dialled text =
    cond (length text == 0) (Err NoDigits)
    (cond (nat_lt 20 (length text)) (Err TooMany) (elim (stray_from 0 text) [ None ↦ Ok text | Some k ↦ Err (NotADigit k) ]))

-- a text that is a dialled number
abbrev pub Number : List ℕ → Type 0
Number d = (1 ≤ length d) × (length d ≤ 20) × ((k : ℕ) → k < length d → (48 ≤ slice_index d k) × (slice_index d k ≤ 57))

-- the characters that a value holds
abbrev pub characters : Digits → List ℕ
characters d = take d.count d.octets

-- an answer with the characters in place of the value that holds them
abbrev pub held_by : Result Digits DigitFault → Result (List ℕ) DigitFault
held_by (Ok d) = Ok (characters d)
held_by (Err e) = Err e
