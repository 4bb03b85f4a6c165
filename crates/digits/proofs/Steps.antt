-- The steps of reading a dialled number, and that a number reads as itself.
-- Rests on specs/Dialling.
use Rattle.std.proofs.Common.{◌≡◌, ℕ, zero, suc, ◌+◌, ◌<◌, ◌≤◌, Bool, true, false, cond, eqb, ltb, not, ◌≢◌, List, [], ◌∷◌, ◌++◌, length, get_or, take, drop, set, replicate, Some, None, Ok, Err, Option, Result, sym, refl, ap, ◌∙◌, arith, below_more}
use Rattle.std.proofs.lemmas.Grind.{common_steps}
use Rattle.std.specs.List.{position_from}
use Rattle.std.proofs.lemmas.List.{at_drop_more, take_more_set, take_more, get_or-set_same, get_or-set_other}
use Rattle.std.proofs.lemmas.Bool.Decides.{nat_tests}
use Rattle.digits.specs.declared.types.DigitFault.{DigitFault}
use Rattle.digits.specs.declared.types.DigitFault.TheVariants.{NoDigits, TooMany, NotADigit}
use Rattle.digits.specs.declared.number.Digits.{Digits}
use Rattle.digits.specs.Dialling.{digit_char, stray_from, dialled, Number, characters}

-- the first stray character is the first that fails the digit test
pub stray_is : (p : ℕ) (cs : List ℕ) → position_from (λ c. not (digit_char c)) p cs ≡ stray_from p cs
stray_is p [] = refl
stray_is p (c ∷ cs) = let more = stray_is (p + 1) cs in grind (arith, nat_tests)

abbrev pub Digit : ℕ → Type 0
Digit c = (48 ≤ c) × (c ≤ 57)

-- a text whose characters are all digits has no stray one
pub none_stray : (p : ℕ) (d : List ℕ) → ((k : ℕ) → k < length d → Digit (get_or d k 0)) → stray_from p d ≡ None
none_stray p [] each = refl
none_stray p (c ∷ cs) each =
    let d = each 0 (omega arith) in
    let more = none_stray (p + 1) cs (λ k h. each (suc k) (omega arith)) in
    grind (arith, nat_tests)

-- a number reads as itself
pub reads_itself : (d : List ℕ) → Number d → dialled d ≡ Ok d
reads_itself d n = let none = none_stray 0 d n.2 in grind (arith, nat_tests)

-- the characters of a text with no stray one are digits
pub all_digits : (p : ℕ) (text : List ℕ) → stray_from p text ≡ None → (k : ℕ) → k < length text → Digit (get_or text k 0)
all_digits p [] e k h = absurd (omega arith)
all_digits p (c ∷ cs) e zero h = grind (arith, nat_tests)
all_digits p (c ∷ cs) e (suc k) h = let more = all_digits (p + 1) cs in grind (arith, nat_tests)

-- the characters of a value are a number
pub number_of : (d : Digits) → Number (characters d)
number_of d = (grind (arith, common_steps), grind (arith, common_steps), λ k h. grind (arith, common_steps))

pub length_characters : (d : Digits) → length (characters d) ≡ d.count
length_characters d = grind (arith, common_steps)

-- a text in front, and zeros after it
pub held_digits : (text front back : List ℕ) → front ≡ text → stray_from 0 text ≡ None → (k : ℕ) → k < length text → Digit (get_or (front ++ back) k 0)
held_digits text front back e none k h = let d = all_digits 0 text none k h in grind (arith, common_steps)

pub held_padding : (text front : List ℕ) (m : ℕ) → front ≡ text → length text ≤ m → (k : ℕ) → length text ≤ k → get_or (front ++ drop (length text) (replicate m 0)) k 0 ≡ 0
held_padding text front m e fits k h = grind (arith, common_steps)

-- the steps of reading a text place by place

-- the verdict of a text of fit length, by its first stray character
abbrev verdict : List ℕ → Option ℕ → Result (List ℕ) DigitFault
verdict text None = Ok text
verdict text (Some k) = Err (NotADigit k)

pub fit : (text : List ℕ) → 1 ≤ length text → length text ≤ 20 → (o : Option ℕ) → stray_from 0 text ≡ o → dialled text ≡ verdict text o
fit text low high o e =
    let a : eqb (length text) 0 ≡ false = grind (arith, nat_tests) in
    let b : ltb 20 (length text) ≡ false = grind (arith, nat_tests) in
    ap (λ v. cond v (Err NoDigits) (cond (ltb 20 (length text)) (Err TooMany) (verdict text (stray_from 0 text)))) a
    ∙ ap (λ v. cond v (Err TooMany) (verdict text (stray_from 0 text))) b
    ∙ ap (verdict text) e

module _ (text : List ℕ) (k : ℕ) (here : k < length text) where
  pub stray_at : (b : Bool) → b ≡ digit_char (get_or text k 0) → stray_from k (drop k text) ≡ cond b (stray_from (k + 1) (drop (k + 1) text)) (Some k)
  stray_at b e = at_drop_more (stray_from k) text k 0 here ∙ ap (λ v. cond v (stray_from (k + 1) (drop (k + 1) text)) (Some k)) (sym e)

  pub copied : (octets : List ℕ) → k < length octets → take k octets ≡ take k text → take (k + 1) (set octets k (get_or text k 0)) ≡ take (k + 1) text
  copied octets room same =
      take_more_set octets k (get_or text k 0) room ∙ ap (λ l. l ++ (get_or text k 0 ∷ [])) same ∙ sym (take_more text k 0 here)

-- what a digit test tells
pub told : (c : ℕ) → digit_char c ≡ true → (48 ≤ c) × (c ≤ 57)
told c e = grind (arith, nat_tests)

pub digit_from : (c : ℕ) → (48 ≤ c) × (c ≤ 57) → digit_char c ≡ true
digit_from c h = grind (arith, nat_tests)

pub more_digits : (octets : List ℕ) (k v : ℕ) → k < length octets → Digit v → ((j : ℕ) → j < k → Digit (get_or octets j 0))
    → (j : ℕ) → j < k + 1 → Digit (get_or (set octets k v) j 0)
more_digits octets k v room d below =
    below_more (λ j. Digit (get_or (set octets k v) j 0)) k
    (λ j h. let ne : j ≢ k = omega arith in rw get_or-set_other (below j h))
    (rw get_or-set_same d)

-- what stands past a place that is written is as it was
pub still_padded : (octets : List ℕ) (k v : ℕ) → ((j : ℕ) → k ≤ j → get_or octets j 0 ≡ 0) → (j : ℕ) → k + 1 ≤ j → get_or (set octets k v) j 0 ≡ 0
still_padded octets k v past j h = let ne : j ≢ k = omega arith in rw get_or-set_other (past j (omega arith))
