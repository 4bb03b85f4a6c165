-- The steps of packing and unpacking, and that unpacking undoes packing.
-- Rests on specs/Signals and on the steps of reading.
use Rattle.std.proofs.Common.{◌≡◌, ℕ, zero, suc, ◌+◌, ◌-◌, ◌*◌, ◌/◌, ◌%◌, ◌<◌, ◌≤◌, Bool, true, false, cond, eqb, if◌then◌else◌, ◌==◌, List, [], ◌∷◌, ◌++◌, map, length, get_or, take, drop, set, Ok, Err, Result, sym, refl, ap, ◌∙◌, arith}
use Rattle.std.proofs.lemmas.Grind.{common_steps}
use Rattle.std.proofs.lemmas.List.{take_all, take_at, take_more_set, take_more, drop-set-lt, drop-drop, length-take-le, length-map, take-map, ext_get_or, get_or-take, get_or_append_left, get_or_at, get_or_past, get_or-map, append-nil}
use Rattle.std.proofs.lemmas.List.Concat.{flat_map-append}
use Rattle.std.proofs.lemmas.List.Folds.{flat_map-map}
use Rattle.std.specs.List.{flat_map}
use Rattle.std.proofs.lemmas.Bool.Decides.{nat_tests}
use Rattle.digits.specs.declared.types.DigitFault.{DigitFault}
use Rattle.digits.specs.declared.types.DigitFault.TheVariants.{TooMany}
use Rattle.digits.specs.declared.number.Digits.{Digits}
use Rattle.digits.specs.Dialling.{dialled, Number, characters}
use Rattle.digits.specs.Signals.{signals, digits_of, ended, packed, octets_for, odd_count, halves, half_at, signal_at, but_last, signals_in, without_end, unpacked, Halves, PackingIsUndone}
use Rattle.digits.proofs.Steps.{Digit, reads_itself, number_of, length_characters}

-- the halves of octets

pub length_halves : (os : List ℕ) → length (halves os) ≡ 2 * length os
length_halves [] = refl
length_halves (b ∷ bs) = omega (arith, length_halves bs)

low_at : (os : List ℕ) (i : ℕ) → get_or (halves os) (2 * i) 0 ≡ get_or os i 0 % 16
low_at [] i = refl
low_at (b ∷ bs) zero = refl
low_at (b ∷ bs) (suc i) = let e : 2 * suc i ≡ suc (suc (2 * i)) = omega arith in ap (λ n. get_or (halves (b ∷ bs)) n 0) e ∙ low_at bs i

high_at : (os : List ℕ) (i : ℕ) → get_or (halves os) (suc (2 * i)) 0 ≡ get_or os i 0 / 16
high_at [] i = refl
high_at (b ∷ bs) zero = refl
high_at (b ∷ bs) (suc i) = let e : suc (2 * suc i) ≡ suc (suc (suc (2 * i))) = omega arith in ap (λ n. get_or (halves (b ∷ bs)) n 0) e ∙ high_at bs i

-- a half by its place is the one in the list of halves
pub half_at_is : (os : List ℕ) (k : ℕ) → half_at os k ≡ get_or (halves os) k 0
half_at_is os k = by (k % 2 == 0) refl where
  by : (b : Bool) → b ≡ (k % 2 == 0) → (if b then get_or os (k / 2) 0 % 16 else get_or os (k / 2) 0 / 16) ≡ get_or (halves os) k 0
  by true e = let p : 2 * (k / 2) ≡ k = grind (arith, nat_tests) in sym (low_at os (k / 2)) ∙ ap (λ n. get_or (halves os) n 0) p
  by false e = let p : suc (2 * (k / 2)) ≡ k = grind (arith, nat_tests) in sym (high_at os (k / 2)) ∙ ap (λ n. get_or (halves os) n 0) p

-- the high half of two signals in one octet
pub high_of_signals : (s t : ℕ) → s < 16 → (s + 16 * t) / 16 ≡ t
high_of_signals s t h = omega arith

-- what octets are read as: a character for each half

abbrev pub pair_read : ℕ → List ℕ
pair_read b = (b % 16 + 48) ∷ (b / 16 + 48) ∷ []

pairs_read : (os : List ℕ) → flat_map pair_read os ≡ digits_of (halves os)
pairs_read [] = refl
pairs_read (b ∷ bs) = ap (λ l. (b % 16 + 48) ∷ (b / 16 + 48) ∷ l) (pairs_read bs)

-- with other octets behind
pub halves_read : (os front rest : List ℕ) (pairs : List (List ℕ)) → front ≡ os → length pairs ≡ length (front ++ rest)
    → ((i : ℕ) → i < length pairs → get_or pairs i [] ≡ pair_read (get_or (front ++ rest) i 0)) → take (2 * length os) (flat_map (λ x. x) pairs) ≡ digits_of (halves os)
halves_read os front rest pairs e long each =
    let mapped : pairs ≡ map pair_read (front ++ rest) =
    ext_get_or [] pairs (map pair_read (front ++ rest)) (long ∙ sym (length-map (front ++ rest) pair_read))
    (λ i h. each i h ∙ sym (get_or-map pair_read (front ++ rest) i 0 [] (omega (arith, long))))
    in
    ap (λ l. take (2 * length os) (flat_map (λ x. x) l)) mapped
    ∙ ap (take (2 * length os)) (flat_map-map (λ x. x) pair_read (front ++ rest) ∙ flat_map-append pair_read front rest ∙ ap (λ l. flat_map pair_read l ++ flat_map pair_read rest) e)
    ∙ take_at (flat_map pair_read os) (flat_map pair_read rest) (2 * length os) (ap length (pairs_read os) ∙ length-map (halves os) (λ s. s + 48) ∙ length_halves os)
    ∙ pairs_read os

-- the same of pairs filled one by one, so many as there are octets, with other pairs behind
pub halves_filled : (os : List ℕ) (front rest : List (List ℕ)) → length front ≡ length os → take (length os) front ≡ take (length os) (map pair_read os)
    → take (2 * length os) (flat_map (λ x. x) (front ++ rest)) ≡ digits_of (halves os)
halves_filled os front rest long e =
    let filled : front ≡ map pair_read os =
    sym (take_all (length os) front (omega (arith, long))) ∙ e ∙ take_all (length os) (map pair_read os) (omega (arith, length-map os pair_read))
    in
    ap (λ l. take (2 * length os) (flat_map (λ x. x) (l ++ rest))) filled
    ∙ ap (take (2 * length os)) (flat_map-append (λ x. x) (map pair_read os) rest ∙ ap (λ l. l ++ flat_map (λ x. x) rest) (flat_map-map (λ x. x) pair_read os))
    ∙ take_at (flat_map pair_read os) (flat_map (λ x. x) rest) (2 * length os) (ap length (pairs_read os) ∙ length-map (halves os) (λ s. s + 48) ∙ length_halves os)
    ∙ pairs_read os

-- without the spare half
pub used_read : (odd : Bool) (os text : List ℕ) → text ≡ digits_of (halves os) → (if odd then but_last text else text) ≡ digits_of (signals_in odd os)
used_read odd os text e = rw e (grind (arith, common_steps, take-map))

-- without the end signal
pub without_read : (ss text : List ℕ) → text ≡ digits_of ss → (if get_or text (length text - 1) 0 == 63 then but_last text else text) ≡ digits_of (without_end ss)
without_read ss text e = grind (arith, nat_tests, common_steps)

-- more octets than a number takes
pub too_many : (odd : Bool) (os : List ℕ) → 11 < length os → Err TooMany ≡ unpacked odd os
too_many odd os h = let l = length_halves os in grind (arith, nat_tests, common_steps)

-- packed octets by their place

pub length_packed : (ss : List ℕ) → length (packed ss) ≡ (length ss + 1) / 2
length_packed [] = refl
length_packed (s ∷ []) = refl
length_packed (s ∷ t ∷ rest) = omega (arith, length_packed rest)

pub packed_at : (ss : List ℕ) (n : ℕ) → get_or ss (2 * n) 0 + 16 * get_or ss (2 * n + 1) 0 ≡ get_or (packed ss) n 0
packed_at [] n = refl
packed_at (s ∷ []) zero = omega arith
packed_at (s ∷ []) (suc n) =
    let a : 2 * suc n ≡ suc (suc (2 * n)) = omega arith in
    let b : suc (suc (2 * n)) + 1 ≡ suc (suc (2 * n + 1)) = omega arith in
    rw (a, b) refl
packed_at (s ∷ t ∷ rest) zero = refl
packed_at (s ∷ t ∷ rest) (suc n) =
    let a : 2 * suc n ≡ suc (suc (2 * n)) = omega arith in
    let b : suc (suc (2 * n)) + 1 ≡ suc (suc (2 * n + 1)) = omega arith in
    rw (a, b) (packed_at rest n)

pub length_ended : (d : List ℕ) → length (ended d) ≡ length d + 1
length_ended d = grind (arith, common_steps)

pub length_packed_ended : (d : List ℕ) → length (packed (ended d)) ≡ octets_for (length d)
length_packed_ended d = omega (arith, length_packed (ended d), length_ended d)

-- the signals of a number by their place
pub signal_at_is : (d : Digits) (k : ℕ) → signal_at d.count d.octets k ≡ get_or (ended (characters d)) k 0
signal_at_is d k = let e = length_characters d in grind (arith, nat_tests, common_steps)

-- packing is undone

odd_two : (n : ℕ) → odd_count (suc (suc n)) ≡ odd_count n
odd_two n = let e : suc (suc n) % 2 ≡ n % 2 = omega arith in ap (λ x. x == 1) e

-- the halves of packed signals: those, and after an odd count a spare 0
halves_packed : (ss : List ℕ) → Halves ss → halves (packed ss) ≡ ss ++ (if odd_count (length ss) then 0 ∷ [] else [])
halves_packed [] h = refl
halves_packed (s ∷ []) h =
    let a : s % 16 ≡ s = omega (arith, h.0) in
    let b : s / 16 ≡ 0 = omega (arith, h.0) in
    cc
halves_packed (s ∷ t ∷ rest) h =
    let a : (s + 16 * t) % 16 ≡ s = omega (arith, h.0) in
    let b : (s + 16 * t) / 16 ≡ t = omega (arith, h.0) in
    let two = odd_two (length rest) in
    let more = halves_packed rest h.1.1 in
    cc

but_last_push : (xs : List ℕ) (y : ℕ) → but_last (xs ++ (y ∷ [])) ≡ xs
but_last_push xs y = grind (arith, common_steps)

pub undone : PackingIsUndone
undone ss h = by (odd_count (length ss)) (halves_packed ss h) where
  by : (b : Bool) → halves (packed ss) ≡ ss ++ (if b then 0 ∷ [] else []) → signals_in b (packed ss) ≡ ss
  by true e = ap but_last e ∙ but_last_push ss 0
  by false e = e ∙ append-nil ss

ended_fits : (d : List ℕ) → ((k : ℕ) → k < length d → Digit (get_or d k 0)) → Halves (ended d)
ended_fits [] each = (omega arith, tt)
ended_fits (c ∷ cs) each = let h = each 0 (omega arith) in (omega arith, ended_fits cs (λ k h. each (suc k) (omega arith)))

digits_back : (d : List ℕ) → ((k : ℕ) → k < length d → Digit (get_or d k 0)) → digits_of (signals d) ≡ d
digits_back [] each = refl
digits_back (c ∷ cs) each =
    let h = each 0 (omega arith) in
    let more = digits_back cs (λ k l. each (suc k) (omega arith)) in
    grind arith

without_ended : (ss : List ℕ) → without_end (ss ++ (15 ∷ [])) ≡ ss
without_ended ss = grind (arith, nat_tests, common_steps)

-- a number comes back from the octets that it is packed into
pub number_back : (d : List ℕ) → Number d → unpacked (odd_count (length d + 1)) (packed (ended d)) ≡ Ok d
number_back d n =
    ap (λ k. unpacked (odd_count k) (packed (ended d))) (sym (length_ended d))
    ∙ ap (λ l. dialled (digits_of (without_end l))) (undone (ended d) (ended_fits d n.2))
    ∙ ap (λ l. dialled (digits_of l)) (without_ended (signals d))
    ∙ ap dialled (digits_back d n.2)
    ∙ reads_itself d n

-- the read-back from what unpacking answers
pub undoes_by : (r : Result (List ℕ) DigitFault) (odd : Bool) (os : List ℕ) → r ≡ unpacked odd os
    → (d : List ℕ) → Number d → os ≡ packed (ended d) → odd ≡ odd_count (length d + 1) → r ≡ Ok d
undoes_by r odd os reads d n e o = reads ∙ ap (λ b. unpacked b os) o ∙ ap (unpacked (odd_count (length d + 1))) e ∙ number_back d n

-- halves and signals by their place

pub even_half : (os : List ℕ) (k : ℕ) → k % 2 ≡ 0 → get_or os (k / 2) 0 % 16 ≡ get_or (halves os) k 0
even_half os k h = let e : 2 * (k / 2) ≡ k = omega arith in sym (low_at os (k / 2)) ∙ ap (λ n. get_or (halves os) n 0) e

pub odd_half : (os : List ℕ) (k : ℕ) → (k % 2 ≡ 0 → ⊥) → get_or os (k / 2) 0 / 16 ≡ get_or (halves os) k 0
odd_half os k h = let e : suc (2 * (k / 2)) ≡ k = omega arith in sym (high_at os (k / 2)) ∙ ap (λ n. get_or (halves os) n 0) e

pub digit_signal : (d : List ℕ) (k : ℕ) → k < length d → get_or d k 0 - 48 ≡ get_or (ended d) k 0
digit_signal d k h =
    let l : k < length (signals d) = omega (arith, length-map d (λ c. c - 48)) in
    sym (get_or_append_left (signals d) (15 ∷ []) 0 k l ∙ get_or-map (λ c. c - 48) d k 0 0 h)

pub end_signal : (d : List ℕ) (k : ℕ) → k ≡ length d → 15 ≡ get_or (ended d) k 0
end_signal d k e = sym (get_or_at (signals d) 15 [] 0 k (length-map d (λ c. c - 48) ∙ sym e))

pub spare_signal : (d : List ℕ) (k : ℕ) → length d < k → 0 ≡ get_or (ended d) k 0
spare_signal d k h = sym (get_or_past (ended d) k 0 (omega (arith, length_ended d)))

-- a step of a loop that copies the front of a list

pub copied_on : (all out : List ℕ) (n v : ℕ) → n < length all → n < length out → v ≡ get_or all n 0 → take n out ≡ take n all → take (n + 1) (set out n v) ≡ take (n + 1) all
copied_on all out n v h room e same =
    take_more_set out n v room ∙ ap (λ l. l ++ (v ∷ [])) same ∙ ap (λ x. take n all ++ (x ∷ [])) e ∙ sym (take_more all n 0 h)

pub left_on : (out start : List ℕ) (n v : ℕ) → drop n out ≡ drop n start → drop (n + 1) (set out n v) ≡ drop (n + 1) start
left_on out start n v same = drop-set-lt (n + 1) out n v (omega arith) ∙ sym (drop-drop 1 n out) ∙ ap (drop 1) same ∙ drop-drop 1 n start

-- what octets hold

pub length_signals_in : (odd : Bool) (os : List ℕ) → length (signals_in odd os) ≡ cond odd (2 * length os - 1) (2 * length os)
length_signals_in true os = length-take-le (length (halves os) - 1) (halves os) (omega arith) ∙ ap (λ n. n - 1) (length_halves os)
length_signals_in false os = length_halves os

pub signal_in : (odd : Bool) (os : List ℕ) (k : ℕ) → k < length (signals_in odd os) → get_or (signals_in odd os) k 0 ≡ get_or (halves os) k 0
signal_in true os k h =
    let l : k < length (halves os) - 1 = omega (arith, length-take-le (length (halves os) - 1) (halves os) (omega arith)) in get_or-take (length (halves os) - 1) (halves os) k 0 l
signal_in false os k h = refl

length_but_last : (xs : List ℕ) → length (but_last xs) ≡ length xs - 1
length_but_last xs = length-take-le (length xs - 1) xs (omega arith)

pub length_without : (ss : List ℕ) (b : Bool) → b ≡ eqb (get_or ss (length ss - 1) 0) 15 → length (without_end ss) ≡ cond b (length ss - 1) (length ss)
length_without ss b e = sym (ap (λ v. length (cond v (but_last ss) ss)) e) ∙ elim b as (λ v. length (cond v (but_last ss) ss) ≡ cond v (length ss - 1) (length ss)) [ true ↦ length_but_last ss | false ↦ refl ]

pub without_least : (ss : List ℕ) → length ss - 1 ≤ length (without_end ss)
without_least ss = let e = length_without ss (eqb (get_or ss (length ss - 1) 0) 15) refl in grind (arith, nat_tests)

pub without_most : (ss : List ℕ) → length (without_end ss) ≤ length ss
without_most ss = let e = length_without ss (eqb (get_or ss (length ss - 1) 0) 15) refl in grind (arith, nat_tests)

-- the count of signals, by the last of them
pub counted : (odd : Bool) (os : List ℕ) (count h : ℕ) (b : Bool) → count ≡ length (signals_in odd os) → 1 ≤ count → h ≡ get_or (halves os) (count - 1) 0 → b ≡ eqb h 15
    → cond b (count - 1) count ≡ length (without_end (signals_in odd os))
counted odd os count h b e low is t =
    let l : length (signals_in odd os) - 1 < length (signals_in odd os) = omega arith in
    let same : h ≡ get_or (signals_in odd os) (length (signals_in odd os) - 1) 0 = is ∙ ap (λ n. get_or (halves os) (n - 1) 0) e ∙ sym (signal_in odd os (length (signals_in odd os) - 1) l) in
    ap (λ n. cond b (n - 1) n) e ∙ sym (length_without (signals_in odd os) b (t ∙ ap (λ x. eqb x 15) same))

without_at : (ss : List ℕ) (k : ℕ) → k < length (without_end ss) → get_or (without_end ss) k 0 ≡ get_or ss k 0
without_at ss k h =
    elim (eqb (get_or ss (length ss - 1) 0) 15) as (λ v. k < length (cond v (but_last ss) ss) → get_or (cond v (but_last ss) ss) k 0 ≡ get_or ss k 0) [
      | true ↦ λ l. let m : k < length ss - 1 = omega (arith, length_but_last ss) in get_or-take (length ss - 1) ss k 0 m
      | false ↦ λ l. refl
    ] h

pub digit_at : (odd : Bool) (os : List ℕ) (k s : ℕ) → k < length (without_end (signals_in odd os)) → s ≡ get_or (halves os) k 0 → s + 48 ≡ get_or (digits_of (without_end (signals_in odd os))) k 0
digit_at odd os k s h e =
    let l : k < length (signals_in odd os) = omega (arith, without_most (signals_in odd os)) in
    ap (λ x. x + 48) (e ∙ sym (signal_in odd os k l) ∙ sym (without_at (signals_in odd os) k h)) ∙ sym (get_or-map (λ x. x + 48) (without_end (signals_in odd os)) k 0 0 h)

-- what a value holds comes back from the octets that it is packed into
pub digits_come_back : (d : Digits) → unpacked (odd_count (length (characters d) + 1)) (packed (ended (characters d))) ≡ Ok (characters d)
digits_come_back d = number_back (characters d) (number_of d)

-- no octets hold no signals
pub none_in : (odd : Bool) (os : List ℕ) → true ≡ eqb (length os) 0 → 0 ≡ length (without_end (signals_in odd os))
none_in odd [] e = elim odd as (λ b. 0 ≡ length (without_end (signals_in b []))) [ true ↦ refl | false ↦ refl ]
none_in odd (b ∷ bs) e = let z : ◌≡◌ {A = ℕ} 0 1 = grind (arith, nat_tests) in omega arith

-- the end of the packing loop
pub all_packed : (all out start : List ℕ) (n m : ℕ) → n ≡ length all → n ≤ m → m ≤ n → take m out ≡ take m all → drop m out ≡ drop m start
    → (n ≡ length all) × (take n out ≡ all) × (drop n out ≡ drop n start)
all_packed all out start n m e low high front rest =
    let same : n ≡ m = omega arith in (
      e,
      ap (λ k. take k out) same ∙ front ∙ take_all m all (omega arith),
      ap (λ k. drop k out) same ∙ rest ∙ ap (λ k. drop k start) (sym same),
    )

-- the end of the unpacking loop: what was written is what is read
pub all_unpacked : (odd : Bool) (os text : List ℕ) (count k : ℕ) → count ≡ length (without_end (signals_in odd os)) → count ≤ k → k ≤ count
    → take k text ≡ take k (digits_of (without_end (signals_in odd os))) → dialled (take count text) ≡ unpacked odd os
all_unpacked odd os text count k e low high same =
    let eq : count ≡ k = omega arith in
    let long : length (digits_of (without_end (signals_in odd os))) ≤ k = omega (arith, length-map (without_end (signals_in odd os)) (λ s. s + 48)) in
    ap dialled (ap (λ n. take n text) eq ∙ same ∙ take_all k (digits_of (without_end (signals_in odd os))) long)
