-- Address signals: four bits each, packed two to an octet, the first of a pair in the low half.
-- Rests on Dialling for what the signals of a number have to be.
use Rattle.std.specs.Prelude.{◌≡◌, ℕ, ◌+◌, ◌-◌, ◌*◌, ◌/◌, ◌%◌, ◌<◌, Bool, cond, List, [], ◌∷◌, ◌++◌, map, length, take, drop, Ok, Err, Result, ◌==◌, nat_lt, slice_index}
use Rattle.digits.specs.declared.types.DigitFault.{DigitFault}
use Rattle.digits.specs.declared.types.PackFault.{PackFault}
use Rattle.digits.specs.declared.types.PackFault.TheVariants.{NoRoom}
use Rattle.digits.specs.Dialling.{dialled}

-- the signal of each digit character, and the digit character of each signal
abbrev pub signals : List ℕ → List ℕ
signals = map (λ c. c - 48)

abbrev pub digits_of : List ℕ → List ℕ
digits_of = map (λ s. s + 48)

-- the signals of a number, with the end signal F after them
abbrev pub ended : List ℕ → List ℕ
ended d = signals d ++ (15 ∷ [])

-- two signals to an octet, the first in the low half; a half that is left over is 0
abbrev pub packed : List ℕ → List ℕ
packed [] = []
packed (s ∷ []) = s ∷ []
packed (s ∷ t ∷ rest) = (s + 16 * t) ∷ packed rest

-- how many octets so many digits take, with the end signal
abbrev pub octets_for : ℕ → ℕ
octets_for n = n / 2 + 1

-- whether a count is odd
abbrev pub odd_count : ℕ → Bool
odd_count n = n % 2 == 1

-- the halves of octets, the low one of each first
abbrev pub halves : List ℕ → List ℕ
halves [] = []
halves (b ∷ bs) = b % 16 ∷ b / 16 ∷ halves bs

-- one half of octets by its place, with no list of halves in between
abbrev pub half_at : List ℕ → ℕ → ℕ
half_at octets k = cond (k % 2 == 0) (slice_index octets (k / 2) % 16) (slice_index octets (k / 2) / 16)

-- one signal of a number by its place: a digit's, then the end signal, then the spare 0
abbrev pub signal_at : ℕ → List ℕ → ℕ → ℕ
signal_at count octets k = cond (nat_lt k count) (slice_index octets k - 48) (cond (k == count) 15 0)

-- all but the last
abbrev pub but_last : List ℕ → List ℕ
but_last xs = take (length xs - 1) xs

-- the signals in octets: where their count is odd, the last half is spare
abbrev pub signals_in : Bool → List ℕ → List ℕ
signals_in odd octets = cond odd (but_last (halves octets)) (halves octets)

-- signals with one end signal left off, if it is the last
abbrev pub without_end : List ℕ → List ℕ
without_end ss = cond (slice_index ss (length ss - 1) == 15) (but_last ss) ss

-- the digits in packed octets, or what is wrong with them; a signal above 9 gives a character past the digits
abbrev pub unpacked : Bool → List ℕ → Result (List ℕ) DigitFault
unpacked odd octets = dialled (digits_of (without_end (signals_in odd octets)))

-- what packing leaves: the octets in front and the rest as it was, or nothing changed where there is no room
abbrev pub Written : List ℕ → List ℕ → Result ℕ PackFault → List ℕ → Type 0
Written octets before (Ok n) after = (n ≡ length octets) × (take n after ≡ octets) × (drop n after ≡ drop n before)
Written octets before (Err NoRoom) after = (length before < length octets) × (after ≡ before)

-- signals that fit their half octet
abbrev pub Halves : List ℕ → Type 0
Halves [] = Unit {0}
Halves (s ∷ rest) = (s < 16) × Halves rest

-- the law: signals come back from the octets that they are packed into
abbrev pub PackingIsUndone : Type 0
PackingIsUndone = (ss : List ℕ) → Halves ss → signals_in (odd_count (length ss)) (packed ss) ≡ ss
