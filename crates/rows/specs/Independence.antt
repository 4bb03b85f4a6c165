-- Independence: what happens on some legs is settled by the members that name one of them.
-- Rests on the model of the exchange; a row is taken from a brand new one.
use Rattle.std.specs.Prelude.{◌≡◌, ℕ, Bool, true, false, cond, not, ◌&&◌, List, [], ◌∷◌, ◌++◌, length, nat_lt}
use mathlib.Core.List.{Memᴰ}
use Rattle.rows.specs.declared.kinds.Which.{Which}
use Rattle.rows.specs.Legs.{other, Leg, leg, select, any}
use Rattle.rows.specs.Sides.{Side, Reading, unread, heard, reading}
use Rattle.rows.specs.Exchange.{State, fresh, Member, hear, cut, Outcome, roomy, is_setup, next, out, run}

abbrev pub read_names : Side → Which → ℕ → Reading → List Leg
read_names B w r (unread n p) = []
read_names B w r (heard l type k c) = leg w l ∷ cond (is_setup k && nat_lt r B.legs) (leg (other w) r ∷ []) []

module _ (M : Which → Side) where
  -- a hearing names its leg and a setup's route, a cut its leg, where they exist; a hearing refused 1 to 6 none
  abbrev pub names : Member → List Leg
  names (hear w o r a b) = cond (roomy a b) (read_names (M (other w)) w r (reading (M w) o)) []
  names (cut w l v a b) = cond (nat_lt l (M w).legs) (leg w l ∷ []) []

  -- it names a leg of the set
  abbrev pub touches : (Leg → Bool) → Member → Bool
  touches L m = any L (names m)

  -- it names legs both in and out of the set
  abbrev pub straddles : (Leg → Bool) → Member → Bool
  straddles L m = any L (names m) && any (λ x. not (L x)) (names m)

  -- no member of the row does
  abbrev pub Apart : (Leg → Bool) → List Member → Type 0
  Apart L row = (m : Member) → Memᴰ m row → straddles L m ≡ false

  -- the members of a row that name a leg of the set, and what came out of those
  abbrev pub shared : (Leg → Bool) → List Member → List Member
  shared L row = select (touches L) row

  abbrev pub outcomes : (Leg → Bool) → State → List Member → List Outcome
  outcomes L s [] = []
  outcomes L s (m ∷ r) = cond (touches L m) (out M s m ∷ outcomes L (next M s m) r) (outcomes L (next M s m) r)

  -- two rows that share every member naming a leg of the set: each shared member has the same outcome in both,
  -- and after equally many of them each leg of the set has the same phase and partner
  abbrev pub Independence : Type 0
  Independence = (L : Leg → Bool) (row row' : List Member) → Apart L row → Apart L row' → shared L row ≡ shared L row' →
      (outcomes L fresh row ≡ outcomes L fresh row') ×
      ((p q p' q' : List Member) → p ++ q ≡ row → p' ++ q' ≡ row' → length (shared L p) ≡ length (shared L p') → (x : Leg) → L x ≡ true →
      ((run M fresh p x).phase ≡ (run M fresh p' x).phase) × ((run M fresh p x).partner ≡ (run M fresh p' x).partner))
