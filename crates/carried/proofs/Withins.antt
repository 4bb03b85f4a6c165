-- Contents within the limits of their kind, and the refusals that a reading may give. Assumes nothing.
use Rattle.std.proofs.Common.{◌≡◌, ℕ, ◌%◌, ◌<◌, ◌≤◌, Bool, true, false, cond, leb, List, [], ◌∷◌, length, is_some, Some, None, Ok, Err, Option, Result, sym, refl, subst, arith, lit≤}
use Rattle.values.specs.declared.types.NumberType.{NumberType}
use Rattle.values.specs.Causes.{cause_in}
use Rattle.digits.specs.declared.types.DigitFault.{DigitFault}
use Rattle.digits.specs.Dialling.{Number}
use Rattle.side.specs.declared.kinds.Kind.{Kind}
use Rattle.side.specs.declared.kinds.Kind.TheVariants.{Setup, Progress, Quiet, Clear}
use Rattle.side.specs.declared.kinds.Refusal.{Refusal}
use Rattle.side.specs.Signals.{Contents, empty}
use Rattle.side.specs.Meaning.{Within, PartsWithin, bears, reason_number}
use Rattle.side.proofs.Limited as limited
use Rattle.carried.specs.Carried.{progress_octets, cause_octets}
use Rattle.carried.specs.Messages.{numbered}
use Rattle.carried.proofs.Served.{Served}

-- no parts are within the limits
pub no_parts : PartsWithin []
no_parts = limited.none_within

-- contents of which nothing is asked but their parts
pub plain : (k : Kind) (c : Contents) → PartsWithin c.parts → (bears k ≡ false → c.parts ≡ []) → (k ≡ Setup → ⊥) → (k ≡ Progress → ⊥) → (k ≡ Clear → ⊥) → Within k c
plain = limited.plain

pub quiet_within : Within Quiet empty
quiet_within = plain Quiet empty no_parts (λ _. refl) (λ z. grind arith) (λ z. grind arith) (λ z. grind arith)

-- a setup's bearer is served, and its number dials
pub setup_fits : (c : Contents) → PartsWithin c.parts → Served c.bearer → (t : NumberType) × ((d : List ℕ) × (c.number ≡ Some (t, d)) × Number d) → Within Setup c
setup_fits c p b n = record {
  parts = p;
  bare = λ z. absurd (grind arith);
  bearer = λ _. (b.0, b.1);
  number = λ _. n;
  noted = λ z. absurd (grind arith);
  cause = λ z. absurd (grind arith);
}

-- progress has an indicator and no parts
pub progress_fits : (c : Contents) (p : ℕ × ℕ) → c.parts ≡ [] → c.progress ≡ Some p → Within Progress c
progress_fits c p bare noted = record {
  parts = subst PartsWithin (sym bare) no_parts;
  bare = λ _. bare;
  bearer = λ z. absurd (grind arith);
  number = λ z. absurd (grind arith);
  noted = λ _. (p.0, (p.1, noted));
  cause = λ z. absurd (grind arith);
}

-- the end of a call has a cause
pub clear_fits : (c : Contents) (x : ℕ × ℕ) → PartsWithin c.parts → c.cause ≡ Some x → (x.0 < 16) × (x.1 < 128) → Within Clear c
clear_fits c x p is range = record {
  parts = p;
  bare = λ z. absurd (grind arith);
  bearer = λ z. absurd (grind arith);
  number = λ z. absurd (grind arith);
  noted = λ z. absurd (grind arith);
  cause = λ _. (x.0, (x.1, is, range.0, range.1));
}

-- a cause as it is read has a location below 16 and a value below 128
pub cause_in_range : (o : List ℕ) (c : ℕ × ℕ) → cause_in o ≡ Some c → (c.0 < 16) × (c.1 < 128)
cause_in_range [] c e = absurd (grind arith)
cause_in_range (a ∷ []) c e = absurd (grind arith)
cause_in_range (a ∷ b ∷ rest) c e = by rest (leb 128 a) e
  where
    is : (v : ℕ) → Some (a % 16, v % 128) ≡ Some c → (c.0 < 16) × (c.1 < 128)
    is v h = let i : (a % 16, v % 128) ≡ c = grind arith in subst (λ x. (x.0 < 16) × (x.1 < 128)) i (omega arith, omega arith)

    by : (rest : List ℕ) (x : Bool) → (elim rest [ [] ↦ cond x (Some (a % 16, b % 128)) None | d ∷ ds ↦ cond x (Some (a % 16, b % 128)) (Some (a % 16, d % 128)) ]) ≡ Some c → (c.0 < 16) × (c.1 < 128)
    by [] true h = is b h
    by [] false h = absurd (grind arith)
    by (d ∷ ds) true h = is b h
    by (d ∷ ds) false h = is d h

-- a number that is one has a type and digits
pub numbered_is : (t : Option NumberType) (r : Result (List ℕ) DigitFault) → is_some (numbered t r) ≡ true → (k : NumberType) × ((d : List ℕ) × (numbered t r ≡ Some (k, d)) × (r ≡ Ok d))
numbered_is None r e = absurd (grind arith)
numbered_is (Some t) (Err f) e = absurd (grind arith)
numbered_is (Some t) (Ok d) e = (t, (d, refl, refl))

-- progress and a cause take at most two octets
pub progress_short : (p : Option (ℕ × ℕ)) → length (progress_octets p) ≤ 2
progress_short None = lit≤ tt
progress_short (Some p) = lit≤ tt

pub cause_short : (p : Option (ℕ × ℕ)) → length (cause_octets p) ≤ 2
cause_short None = lit≤ tt
cause_short (Some p) = lit≤ tt

-- the refusals that a reading may give
abbrev pub Between : Refusal → Type 0
Between e = (2 ≤ reason_number e.reason) × (reason_number e.reason ≤ 6)

pub between_is : (r e : Refusal) → r ≡ e → Between r → Between e
between_is r e z h = subst Between z h
