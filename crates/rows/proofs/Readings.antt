-- What a side's laws say of a message once it is read. Assumes nothing.
use Rattle.std.proofs.Common.{◌≡◌, ℕ, ◌<◌, ◌≤◌, List, Ok, Err, Result, refl, subst, subst₂, arith}
use Rattle.side.specs.declared.kinds.Kind.{Kind}
use Rattle.side.specs.declared.kinds.Refusal.{Refusal}
use Rattle.side.specs.Signals.{Contents, Heard}
use Rattle.side.specs.Meaning.{Within, reason_number}
use Rattle.rows.specs.Sides.{Side, unread, heard, reading_of, reading}

not_both : (n p l t : ℕ) (k : Kind) (c : Contents) → unread n p ≡ heard l t k c → ⊥
not_both n p l t k c e = let z : ◌≡◌ {A = ℕ} 0 1 = cc in omega arith

module _ (A : Side) (o : List ℕ) where
  pub read_leg : (l t : ℕ) (k : Kind) (c : Contents) → reading A o ≡ heard l t k c → l < A.legs
  read_leg l t k c e = go (A.reads o) refl e
    where
      go : (r : Result Heard Refusal) → A.reads o ≡ r → reading_of r ≡ heard l t k c → l < A.legs
      go (Ok h) f i = let q : h.leg ≡ l = cc in subst (λ (n : ℕ). n < A.legs) q (A.read_leg o h f)
      go (Err x) f i = absurd (not_both (reason_number x.reason) x.place l t k c i)

  pub read_within : (l t : ℕ) (k : Kind) (c : Contents) → reading A o ≡ heard l t k c → Within k c
  read_within l t k c e = go (A.reads o) refl e
    where
      go : (r : Result Heard Refusal) → A.reads o ≡ r → reading_of r ≡ heard l t k c → Within k c
      go (Ok h) f i = let q : h.kind ≡ k = cc in let u : h.contents ≡ c = cc in subst₂ Within q u (A.read_within o h f)
      go (Err x) f i = absurd (not_both (reason_number x.reason) x.place l t k c i)

  pub unread_number : (n p : ℕ) → reading A o ≡ unread n p → (2 ≤ n) × (n ≤ 6)
  unread_number n p e = go (A.reads o) refl e
    where
      go : (r : Result Heard Refusal) → A.reads o ≡ r → reading_of r ≡ unread n p → (2 ≤ n) × (n ≤ 6)
      go (Ok h) f i = absurd (let z : ◌≡◌ {A = ℕ} 0 1 = cc in omega arith)
      go (Err x) f i = let q : reason_number x.reason ≡ n = cc in subst (λ (n : ℕ). (2 ≤ n) × (n ≤ 6)) q (A.read_refuses o x f)
