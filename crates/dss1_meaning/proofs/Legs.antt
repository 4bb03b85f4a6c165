-- What a reference names: the reference written to a leg names it at the user's end. Assumes nothing.
use Rattle.std.proofs.Common.{◌≡◌, ℕ, ◌+◌, ◌-◌, ◌%◌, ◌<◌, ◌≤◌, Bool, true, false, cond, not, ◌&&◌, ltb, leb, sym, refl, ap, ◌∙◌, arith}
use Rattle.std.proofs.lemmas.Bool.{ltb-true, ltb-false, leb-true, lt-ltb, le-ltb, le-leb, lt-leb, and_parts, and_from, and_left, and_right, not_from_true, not_from_false, cond-true, cond-false, cond_both}
use Rattle.dss1_meaning.specs.declared.types.MessageType.{MessageType}
use Rattle.dss1_meaning.specs.declared.types.MessageType.TheVariants as type
use Rattle.dss1_meaning.specs.Dss1.{exchange, user, flagged, leg_of, begins, named, reference_to, callable, ReferencesNameLegs}

-- a reference of value 1 to 32 whose flag suits the type names a leg
user_leg : (r : ℕ) → r % 128 ≤ 32 → leg_of user r < 64
user_leg r h = cond_both (flagged r) (r % 128 - 1) (r % 128 + 31) (λ x. x < 64) (λ _. omega arith) (λ _. omega arith)

pub names : (t : MessageType) (r : ℕ) → 1 ≤ r % 128 → r % 128 ≤ 32 → (begins t && flagged r) ≡ false → named user 64 t r ≡ true
names t r low high f =
    and_from (leb 1 (r % 128)) (leb (r % 128) 32 && (ltb (leg_of user r) 64 && not (begins t && flagged r))) (le-leb 1 (r % 128) low)
    (and_from (leb (r % 128) 32) (ltb (leg_of user r) 64 && not (begins t && flagged r)) (le-leb (r % 128) 32 high)
    (and_from (ltb (leg_of user r) 64) (not (begins t && flagged r)) (lt-ltb (leg_of user r) 64 (user_leg r high))
    (not_from_false (begins t && flagged r) f)))

-- and the one that is written to a leg has such a value
valued : (l : ℕ) → (1 ≤ reference_to l % 128) × (reference_to l % 128 ≤ 32)
valued l = cond_both (ltb (l % 64) 32) (l % 64 + 129) (l % 64 - 31) (λ x. (1 ≤ x % 128) × (x % 128 ≤ 32))
    (λ e. let h = ltb-true (l % 64) 32 e in (omega arith, omega arith))
    (λ e. let h = ltb-false (l % 64) 32 e in (omega arith, omega arith))

pub named_in_call : (t : MessageType) (l : ℕ) → begins t ≡ false → named user 64 t (reference_to l) ≡ true
named_in_call t l e = names t (reference_to l) (valued l).0 (valued l).1 (and_left (begins t) (flagged (reference_to l)) e)

low_legs : (l : ℕ) → l < 32 → reference_to l ≡ l + 129
low_legs l h = cond-true (ltb (l % 64) 32) (l % 64 + 129) (l % 64 - 31) (lt-ltb (l % 64) 32 (omega arith)) ∙ omega arith

high_legs : (l : ℕ) → 32 ≤ l → l < 64 → reference_to l ≡ l - 31
high_legs l h k = cond-false (ltb (l % 64) 32) (l % 64 + 129) (l % 64 - 31) (le-ltb (l % 64) 32 (omega arith)) ∙ omega arith

low_flag : (l : ℕ) → l < 32 → flagged (reference_to l) ≡ true
low_flag l h = ap flagged (low_legs l h) ∙ le-leb 128 (l + 129) (omega arith)

high_flag : (l : ℕ) → 32 ≤ l → l < 64 → flagged (reference_to l) ≡ false
high_flag l h k = ap flagged (high_legs l h k) ∙ lt-leb 128 (l - 31) (omega arith)

pub named_to_begin : (l : ℕ) → callable l ≡ true → named user 64 type.Setup (reference_to l) ≡ true
named_to_begin l e =
    let p = and_parts (leb 32 l) (ltb l 64) e in
    names type.Setup (reference_to l) (valued l).0 (valued l).1
    (and_right (begins type.Setup) (flagged (reference_to l)) (high_flag l (leb-true 32 l p.0) (ltb-true l 64 p.1)))

-- at the user's end the reference written to a leg names it
user_reads : (l : ℕ) → l < 64 → leg_of user (reference_to l) ≡ l
user_reads l h = at (ltb l 32) refl
  where
    at : (b : Bool) → ltb l 32 ≡ b → leg_of user (reference_to l) ≡ l
    at true e =
        let k = ltb-true l 32 e in
        cond-true (flagged (reference_to l)) (reference_to l % 128 - 1) (reference_to l % 128 + 31) (low_flag l k) ∙ ap (λ r. r % 128 - 1) (low_legs l k) ∙ omega arith
    at false e =
        let k = ltb-false l 32 e in
        cond-false (flagged (reference_to l)) (reference_to l % 128 - 1) (reference_to l % 128 + 31) (high_flag l k h) ∙ ap (λ r. r % 128 + 31) (high_legs l k h) ∙ omega arith

-- and what comes from the leg has the other flag
flags : (l r : ℕ) → l < 64 → leg_of exchange r ≡ l → 1 ≤ r % 128 → r % 128 ≤ 32 → flagged r ≡ not (flagged (reference_to l))
flags l r h e low high = at (flagged r) e
  where
    at : (b : Bool) → cond b (r % 128 + 31) (r % 128 - 1) ≡ l → b ≡ not (flagged (reference_to l))
    at true z = sym (not_from_false (flagged (reference_to l)) (high_flag l (omega arith) h))
    at false z = sym (not_from_true (flagged (reference_to l)) (low_flag l (omega arith)))

pub references_name_legs : ReferencesNameLegs
references_name_legs l h = (user_reads l h, from)
  where
    from : (r : ℕ) → r < 256 → leg_of exchange r ≡ l → named exchange 64 type.Alerting r ≡ true → flagged r ≡ not (flagged (reference_to l))
    from r k e n =
        let p = and_parts (leb 1 (r % 128)) (leb (r % 128) 32 && (ltb (leg_of exchange r) 64 && not (begins type.Alerting && flagged r))) n in
        let q = and_parts (leb (r % 128) 32) (ltb (leg_of exchange r) 64 && not (begins type.Alerting && flagged r)) p.1 in
        flags l r h e (leb-true 1 (r % 128) p.0) (leb-true (r % 128) 32 q.0)
