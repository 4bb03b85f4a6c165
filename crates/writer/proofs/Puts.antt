-- Steps of writing: one after another, into a part of the buffer, and a head put before what stands already. Assumes nothing.
use Rattle.std.proofs.Common.{◌≡◌, ℕ, ◌+◌, ◌-◌, ◌<◌, ◌≤◌, List, [], ◌∷◌, ◌++◌, length, take, drop, set, sym, refl, ap, ◌∙◌, subst, append_assoc, append-nil, arith, length-append, length-drop, length-set}
use Rattle.std.proofs.Math.Seq.{take-add, take-append-add, drop-append-add}
use borrow.Rule.Slice.PartMut.{put_mid}
use Rattle.std.proofs.lemmas.List.{take_more_set, drop-set-lt, drop-drop, drop_all, take_rest, length-take-le}
use Rattle.std.proofs.lemmas.Slice.{take-put_mid, drop-put_mid}
use Rattle.writer.specs.Written.{element, Adds}

-- one step of writing after another
pub then : {ys zs : List ℕ} {at m m' end : ℕ} {a b c : List ℕ} → Adds ys at a m b → m ≡ m' → Adds zs m' b end c → Adds (ys ++ zs) at a end c
then {ys} {zs} {at} {m} {m'} {end} {a} {b} {c} p e q = record {
  count = omega (arith, p.count, q.count, length-append ys zs);
  front = q.front ∙ ap (λ l. l ++ zs) (ap (λ k. take k b) (sym e) ∙ p.front) ∙ append_assoc (take at a) ys zs;
  rest =
      let j : end ≡ m + length zs = omega (arith, q.count) in
      q.rest ∙ ap (λ k. drop k b) j ∙ sym (drop-drop (length zs) m b) ∙ ap (drop (length zs)) p.rest ∙ drop-drop (length zs) m a ∙ ap (λ k. drop k a) (sym j);
}

pub moved : {ys : List ℕ} {at at' end end' : ℕ} {a b : List ℕ} → at ≡ at' → end ≡ end' → Adds ys at a end b → Adds ys at' a end' b
moved {ys} {at} {at'} {end} {end'} {a} {b} e f p = subst (λ k. Adds ys k a end' b) e (subst (λ k. Adds ys at a k b) f p)

-- a part that is copied in
pub copied : (buf xs ys : List ℕ) (at end : ℕ) → end ≡ at + length xs → end ≤ length buf → ys ≡ xs → Adds xs at buf end (put_mid at (end - at) buf ys)
copied buf xs ys at end e room same = record {
  count = e;
  front = take-put_mid at (end - at) buf ys end (omega (arith, ap length same)) (omega arith) ∙ ap (λ l. take at buf ++ l) same;
  rest = drop-put_mid at (end - at) buf ys end (omega arith) (omega arith) (omega (arith, ap length same));
}

-- two octets written in place
pub two : (buf : List ℕ) (at t n : ℕ) → at + 2 ≤ length buf → Adds (t ∷ n ∷ []) at buf (at + 2) (set (set buf at t) (at + 1) n)
two buf at t n room = record {
  count = omega arith;
  front =
      let a : at + 1 < length (set buf at t) = simp length-set (omega arith) in
      let e : at + 2 ≡ at + 1 + 1 = omega arith in
      ap (λ k. take k (set (set buf at t) (at + 1) n)) e
      ∙ take_more_set (set buf at t) (at + 1) n a
      ∙ ap (λ l. l ++ (n ∷ [])) (take_more_set buf at t (omega arith))
      ∙ append_assoc (take at buf) (t ∷ []) (n ∷ []);
  rest = drop-set-lt (at + 2) (set buf at t) (at + 1) n (omega arith) ∙ drop-set-lt (at + 2) buf at t (omega arith);
}

-- a head of two octets before contents that are copied in
pub whole : (buf xs ys : List ℕ) (at t : ℕ) → at + (2 + length xs) ≤ length buf → ys ≡ xs →
    Adds (element t xs) at buf (at + 2 + length xs) (put_mid (at + 2) (at + 2 + length xs - (at + 2)) (set (set buf at t) (at + 1) (length xs)) ys)
whole buf xs ys at t room same =
    then (two buf at t (length xs) (omega arith)) refl
    (copied (set (set buf at t) (at + 1) (length xs)) xs ys (at + 2) (at + 2 + length xs) refl (simp length-set (omega arith)) same)

-- a head of two octets before n octets that stand already
pub headed : (buf : List ℕ) (at t n : ℕ) → at + (2 + n) ≤ length buf →
    Adds (element t (take n (drop (at + 2) buf))) at buf (at + 2 + n) (set (set buf at t) (at + 1) n)
headed buf at t n room =
    let b : List ℕ = set (set buf at t) (at + 1) n in
    let k : length (take n (drop (at + 2) buf)) ≡ n = length-take-le n (drop (at + 2) buf) (simp length-drop (omega arith)) in
    let p = two buf at t n (omega arith) in
    let stays : Adds (take n (drop (at + 2) buf)) (at + 2) b (at + 2 + n) b = record {
      count = omega arith;
      front = take-add (at + 2) n b ∙ ap (λ l. take (at + 2) b ++ take n l) p.rest;
      rest = refl;
    } in
    subst (λ m. Adds (t ∷ m ∷ take n (drop (at + 2) buf)) at buf (at + 2 + n) b) (sym k) (then p refl stays)

-- what is written into the part of a buffer that starts at k, seen from the whole
pub inside : (k : ℕ) (buf out ys : List ℕ) (r : ℕ) → k ≤ length buf → length out ≡ length buf - k → Adds ys 0 (take (length buf - k) (drop k buf)) r out → Adds ys k buf (k + r) (put_mid k (length buf - k) buf out)
inside k buf out ys r h same p =
    let joined : put_mid k (length buf - k) buf out ≡ take k buf ++ out =
    ap (λ l. take k buf ++ (out ++ l)) (drop_all (length buf - k) (drop k buf) (simp length-drop (omega arith))) ∙ ap (λ l. take k buf ++ l) (append-nil out) in
    let n : length (take k buf) ≡ k = length-take-le k buf h in
    let e : k + r ≡ length (take k buf) + r = omega arith in
    record {
      count = omega (arith, p.count);
      front = ap (take (k + r)) joined ∙ ap (λ m. take m (take k buf ++ out)) e ∙ take-append-add (take k buf) out r ∙ ap (λ l. take k buf ++ l) p.front;
      rest = ap (drop (k + r)) joined ∙ ap (λ m. drop m (take k buf ++ out)) e ∙ drop-append-add (take k buf) out r ∙ p.rest ∙ ap (drop r) (take_rest buf k) ∙ drop-drop r k buf;
    }

-- nothing is added
pub none : (at : ℕ) (buf : List ℕ) → Adds [] at buf at buf
none at buf = record { count = omega arith; front = sym (append-nil (take at buf)); rest = refl }
