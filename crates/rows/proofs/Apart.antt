-- What happens on the legs of a set is settled by the members that name one of them. Assumes nothing of the two sides.
use Rattle.std.proofs.Common.{◌≡◌, ℕ, Bool, true, false, cond, not, ◌&&◌, ltb, leb, List, [], ◌∷◌, ◌++◌, Some, None, Option, sym, refl, ap, ◌∙◌, subst, ap₂, arith}
use mathlib.Core.List.Memᴰ
use mathlib.Core.List.{Memᴰ}
use Rattle.rows.specs.declared.kinds.Which.{Which}
use Rattle.rows.specs.Legs.{other, Leg, leg, across, any}
use Rattle.rows.specs.Sides.{Side, Reading, unread, heard, reading}
use Rattle.rows.specs.Exchange.{LegState, State, fresh, Member, hear, cut, Outcome, Request, hearing, cutting, Asked, declined, requests, Effect, Peer, roomy, hear_asked, cut_asked, is_setup, second_leg, peer, effect, after, outcome_of, reply_of, onward_of, asked, second_of, effect_of, asked_state, asked_outcome, next, out, run}
use Rattle.rows.specs.Independence.{read_names, names, touches, straddles, shared, outcomes, Apart, Independence}
use Rattle.rows.proofs.Basics.{none_some, other_other, same_eq, select_append, front_eq}

-- the two states agree on the set; partners are both in the set or both out of it
abbrev Agree : (Leg → Bool) → State → State → Type 0
Agree L s t = (z : Leg) → L z ≡ true → s z ≡ t z

abbrev Closed : (Leg → Bool) → State → Type 0
Closed L s = (z : Leg) (n : ℕ) → (s z).partner ≡ Some n → L (across z n) ≡ L z

-- the second leg, if there is one, is in the set exactly if the first is
abbrev Beside : (Leg → Bool) → Which → ℕ → Option ℕ → Type 0
Beside L w l o = (y : ℕ) → o ≡ Some y → L (leg (other w) y) ≡ L (leg w l)

-- the route that a request names
abbrev routes : Side → Which → Request → List Leg
routes B w (hearing type k c r) = cond (is_setup k && ltb r B.legs) (leg (other w) r ∷ []) []
routes B w (cutting v) = []

module _ (L : Leg → Bool) where
  after_agree : (s t : State) (w : Which) (l : ℕ) (o : Option ℕ) (e : Effect) → Agree L s t → L (leg w l) ≡ true → Beside L w l o →
      Agree L (after s w l o e) (after t w l o e)
  after_agree s t w l o e h hx b z hz = grind arith

  after_out : (s : State) (w : Which) (l : ℕ) (o : Option ℕ) (e : Effect) → L (leg w l) ≡ false → Beside L w l o →
      Agree L (after s w l o e) s
  after_out s w l o e hx b z hz = grind (arith, same_eq)

  after_closed : (s : State) (w : Which) (l : ℕ) (o : Option ℕ) (e : Effect) → Closed L s → Beside L w l o → Closed L (after s w l o e)
  after_closed s w l o e h b z n i = grind (arith, same_eq, other_other)

  -- a member that names legs on one side of the set only
  module _ (M : Which → Side) where
    abbrev Covers : Asked → List Leg → Type 0
    Covers (declined n p) ns = Unit {0}
    Covers (requests w l d) ns = ns ≡ leg w l ∷ routes (M (other w)) w d

    covers : (m : Member) → Covers (asked M m) (names M m)
    covers (hear w o r a b) = go (roomy a b) (reading (M w) o)
      where
        go : (t : Bool) (g : Reading) → Covers (hear_asked t w r g) (cond t (read_names (M (other w)) w r g) [])
        go false g = tt
        go true (unread n p) = tt
        go true (heard l type k c) = refl
    covers (cut w l v a b) = go (roomy a b) (leb v 127) (ltb l (M w).legs)
      where
        go : (t u e : Bool) → Covers (cut_asked t u e w l v) (cond e (leg w l ∷ []) [])
        go false u e = tt
        go true false e = tt
        go true true false = tt
        go true true true = refl

    beside : (s : State) (w : Which) (l : ℕ) (d : Request) → Closed L s →
        (any L (leg w l ∷ routes (M (other w)) w d) && any (λ z. not (L z)) (leg w l ∷ routes (M (other w)) w d)) ≡ false →
        Beside L w l (second_of M s w l d)
    beside s w l d h e y i = grind (arith, h (leg w l) y)

    -- its leg is in the set exactly if it names one in the set
    first_in : (x : Leg) (ys : List Leg) (b : Bool) → (any L (x ∷ ys) && any (λ z. not (L z)) (x ∷ ys)) ≡ false → any L (x ∷ ys) ≡ b → L x ≡ b
    first_in x ys b e f = grind arith

    abbrev Sided : List Leg → Type 0
    Sided ns = (any L ns && any (λ z. not (L z)) ns) ≡ false

    asked_beside : (s : State) (w : Which) (l : ℕ) (d : Request) (ns : List Leg) → Covers (requests w l d) ns → Closed L s → Sided ns → Beside L w l (second_of M s w l d)
    asked_beside s w l d ns c h e = beside s w l d h (rw c at e)

    asked_in : (w : Which) (l : ℕ) (d : Request) (ns : List Leg) (b : Bool) → Covers (requests w l d) ns → Sided ns → any L ns ≡ b → L (leg w l) ≡ b
    asked_in w l d ns b c e f = first_in (leg w l) (routes (M (other w)) w d) b (rw c at e) (rw c at f)

    asked_closed : (s : State) (k : Asked) (ns : List Leg) → Covers k ns → Closed L s → Sided ns → Closed L (asked_state M s k)
    asked_closed s (declined n p) ns c h e = h
    asked_closed s (requests w l d) ns c h e = after_closed s w l _ _ h (asked_beside s w l d ns c h e)

    asked_out : (s : State) (k : Asked) (ns : List Leg) → Covers k ns → Closed L s → Sided ns → any L ns ≡ false → Agree L (asked_state M s k) s
    asked_out s (declined n p) ns c h e f z hz = refl
    asked_out s (requests w l d) ns c h e f z hz = after_out s w l _ _ (asked_in w l d ns false c e f) (asked_beside s w l d ns c h e) z hz

    -- in agreeing states a member that names a leg of the set does the same
    second_same : (s t : State) (w : Which) (l : ℕ) (d : Request) → Agree L s t → L (leg w l) ≡ true → second_of M s w l d ≡ second_of M t w l d
    second_same s t w l d h hx = ap (λ (v : LegState). second_leg (M (other w)) d v.partner) (h (leg w l) hx)

    peer_same : (s t : State) (w : Which) (l : ℕ) (o : Option ℕ) → Agree L s t → L (leg w l) ≡ true → Beside L w l o → peer s (leg w l) o ≡ peer t (leg w l) o
    peer_same s t w l None h hx b = refl
    peer_same s t w l (Some y) h hx b =
        let f : LegState → Option Peer = λ v. Some (record { number = y; at = v }) in ap f (h (leg (other w) y) (b y refl ∙ hx))

    effect_same : (s t : State) (w : Which) (l : ℕ) (d : Request) → Agree L s t → L (leg w l) ≡ true → Beside L w l (second_of M s w l d) →
        effect_of M s w l d ≡ effect_of M t w l d
    effect_same s t w l d h hx b =
        ap₂ (effect (M w) (M (other w)) l d) (h (leg w l) hx)
        (peer_same s t w l (second_of M s w l d) h hx b ∙ ap (peer t (leg w l)) (second_same s t w l d h hx))

    asked_same : (s t : State) (k : Asked) (ns : List Leg) (a b : List ℕ) → Covers k ns → Closed L s → Sided ns → any L ns ≡ true → Agree L s t →
        (asked_outcome M s k a b ≡ asked_outcome M t k a b) × Agree L (asked_state M s k) (asked_state M t k)
    asked_same s t (declined n p) ns a b c h e f g = (refl, g)
    asked_same s t (requests w l d) ns a b c h e f g =
        let hx = asked_in w l d ns true c e f in
        let bs = asked_beside s w l d ns c h e in
        let o = second_same s t w l d g hx in
        let k = effect_same s t w l d g hx bs in (
          ap₂ (λ (o : Option ℕ) (k : Effect). outcome_of l o k a b) o k,
          λ z hz. after_agree s t w l (second_of M s w l d) (effect_of M s w l d) g hx bs z hz
              ∙ ap₂ (λ (o : Option ℕ) (k : Effect). after t w l o k z) o k,
        )

    -- a row, beside the row of its shared members
    abbrev Seen : State → State → List Member → Type 0
    Seen s t r = (outcomes M L s r ≡ outcomes M L t (shared M L r)) × Agree L (run M s r) (run M t (shared M L r))

    sees_step : (m : Member) (r : List Member) (s t : State) → straddles M L m ≡ false → Closed L s → Agree L s t →
        ((t' : State) → Agree L (next M s m) t' → Seen (next M s m) t' r) → Seen s t (m ∷ r)
    sees_step m r s t e h g ih = go (touches M L m) refl
      where
        k : Covers (asked M m) (names M m)
        k = covers m

        go : (b : Bool) → touches M L m ≡ b →
            (cond b (out M s m ∷ outcomes M L (next M s m) r) (outcomes M L (next M s m) r) ≡ outcomes M L t (cond b (m ∷ shared M L r) (shared M L r))) ×
            Agree L (run M (next M s m) r) (run M t (cond b (m ∷ shared M L r) (shared M L r)))
        go true f =
            let d = asked_same s t (asked M m) (names M m) (reply_of m) (onward_of m) k h e f g in
            let i = ih (next M t m) d.1 in
            (rw f (ap₂ (λ (o : Outcome) (os : List Outcome). o ∷ os) d.0 i.0), i.1)
        go false f = ih t (λ z hz. asked_out s (asked M m) (names M m) k h e f z hz ∙ g z hz)

    sees : (row : List Member) (s t : State) → Apart M L row → Closed L s → Agree L s t → Seen s t row
    sees [] s t a h g = (refl, g)
    sees (m ∷ r) s t a h g =
        let e : straddles M L m ≡ false = a m (Memᴰ.head refl) in
        sees_step m r s t e h g
        (λ t' g'. sees r (next M s m) t' (λ n i. a n (Memᴰ.tail i)) (asked_closed s (asked M m) (names M m) (covers m) h e) g')

    fresh_closed : Closed L fresh
    fresh_closed z n e = absurd (none_some e)

    seen : (row : List Member) → Apart M L row → Seen fresh fresh row
    seen row a = sees row fresh fresh a fresh_closed (λ z hz. refl)

    front_apart : (p q row : List Member) → p ++ q ≡ row → Apart M L row → Apart M L p
    front_apart p q row e a m i = a m (subst (Memᴰ m) e (Memᴰ.append_left q i))

-- the theorem
pub independence : (M : Which → Side) → Independence M
independence M L row row' a a' e = (
  (seen L M row a).0 ∙ ap (outcomes M L fresh) e ∙ sym (seen L M row' a').0,
  λ p q p' q' i i' n x hx.
      let fronts : shared M L p ++ shared M L q ≡ shared M L p' ++ shared M L q' =
      sym (select_append (touches M L) p q) ∙ ap (shared M L) i ∙ e ∙ sym (ap (shared M L) i') ∙ select_append (touches M L) p' q' in
      let front : shared M L p ≡ shared M L p' = front_eq (shared M L p) (shared M L q) (shared M L p') (shared M L q') fronts n in
      let whole : run M fresh p x ≡ run M fresh p' x =
      (seen L M p (front_apart L M p q row i a)).1 x hx ∙ ap (λ (r : List Member). run M fresh r x) front
      ∙ sym ((seen L M p' (front_apart L M p' q' row' i' a')).1 x hx) in
      (ap (λ (v : LegState). v.phase) whole, ap (λ (v : LegState). v.partner) whole),
)
