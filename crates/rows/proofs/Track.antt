-- The state and the calls that stand by the history go together. Assumes a sound state.
use Rattle.std.proofs.Common.{◌≡◌, ℕ, ◌+◌, Bool, true, false, cond, not, ◌⊎◌, List, [], ◌∷◌, ◌++◌, Some, None, Option, sym, refl, ap, ◌∙◌, subst, ap₂, subst₂, inl, inr, true≢false, arith}
use mathlib.Core.List.Memᴰ
use mathlib.Core.List.{Memᴰ}
use lib.Dec.{eqb_refl}
use Rattle.std.proofs.lemmas.Bool.{and_parts, eq-eqb, eqb-true}
use Rattle.side.specs.declared.kinds.Kind.{Kind}
use Rattle.side.specs.declared.kinds.Kind.TheVariants.{Setup, Clear}
use Rattle.side.specs.declared.kinds.Phase.{Phase}
use Rattle.side.specs.Signals.{Contents}
use Rattle.rows.specs.declared.kinds.Which.{Which}
use Rattle.rows.specs.declared.kinds.Which.TheVariants.{First, Second}
use Rattle.rows.specs.Legs.{other, Leg, leg, same_leg, select}
use Rattle.rows.specs.Sides.{Side, Reading, heard, reading}
use Rattle.rows.specs.Exchange.{LegState, State, fresh, update, Member, hear, cut, Outcome, stay, Effect, refuses, does, is_setup, Way, joining, silent, passing, parting, way, has_user_user, both_way, bonded, after, refusal, outcome_of, reply_of, onward_of, next, out, run}
use Rattle.rows.specs.Calls.{Call, call, leg_on, has, Event, cut_off, plain, kind_event, read_event, accepted, standing, event, events}
use Rattle.rows.specs.Accounting.{is_clear, partnered}
use Rattle.rows.proofs.Basics.{some_inj, none_some, other_other, same_eq, same_refl}
use Rattle.rows.proofs.Table.{silent_is, parting_is, joining_is, passing_not_clear}
use Rattle.rows.proofs.Steps.{View, turned, lone, begun, linked, severed, view}
use Rattle.rows.proofs.Sound.{Sound, two_or_other, S, at_x, at_y, at_z, idle_single, back_partner, next_sound, fresh_sound}
use Rattle.rows.proofs.Counts.{count, count_append, count_none, count_select, mem_select, select_all, noted, all_noted, standing_is}

-- the end of a call on a side
abbrev pub end_of : Call → Which → Leg
end_of d w = leg w (leg_on w d)

abbrev pub which_of : Leg → Which
which_of (leg w l) = w

pub has_end : (z : Leg) (d : Call) → has z d ≡ true → z ≡ end_of d (which_of z)
has_end (leg w l) d e = ap (leg w) (eqb-true l (leg_on w d) e)

pub has_its_end : (d : Call) (w : Which) → has (end_of d w) d ≡ true
has_its_end d w = eq-eqb (leg_on w d) (leg_on w d) refl

pub which_cases : (w v : Which) → (v ≡ w) ⊎ (v ≡ other w)
which_cases First First = inl refl
which_cases First Second = inr refl
which_cases Second First = inr refl
which_cases Second Second = inl refl

pub record Joins (s : State) (d : Call) : Type 0 where
  pub partnered_with : (w : Which) → (s (end_of d w)).partner ≡ Some (leg_on (other w) d)
  pub noted_user : (w : Which) → (s (end_of d w)).user_user ≡ has_user_user d.setup

pub record Track (s : State) (cs : List Call) : Type 0 where
  pub joins : (d : Call) → Memᴰ d cs → Joins s d
  pub counts : (z : Leg) → count (has z) cs ≡ partnered (s z).partner

pub fresh_track : Track fresh []
fresh_track = record { joins = λ d m. elim m [ ]; counts = λ z. refl }

-- a call whose leg has a partner y ends there
pub far_end : (s : State) (d : Call) (w : Which) (l y : ℕ) → Joins s d → has (leg w l) d ≡ true → (s (leg w l)).partner ≡ Some y → leg_on (other w) d ≡ y
far_end s d w l y j h e = some_inj (sym (j.partnered_with w) ∙ ap (λ (z : Leg). (s z).partner) (sym (has_end (leg w l) d h)) ∙ e)

-- nothing but phases moved
track_same : (s t : State) (cs : List Call) → ((z : Leg) → (t z).partner ≡ (s z).partner) → ((z : Leg) → (t z).user_user ≡ (s z).user_user) → Track s cs → Track t cs
track_same s t cs f g k = record {
  joins = λ d m. record { partnered_with = λ w. f (end_of d w) ∙ (k.joins d m).partnered_with w; noted_user = λ w. g (end_of d w) ∙ (k.joins d m).noted_user w };
  counts = λ z. k.counts z ∙ ap partnered (sym (f z));
}

-- a call without these legs is as it was
module _ (M : Which → Side) (s : State) (w : Which) (l y : ℕ) (v u : LegState) where
  kept : (d : Call) → Joins s d → same_leg (end_of d First) (leg w l) ≡ false → same_leg (end_of d First) (leg (other w) y) ≡ false →
      same_leg (end_of d Second) (leg w l) ≡ false → same_leg (end_of d Second) (leg (other w) y) ≡ false → Joins (S M s w l y v u) d
  kept d j a b c e = record { partnered_with = partnered_with; noted_user = noted_user }
    where
      partnered_with : (w' : Which) → (S M s w l y v u (end_of d w')).partner ≡ Some (leg_on (other w') d)
      partnered_with First = ap (λ (p : LegState). p.partner) (at_z M s w l y v u (end_of d First) a b) ∙ j.partnered_with First
      partnered_with Second = ap (λ (p : LegState). p.partner) (at_z M s w l y v u (end_of d Second) c e) ∙ j.partnered_with Second

      noted_user : (w' : Which) → (S M s w l y v u (end_of d w')).user_user ≡ has_user_user d.setup
      noted_user First = ap (λ (p : LegState). p.user_user) (at_z M s w l y v u (end_of d First) a b) ∙ j.noted_user First
      noted_user Second = ap (λ (p : LegState). p.user_user) (at_z M s w l y v u (end_of d Second) c e) ∙ j.noted_user Second

  apart_from : (z q : Leg) → (z ≡ q → ⊥) → same_leg z q ≡ false
  apart_from z q f = go (same_leg z q) refl
    where
      go : (b : Bool) → same_leg z q ≡ b → b ≡ false
      go true e = absurd (f (same_eq z q e))
      go false e = refl

  -- two legs without partners join
  module _ (c : Contents) (hx : (s (leg w l)).partner ≡ None) (hy : (s (leg (other w) y)).partner ≡ None)
      (vm : v.partner ≡ Some y) (um : u.partner ≡ Some l) (vu : v.user_user ≡ has_user_user c) (user_user : u.user_user ≡ has_user_user c) where
    abbrev D : Call
    D = call w l y c

    single : (d : Call) (w' : Which) (z : Leg) → Joins s d → (s z).partner ≡ None → end_of d w' ≡ z → ⊥
    single d w' z j h e = none_some (sym h ∙ ap (λ (q : Leg). (s q).partner) (sym e) ∙ j.partnered_with w')

    D-joins : Joins (S M s w l y v u) D
    D-joins = record { partnered_with = λ w'. grind (arith, same_refl, other_other); noted_user = λ w'. grind (arith, same_refl, other_other) }

    D-has-x : has (leg w l) D ≡ true
    D-has-x = grind (arith, eqb_refl)

    D-has-y : has (leg (other w) y) D ≡ true
    D-has-y = grind (arith, eqb_refl)

    D-has-not : (z : Leg) → same_leg z (leg w l) ≡ false → same_leg z (leg (other w) y) ≡ false → has z D ≡ false
    D-has-not z i j = grind arith

    track_join : (cs : List Call) → Track s cs → Track (S M s w l y v u) (cs ++ (D ∷ []))
    track_join cs k = record { joins = joins; counts = counts }
      where
        old : (d : Call) → Memᴰ d cs → Joins (S M s w l y v u) d
        old d m = let j = k.joins d m in
            kept d j (apart_from _ _ (single d First (leg w l) j hx)) (apart_from _ _ (single d First (leg (other w) y) j hy))
            (apart_from _ _ (single d Second (leg w l) j hx)) (apart_from _ _ (single d Second (leg (other w) y) j hy))

        joins : (d : Call) → Memᴰ d (cs ++ (D ∷ [])) → Joins (S M s w l y v u) d
        joins d m =
            elim (Memᴰ.append_cases cs m) [
              | inl i ↦ old d i
              | inr i ↦ subst (Joins (S M s w l y v u)) (sym (Memᴰ.eq_of_singleton i)) D-joins
            ]

        one_more : (z : Leg) (b : Bool) (p : Option ℕ) → has z D ≡ b → partnered (s z).partner + (cond b 1 0 + 0) ≡ partnered p → count (has z) (cs ++ (D ∷ [])) ≡ partnered p
        one_more z b p e f =
            let a = count_append (has z) cs (D ∷ []) in
            let i = k.counts z in
            let g : count (has z) (D ∷ []) ≡ cond b 1 0 + 0 = ap (λ (b : Bool). cond b 1 0 + 0) e in
            omega arith

        counts : (z : Leg) → count (has z) (cs ++ (D ∷ [])) ≡ partnered (S M s w l y v u z).partner
        counts z =
            elim (two_or_other (leg w l) (leg (other w) y) z) [
              | inl e ↦ one_more z true _ (ap (λ (q : Leg). has q D) e ∙ D-has-y)
                  (ap (λ (q : Leg). partnered (s q).partner + 1) e ∙ ap (λ (o : Option ℕ). partnered o + 1) hy
                  ∙ ap partnered (sym (ap (λ (q : Leg). (S M s w l y v u q).partner) e ∙ ap (λ (p : LegState). p.partner) (at_y M s w l y v u) ∙ um)))
              | inr (inl e) ↦ one_more z true _ (ap (λ (q : Leg). has q D) e ∙ D-has-x)
                  (ap (λ (q : Leg). partnered (s q).partner + 1) e ∙ ap (λ (o : Option ℕ). partnered o + 1) hx
                  ∙ ap partnered (sym (ap (λ (q : Leg). (S M s w l y v u q).partner) e ∙ ap (λ (p : LegState). p.partner) (at_x M s w l y v u) ∙ vm)))
              | inr (inr e) ↦ one_more z false _ (D-has-not z e.0 e.1)
                  (let a : S M s w l y v u z ≡ s z = at_z M s w l y v u z e.0 e.1 in
                  let b : partnered (S M s w l y v u z).partner ≡ partnered (s z).partner = ap (λ (p : LegState). partnered p.partner) a in
                  omega arith)
            ]

  -- two partners part
  module _ (hx : (s (leg w l)).partner ≡ Some y) (hy : (s (leg (other w) y)).partner ≡ Some l) (vm : v.partner ≡ None) (um : u.partner ≡ None) where
    off : (d : Call) (w' : Which) (z : Leg) → end_of d w' ≡ z → has z d ≡ false → ⊥
    off d w' z e f = true≢false (sym (has_its_end d w') ∙ ap (λ (q : Leg). has q d) e ∙ f)

    not_false : (b : Bool) → not b ≡ true → b ≡ false
    not_false b e = grind arith

    other_false : (d : Call) → Joins s d → has (leg w l) d ≡ false → has (leg (other w) y) d ≡ false
    other_false d j f = grind (arith, j.partnered_with (other w), other_other)

    -- a call with a third leg has neither
    third : (d : Call) (z : Leg) → Joins s d → same_leg z (leg w l) ≡ false → same_leg z (leg (other w) y) ≡ false → has z d ≡ true → not (has (leg w l) d) ≡ true
    third d z j a b h = grind (arith, j.partnered_with w)

    track_part : (cs : List Call) → Track s cs → Track (S M s w l y v u) (select (λ d. not (has (leg w l) d)) cs)
    track_part cs k = record { joins = joins; counts = counts }
      where
        joins : (d : Call) → Memᴰ d (select (λ d. not (has (leg w l) d)) cs) → Joins (S M s w l y v u) d
        joins d m =
            let r = mem_select (λ d. not (has (leg w l) d)) cs d m in
            let j = k.joins d r.0 in
            let a : has (leg w l) d ≡ false = not_false (has (leg w l) d) r.1 in
            let b = other_false d j a in
            kept d j (apart_from _ _ (λ e. off d First (leg w l) e a)) (apart_from _ _ (λ e. off d First (leg (other w) y) e b))
            (apart_from _ _ (λ e. off d Second (leg w l) e a)) (apart_from _ _ (λ e. off d Second (leg (other w) y) e b))

        gone : (z : Leg) → (z ≡ leg (other w) y) ⊎ (z ≡ leg w l) → count (has z) (select (λ d. not (has (leg w l) d)) cs) ≡ 0
        gone z e = count_none (has z) _ (λ d m.
            let r = mem_select (λ d. not (has (leg w l) d)) cs d m in
            let a : has (leg w l) d ≡ false = not_false (has (leg w l) d) r.1 in
            elim e [ inl i ↦ ap (λ (q : Leg). has q d) i ∙ other_false d (k.joins d r.0) a | inr i ↦ ap (λ (q : Leg). has q d) i ∙ a ])

        counts : (z : Leg) → count (has z) (select (λ d. not (has (leg w l) d)) cs) ≡ partnered (S M s w l y v u z).partner
        counts z =
            elim (two_or_other (leg w l) (leg (other w) y) z) [
              | inl e ↦ gone z (inl e) ∙ ap partnered (sym (ap (λ (q : Leg). (S M s w l y v u q).partner) e ∙ ap (λ (p : LegState). p.partner) (at_y M s w l y v u) ∙ um))
              | inr (inl e) ↦ gone z (inr e) ∙ ap partnered (sym (ap (λ (q : Leg). (S M s w l y v u q).partner) e ∙ ap (λ (p : LegState). p.partner) (at_x M s w l y v u) ∙ vm))
              | inr (inr e) ↦ count_select (has z) (λ d. not (has (leg w l) d)) cs (λ d m h. third d z (k.joins d m) e.0 e.1 h) ∙ k.counts z
                  ∙ ap (λ (p : LegState). partnered p.partner) (sym (at_z M s w l y v u z e.0 e.1))
            ]

-- what a member was
pub clear_is : (k : Kind) → is_clear k ≡ true → k ≡ Clear
clear_is k e = grind arith

pub kind_plain : (k : Kind) (w : Which) (l r : ℕ) (c : Contents) → is_setup k ≡ false → is_clear k ≡ false → kind_event k w l r c ≡ plain
kind_plain k w l r c u e = grind arith

pub event_refused : (M : Which → Side) (m : Member) (n p : ℕ) (u : Outcome) → u ≡ refusal n p (reply_of m) (onward_of m) → event M m u ≡ plain
event_refused M (hear w o r a b) n p u e = ap (λ (u : Outcome). accepted u.answer (read_event w r (reading (M w) o))) e
event_refused M (cut w l v a b) n p u e = ap (λ (u : Outcome). accepted u.answer (cut_off (leg w l))) e

abbrev pub Does : Effect → Type 0
Does (refuses n) = ⊥
Does (does p q b m n) = Unit {0}

answered_does : (l : ℕ) (o : Option ℕ) (e : Effect) (a b : List ℕ) (v : Event) → Does e → accepted (outcome_of l o e a b).answer v ≡ v
answered_does l o (refuses n) a b v d = absurd d
answered_does l o (does p q x m n) a b v d = refl

pub event_heard : (M : Which → Side) (w : Which) (o : List ℕ) (r : ℕ) (a b : List ℕ) (l type : ℕ) (k : Kind) (c : Contents) (q : Option ℕ) (e : Effect) (u : Outcome) →
    reading (M w) o ≡ heard l type k c → u ≡ outcome_of l q e a b → Does e → event M (hear w o r a b) u ≡ kind_event k w l r c
event_heard M w o r a b l type k c q e u f t d =
    ap₂ (λ (u : Outcome) (g : Reading). accepted u.answer (read_event w r g)) t f ∙ answered_does l q e a b (kind_event k w l r c) d

pub event_cut : (M : Which → Side) (w : Which) (l v : ℕ) (a b : List ℕ) (q : Option ℕ) (e : Effect) (u : Outcome) →
    u ≡ outcome_of l q e a b → Does e → event M (cut w l v a b) u ≡ cut_off (leg w l)
event_cut M w l v a b q e u t d = ap (λ (u : Outcome). accepted u.answer (cut_off (leg w l))) t ∙ answered_does l q e a b (cut_off (leg w l)) d

pub does_way : (W : Way) (A B : Side) (l y type : ℕ) (k : Kind) (c : Contents) (p q : LegState) → (W ≡ joining → ⊥) → Does (both_way W A B l y type k c p q)
does_way joining A B l y type k c p q f = absurd (f refl)
does_way silent A B l y type k c p q f = tt
does_way passing A B l y type k c p q f = tt
does_way parting A B l y type k c p q f = tt

update_like : {A : Type 0} (f : LegState → A) (t s : State) (y : Leg) (v : LegState) → ((z : Leg) → f (t z) ≡ f (s z)) → f v ≡ f (s y) → (z : Leg) → f (update t y v z) ≡ f (s z)
update_like f t s y v h e z = go (same_leg z y) refl
  where
    go : (b : Bool) → same_leg z y ≡ b → f (cond b v (t z)) ≡ f (s z)
    go true i = e ∙ ap (λ (q : Leg). f (s q)) (sym (same_eq z y i))
    go false i = h z

-- calls have no leg without a partner
pub no_call : (s : State) (cs : List Call) → Track s cs → (z : Leg) → (s z).partner ≡ None → (d : Call) → Memᴰ d cs → has z d ≡ false
no_call s cs k z e d m = go (has z d) refl
  where
    go : (b : Bool) → has z d ≡ b → b ≡ false
    go true i = absurd (none_some (sym e ∙ ap (λ (q : Leg). (s q).partner) (has_end z d i) ∙ (k.joins d m).partnered_with (which_of z)))
    go false i = refl

module _ (M : Which → Side) (s : State) (g : Sound M s) (cs : List Call) (k : Track s cs) where
  abbrev Goes : State → Event → Type 0
  Goes t e = Track t (noted cs e)

  lone_track : (w : Which) (l r : ℕ) (h : Kind) (c : Contents) (p : Phase) → is_setup h ≡ false → (s (leg w l)).partner ≡ None → (b : Bool) → is_clear h ≡ b →
      Goes (update s (leg w l) (bonded stay 0 p (s (leg w l)))) (kind_event h w l r c)
  lone_track w l r h c p u e b j = go b j
    where
      same : Track (update s (leg w l) (bonded stay 0 p (s (leg w l)))) cs
      same = track_same s _ cs (update_like (λ v. v.partner) s s (leg w l) _ (λ z. refl) refl) (update_like (λ v. v.user_user) s s (leg w l) _ (λ z. refl) refl) k

      go : (b : Bool) → is_clear h ≡ b → Goes (update s (leg w l) (bonded stay 0 p (s (leg w l)))) (kind_event h w l r c)
      go true j =
          subst (λ (v : Event). Goes (update s (leg w l) (bonded stay 0 p (s (leg w l)))) v) (ap (λ (h : Kind). kind_event h w l r c) (sym (clear_is h j)))
          (subst (Track (update s (leg w l) (bonded stay 0 p (s (leg w l))))) (sym (select_all (λ d. not (has (leg w l) d)) cs (λ d m. ap not (no_call s cs k (leg w l) e d m)))) same)
      go false j = subst (λ (v : Event). Goes (update s (leg w l) (bonded stay 0 p (s (leg w l)))) v) (sym (kind_plain h w l r c u j)) same

  stay_track : (w : Which) (l y : ℕ) (p q : Phase) → Track (update (update s (leg w l) (bonded stay y p (s (leg w l)))) (leg (other w) y) (bonded stay l q (s (leg (other w) y)))) cs
  stay_track w l y p q =
      track_same s _ cs
      (update_like (λ v. v.partner) (update s (leg w l) (bonded stay y p (s (leg w l)))) s (leg (other w) y) _ (update_like (λ v. v.partner) s s (leg w l) _ (λ z. refl) refl) refl)
      (update_like (λ v. v.user_user) (update s (leg w l) (bonded stay y p (s (leg w l)))) s (leg (other w) y) _ (update_like (λ v. v.user_user) s s (leg w l) _ (λ z. refl) refl) refl) k

  linked_track : (w : Which) (l r type : ℕ) (h : Kind) (c : Contents) (y : ℕ) → is_setup h ≡ false → (s (leg w l)).partner ≡ Some y → (W : Way) → way h ≡ W →
      Goes (after s w l (Some y) (both_way W (M w) (M (other w)) l y type h c (s (leg w l)) (s (leg (other w) y)))) (kind_event h w l r c)
  linked_track w l r type h c y u e joining j = absurd (joining_is h j u)
  linked_track w l r type h c y u e silent j =
      subst (λ (v : Event). Goes (after s w l (Some y) (both_way silent (M w) (M (other w)) l y type h c (s (leg w l)) (s (leg (other w) y)))) v)
      (ap (λ (h : Kind). kind_event h w l r c) (sym (silent_is h j))) (stay_track w l y _ _)
  linked_track w l r type h c y u e passing j =
      subst (λ (v : Event). Goes (after s w l (Some y) (both_way passing (M w) (M (other w)) l y type h c (s (leg w l)) (s (leg (other w) y)))) v)
      (sym (kind_plain h w l r c u (passing_not_clear h j))) (stay_track w l y _ _)
  linked_track w l r type h c y u e parting j =
      subst (λ (v : Event). Goes (after s w l (Some y) (both_way parting (M w) (M (other w)) l y type h c (s (leg w l)) (s (leg (other w) y)))) v)
      (ap (λ (h : Kind). kind_event h w l r c) (sym (parting_is h j))) (track_part M s w l y _ _ e (back_partner M s g w l y e) refl refl cs k)

  step_track : (m : Member) → View M s m → Goes (next M s m) (event M m (out M s m))
  step_track m (turned _ n p e o) = subst₂ Goes (sym e) (sym (event_refused M m n p _ o)) k
  step_track _ (lone w o r a b l type h c f row u e x i n t) =
      subst₂ Goes (sym (n ∙ ap (after s w l None) i)) (sym (event_heard M w o r a b l type h c None x _ f t (subst Does (sym i) tt))) (lone_track w l r h c _ u e (is_clear h) refl)
  step_track _ (begun w o r a b l type c f h v d x i n t) =
      let ex = idle_single M s g (leg w l) _ refl h in
      let ey = idle_single M s g (leg (other w) r) _ refl (and_parts ((M (other w)).callable r) _ d).1 in
      subst₂ Goes (sym (n ∙ ap (after s w l (Some r)) i)) (sym (event_heard M w o r a b l type Setup c (Some r) x _ f t (subst Does (sym i) tt)))
      (track_join M s w l r _ _ c ex ey refl refl refl refl cs k)
  step_track _ (linked w o r a b l type h c y f row u e x i n t) =
      subst₂ Goes (sym (n ∙ ap (after s w l (Some y)) i))
      (sym (event_heard M w o r a b l type h c (Some y) x _ f t (subst Does (sym i) (does_way (way h) (M w) (M (other w)) l y type h c _ _ (λ j. joining_is h j u)))))
      (linked_track w l r type h c y u e (way h) refl)
  step_track _ (severed w l v a b y d e x i n t) =
      subst₂ Goes (sym (n ∙ ap (after s w l (Some y)) i)) (sym (event_cut M w l v a b (Some y) x _ t (subst Does (sym i) tt)))
      (track_part M s w l y _ _ e (back_partner M s g w l y e) refl refl cs k)

run_track : (M : Which → Side) (row : List Member) (s : State) (cs : List Call) → Sound M s → Track s cs → Track (run M s row) (all_noted cs (events M s row))
run_track M [] s cs g k = k
run_track M (m ∷ r) s cs g k = run_track M r (next M s m) _ (next_sound M s g m) (step_track M s g cs k m (view M s m))

-- after every row
pub row_track : (M : Which → Side) (row : List Member) → Track (run M fresh row) (standing (events M fresh row))
row_track M row = subst (Track (run M fresh row)) (standing_is (events M fresh row)) (run_track M row fresh [] (fresh_sound M) fresh_track)
