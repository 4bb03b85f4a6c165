-- What always holds of an exchange's state: partners are mutual and in phases that go together, other legs are at rest.
-- Assumes where the two sides' messages lead.
use Rattle.std.proofs.Common.{◌≡◌, ℕ, ◌<◌, Bool, true, false, ◌⊎◌, List, [], ◌∷◌, Some, None, Option, sym, refl, ap, ◌∙◌, subst, inl, inr, arith}
use Rattle.std.proofs.lemmas.Bool.{and_parts, ltb-true}
use Rattle.side.specs.declared.kinds.Kind.{Kind}
use Rattle.side.specs.declared.kinds.Kind.TheVariants.{Setup, Clear}
use Rattle.side.specs.declared.kinds.Phase.{Phase}
use Rattle.side.specs.declared.kinds.Phase.TheVariants.{Idle, Clearing}
use Rattle.side.specs.Table.{between, heard_in, told_in, told_to}
use Rattle.side.specs.Signals.{Contents}
use Rattle.side.specs.Meaning.{HeardTo}
use Rattle.rows.specs.declared.kinds.Which.{Which}
use Rattle.rows.specs.Legs.{other, Leg, leg, across, same_leg}
use Rattle.rows.specs.Sides.{Side}
use Rattle.rows.specs.Exchange.{LegState, State, fresh, update, Member, stay, is_setup, Way, joining, silent, passing, parting, way, has_user_user, passed, cut_contents, both_way, bonded, after, next, run}
use Rattle.rows.proofs.Basics.{none_some, other_other, same_eq, same_refl}
use Rattle.rows.proofs.Readings.{read_leg}
use Rattle.rows.proofs.Table.{paired, rests, paired_back, paired_busy, busy_not_idle, pass_tells, pass_pairs, rests_clear, rest_stays, silent_is, parting_is, joining_is}
use Rattle.rows.proofs.Steps.{View, turned, lone, begun, linked, severed, view}

-- a leg is the one, or the other, or neither
pub two_or_other : (x y z : Leg) → (z ≡ y) ⊎ ((z ≡ x) ⊎ ((same_leg z x ≡ false) × (same_leg z y ≡ false)))
two_or_other x y z = go (same_leg z x) refl (same_leg z y) refl
  where
    go : (a : Bool) → same_leg z x ≡ a → (b : Bool) → same_leg z y ≡ b → (z ≡ y) ⊎ ((z ≡ x) ⊎ ((same_leg z x ≡ false) × (same_leg z y ≡ false)))
    go a i true j = inl (same_eq z y j)
    go true i false j = inr (inl (same_eq z x i))
    go false i false j = inr (inr (i, j))

ruleset legs-rules = (same_eq, same_refl, other_other, paired_back)

module _ (M : Which → Side) where
  -- the leg l of side w, at p, and the leg n across from it, at q, are partners
  pub record Link (w : Which) (l n : ℕ) (p q : LegState) : Type 0 where
    pub mine : p.partner ≡ Some n
    pub back : q.partner ≡ Some l
    pub phases : paired p.phase q.phase ≡ true
    pub notes : p.user_user ≡ q.user_user
    pub near_in : l < (M w).legs
    pub far_in : n < (M (other w)).legs

  abbrev pub LinkedAt : State → Leg → Type 0
  LinkedAt s (leg w l) = (n : ℕ) → (s (leg w l)).partner ≡ Some n → Link w l n (s (leg w l)) (s (leg (other w) n))

  abbrev pub RestAt : State → Leg → Type 0
  RestAt s z = (s z).partner ≡ None → rests (s z).phase ≡ true

  pub record Sound (s : State) : Type 0 where
    pub links : (z : Leg) → LinkedAt s z
    pub rest : (z : Leg) → RestAt s z

  pub fresh_sound : Sound fresh
  fresh_sound = record { links = go; rest = λ z e. refl }
    where
      go : (z : Leg) → LinkedAt fresh z
      go (leg w l) = λ n e. absurd (none_some e)

  -- no other leg's partner is one of the two
  abbrev pub Free : State → Which → ℕ → ℕ → Type 0
  Free s w l y = (z : Leg) (n : ℕ) → (s z).partner ≡ Some n → same_leg z (leg w l) ≡ false → same_leg z (leg (other w) y) ≡ false →
      (same_leg (across z n) (leg w l) ≡ false) × (same_leg (across z n) (leg (other w) y) ≡ false)

  -- two legs are given new places
  module _ (s : State) (w : Which) (l y : ℕ) (v u : LegState) where
    abbrev pub S : State
    S = update (update s (leg w l) v) (leg (other w) y) u

    pub at_y : S (leg (other w) y) ≡ u
    at_y = grind (arith, same_refl)

    pub at_x : S (leg w l) ≡ v
    at_x = grind (arith, same_refl)

    pub at_z : (z : Leg) → same_leg z (leg w l) ≡ false → same_leg z (leg (other w) y) ≡ false → S z ≡ s z
    at_z z i j = grind arith

    two_linked : Sound s → Free s w l y → Link w l y v u → Sound S
    two_linked g f h = record { links = links; rest = λ z e. grind (arith, legs-rules, g.rest z) }
      where
        links : (z : Leg) → LinkedAt S z
        links (leg w' l') = λ n e. record {
          mine = e;
          back = grind (arith, legs-rules, g.links (leg w' l') n, f (leg w' l') n);
          phases = grind (arith, legs-rules, g.links (leg w' l') n, f (leg w' l') n);
          notes = grind (arith, legs-rules, g.links (leg w' l') n, f (leg w' l') n);
          near_in = grind (arith, legs-rules, g.links (leg w' l') n, f (leg w' l') n);
          far_in = grind (arith, legs-rules, g.links (leg w' l') n, f (leg w' l') n);
        }

    two_parted : Sound s → Free s w l y → v.partner ≡ None → u.partner ≡ None → rests v.phase ≡ true → rests u.phase ≡ true → Sound S
    two_parted g f hv hu rv ru = record { links = links; rest = λ z e. grind (arith, legs-rules, g.rest z) }
      where
        links : (z : Leg) → LinkedAt S z
        links (leg w' l') = λ n e. record {
          mine = e;
          back = grind (arith, legs-rules, g.links (leg w' l') n, f (leg w' l') n);
          phases = grind (arith, legs-rules, g.links (leg w' l') n, f (leg w' l') n);
          notes = grind (arith, legs-rules, g.links (leg w' l') n, f (leg w' l') n);
          near_in = grind (arith, legs-rules, g.links (leg w' l') n, f (leg w' l') n);
          far_in = grind (arith, legs-rules, g.links (leg w' l') n, f (leg w' l') n);
        }

  -- the two legs that a sound state links are nobody else's
  module _ (s : State) (g : Sound s) where
    pub link_of : (w : Which) (l y : ℕ) → (s (leg w l)).partner ≡ Some y → Link w l y (s (leg w l)) (s (leg (other w) y))
    link_of w l y e = g.links (leg w l) y e

    free_linked : (w : Which) (l y : ℕ) → (s (leg w l)).partner ≡ Some y → Free s w l y
    free_linked w l y e (leg w' l') n i jx jy =
        let a = link_of w l y e in let b = link_of w' l' n i in (grind (arith, legs-rules), grind (arith, legs-rules))

    free_single : (w : Which) (l y : ℕ) → (s (leg w l)).partner ≡ None → (s (leg (other w) y)).partner ≡ None → Free s w l y
    free_single w l y e f (leg w' l') n i jx jy = let b = link_of w' l' n i in (grind (arith, legs-rules), grind (arith, legs-rules))

    -- an idle leg has no partner
    pub idle_single : (z : Leg) (q : Option ℕ) → (s z).partner ≡ q → between 0 0 (s z).phase ≡ true → (s z).partner ≡ None
    idle_single z None e i = e
    idle_single (leg w l) (Some n) e i = let b = link_of w l n e in grind (arith, paired_busy, busy_not_idle)

    -- a leg without a partner takes a new phase at rest
    one_sound : (w : Which) (l : ℕ) (p : Phase) → (s (leg w l)).partner ≡ None → rests p ≡ true → Sound (update s (leg w l) (bonded stay 0 p (s (leg w l))))
    one_sound w l p e r = record { links = links; rest = λ z i. grind (arith, legs-rules, g.rest z) }
      where
        links : (z : Leg) → LinkedAt (update s (leg w l) (bonded stay 0 p (s (leg w l)))) z
        links (leg w' l') = λ n i. record {
          mine = i;
          back = grind (arith, legs-rules, g.links (leg w' l') n);
          phases = grind (arith, legs-rules, g.links (leg w' l') n);
          notes = grind (arith, legs-rules, g.links (leg w' l') n);
          near_in = grind (arith, legs-rules, g.links (leg w' l') n);
          far_in = grind (arith, legs-rules, g.links (leg w' l') n);
        }

    -- a partner can be told a Clear
    pub clear_row : (w : Which) (l y : ℕ) → (s (leg w l)).partner ≡ Some y → (b : Bool) → told_in Clear b (s (leg w l)).phase ≡ true
    clear_row w l y e b = paired_busy (s (leg w l)).phase (s (leg (other w) y)).phase (link_of w l y e).phases

    pub back_partner : (w : Which) (l y : ℕ) → (s (leg w l)).partner ≡ Some y → (s (leg (other w) y)).partner ≡ Some l
    back_partner w l y e = (link_of w l y e).back

    linked_sound : (w : Which) (l type : ℕ) (k : Kind) (c : Contents) (y : ℕ) → heard_in k (s (leg w l)).phase ≡ true → is_setup k ≡ false →
        (s (leg w l)).partner ≡ Some y → (W : Way) → way k ≡ W → Sound (after s w l (Some y) (both_way W (M w) (M (other w)) l y type k c (s (leg w l)) (s (leg (other w) y))))
    linked_sound w l type k c y h u e joining j = absurd (joining_is k j u)
    linked_sound w l type k c y h u e silent j =
        let q = link_of w l y e in
        let move = (M w).take_moves l (s (leg w l)).phase type k c h in
        let still : ((M w).takes l (s (leg w l)).phase type k c).phase ≡ (s (leg w l)).phase =
        (subst (λ (k' : Kind). HeardTo k' (s (leg w l)).phase ((M w).takes l (s (leg w l)).phase type k c).phase) (silent_is k j) move).0 in
        two_linked s w l y _ _ g (free_linked w l y e) (record {
          mine = q.mine;
          back = q.back;
          phases = rw still q.phases;
          notes = q.notes;
          near_in = q.near_in;
          far_in = q.far_in;
        })
    linked_sound w l type k c y h u e passing j =
        let q = link_of w l y e in
        let row = pass_tells k ((M (other w)).callable y) (s (leg w l)).phase (s (leg (other w) y)).phase j q.phases h in
        let told = (M (other w)).tell_moves y (s (leg (other w) y)).phase k (passed (s (leg w l)).user_user c) row in
        two_linked s w l y _ _ g (free_linked w l y e) (record {
          mine = q.mine;
          back = q.back;
          phases = rw told (pass_pairs k (s (leg w l)).phase (s (leg (other w) y)).phase ((M w).takes l (s (leg w l)).phase type k c).phase j q.phases h
              ((M w).take_moves l (s (leg w l)).phase type k c h));
          notes = q.notes;
          near_in = q.near_in;
          far_in = q.far_in;
        })
    linked_sound w l type k c y h u e parting j =
        let move = (M w).take_moves l (s (leg w l)).phase type k c h in
        let gone : (((M w).takes l (s (leg w l)).phase type k c).phase ≡ Idle) ⊎ (((M w).takes l (s (leg w l)).phase type k c).phase ≡ Clearing) =
        move.1 (parting_is k j) in
        let row : told_in k ((M (other w)).callable y) (s (leg (other w) y)).phase ≡ true = rw (parting_is k j) (clear_row (other w) y l (back_partner w l y e) ((M (other w)).callable y)) in
        let told : ((M (other w)).tells y (s (leg (other w) y)).phase k (passed (s (leg w l)).user_user c)).phase ≡ told_to k (s (leg (other w) y)).phase =
        (M (other w)).tell_moves y (s (leg (other w) y)).phase k (passed (s (leg w l)).user_user c) row in
        let cl : told_to k (s (leg (other w) y)).phase ≡ Clearing = rw (parting_is k j) in
        two_parted s w l y _ _ g (free_linked w l y e) refl refl (rests_clear _ gone) (rests_clear _ (inr (told ∙ cl)))

    step_sound : (m : Member) → View M s m → Sound (next M s m)
    step_sound m (turned _ n p e o) = subst Sound (sym e) g
    step_sound _ (lone w o r a b l type k c f h u e x i n t) =
        subst Sound (sym (n ∙ ap (after s w l None) i))
        (one_sound w l _ e (rest_stays k (s (leg w l)).phase _ u (g.rest (leg w l) e) h ((M w).take_moves l (s (leg w l)).phase type k c h)))
    step_sound _ (begun w o r a b l type c f h v d x i n t) =
        let ex = idle_single (leg w l) _ refl h in
        let ey = idle_single (leg (other w) r) _ refl (and_parts ((M (other w)).callable r) _ d).1 in
        subst Sound (sym (n ∙ ap (after s w l (Some r)) i))
        (two_linked s w l r _ _ g (free_single w l r ex ey) (record {
          mine = refl;
          back = refl;
          phases = rw (((M w).take_moves l (s (leg w l)).phase type Setup c h).0, (M (other w)).tell_moves r (s (leg (other w) r)).phase Setup (passed (has_user_user c) c) d);
          notes = refl;
          near_in = read_leg (M w) o l type Setup c f;
          far_in = ltb-true r (M (other w)).legs v;
        }))
    step_sound _ (linked w o r a b l type k c y f h u e x i n t) =
        subst Sound (sym (n ∙ ap (after s w l (Some y)) i)) (linked_sound w l type k c y h u e (way k) refl)
    step_sound _ (severed w l v a b y d e x i n t) =
        let tx = (M w).tell_moves l (s (leg w l)).phase Clear (cut_contents v) (clear_row w l y e ((M w).callable l)) in
        let ty = (M (other w)).tell_moves y (s (leg (other w) y)).phase Clear (cut_contents v) (clear_row (other w) y l (back_partner w l y e) ((M (other w)).callable y)) in
        subst Sound (sym (n ∙ ap (after s w l (Some y)) i))
        (two_parted s w l y _ _ g (free_linked w l y e) refl refl (rests_clear _ (inr tx)) (rests_clear _ (inr ty)))

  pub next_sound : (s : State) → Sound s → (m : Member) → Sound (next M s m)
  next_sound s g m = step_sound s g m (view M s m)

  pub run_sound : (s : State) → Sound s → (row : List Member) → Sound (run M s row)
  run_sound s g [] = g
  run_sound s g (m ∷ r) = run_sound (next M s m) (next_sound s g m) r

  pub row_sound : (row : List Member) → Sound (run M fresh row)
  row_sound row = run_sound fresh fresh_sound row
