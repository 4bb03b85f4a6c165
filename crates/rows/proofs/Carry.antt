-- What is to be told onward is told, and nothing else. Assumes the laws of the two sides.
use Rattle.std.proofs.Common.{◌≡◌, ℕ, Bool, true, false, ◌⊎◌, List, [], length, Some, None, Option, sym, refl, ap, ◌∙◌, subst, inl, inr, true≢false}
use mathlib.Core.List.{Memᴰ}
use Rattle.side.specs.declared.kinds.Kind.{Kind}
use Rattle.side.specs.declared.kinds.Kind.TheVariants.{Setup, Clear}
use Rattle.side.specs.declared.kinds.Phase.{Phase}
use Rattle.side.specs.Table.{heard_in, told_in}
use Rattle.side.specs.Signals.{Contents}
use Rattle.side.specs.Meaning.{Within, speaks}
use Rattle.side.specs.Steps.{written}
use Rattle.rows.specs.declared.kinds.Which.{Which}
use Rattle.rows.specs.Legs.{other, leg, any}
use Rattle.rows.specs.Sides.{Side, heard, reading}
use Rattle.rows.specs.Exchange.{State, fresh, Member, hear, Response, refused, report, Outcome, Effect, is_setup, Way, joining, silent, passing, parting, way, has_user_user, passed, both_way, outcome_of, out, run}
use Rattle.rows.specs.Calls.{Call, leg_on, has, standing, events}
use Rattle.rows.specs.Accounting.{partnered}
use Rattle.rows.specs.Carriage.{carried, goes_on, Told, Carried, Carriage}
use Rattle.rows.proofs.Basics.{some_inj, none_some}
use Rattle.rows.proofs.Readings.{read_within}
use Rattle.rows.proofs.Table.{pass_tells, parting_is, joining_is, goes_on_not_silent, stays_silent, passing_not_silent, parting_not_silent}
use Rattle.rows.proofs.Steps.{View, turned, lone, begun, linked, view}
use Rattle.rows.proofs.Sound.{Sound, link_of, back_partner, clear_row, row_sound}
use Rattle.rows.proofs.Counts.{count_some}
use Rattle.rows.proofs.Track.{Track, row_track}
use Rattle.rows.proofs.Told.{passed_within}
use Rattle.rows.proofs.Account.{any_has}

-- a message told with contents passed on
told_parts : (B : Side) (y : ℕ) (p : Phase) (k : Kind) (c setup : Contents) (u : Bool) → u ≡ has_user_user setup → Within k c → told_in k (B.callable y) p ≡ true →
    Told B y p k c (carried B setup c) (B.tells y p k (passed u c)).octets
told_parts B y p k c setup u e h row = subst (λ (u : Bool). Told B y p k c (carried B setup c) (B.tells y p k (passed u c)).octets) (sym e) (record {
  contents = passed (has_user_user setup) c;
  as_told = refl;
  but_parts = (refl, refl, refl, refl, refl);
  fits = B.tell_short y p k (passed (has_user_user setup) c) (passed_within (has_user_user setup) c h);
  read_parts = B.far_parts y p k (passed (has_user_user setup) c) (passed_within (has_user_user setup) c h) row;
  read_clear = B.far_clear y p k (passed (has_user_user setup) c) (passed_within (has_user_user setup) c h) row;
  not_empty = full;
})
  where
    full : (k ≡ Clear) ⊎ ((speaks k ≡ true) × ((t : ℕ) × (B.carries t ≡ true))) → (B.tells y p k (passed (has_user_user setup) c)).octets ≡ [] → ⊥
    full (inl q) i =
        B.clear_said y p (passed (has_user_user setup) c) (subst (λ (k : Kind). told_in k (B.callable y) p ≡ true) q row)
        (ap (λ (k : Kind). (B.tells y p k (passed (has_user_user setup) c)).octets) (sym q) ∙ i)
    full (inr q) i = B.part_said y p k (passed (has_user_user setup) c) q.1.0 q.1.1 q.0 row i

module _ (M : Which → Side) (row : List Member) (w : Which) (o : List ℕ) (r : ℕ) (a b : List ℕ) where
  abbrev s : State
  s = run M fresh row

  abbrev m : Member
  m = hear w o r a b

  abbrev u : Outcome
  u = out M s m

  abbrev cs : List Call
  cs = standing (events M fresh row)

  g : Sound M s
  g = row_sound M row

  k : Track s cs
  k = row_track M row

  abbrev Kept : Response → Type 0
  Kept (refused n p) = (u.reply ≡ a) × (u.onward ≡ b)
  Kept (report l q i j) = Unit {0}

  abbrev Good : Response → Type 0
  Good (refused n p) = Unit {0}
  Good (report l q i j) = (type : ℕ) × ((h : Kind) × ((c : Contents) × ((reading (M w) o ≡ heard l type h c) × Carried M row w o r a b l h c q i j)))

  not_setup : (h : Kind) → is_setup h ≡ false → h ≡ Setup → ⊥
  not_setup h e q = true≢false (ap is_setup (sym q) ∙ e)

  partner_at : (d : Call) → Memᴰ d cs → (l : ℕ) → leg_on w d ≡ l → (s (leg w l)).partner ≡ Some (leg_on (other w) d)
  partner_at d i l e = subst (λ (l : ℕ). (s (leg w l)).partner ≡ Some (leg_on (other w) d)) e ((k.joins d i).partnered_with w)

  user_at_leg : (d : Call) → Memᴰ d cs → (l : ℕ) → leg_on w d ≡ l → (s (leg w l)).user_user ≡ has_user_user d.setup
  user_at_leg d i l e = subst (λ (l : ℕ). (s (leg w l)).user_user ≡ has_user_user d.setup) e ((k.joins d i).noted_user w)

  lone_good : (l type : ℕ) (h : Kind) (c : Contents) (x : List ℕ) → reading (M w) o ≡ heard l type h c → is_setup h ≡ false → (s (leg w l)).partner ≡ None →
      u ≡ record { answer = report l None (length x) 0; reply = written x a; onward = b } → Good (report l None (length x) 0)
  lone_good l type h c x f n e t = (
    type,
    (
      h,
      (
        c,
        (
          f,
          record {
            set_up = λ i. absurd (not_setup h n i);
            told = λ _ _ d i j. absurd (none_some (sym e ∙ partner_at d i l j));
            quiet = λ _ _. (refl, ap (λ (u : Outcome). u.onward) t);
          },
        ),
      ),
    ),
  )

  begun_good : (l type : ℕ) (c : Contents) (x : List ℕ) → reading (M w) o ≡ heard l type Setup c → told_in Setup ((M (other w)).callable r) (s (leg (other w) r)).phase ≡ true →
      let y = ((M (other w)).tells r (s (leg (other w) r)).phase Setup (passed (has_user_user c) c)).octets in
      u ≡ record { answer = report l (Some r) (length x) (length y); reply = written x a; onward = written y b } → Good (report l (Some r) (length x) (length y))
  begun_good l type c x f d t = (
    type,
    (
      Setup,
      (
        c,
        (
          f,
          record {
            set_up = λ i. (_, told_parts (M (other w)) r (s (leg (other w) r)).phase Setup c c (has_user_user c) refl (read_within (M w) o l type Setup c f) d, refl, refl, ap (λ (u : Outcome). u.onward) t);
            told = λ i. absurd (i refl);
            quiet = λ i. absurd (i refl);
          },
        ),
      ),
    ),
  )

  silent_good : (l type : ℕ) (h : Kind) (c : Contents) (y : ℕ) (x : List ℕ) → reading (M w) o ≡ heard l type h c → is_setup h ≡ false → way h ≡ silent →
      u ≡ record { answer = report l (Some y) (length x) 0; reply = written x a; onward = b } → Good (report l (Some y) (length x) 0)
  silent_good l type h c y x f n j t = (
    type,
    (
      h,
      (
        c,
        (
          f,
          record {
            set_up = λ i. absurd (not_setup h n i);
            told = λ _ i. absurd (goes_on_not_silent h i j);
            quiet = λ _ _. (refl, ap (λ (u : Outcome). u.onward) t);
          },
        ),
      ),
    ),
  )

  told_good : (l type : ℕ) (h : Kind) (c : Contents) (y : ℕ) (x : List ℕ) → reading (M w) o ≡ heard l type h c → is_setup h ≡ false → (way h ≡ silent → ⊥) → (s (leg w l)).partner ≡ Some y →
      told_in h ((M (other w)).callable y) (s (leg (other w) y)).phase ≡ true →
      let z = ((M (other w)).tells y (s (leg (other w) y)).phase h (passed (s (leg w l)).user_user c)).octets in
      u ≡ record { answer = report l (Some y) (length x) (length z); reply = written x a; onward = written z b } → Good (report l (Some y) (length x) (length z))
  told_good l type h c y x f n j e row' t = (
    type,
    (
      h,
      (
        c,
        (
          f,
          record {
            set_up = λ i. absurd (not_setup h n i);
            told = told;
            quiet = λ _ q. absurd (never q);
          },
        ),
      ),
    ),
  )
    where
      z : List ℕ
      z = ((M (other w)).tells y (s (leg (other w) y)).phase h (passed (s (leg w l)).user_user c)).octets

      told : (h ≡ Setup → ⊥) → goes_on h ≡ true → (d : Call) → Memᴰ d cs → leg_on w d ≡ l → let y' = leg_on (other w) d in
          (message : List ℕ) × Told (M (other w)) y' (s (leg (other w) y')).phase h c (carried (M (other w)) d.setup c) message ×
          (◌≡◌ {A = Option ℕ} (Some y) (Some y')) × (length z ≡ length message) × (u.onward ≡ written message b)
      told _ _ d i q =
          let far : y ≡ leg_on (other w) d = some_inj (sym e ∙ partner_at d i l q) in (
            z,
            subst (λ (y' : ℕ). Told (M (other w)) y' (s (leg (other w) y')).phase h c (carried (M (other w)) d.setup c) z) far
                (told_parts (M (other w)) y (s (leg (other w) y)).phase h c d.setup (s (leg w l)).user_user (user_at_leg d i l q) (read_within (M w) o l type h c f) row'),
            ap Some far,
            refl,
            ap (λ (u : Outcome). u.onward) t,
          )

      never : (goes_on h ≡ false) ⊎ (any (has (leg w l)) cs ≡ false) → ⊥
      never (inl q) = j (stays_silent h q)
      never (inr q) =
          let v = count_some (has (leg w l)) cs (k.counts (leg w l) ∙ ap partnered e) in
          true≢false (sym (any_has M s g cs k (has (leg w l)) cs v.0 v.1 v.2) ∙ q)

  abbrev Both : Type 0
  Both = Kept u.answer × Good u.answer

  linked_good : (l type : ℕ) (h : Kind) (c : Contents) (y : ℕ) → reading (M w) o ≡ heard l type h c → heard_in h (s (leg w l)).phase ≡ true → is_setup h ≡ false →
      (s (leg w l)).partner ≡ Some y → (W : Way) → way h ≡ W → u ≡ outcome_of l (Some y) (both_way W (M w) (M (other w)) l y type h c (s (leg w l)) (s (leg (other w) y))) a b → Both
  linked_good l type h c y f i n e joining j t = absurd (joining_is h j n)
  linked_good l type h c y f i n e silent j t =
      let q = ap (λ (u : Outcome). u.answer) (sym t) in (subst Kept q tt, subst Good q (silent_good l type h c y _ f n j t))
  linked_good l type h c y f i n e passing j t =
      let q = ap (λ (u : Outcome). u.answer) (sym t) in (
        subst Kept q tt,
        subst Good q (told_good l type h c y _ f n (passing_not_silent h j) e
            (pass_tells h ((M (other w)).callable y) (s (leg w l)).phase (s (leg (other w) y)).phase j (link_of M s g w l y e).phases i) t),
      )
  linked_good l type h c y f i n e parting j t =
      let q = ap (λ (u : Outcome). u.answer) (sym t) in
      let p = parting_is h j in (
        subst Kept q tt,
        subst Good q (told_good l type h c y _ f n (parting_not_silent h j) e
            (subst (λ (h : Kind). told_in h ((M (other w)).callable y) (s (leg (other w) y)).phase ≡ true) (sym p)
            (clear_row M s g (other w) y l (back_partner M s g w l y e) ((M (other w)).callable y))) t),
      )

  each : View M s (hear w o r a b) → Both
  each (turned _ n p e t) =
      let q = ap (λ (u : Outcome). u.answer) (sym t) in
      (subst Kept q (ap (λ (u : Outcome). u.reply) t, ap (λ (u : Outcome). u.onward) t), subst Good q tt)
  each (lone _ _ _ _ _ l type h c f row' n e x i _ t) =
      let t' = t ∙ ap (λ (x : Effect). outcome_of l None x a b) i in
      let q = ap (λ (u : Outcome). u.answer) (sym t') in (subst Kept q tt, subst Good q (lone_good l type h c _ f n e t'))
  each (begun _ _ _ _ _ l type c f h v d x i _ t) =
      let t' = t ∙ ap (λ (x : Effect). outcome_of l (Some r) x a b) i in
      let q = ap (λ (u : Outcome). u.answer) (sym t') in (subst Kept q tt, subst Good q (begun_good l type c _ f d t'))
  each (linked _ _ _ _ _ l type h c y f row' n e x i _ t) = linked_good l type h c y f row' n e (way h) refl (t ∙ ap (λ (x : Effect). outcome_of l (Some y) x a b) i)

pub carriage : (M : Which → Side) → Carriage M
carriage M row w o r a b =
    let q = each M row w o r a b (view M (run M fresh row) (hear w o r a b)) in
    ((λ n p e. subst (Kept M row w o r a b) e q.0), (λ l p i j e. subst (Good M row w o r a b) e q.1))
