-- Every call is accounted for, and every clearing. Assumes the laws of the two sides.
use Rattle.std.proofs.Common.{◌≡◌, ℕ, zero, suc, ◌+◌, Bool, true, false, cond, ◌||◌, leb, ◌↔◌, List, [], ◌∷◌, ◌++◌, length, take, drop, Some, None, sym, refl, ap, ◌∙◌, subst, ap₂, arith}
use mathlib.Core.List.{Memᴰ}
use lib.Seq.{take-append_seam}
use Rattle.std.proofs.lemmas.Bool.{eqb-true}
use Rattle.side.specs.declared.kinds.Kind.{Kind}
use Rattle.side.specs.declared.kinds.Kind.TheVariants.{Setup, Clear}
use Rattle.side.specs.Table.{heard_in, told_in}
use Rattle.side.specs.Signals.{Contents}
use Rattle.side.specs.Meaning.{Within}
use Rattle.side.specs.Steps.{written}
use Rattle.rows.specs.declared.kinds.Which.{Which}
use Rattle.rows.specs.declared.kinds.Which.TheVariants.{First}
use Rattle.rows.specs.Legs.{other, Leg, leg, any}
use Rattle.rows.specs.Sides.{Side}
use Rattle.rows.specs.Exchange.{State, fresh, Member, hear, cut, Outcome, part, Effect, does, is_setup, Way, joining, silent, passing, parting, way, has_user_user, passed, cut_contents, both_way, refusal, outcome_of, reply_of, onward_of, out, run}
use Rattle.rows.specs.Calls.{Call, leg_on, has, Event, cut_off, plain, kind_event, setups, standing, ended, event, events}
use Rattle.rows.specs.Accounting.{is_clear, partnered, pairs, clearing_to, due_clear, due_cut, due, clearings, Accounting}
use Rattle.rows.proofs.Readings.{read_within}
use Rattle.rows.proofs.Table.{pass_tells, silent_is, parting_is, joining_is, passing_not_clear}
use Rattle.rows.proofs.Steps.{View, turned, lone, begun, linked, severed, view}
use Rattle.rows.proofs.Sound.{Sound, link_of, back_partner, clear_row, row_sound}
use Rattle.rows.proofs.Counts.{count, count_some, tally, tally_length, setups_are}
use Rattle.rows.proofs.Track.{Track, far_end, no_call, Does, does_way, event_refused, event_heard, event_cut, kind_plain, clear_is, row_track}
use Rattle.rows.proofs.Told.{passed_within, cut_within, told_clearing}

pairs_tally : (s : State) (cs : List Call) → Track s cs → (n : ℕ) → pairs s n ≡ tally cs n
pairs_tally s cs k zero = refl
pairs_tally s cs k (suc n) = let h = pairs_tally s cs k n in let c = k.counts (leg First n) in omega arith

-- the clearings due at a leg of a call, and at one without
due_none : (w : Which) (l : ℕ) (cs : List Call) → ((d : Call) → Memᴰ d cs → has (leg w l) d ≡ false) → due_clear w l cs ≡ []
due_none w l [] h = refl
due_none w l (d ∷ cs) h = rw (h d (Memᴰ.head refl)) (due_none w l cs (λ e m. h e (Memᴰ.tail m)))

cut_none : (w : Which) (l : ℕ) (cs : List Call) → ((d : Call) → Memᴰ d cs → has (leg w l) d ≡ false) → due_cut w l cs ≡ []
cut_none w l [] h = refl
cut_none w l (d ∷ cs) h = rw (h d (Memᴰ.head refl)) (cut_none w l cs (λ e m. h e (Memᴰ.tail m)))

count_zero : (f : Call → Bool) (cs : List Call) → count f cs ≡ 0 → (d : Call) → Memᴰ d cs → f d ≡ false
count_zero f [] e d m = elim m [ ]
count_zero f (x ∷ cs) e d m = go (f x) refl (count_zero f cs) m
  where
    go : (b : Bool) → f x ≡ b → (count f cs ≡ 0 → (d : Call) → Memᴰ d cs → f d ≡ false) → Memᴰ d (x ∷ cs) → f d ≡ false
    go true i ih k = absurd (let e' : 1 + count f cs ≡ 0 = rw i at e in omega arith)
    go false i ih (Memᴰ.head q) = ap f q ∙ i
    go false i ih (Memᴰ.tail k) = let e' : 0 + count f cs ≡ 0 = rw i at e in ih (omega arith) d k

due_one : (w : Which) (l y : ℕ) (cs : List Call) → count (has (leg w l)) cs ≡ 1 → ((d : Call) → Memᴰ d cs → has (leg w l) d ≡ true → leg_on (other w) d ≡ y) →
    (due_clear w l cs ≡ leg (other w) y ∷ []) × (due_cut w l cs ≡ leg w l ∷ leg (other w) y ∷ [])
due_one w l y [] e h = absurd (omega arith)
due_one w l y (d ∷ cs) e h = go (has (leg w l) d) refl (due_one w l y cs)
  where
    go : (b : Bool) → has (leg w l) d ≡ b →
        (count (has (leg w l)) cs ≡ 1 → ((d : Call) → Memᴰ d cs → has (leg w l) d ≡ true → leg_on (other w) d ≡ y) →
        (due_clear w l cs ≡ leg (other w) y ∷ []) × (due_cut w l cs ≡ leg w l ∷ leg (other w) y ∷ [])) →
        (cond b (leg (other w) (leg_on (other w) d) ∷ due_clear w l cs) (due_clear w l cs) ≡ leg (other w) y ∷ []) ×
        (cond b (leg w l ∷ leg (other w) (leg_on (other w) d) ∷ due_cut w l cs) (due_cut w l cs) ≡ leg w l ∷ leg (other w) y ∷ [])
    go true i ih =
        let e' : 1 + count (has (leg w l)) cs ≡ 1 = rw i at e in
        let z = count_zero (has (leg w l)) cs (omega arith) in
        let q : leg_on (other w) d ≡ y = h d (Memᴰ.head refl) i in
        (rw (q, due_none w l cs z), rw (q, cut_none w l cs z))
    go false i ih =
        let e' : 0 + count (has (leg w l)) cs ≡ 1 = rw i at e in
        ih (omega arith) (λ x m j. h x (Memᴰ.tail m) j)

module _ (M : Which → Side) (s : State) (g : Sound M s) (cs : List Call) (k : Track s cs) where
  linked_due : (w : Which) (l y : ℕ) → (s (leg w l)).partner ≡ Some y → (due_clear w l cs ≡ leg (other w) y ∷ []) × (due_cut w l cs ≡ leg w l ∷ leg (other w) y ∷ [])
  linked_due w l y e = due_one w l y cs (k.counts (leg w l) ∙ ap partnered e) (λ d m i. far_end s d w l y (k.joins d m) i e)

  -- a message told leg y, as the far end sees it in the buffer
  sent : (w : Which) (y : ℕ) (h : Kind) (c : Contents) (b : List ℕ) → Within h c → told_in h ((M w).callable y) (s (leg w y)).phase ≡ true →
      let m = ((M w).tells y (s (leg w y)).phase h c).octets in
      clearing_to (M w) s (leg w y) (take (length m) (written m b)) ≡ cond (is_clear h) (leg w y ∷ []) []
  sent w y h c b i row =
      let m = ((M w).tells y (s (leg w y)).phase h c).octets in
      ap (clearing_to (M w) s (leg w y)) (take-append_seam m (drop (length m) b))
      ∙ ap (λ (t : Bool). cond t (leg w y ∷ []) []) (told_clearing (M w) y (s (leg w y)).phase h c i row)

  none_sent : (m : Member) (n p : ℕ) (u : Outcome) → u ≡ refusal n p (reply_of m) (onward_of m) → clearings M s m u ≡ []
  none_sent (hear w o r a b) n p u e = ap (clearings M s (hear w o r a b)) e
  none_sent (cut w l v a b) n p u e = ap (clearings M s (cut w l v a b)) e

  -- none is due at a leg without a partner
  lone_due : (w : Which) (l r : ℕ) (h : Kind) (c : Contents) → is_setup h ≡ false → (s (leg w l)).partner ≡ None → (b : Bool) → is_clear h ≡ b → due (kind_event h w l r c) cs ≡ []
  lone_due w l r h c u e true j =
      ap (λ (h : Kind). due (kind_event h w l r c) cs) (clear_is h j) ∙ due_none w l cs (no_call s cs k (leg w l) e)
  lone_due w l r h c u e false j = ap (λ (v : Event). due v cs) (kind_plain h w l r c u j)

  linked_sent : (w : Which) (l r type : ℕ) (h : Kind) (c : Contents) (y : ℕ) (a b : List ℕ) → Within h c → heard_in h (s (leg w l)).phase ≡ true → is_setup h ≡ false →
      (s (leg w l)).partner ≡ Some y → (W : Way) → way h ≡ W → (o : List ℕ) →
      clearings M s (hear w o r a b) (outcome_of l (Some y) (both_way W (M w) (M (other w)) l y type h c (s (leg w l)) (s (leg (other w) y))) a b) ≡ due (kind_event h w l r c) cs
  linked_sent w l r type h c y a b i row u e joining j o = absurd (joining_is h j u)
  linked_sent w l r type h c y a b i row u e silent j o = ap (λ (h : Kind). due (kind_event h w l r c) cs) (sym (silent_is h j))
  linked_sent w l r type h c y a b i row u e passing j o =
      sent (other w) y h (passed (s (leg w l)).user_user c) b (passed_within (s (leg w l)).user_user c i)
      (pass_tells h ((M (other w)).callable y) (s (leg w l)).phase (s (leg (other w) y)).phase j (link_of M s g w l y e).phases row)
      ∙ ap (λ (t : Bool). cond t (leg (other w) y ∷ []) []) (passing_not_clear h j)
      ∙ ap (λ (v : Event). due v cs) (sym (kind_plain h w l r c u (passing_not_clear h j)))
  linked_sent w l r type h c y a b i row u e parting j o =
      let q = parting_is h j in
      let told = clear_row M s g (other w) y l (back_partner M s g w l y e) ((M (other w)).callable y) in
      sent (other w) y h (passed (s (leg w l)).user_user c) b (passed_within (s (leg w l)).user_user c i)
      (subst (λ (h : Kind). told_in h ((M (other w)).callable y) (s (leg (other w) y)).phase ≡ true) (sym q) told)
      ∙ ap (λ (h : Kind). cond (is_clear h) (leg (other w) y ∷ []) []) q
      ∙ sym (linked_due w l y e).0 ∙ ap (λ (h : Kind). due (kind_event h w l r c) cs) (sym q)

  cut_sent : (w : Which) (l v y : ℕ) (a b : List ℕ) → leb v 127 ≡ true → (s (leg w l)).partner ≡ Some y → (x : Effect) →
      x ≡ does ((M w).tells l (s (leg w l)).phase Clear (cut_contents v)).phase ((M (other w)).tells y (s (leg (other w) y)).phase Clear (cut_contents v)).phase part
      ((M w).tells l (s (leg w l)).phase Clear (cut_contents v)).octets ((M (other w)).tells y (s (leg (other w) y)).phase Clear (cut_contents v)).octets →
      clearings M s (cut w l v a b) (outcome_of l (Some y) x a b) ≡ due_cut w l cs
  cut_sent w l v y a b d e x i =
      ap (λ (x : Effect). clearings M s (cut w l v a b) (outcome_of l (Some y) x a b)) i
      ∙ ap₂ (λ (p q : List Leg). p ++ q)
      (sent w l Clear (cut_contents v) a (cut_within v d) (clear_row M s g w l y e ((M w).callable l)))
      (sent (other w) y Clear (cut_contents v) b (cut_within v d) (clear_row M s g (other w) y l (back_partner M s g w l y e) ((M (other w)).callable y)))
      ∙ sym (linked_due w l y e).1

  step_cleared : (m : Member) → View M s m → clearings M s m (out M s m) ≡ due (event M m (out M s m)) cs
  step_cleared m (turned _ n p e o) = none_sent m n p (out M s m) o ∙ ap (λ (v : Event). due v cs) (sym (event_refused M m n p (out M s m) o))
  step_cleared _ (lone w o r a b l type h c f row u e x i n t) =
      ap (clearings M s (hear w o r a b)) (t ∙ ap (λ (x : Effect). outcome_of l None x a b) i)
      ∙ sym (lone_due w l r h c u e (is_clear h) refl)
      ∙ ap (λ (v : Event). due v cs) (sym (event_heard M w o r a b l type h c None x (out M s (hear w o r a b)) f t (subst Does (sym i) tt)))
  step_cleared _ (begun w o r a b l type c f h v d x i n t) =
      ap (clearings M s (hear w o r a b)) (t ∙ ap (λ (x : Effect). outcome_of l (Some r) x a b) i)
      ∙ sent (other w) r Setup (passed (has_user_user c) c) b (passed_within (has_user_user c) c (read_within (M w) o l type Setup c f)) d
      ∙ ap (λ (v : Event). due v cs) (sym (event_heard M w o r a b l type Setup c (Some r) x (out M s (hear w o r a b)) f t (subst Does (sym i) tt)))
  step_cleared _ (linked w o r a b l type h c y f row u e x i n t) =
      ap (clearings M s (hear w o r a b)) (t ∙ ap (λ (x : Effect). outcome_of l (Some y) x a b) i)
      ∙ linked_sent w l r type h c y a b (read_within (M w) o l type h c f) row u e (way h) refl o
      ∙ ap (λ (v : Event). due v cs) (sym (event_heard M w o r a b l type h c (Some y) x (out M s (hear w o r a b)) f t
      (subst Does (sym i) (does_way (way h) (M w) (M (other w)) l y type h c (s (leg w l)) (s (leg (other w) y)) (λ j. joining_is h j u)))))
  step_cleared _ (severed w l v a b y d e x i n t) =
      ap (clearings M s (cut w l v a b)) t ∙ cut_sent w l v y a b d e x i
      ∙ ap (λ (v : Event). due v cs) (sym (event_cut M w l v a b (Some y) x (out M s (cut w l v a b)) t (subst Does (sym i) tt)))

  -- an accepted cut is of a leg in a call
  pub any_has : (f : Call → Bool) (ds : List Call) (d : Call) → Memᴰ d ds → f d ≡ true → any f ds ≡ true
  any_has f [] d m i = elim m [ ]
  any_has f (x ∷ ds) d (Memᴰ.head e) i = rw (ap f (sym e) ∙ i)
  any_has f (x ∷ ds) d (Memᴰ.tail m) i = go (f x) (any_has f ds d m i)
    where
      go : (b : Bool) → any f ds ≡ true → (b || any f ds) ≡ true
      go true j = refl
      go false j = j

  step_cut : (w : Which) (l v : ℕ) (a b : List ℕ) → View M s (cut w l v a b) → event M (cut w l v a b) (out M s (cut w l v a b)) ≡ cut_off (leg w l) →
      any (has (leg w l)) cs ≡ true
  step_cut w l v a b (turned _ n p _ o) e =
      let f : plain ≡ cut_off (leg w l) = sym (event_refused M (cut w l v a b) n p (out M s (cut w l v a b)) o) ∙ e in
      absurd (let z : ◌≡◌ {A = ℕ} 0 1 = cc in omega arith)
  step_cut w l v a b (severed _ _ _ _ _ y d h x i n t) e =
      let r = count_some (has (leg w l)) cs (k.counts (leg w l) ∙ ap partnered h) in any_has (has (leg w l)) cs r.0 r.1 r.2

  partners_are : (w : Which) (l y : ℕ) → ((s (leg w l)).partner ≡ Some y) ↔ ((d : Call) × Memᴰ d cs × (leg_on w d ≡ l) × (leg_on (other w) d ≡ y))
  partners_are w l y = (
    (λ e. let r = count_some (has (leg w l)) cs (k.counts (leg w l) ∙ ap partnered e) in
        (r.0, r.1, sym (eqb-true l (leg_on w r.0) r.2), far_end s r.0 w l y (k.joins r.0 r.1) r.2 e)),
    (λ r. ap (λ (n : ℕ). (s (leg w n)).partner) (sym r.2) ∙ (k.joins r.0 r.1).partnered_with w ∙ ap Some r.3),
  )

  balanced : (es : List Event) → standing es ≡ cs → setups es ≡ pairs s (M First).legs + ended es
  balanced es e =
      let a = setups_are es in
      let b = pairs_tally s cs k (M First).legs in
      let c = tally_length (M First).legs cs (λ d m. (link_of M s g First d.one d.two ((k.joins d m).partnered_with First)).near_in) in
      let d : length (standing es) ≡ length cs = ap length e in
      omega arith

pub accounting : (M : Which → Side) → Accounting M
accounting M row =
    let s = run M fresh row in
    let g = row_sound M row in
    let cs = standing (events M fresh row) in
    let k = row_track M row in
    record {
      balance = balanced M s g cs k (events M fresh row) refl;
      partners = partners_are M s g cs k;
      cleared = λ m. step_cleared M s g cs k m (view M s m);
      cut_calls = λ w l v a b e. step_cut M s g cs k w l v a b (view M s (cut w l v a b)) e;
    }
