-- A cut tells both legs of a standing call, and parts them. Assumes the laws of the two sides.
use Rattle.std.proofs.Common.{◌≡◌, ℕ, true, leb, List, [], length, Some, sym, refl, ap, ◌∙◌, subst}
use Rattle.std.proofs.lemmas.Bool.{eqb-true}
use Rattle.side.specs.declared.kinds.Kind.TheVariants.{Clear}
use Rattle.side.specs.declared.kinds.Phase.{Phase}
use Rattle.side.specs.Table.{told_in}
use Rattle.side.specs.Steps.{written}
use Rattle.rows.specs.declared.kinds.Which.{Which}
use Rattle.rows.specs.Legs.{other, leg}
use Rattle.rows.specs.Sides.{Side}
use Rattle.rows.specs.Exchange.{State, LegState, fresh, Member, cut, Response, refused, report, Outcome, Effect, cut_contents, after, outcome_of, next, out, run}
use Rattle.rows.specs.Calls.{Call, leg_on, has, standing, events}
use Rattle.rows.specs.Accounting.{partnered}
use Rattle.rows.specs.Carriage.{Told}
use Rattle.rows.specs.Cutting.{Severed, Cutting}
use Rattle.rows.proofs.Steps.{View, turned, severed, view}
use Rattle.rows.proofs.Sound.{Sound, at_x, at_y, back_partner, clear_row, row_sound}
use Rattle.rows.proofs.Counts.{count_some}
use Rattle.rows.proofs.Track.{Track, far_end, row_track}
use Rattle.rows.proofs.Told.{cut_within}

cut_told : (B : Side) (y : ℕ) (p : Phase) (v : ℕ) → leb v 127 ≡ true → told_in Clear (B.callable y) p ≡ true →
    Told B y p Clear (cut_contents v) [] (B.tells y p Clear (cut_contents v)).octets
cut_told B y p v e row = record {
  contents = cut_contents v;
  as_told = refl;
  but_parts = (refl, refl, refl, refl, refl);
  fits = B.tell_short y p Clear (cut_contents v) (cut_within v e);
  read_parts = B.far_parts y p Clear (cut_contents v) (cut_within v e) row;
  read_clear = B.far_clear y p Clear (cut_contents v) (cut_within v e) row;
  not_empty = λ _. B.clear_said y p (cut_contents v) row;
}

module _ (M : Which → Side) (row : List Member) (w : Which) (l v : ℕ) (a b : List ℕ) where
  abbrev s : State
  s = run M fresh row

  abbrev m : Member
  m = cut w l v a b

  abbrev cs : List Call
  cs = standing (events M fresh row)

  abbrev Right : Response → Type 0
  Right (refused n p) = ((out M s m).reply ≡ a) × ((out M s m).onward ≡ b)
  Right (report k q i j) = Severed M row w l v a b k q i j

  right : View M s m → Right (out M s m).answer
  right (turned _ n p e t) =
      subst Right (ap (λ (u : Outcome). u.answer) (sym t)) (ap (λ (u : Outcome). u.reply) t, ap (λ (u : Outcome). u.onward) t)
  right (severed _ _ _ _ _ y d e x i n t) =
      let g : Sound M s = row_sound M row in
      let k : Track s cs = row_track M row in
      let t' = t ∙ ap (λ (x : Effect). outcome_of l (Some y) x a b) i in
      let n' = n ∙ ap (after s w l (Some y)) i in
      let r = count_some (has (leg w l)) cs (k.counts (leg w l) ∙ ap partnered e) in
      let q : leg_on (other w) r.0 ≡ y = far_end s r.0 w l y (k.joins r.0 r.1) r.2 e in
      let back = back_partner M s g w l y e in
      subst Right (ap (λ (u : Outcome). u.answer) (sym t')) (record {
        its_leg = refl;
        call = r.0;
        stood = r.1;
        leg_is_on = sym (eqb-true l (leg_on w r.0) r.2);
        partner_on = ap Some (sym q);
        said = (refl, refl);
        near = (_, cut_told (M w) l (s (leg w l)).phase v d (clear_row M s g w l y e ((M w).callable l)), refl, ap (λ (u : Outcome). u.reply) t');
        far = subst (λ (y' : ℕ). (message : List ℕ) × Told (M (other w)) y' (s (leg (other w) y')).phase Clear (cut_contents v) [] message ×
            (length ((M (other w)).tells y (s (leg (other w) y)).phase Clear (cut_contents v)).octets ≡ length message) × ((out M s m).onward ≡ written message b)) (sym q)
            (_, cut_told (M (other w)) y (s (leg (other w) y)).phase v d (clear_row M s g (other w) y l back ((M (other w)).callable y)), refl, ap (λ (u : Outcome). u.onward) t');
        parted = (
          ap (λ (s : State). (s (leg w l)).partner) n' ∙ ap (λ (p : LegState). p.partner) (at_x M s w l y _ _),
          ap (λ (z : ℕ). (next M s m (leg (other w) z)).partner) q ∙ ap (λ (s : State). (s (leg (other w) y)).partner) n' ∙ ap (λ (p : LegState). p.partner) (at_y M s w l y _ _),
        );
      })

pub cutting : (M : Which → Side) → Cutting M
cutting M row w l v a b =
    let q = right M row w l v a b (view M (run M fresh row) (cut w l v a b)) in
    ((λ n p e. subst (Right M row w l v a b) e q), (λ k p i j e. subst (Right M row w l v a b) e q))
