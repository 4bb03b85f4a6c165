-- A member is refused exactly where something stands against it: a partner always has a row for what it is told.
-- Assumes that the state is sound.
use Rattle.std.proofs.Common.{◌≡◌, ℕ, Bool, true, false, ◌&&◌, ltb, leb, List, Some, None, Option, refl}
use Rattle.side.specs.declared.kinds.Kind.{Kind}
use Rattle.side.specs.declared.kinds.Kind.TheVariants.{Setup, Clear}
use Rattle.side.specs.Table.{heard_in, told_in, between}
use Rattle.side.specs.Signals.{Contents}
use Rattle.rows.specs.declared.kinds.Which.{Which}
use Rattle.rows.specs.Legs.{other, leg}
use Rattle.rows.specs.Sides.{Side, Reading, unread, heard, reading}
use Rattle.rows.specs.Exchange.{State, fresh, Member, hear, cut, roomy, is_setup, Way, joining, silent, passing, parting, way, has_row, out, run}
use Rattle.rows.specs.Refusals.{refusal_in, fault, Refusals}
use Rattle.rows.proofs.Table.{pass_tells, parting_is, joining_is}
use Rattle.rows.proofs.Steps.{setup_is}
use Rattle.rows.proofs.Sound.{Sound, link_of, back_partner, clear_row, row_sound}

module _ (M : Which → Side) (s : State) (g : Sound M s) where
  -- the partner has a row for whatever its leg may say
  pub ready : (w : Which) (l y : ℕ) (k : Kind) → (s (leg w l)).partner ≡ Some y → heard_in k (s (leg w l)).phase ≡ true → (W : Way) → way k ≡ W →
      has_row W k ((M (other w)).callable y) (s (leg (other w) y)).phase ≡ true
  ready w l y k e h joining j = refl
  ready w l y k e h silent j = refl
  ready w l y k e h passing j = pass_tells k ((M (other w)).callable y) (s (leg w l)).phase (s (leg (other w) y)).phase j (link_of M s g w l y e).phases h
  ready w l y k e h parting j = rw (parting_is k j) (clear_row M s g (other w) y l (back_partner M s g w l y e) ((M (other w)).callable y))

  -- both legs of a call can be told that it ends
  pub ready_cut : (w : Which) (l y : ℕ) → (s (leg w l)).partner ≡ Some y →
      (told_in Clear ((M w).callable l) (s (leg w l)).phase && told_in Clear ((M (other w)).callable y) (s (leg (other w) y)).phase) ≡ true
  ready_cut w l y e =
      rw (clear_row M s g w l y e ((M w).callable l), clear_row M s g (other w) y l (back_partner M s g w l y e) ((M (other w)).callable y))

  abbrev Right : Member → Type 0
  Right m = refusal_in (out M s m).answer ≡ fault M s m

  module _ (w : Which) (o : List ℕ) (r : ℕ) (a b : List ℕ) (l t : ℕ) (k : Kind) (c : Contents) (room : roomy a b ≡ true) (f : reading (M w) o ≡ heard l t k c) where
    right_plain : is_setup k ≡ false → (q : Option ℕ) → (s (leg w l)).partner ≡ q → (h : Bool) → heard_in k (s (leg w l)).phase ≡ h → Right (hear w o r a b)
    right_plain u None e false h = rw (room, f, u, e, h)
    right_plain u None e true h = rw (room, f, u, e, h, u)
    right_plain u (Some y) e false h = rw (room, f, u, e, h)
    right_plain u (Some y) e true h = go (way k) refl
      where
        go : (W : Way) → way k ≡ W → Right (hear w o r a b)
        go joining j = absurd (joining_is k j u)
        go silent j = rw (room, f, u, e, h, j, j)
        go passing j = let v = ready w l y k e h passing j in rw (room, f, u, e, h, j, v, j)
        go parting j = let v = ready w l y k e h parting j in rw (room, f, u, e, h, j, v, j)

    right_setup : k ≡ Setup → (v : Bool) → ltb r (M (other w)).legs ≡ v → (h : Bool) → between 0 0 (s (leg w l)).phase ≡ h →
        (j : Bool) → told_in Setup ((M (other w)).callable r) (s (leg (other w) r)).phase ≡ j → Right (hear w o r a b)
    right_setup q false i false h x j = rw (room, f, q, i, h)
    right_setup q false i true h x j = rw (room, f, q, i, h)
    right_setup q true i false h x j = rw (room, f, q, i, h)
    right_setup q true i true h false j = rw (room, f, q, i, h, j)
    right_setup q true i true h true j = rw (room, f, q, i, h, j)

    right_heard : (u : Bool) → is_setup k ≡ u → Right (hear w o r a b)
    right_heard true u = right_setup (setup_is k u) _ refl _ refl _ refl
    right_heard false u = right_plain u _ refl _ refl

  right_read : (w : Which) (o : List ℕ) (r : ℕ) (a b : List ℕ) (t : Bool) → roomy a b ≡ t → (x : Reading) → reading (M w) o ≡ x → Right (hear w o r a b)
  right_read w o r a b false e x f = rw e
  right_read w o r a b true e (unread n p) f = rw (e, f)
  right_read w o r a b true e (heard l t k c) f = right_heard w o r a b l t k c e f _ refl

  right_cut : (w : Which) (l v : ℕ) (a b : List ℕ) (t : Bool) → roomy a b ≡ t → (u : Bool) → leb v 127 ≡ u → (e : Bool) → ltb l (M w).legs ≡ e →
      (q : Option ℕ) → (s (leg w l)).partner ≡ q → Right (cut w l v a b)
  right_cut w l v a b false i u j e k q h = rw i
  right_cut w l v a b true i false j e k q h = rw (i, j)
  right_cut w l v a b true i true j false k q h = rw (i, j, k)
  right_cut w l v a b true i true j true k None h = rw (i, j, k, h)
  right_cut w l v a b true i true j true k (Some y) h = let x = ready_cut w l y h in rw (i, j, k, h, x)

  right : (m : Member) → Right m
  right (hear w o r a b) = right_read w o r a b _ refl _ refl
  right (cut w l v a b) = right_cut w l v a b _ refl _ refl _ refl _ refl

pub refusals : (M : Which → Side) → Refusals M
refusals M row m = right M (run M fresh row) (row_sound M row) m
