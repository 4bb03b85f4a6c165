-- What one member does: five ways, each with its facts. Assumes nothing of the two sides.
use Rattle.std.proofs.Common.{◌≡◌, ℕ, Bool, true, false, ◌&&◌, ltb, leb, List, [], Some, None, Option, refl, ap, ◌∙◌, arith}
use Rattle.side.specs.declared.kinds.Kind.{Kind}
use Rattle.side.specs.declared.kinds.Kind.TheVariants.{Setup, Clear}
use Rattle.side.specs.declared.kinds.Phase.TheVariants.{Idle}
use Rattle.side.specs.Table.{between, heard_in, told_in}
use Rattle.side.specs.Signals.{Contents}
use Rattle.rows.specs.declared.kinds.Which.{Which}
use Rattle.rows.specs.Legs.{other, leg}
use Rattle.rows.specs.Sides.{Side, Reading, unread, heard, reading}
use Rattle.rows.specs.Exchange.{State, Member, hear, cut, stay, part, Effect, does, roomy, is_setup, way, has_user_user, passed, cut_contents, joined, both_way, has_row, after, refusal, outcome_of, reply_of, onward_of, next, out}

pub setup_is : (k : Kind) → is_setup k ≡ true → k ≡ Setup
setup_is k e = grind arith

module _ (M : Which → Side) (s : State) where
  pub data View : Member → Type 0 where
    -- refused, and nothing changed
    turned : (m : Member) (n p : ℕ) → next M s m ≡ s → out M s m ≡ refusal n p (reply_of m) (onward_of m) → View m
    -- from a leg without a partner
    lone : (w : Which) (o : List ℕ) (r : ℕ) (a b : List ℕ) (l type : ℕ) (k : Kind) (c : Contents) →
        reading (M w) o ≡ heard l type k c → heard_in k (s (leg w l)).phase ≡ true → is_setup k ≡ false → (s (leg w l)).partner ≡ None → (e : Effect) →
        e ≡ does ((M w).takes l (s (leg w l)).phase type k c).phase Idle stay ((M w).takes l (s (leg w l)).phase type k c).octets [] →
        next M s (hear w o r a b) ≡ after s w l None e → out M s (hear w o r a b) ≡ outcome_of l None e a b → View (hear w o r a b)
    -- a setup
    begun : (w : Which) (o : List ℕ) (r : ℕ) (a b : List ℕ) (l type : ℕ) (c : Contents) →
        reading (M w) o ≡ heard l type Setup c → between 0 0 (s (leg w l)).phase ≡ true → ltb r (M (other w)).legs ≡ true →
        told_in Setup ((M (other w)).callable r) (s (leg (other w) r)).phase ≡ true → (e : Effect) →
        e ≡ joined true ((M w).takes l (s (leg w l)).phase type Setup c) ((M (other w)).tells r (s (leg (other w) r)).phase Setup (passed (has_user_user c) c)) (has_user_user c) →
        next M s (hear w o r a b) ≡ after s w l (Some r) e → out M s (hear w o r a b) ≡ outcome_of l (Some r) e a b → View (hear w o r a b)
    -- any other kind from a leg with a partner
    linked : (w : Which) (o : List ℕ) (r : ℕ) (a b : List ℕ) (l type : ℕ) (k : Kind) (c : Contents) (y : ℕ) →
        reading (M w) o ≡ heard l type k c → heard_in k (s (leg w l)).phase ≡ true → is_setup k ≡ false → (s (leg w l)).partner ≡ Some y → (e : Effect) →
        e ≡ both_way (way k) (M w) (M (other w)) l y type k c (s (leg w l)) (s (leg (other w) y)) →
        next M s (hear w o r a b) ≡ after s w l (Some y) e → out M s (hear w o r a b) ≡ outcome_of l (Some y) e a b → View (hear w o r a b)
    -- a cut
    severed : (w : Which) (l v : ℕ) (a b : List ℕ) (y : ℕ) → leb v 127 ≡ true → (s (leg w l)).partner ≡ Some y → (e : Effect) →
        e ≡ does ((M w).tells l (s (leg w l)).phase Clear (cut_contents v)).phase ((M (other w)).tells y (s (leg (other w) y)).phase Clear (cut_contents v)).phase part
        ((M w).tells l (s (leg w l)).phase Clear (cut_contents v)).octets ((M (other w)).tells y (s (leg (other w) y)).phase Clear (cut_contents v)).octets →
        next M s (cut w l v a b) ≡ after s w l (Some y) e → out M s (cut w l v a b) ≡ outcome_of l (Some y) e a b → View (cut w l v a b)

  module _ (w : Which) (o : List ℕ) (r : ℕ) (a b : List ℕ) (l type : ℕ) (k : Kind) (c : Contents) (room : roomy a b ≡ true) (g : reading (M w) o ≡ heard l type k c) where
    view_linked : is_setup k ≡ false → (y : ℕ) → (s (leg w l)).partner ≡ Some y → heard_in k (s (leg w l)).phase ≡ true →
        (j : Bool) → has_row (way k) k ((M (other w)).callable y) (s (leg (other w) y)).phase ≡ j → View (hear w o r a b)
    view_linked u y e h false j = turned _ 7 0 (rw (room, g, u, e, h, j)) (rw (room, g, u, e, h, j))
    view_linked u y e h true j = linked w o r a b l type k c y g h u e _ refl (rw (room, g, u, e, h, j)) (rw (room, g, u, e, h, j))

    view_plain : is_setup k ≡ false → (q : Option ℕ) → (s (leg w l)).partner ≡ q → (h : Bool) → heard_in k (s (leg w l)).phase ≡ h → View (hear w o r a b)
    view_plain u None e false h = turned _ 7 0 (rw (room, g, u, e, h)) (rw (room, g, u, e, h))
    view_plain u None e true h = lone w o r a b l type k c g h u e _ refl (cc) (cc)
    view_plain u (Some y) e false h = turned _ 7 0 (rw (room, g, u, e, h)) (rw (room, g, u, e, h))
    view_plain u (Some y) e true h = view_linked u y e h _ refl

    view_setup : k ≡ Setup → (v : Bool) → ltb r (M (other w)).legs ≡ v → (h : Bool) → between 0 0 (s (leg w l)).phase ≡ h →
        (f : Bool) → told_in Setup ((M (other w)).callable r) (s (leg (other w) r)).phase ≡ f → View (hear w o r a b)
    view_setup q false i false h f j = turned _ 7 0 (rw (room, g, q, i, h)) (rw (room, g, q, i, h))
    view_setup q false i true h f j = turned _ 8 0 (rw (room, g, q, i, h)) (rw (room, g, q, i, h))
    view_setup q true i false h f j = turned _ 7 0 (rw (room, g, q, i, h)) (rw (room, g, q, i, h))
    view_setup q true i true h false j = turned _ 8 0 (rw (room, g, q, i, h, j)) (rw (room, g, q, i, h, j))
    view_setup q true i true h true j =
        begun w o r a b l type c (g ∙ ap (λ (k : Kind). heard l type k c) q) h i j _ refl (rw (room, g, q, i, h, j)) (rw (room, g, q, i, h, j))

    view_heard : (u : Bool) → is_setup k ≡ u → View (hear w o r a b)
    view_heard true u = view_setup (setup_is k u) _ refl _ refl _ refl
    view_heard false u = view_plain u _ refl _ refl

  view_read : (w : Which) (o : List ℕ) (r : ℕ) (a b : List ℕ) (t : Bool) → roomy a b ≡ t → (g : Reading) → reading (M w) o ≡ g → View (hear w o r a b)
  view_read w o r a b false e g f = turned _ 1 0 (rw e) (rw e)
  view_read w o r a b true e (unread n p) f = turned _ n p (rw (e, f)) (rw (e, f))
  view_read w o r a b true e (heard l type k c) f = view_heard w o r a b l type k c e f _ refl

  view_cut : (w : Which) (l v : ℕ) (a b : List ℕ) (t : Bool) → roomy a b ≡ t → (u : Bool) → leb v 127 ≡ u → (e : Bool) → ltb l (M w).legs ≡ e →
      (q : Option ℕ) → (s (leg w l)).partner ≡ q → View (cut w l v a b)
  view_cut w l v a b false i u j e k q h = turned _ 1 0 (rw i) (rw i)
  view_cut w l v a b true i false j e k q h = turned _ 6 0 (rw (i, j)) (rw (i, j))
  view_cut w l v a b true i true j false k q h = turned _ 9 0 (rw (i, j, k)) (rw (i, j, k))
  view_cut w l v a b true i true j true k None h = turned _ 9 0 (rw (i, j, k, h)) (rw (i, j, k, h))
  view_cut w l v a b true i true j true k (Some y) h = go _ refl
    where
      go : (x : Bool) → (told_in Clear ((M w).callable l) (s (leg w l)).phase && told_in Clear ((M (other w)).callable y) (s (leg (other w) y)).phase) ≡ x → View (cut w l v a b)
      go false x = turned _ 7 0 (rw (i, j, k, h, x)) (rw (i, j, k, h, x))
      go true x = severed w l v a b y j h _ refl (rw (i, j, k, h, x)) (rw (i, j, k, h, x))

  pub view : (m : Member) → View m
  view (hear w o r a b) = view_read w o r a b _ refl _ refl
  view (cut w l v a b) = view_cut w l v a b _ refl _ refl _ refl _ refl
