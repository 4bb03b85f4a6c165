-- Cutting: both legs of the call are told that it ends, with the cause given, and are partners no more.
-- Rests on the calls known from the history and on what the far end of a told message reads.
use Rattle.std.specs.Prelude.{◌≡◌, ℕ, List, [], length, Some, None, Option}
use mathlib.Core.List.{Memᴰ}
use Rattle.side.specs.declared.kinds.Kind.TheVariants.{Clear}
use Rattle.side.specs.Steps.{written}
use Rattle.rows.specs.declared.kinds.Which.{Which}
use Rattle.rows.specs.Legs.{other, leg}
use Rattle.rows.specs.Sides.{Side}
use Rattle.rows.specs.Exchange.{fresh, Member, cut, refused, report, cut_contents, next, out, run}
use Rattle.rows.specs.Calls.{Call, leg_on, standing, events}
use Rattle.rows.specs.Carriage.{Told}

module _ (M : Which → Side) where
  -- a cut of leg l with cause v, accepted after a row
  pub record Severed (row : List Member) (w : Which) (l v : ℕ) (a b : List ℕ) (k : ℕ) (partner : Option ℕ) (i j : ℕ) : Type 0 where
    pub its_leg : k ≡ l
    -- the call that it ends
    pub call : Call
    pub stood : Memᴰ call (standing (events M fresh row))
    pub leg_is_on : leg_on w call ≡ l
    pub partner_on : partner ≡ Some (leg_on (other w) call)
    -- what is told: the cause given, from this network, and no part
    pub said : ((cut_contents v).cause ≡ Some (2, v)) × ((cut_contents v).parts ≡ [])
    -- it is told to the leg, and to its partner
    pub near : let s = run M fresh row in let u = out M s (cut w l v a b) in
        (message : List ℕ) × Told (M w) l (s (leg w l)).phase Clear (cut_contents v) [] message × (i ≡ length message) × (u.reply ≡ written message a)
    pub far : let s = run M fresh row in let u = out M s (cut w l v a b) in let y = leg_on (other w) call in
        (message : List ℕ) × Told (M (other w)) y (s (leg (other w) y)).phase Clear (cut_contents v) [] message × (j ≡ length message) × (u.onward ≡ written message b)
    -- and then they are in no call
    pub parted : let t = next M (run M fresh row) (cut w l v a b) in
        ((t (leg w l)).partner ≡ None) × ((t (leg (other w) (leg_on (other w) call))).partner ≡ None)

  abbrev pub Cutting : Type 0
  Cutting = (row : List Member) (w : Which) (l v : ℕ) (a b : List ℕ) → let u = out M (run M fresh row) (cut w l v a b) in
      ((n p : ℕ) → u.answer ≡ refused n p → (u.reply ≡ a) × (u.onward ≡ b)) ×
      ((k : ℕ) (partner : Option ℕ) (i j : ℕ) → u.answer ≡ report k partner i j → Severed row w l v a b k partner i j)
