-- Refusals: which members are refused, with which number and at which place; every other is accepted.
-- Rests on the model of the exchange after a row from a brand new one.
use Rattle.std.specs.Prelude.{◌≡◌, ℕ, Bool, true, false, cond, not, ◌&&◌, List, Some, None, Option, nat_le, nat_lt}
use Rattle.side.specs.Table.{heard_in, between}
use Rattle.rows.specs.declared.kinds.Which.{Which}
use Rattle.rows.specs.Legs.{other, leg}
use Rattle.rows.specs.Sides.{Side, Reading, unread, heard, reading}
use Rattle.rows.specs.Exchange.{State, fresh, Member, hear, cut, Response, refused, report, roomy, is_setup, out, run}

abbrev pub refusal_in : Response → Option (ℕ × ℕ)
refusal_in (refused n p) = Some (n, p)
refusal_in (report l q i j) = None

abbrev pub in_call : Option ℕ → Bool
in_call None = false
in_call (Some y) = true

module _ (M : Which → Side) (s : State) where
  -- a route on a side that exists, may be called and is idle
  abbrev pub route_open : Which → ℕ → Bool
  route_open w r = nat_lt r (M w).legs && ((M w).callable r && between 0 0 (s (leg w r)).phase)

  abbrev pub read_fault : Which → ℕ → Reading → Option (ℕ × ℕ)
  read_fault w r (unread n p) = Some (n, p)
  read_fault w r (heard l t k c) = cond (heard_in k (s (leg w l)).phase) (cond (is_setup k && not (route_open (other w) r)) (Some (8, 0)) None) (Some (7, 0))

  -- what stands against a member, in this order: its buffers, what the side reads, the phase, the route; at a cut its buffers, the cause, the call
  abbrev pub fault : Member → Option (ℕ × ℕ)
  fault (hear w o r a b) = cond (roomy a b) (read_fault w r (reading (M w) o)) (Some (1, 0))
  fault (cut w l v a b) =
      cond (roomy a b) (cond (nat_le v 127) (cond (nat_lt l (M w).legs && in_call (s (leg w l)).partner) None (Some (9, 0))) (Some (6, 0))) (Some (1, 0))

abbrev pub Refusals : (Which → Side) → Type 0
Refusals M = (row : List Member) (m : Member) → let s = run M fresh row in refusal_in (out M s m).answer ≡ fault M s m
