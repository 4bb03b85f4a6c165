-- The calls of a row, told from its history alone: its members and whether each was accepted.
-- Rests on what came out of each member; nothing is looked up in the exchange's state.
use Rattle.std.specs.Prelude.{ℕ, suc, Bool, true, false, cond, not, ◌&&◌, List, [], ◌∷◌, ◌==◌}
use Rattle.side.specs.declared.kinds.Kind.{Kind}
use Rattle.side.specs.declared.kinds.Kind.TheVariants.{Setup, Complete, Progress, Alerting, Answer, Quiet, Clear, Down}
use Rattle.side.specs.Signals.{Contents}
use Rattle.rows.specs.declared.kinds.Which.{Which}
use Rattle.rows.specs.declared.kinds.Which.TheVariants.{First, Second}
use Rattle.rows.specs.Legs.{Leg, leg}
use Rattle.rows.specs.Sides.{Side, Reading, unread, heard, reading}
use Rattle.rows.specs.Exchange.{State, Member, hear, cut, Response, refused, report, Outcome, next, out}

-- a call joins a leg of the first side with a leg of the second; its setup is as it was heard
pub record Call : Type 0 where
  pub one : ℕ
  pub two : ℕ
  pub setup : Contents

abbrev pub call : Which → ℕ → ℕ → Contents → Call
call First l r c = record { one = l; two = r; setup = c }
call Second l r c = record { one = r; two = l; setup = c }

-- the call's leg on a side
abbrev pub leg_on : Which → Call → ℕ
leg_on First d = d.one
leg_on Second d = d.two

-- a leg is one of the call's two
abbrev pub has : Leg → Call → Bool
has (leg w l) d = l == leg_on w d

-- what a member was, once its outcome is known
pub data Event : Type 0 where
  begins : Call → Event
  clears : Leg → Event
  cut_off : Leg → Event
  plain : Event

abbrev pub kind_event : Kind → Which → ℕ → ℕ → Contents → Event
kind_event Setup w l r c = begins (call w l r c)
kind_event Complete w l r c = plain
kind_event Progress w l r c = plain
kind_event Alerting w l r c = plain
kind_event Answer w l r c = plain
kind_event Quiet w l r c = plain
kind_event Clear w l r c = clears (leg w l)
kind_event Down w l r c = plain

abbrev pub read_event : Which → ℕ → Reading → Event
read_event w r (unread n p) = plain
read_event w r (heard l t k c) = kind_event k w l r c

-- a refused member is no event of a call
abbrev pub accepted : Response → Event → Event
accepted (refused n p) e = plain
accepted (report l o i j) e = e

-- the next accepted Clear from either leg, or accepted cut of either, ends a call
abbrev pub ends : Event → Call → Bool
ends (begins c) d = false
ends (clears z) d = has z d
ends (cut_off z) d = has z d
ends plain d = false

abbrev pub outlives : List Event → Call → Bool
outlives [] d = true
outlives (e ∷ later) d = not (ends e d) && outlives later d

-- the calls begun, those that stand, and how many ended
abbrev pub setups : List Event → ℕ
setups [] = 0
setups (begins d ∷ later) = suc (setups later)
setups (clears z ∷ later) = setups later
setups (cut_off z ∷ later) = setups later
setups (plain ∷ later) = setups later

abbrev pub standing : List Event → List Call
standing [] = []
standing (begins d ∷ later) = cond (outlives later d) (d ∷ standing later) (standing later)
standing (clears z ∷ later) = standing later
standing (cut_off z ∷ later) = standing later
standing (plain ∷ later) = standing later

abbrev pub ended : List Event → ℕ
ended [] = 0
ended (begins d ∷ later) = cond (outlives later d) (ended later) (suc (ended later))
ended (clears z ∷ later) = ended later
ended (cut_off z ∷ later) = ended later
ended (plain ∷ later) = ended later

-- the history of a row
module _ (M : Which → Side) where
  abbrev pub event : Member → Outcome → Event
  event (hear w o r a b) u = accepted u.answer (read_event w r (reading (M w) o))
  event (cut w l v a b) u = accepted u.answer (cut_off (leg w l))

  abbrev pub events : State → List Member → List Event
  events s [] = []
  events s (m ∷ r) = event m (out M s m) ∷ events (next M s m) r
