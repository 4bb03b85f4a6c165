-- Accounting: every call set up stands or has ended, partners are the legs of standing calls, and clearings go out where calls end.
-- Rests on the calls known from the history, set against the exchange's state and the messages in the buffers.
use Rattle.std.specs.Prelude.{◌≡◌, ℕ, zero, suc, ◌+◌, Bool, true, false, cond, ◌↔◌, List, [], ◌∷◌, ◌++◌, take, Some, None, Option}
use mathlib.Core.List.{Memᴰ}
use Rattle.side.specs.declared.kinds.Kind.{Kind}
use Rattle.side.specs.declared.kinds.Kind.TheVariants.{Setup, Complete, Progress, Alerting, Answer, Quiet, Clear, Down}
use Rattle.side.specs.declared.kinds.Phase.{Phase}
use Rattle.rows.specs.declared.kinds.Which.{Which}
use Rattle.rows.specs.declared.kinds.Which.TheVariants.{First}
use Rattle.rows.specs.Legs.{other, Leg, leg, any}
use Rattle.rows.specs.Sides.{Side}
use Rattle.rows.specs.Exchange.{State, fresh, Member, hear, cut, Response, refused, report, Outcome, out, run}
use Rattle.rows.specs.Calls.{Call, leg_on, has, Event, begins, clears, cut_off, plain, setups, standing, ended, event, events}

-- the pairs of partners in a state, counted by their legs of the first side, numbered below n
abbrev pub partnered : Option ℕ → ℕ
partnered None = 0
partnered (Some y) = 1

abbrev pub pairs : State → ℕ → ℕ
pairs s zero = 0
pairs s (suc n) = partnered (s (leg First n)).partner + pairs s n

abbrev pub is_clear : Kind → Bool
is_clear Setup = false
is_clear Complete = false
is_clear Progress = false
is_clear Alerting = false
is_clear Answer = false
is_clear Quiet = false
is_clear Clear = true
is_clear Down = false

-- a message that is not empty and that its far end, given the phase before it, reads as Clear
abbrev pub clearing_in : Side → Phase → List ℕ → Bool
clearing_in B p [] = false
clearing_in B p (x ∷ m) = is_clear (B.far p (x ∷ m)).kind

abbrev pub clearing_to : Side → State → Leg → List ℕ → List Leg
clearing_to B s x m = cond (clearing_in B (s x).phase m) (x ∷ []) []

-- the clearings due where an event ends calls: one to the other leg of each call that a party's Clear ends, one to each leg of each call cut
abbrev pub due_clear : Which → ℕ → List Call → List Leg
due_clear w l [] = []
due_clear w l (d ∷ ds) = cond (has (leg w l) d) (leg (other w) (leg_on (other w) d) ∷ due_clear w l ds) (due_clear w l ds)

abbrev pub due_cut : Which → ℕ → List Call → List Leg
due_cut w l [] = []
due_cut w l (d ∷ ds) = cond (has (leg w l) d) (leg w l ∷ leg (other w) (leg_on (other w) d) ∷ due_cut w l ds) (due_cut w l ds)

abbrev pub due : Event → List Call → List Leg
due (begins d) ds = []
due (clears (leg w l)) ds = due_clear w l ds
due (cut_off (leg w l)) ds = due_cut w l ds
due plain ds = []

module _ (M : Which → Side) where
  -- the clearings that a member sent
  abbrev pub heard_clearings : State → Which → Response → List ℕ → List Leg
  heard_clearings s w (refused n p) b = []
  heard_clearings s w (report l None i j) b = []
  heard_clearings s w (report l (Some y) i j) b = clearing_to (M (other w)) s (leg (other w) y) (take j b)

  abbrev pub cut_clearings : State → Which → Response → List ℕ → List ℕ → List Leg
  cut_clearings s w (refused n p) a b = []
  cut_clearings s w (report l None i j) a b = clearing_to (M w) s (leg w l) (take i a)
  cut_clearings s w (report l (Some y) i j) a b = clearing_to (M w) s (leg w l) (take i a) ++ clearing_to (M (other w)) s (leg (other w) y) (take j b)

  abbrev pub clearings : State → Member → Outcome → List Leg
  clearings s (hear w o r a b) u = heard_clearings s w u.answer u.onward
  clearings s (cut w l v a b) u = cut_clearings s w u.answer u.reply u.onward

  -- after a row
  pub record Accounted (row : List Member) : Type 0 where
    -- setups accepted are the pairs of partners and the calls ended
    pub balance : setups (events M fresh row) ≡ pairs (run M fresh row) (M First).legs + ended (events M fresh row)
    -- two legs are partners exactly if they are those of a standing call
    pub partners : (w : Which) (l y : ℕ) →
        ((run M fresh row (leg w l)).partner ≡ Some y) ↔ ((d : Call) × Memᴰ d (standing (events M fresh row)) × (leg_on w d ≡ l) × (leg_on (other w) d ≡ y))
    -- at any next member, the clearings sent are those due
    pub cleared : (m : Member) → let s = run M fresh row in let u = out M s m in
        clearings s m u ≡ due (event M m u) (standing (events M fresh row))
    -- a cut is accepted only of a leg in a call
    pub cut_calls : (w : Which) (l v : ℕ) (a b : List ℕ) → event M (cut w l v a b) (out M (run M fresh row) (cut w l v a b)) ≡ cut_off (leg w l) →
        any (has (leg w l)) (standing (events M fresh row)) ≡ true

  abbrev pub Accounting : Type 0
  Accounting = (row : List Member) → Accounted row
