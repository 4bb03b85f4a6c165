-- An exchange over two sides: its state, what one member of a row does to it and what comes out, and whole rows.
-- Rests on the two sides' meaning alone; every refusal leaves the state and both buffers as they were.
use Rattle.std.specs.Prelude.{ℕ, Bool, true, false, cond, not, ◌&&◌, ◌||◌, List, [], ◌∷◌, length, Some, None, Option, ◌==◌, nat_le, nat_lt}
use Rattle.side.specs.declared.kinds.Kind.{Kind}
use Rattle.side.specs.declared.kinds.Kind.TheVariants.{Setup, Complete, Progress, Alerting, Answer, Quiet, Clear, Down}
use Rattle.side.specs.declared.kinds.Phase.{Phase}
use Rattle.side.specs.declared.kinds.Phase.TheVariants.{Idle}
use Rattle.side.specs.Table.{heard_in, told_in}
use Rattle.side.specs.Contents.{Part}
use Rattle.side.specs.Signals.{Contents}
use Rattle.side.specs.Meaning.{Turn, keep}
use Rattle.side.specs.Steps.{written}
use Rattle.rows.specs.declared.kinds.Which.{Which}
use Rattle.rows.specs.Legs.{other, Leg, leg, across, same_leg, any}
use Rattle.rows.specs.Sides.{Side, Reading, unread, heard, reading}

-- what the exchange knows of a leg: its phase, its partner (a leg of the other side), and whether its call's setup had user-user
pub record LegState : Type 0 where
  pub phase : Phase
  pub partner : Option ℕ
  pub user_user : Bool

abbrev pub State : Type 0
State = Leg → LegState

abbrev pub fresh : State
fresh x = record { phase = Idle; partner = None; user_user = false }

abbrev pub update : State → Leg → LegState → State
update s x v z = cond (same_leg z x) v (s z)

-- a member of a row: a hearing (side, message, route, buffers for the reply and onward)
-- or a cut (side, leg, cause, buffers for that leg and its partner)
pub data Member : Type 0 where
  hear : Which → List ℕ → ℕ → List ℕ → List ℕ → Member
  cut : Which → ℕ → ℕ → List ℕ → List ℕ → Member

-- a refusal (number, place) or a report (leg, partner, length of the reply, length onward)
pub data Response : Type 0 where
  refused : ℕ → ℕ → Response
  report : ℕ → Option ℕ → ℕ → ℕ → Response

-- what comes out of a member: the answer and both whole buffers
pub record Outcome : Type 0 where
  pub answer : Response
  pub reply : List ℕ
  pub onward : List ℕ

-- what a member asks of a leg: to hear a type, kind and contents with a route, or to cut with a cause
pub data Request : Type 0 where
  hearing : ℕ → Kind → Contents → ℕ → Request
  cutting : ℕ → Request

-- what a member asks, whatever the state: it is declined (number, place), or asks something of a leg
pub data Asked : Type 0 where
  declined : ℕ → ℕ → Asked
  requests : Which → ℕ → Request → Asked

-- what becomes of two legs: as they were, partners (of a call whose setup had user-user or not), partners no more
pub data Bond : Type 0 where
  stay : Bond
  join : Bool → Bond
  part : Bond

-- what a request does: a refusal at place 0; or the two phases, the bond and the two messages
pub data Effect : Type 0 where
  refuses : ℕ → Effect
  does : Phase → Phase → Bond → List ℕ → List ℕ → Effect

-- the other leg of a request
pub record Peer : Type 0 where
  pub number : ℕ
  pub at : LegState

abbrev pub roomy : List ℕ → List ℕ → Bool
roomy a b = nat_le 256 (length a) && nat_le 256 (length b)

abbrev pub read_asked : Which → ℕ → Reading → Asked
read_asked w r (unread n p) = declined n p
read_asked w r (heard l type k c) = requests w l (hearing type k c r)

abbrev pub hear_asked : Bool → Which → ℕ → Reading → Asked
hear_asked false w r g = declined 1 0
hear_asked true w r g = read_asked w r g

abbrev pub cut_asked : Bool → Bool → Bool → Which → ℕ → ℕ → Asked
cut_asked false c e w l v = declined 1 0
cut_asked true false e w l v = declined 6 0
cut_asked true true false w l v = declined 9 0
cut_asked true true true w l v = requests w l (cutting v)

abbrev pub is_setup : Kind → Bool
is_setup Setup = true
is_setup Complete = false
is_setup Progress = false
is_setup Alerting = false
is_setup Answer = false
is_setup Quiet = false
is_setup Clear = false
is_setup Down = false

-- how a kind goes on to the partner
pub data Way : Type 0 where
  joining silent passing parting : Way

abbrev pub way : Kind → Way
way Setup = joining
way Complete = passing
way Progress = passing
way Alerting = passing
way Answer = passing
way Quiet = silent
way Clear = parting
way Down = passing

abbrev pub is_user_user : Part → Bool
is_user_user p = p.tag == 0x7E

abbrev pub has_user_user : Contents → Bool
has_user_user c = any is_user_user c.parts

-- the contents that go on: user-user is withheld unless the call's setup had it
abbrev pub passed : Bool → Contents → Contents
passed u c = record {
  bearer = c.bearer;
  number = c.number;
  progress = c.progress;
  cause = c.cause;
  isdn = c.isdn;
  parts = keep (λ p. u || not (is_user_user p)) c.parts;
}

-- a cut says where it comes from, why, and no more
abbrev pub cut_contents : ℕ → Contents
cut_contents v = record { bearer = []; number = None; progress = None; cause = Some (2, v); isdn = true; parts = [] }

-- a setup
abbrev pub joined : Bool → Turn → Turn → Bool → Effect
joined false t u b = refuses 8
joined true t u b = does t.phase u.phase (join b) t.octets u.octets

-- from a leg without a partner
abbrev pub alone_row : Bool → Bool → Turn → LegState → Effect
alone_row false u t p = refuses 7
alone_row true true t p = refuses 8
alone_row true false t p = does t.phase Idle stay t.octets []

abbrev pub alone : Side → ℕ → Request → LegState → Effect
alone A l (hearing type k c r) p = alone_row (heard_in k p.phase) (is_setup k) (A.takes l p.phase type k c) p
alone A l (cutting v) p = refuses 9

-- from a leg with a partner or a route
abbrev pub both_way : Way → Side → Side → ℕ → ℕ → ℕ → Kind → Contents → LegState → LegState → Effect
both_way joining A B l y t k c p q =
    joined (told_in Setup (B.callable y) q.phase) (A.takes l p.phase t k c) (B.tells y q.phase k (passed (has_user_user c) c)) (has_user_user c)
both_way silent A B l y t k c p q = let x = A.takes l p.phase t k c in does x.phase q.phase stay x.octets []
both_way passing A B l y t k c p q =
    let x = A.takes l p.phase t k c in
    let u = B.tells y q.phase k (passed p.user_user c) in
    does x.phase u.phase stay x.octets u.octets
both_way parting A B l y t k c p q =
    let x = A.takes l p.phase t k c in
    let u = B.tells y q.phase k (passed p.user_user c) in
    does x.phase u.phase part x.octets u.octets

-- the partner has a row for what goes on to it
abbrev pub has_row : Way → Kind → Bool → Phase → Bool
has_row joining k b q = true
has_row silent k b q = true
has_row passing k b q = told_in k b q
has_row parting k b q = told_in k b q

abbrev pub both_row : Bool → Bool → Side → Side → ℕ → ℕ → ℕ → Kind → Contents → LegState → LegState → Effect
both_row false b A B l y t k c p q = refuses 7
both_row true false A B l y t k c p q = refuses 7
both_row true true A B l y t k c p q = both_way (way k) A B l y t k c p q

-- a cut tells both legs
abbrev pub cut_row : Bool → Turn → Turn → Effect
cut_row false t u = refuses 7
cut_row true t u = does t.phase u.phase part t.octets u.octets

abbrev pub both : Side → Side → ℕ → ℕ → Request → LegState → LegState → Effect
both A B l y (hearing t k c r) p q = both_row (heard_in k p.phase) (has_row (way k) k (B.callable y) q.phase) A B l y t k c p q
both A B l y (cutting v) p q =
    cut_row (told_in Clear (A.callable l) p.phase && told_in Clear (B.callable y) q.phase) (A.tells l p.phase Clear (cut_contents v))
    (B.tells y q.phase Clear (cut_contents v))

-- the other leg that a request concerns: a setup's route, if it exists; else the partner
abbrev pub second_leg : Side → Request → Option ℕ → Option ℕ
second_leg B (hearing type k c r) m = cond (is_setup k) (cond (nat_lt r B.legs) (Some r) None) m
second_leg B (cutting v) m = m

abbrev pub peer : State → Leg → Option ℕ → Option Peer
peer s x None = None
peer s x (Some y) = Some (record { number = y; at = s (across x y) })

abbrev pub effect : Side → Side → ℕ → Request → LegState → Option Peer → Effect
effect A B l d p None = alone A l d p
effect A B l d p (Some q) = both A B l q.number d p q.at

abbrev pub bonded : Bond → ℕ → Phase → LegState → LegState
bonded stay n p v = record { phase = p; partner = v.partner; user_user = v.user_user }
bonded (join u) n p v = record { phase = p; partner = Some n; user_user = u }
bonded part n p v = record { phase = p; partner = None; user_user = false }

abbrev pub after : State → Which → ℕ → Option ℕ → Effect → State
after s w l None (refuses n) = s
after s w l None (does p q b m n) = update s (leg w l) (bonded stay 0 p (s (leg w l)))
after s w l (Some y) (refuses n) = s
after s w l (Some y) (does p q b m n) =
    update (update s (leg w l) (bonded b y p (s (leg w l)))) (leg (other w) y) (bonded b l q (s (leg (other w) y)))

abbrev pub refusal : ℕ → ℕ → List ℕ → List ℕ → Outcome
refusal n p a b = record { answer = refused n p; reply = a; onward = b }

abbrev pub outcome_of : ℕ → Option ℕ → Effect → List ℕ → List ℕ → Outcome
outcome_of l o (refuses n) a b = refusal n 0 a b
outcome_of l o (does p q e m n) a b = record { answer = report l o (length m) (length n); reply = written m a; onward = written n b }

abbrev pub reply_of : Member → List ℕ
reply_of (hear w o r a b) = a
reply_of (cut w l v a b) = a

abbrev pub onward_of : Member → List ℕ
onward_of (hear w o r a b) = b
onward_of (cut w l v a b) = b

module _ (M : Which → Side) where
  abbrev pub asked : Member → Asked
  asked (hear w o r a b) = hear_asked (roomy a b) w r (reading (M w) o)
  asked (cut w l v a b) = cut_asked (roomy a b) (nat_le v 127) (nat_lt l (M w).legs) w l v

  abbrev pub second_of : State → Which → ℕ → Request → Option ℕ
  second_of s w l d = second_leg (M (other w)) d (s (leg w l)).partner

  abbrev pub effect_of : State → Which → ℕ → Request → Effect
  effect_of s w l d = effect (M w) (M (other w)) l d (s (leg w l)) (peer s (leg w l) (second_of s w l d))

  abbrev pub asked_state : State → Asked → State
  asked_state s (declined n p) = s
  asked_state s (requests w l d) = after s w l (second_of s w l d) (effect_of s w l d)

  abbrev pub asked_outcome : State → Asked → List ℕ → List ℕ → Outcome
  asked_outcome s (declined n p) a b = refusal n p a b
  asked_outcome s (requests w l d) a b = outcome_of l (second_of s w l d) (effect_of s w l d) a b

  -- the state after one member, and what came out of it
  abbrev pub next : State → Member → State
  next s m = asked_state s (asked m)

  abbrev pub out : State → Member → Outcome
  out s m = asked_outcome s (asked m) (reply_of m) (onward_of m)

  -- the state after a row
  abbrev pub run : State → List Member → State
  run s [] = s
  run s (m ∷ r) = run (next s m) r
