-- Carriage: what is to be told onward is told, its far end reads the parts that go on, and nothing else is told.
-- Rests on the calls known from the history and on what the far end of a told message reads.
use Rattle.std.specs.Prelude.{◌≡◌, ℕ, ◌≤◌, Bool, true, false, not, ◌||◌, ◌⊎◌, ◌↔◌, List, [], length, Some, Option, ◌≢◌}
use mathlib.Core.List.{Memᴰ}
use Rattle.side.specs.declared.kinds.Kind.{Kind}
use Rattle.side.specs.declared.kinds.Kind.TheVariants.{Setup, Complete, Progress, Alerting, Answer, Quiet, Clear, Down}
use Rattle.side.specs.declared.kinds.Phase.{Phase}
use Rattle.side.specs.Contents.{Part}
use Rattle.side.specs.Signals.{Contents}
use Rattle.side.specs.Meaning.{speaks, keep}
use Rattle.side.specs.Steps.{written}
use Rattle.rows.specs.declared.kinds.Which.{Which}
use Rattle.rows.specs.Legs.{other, leg, any}
use Rattle.rows.specs.Sides.{Side, heard, reading}
use Rattle.rows.specs.Exchange.{fresh, Member, hear, refused, report, is_user_user, has_user_user, out, run}
use Rattle.rows.specs.Calls.{Call, leg_on, has, standing, events}

-- the parts heard, less what is withheld: what the told side does not carry and, in a call whose setup had none, user-user
abbrev pub carried : Side → Contents → Contents → List Part
carried B setup c = keep (λ p. B.carries p.tag) (keep (λ p. has_user_user setup || not (is_user_user p)) c.parts)

-- a kind that goes on to the partner: any but Quiet
abbrev pub goes_on : Kind → Bool
goes_on Setup = true
goes_on Complete = true
goes_on Progress = true
goes_on Alerting = true
goes_on Answer = true
goes_on Quiet = false
goes_on Clear = true
goes_on Down = true

-- leg y of side B, in phase p, is told kind k with contents c but for their parts; the far end reads these parts
pub record Told (B : Side) (y : ℕ) (p : Phase) (k : Kind) (c : Contents) (parts : List Part) (message : List ℕ) : Type 0 where
  pub contents : Contents
  pub as_told : message ≡ (B.tells y p k contents).octets
  pub but_parts : (contents.bearer ≡ c.bearer) × (contents.number ≡ c.number) × (contents.progress ≡ c.progress) × (contents.cause ≡ c.cause) × (contents.isdn ≡ c.isdn)
  pub fits : length message ≤ 255
  -- a side may have nothing to say for a kind; where it says something, this is what its far end reads
  pub read_parts : (message ≢ []) → (B.far p message).parts ≡ parts
  pub read_clear : (message ≢ []) → ((B.far p message).kind ≡ Clear) ↔ (k ≡ Clear)
  -- it says something at the end of a call, and, where it carries any part, of every kind that may bear one
  pub not_empty : (k ≡ Clear) ⊎ ((speaks k ≡ true) × ((t : ℕ) × (B.carries t ≡ true))) → message ≢ []

module _ (M : Which → Side) where
  -- a hearing accepted of kind k with contents c from leg l, after a row
  pub record Carried (row : List Member) (w : Which) (o : List ℕ) (r : ℕ) (a b : List ℕ) (l : ℕ) (k : Kind) (c : Contents) (partner : Option ℕ) (i j : ℕ) : Type 0 where
    -- a setup is told to its route
    pub set_up : k ≡ Setup → let s = run M fresh row in let u = out M s (hear w o r a b) in
        (message : List ℕ) × Told (M (other w)) r (s (leg (other w) r)).phase k c (carried (M (other w)) c c) message ×
        (partner ≡ Some r) × (j ≡ length message) × (u.onward ≡ written message b)
    -- any other kind but Quiet is told to the other leg of the call that stands
    pub told : (k ≢ Setup) → goes_on k ≡ true → (d : Call) → Memᴰ d (standing (events M fresh row)) → leg_on w d ≡ l →
        let s = run M fresh row in let u = out M s (hear w o r a b) in let y = leg_on (other w) d in
        (message : List ℕ) × Told (M (other w)) y (s (leg (other w) y)).phase k c (carried (M (other w)) d.setup c) message ×
        (partner ≡ Some y) × (j ≡ length message) × (u.onward ≡ written message b)
    -- nothing else is
    pub quiet : (k ≢ Setup) → (goes_on k ≡ false) ⊎ (any (has (leg w l)) (standing (events M fresh row)) ≡ false) →
        let u = out M (run M fresh row) (hear w o r a b) in (j ≡ 0) × (u.onward ≡ b)

  abbrev pub Carriage : Type 0
  Carriage = (row : List Member) (w : Which) (o : List ℕ) (r : ℕ) (a b : List ℕ) →
      let u = out M (run M fresh row) (hear w o r a b) in
      ((n p : ℕ) → u.answer ≡ refused n p → (u.reply ≡ a) × (u.onward ≡ b)) ×
      ((l : ℕ) (partner : Option ℕ) (i j : ℕ) → u.answer ≡ report l partner i j →
      (type : ℕ) × ((k : Kind) × ((c : Contents) × ((reading (M w) o ≡ heard l type k c) × Carried row w o r a b l k c partner i j))))
