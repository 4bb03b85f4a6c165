-- What taking a message and telling a request do to a side's records and to the buffer lent for the message.
-- Rests on the side's meaning; refusals are decided first, and a refusal changes nothing.
use Rattle.std.specs.Prelude.{◌≡◌, ℕ, Bool, cond, ◌&&◌, List, ◌++◌, length, drop, Some, None, Ok, Err, Option, Result, MatchResult, nat_lt, slice_index_or, slice_set}
use Rattle.side.specs.declared.kinds.Kind.{Kind}
use Rattle.side.specs.declared.kinds.Phase.{Phase}
use Rattle.side.specs.declared.kinds.System.{System}
use Rattle.side.specs.declared.kinds.Reason.{Reason}
use Rattle.side.specs.declared.kinds.Reason.TheVariants.{ShortBuffer, WrongPhase}
use Rattle.side.specs.declared.kinds.Layer.TheVariants.{Legs}
use Rattle.side.specs.declared.kinds.Refusal.{Refusal}
use Rattle.side.specs.Table.{heard_in, told_in}
use Rattle.side.specs.Signals.{Contents, Heard}
use Rattle.side.specs.Meaning.{Meaning}

-- a message written from the front of a buffer and no further
abbrev pub written : List ℕ → List ℕ → List ℕ
written message buffer = message ++ drop (length message) buffer

-- a refusal by the side's legs, at place 0
abbrev pub leg_refusal : System → Reason → Refusal
leg_refusal s r = record { reason = r; place = 0; system = s; layer = Legs }

-- what stands against a take or a tell: a buffer below 256 octets, or no row for the phase
abbrev pub row_fault : System → ℕ → Bool → Option Refusal
row_fault s room row = cond (nat_lt room 256) (Some (leg_refusal s ShortBuffer)) (cond row None (Some (leg_refusal s WrongPhase)))

-- the record of a leg; one that is not there is blank
module _ {R : Type 0} (M : Meaning R) where
  abbrev pub record_at : List R → ℕ → R
  record_at rs l = slice_index_or rs l M.blank

  abbrev pub phase_at : List R → ℕ → Option Phase
  phase_at rs l = cond (nat_lt l (length rs)) (Some (M.phase_of (record_at rs l))) None

  abbrev pub can_take : List R → ℕ → Kind → Bool
  can_take rs l k = nat_lt l (length rs) && heard_in k (M.phase_of (record_at rs l))

  abbrev pub can_tell : List R → ℕ → Kind → Bool
  can_tell rs l k = nat_lt l (length rs) && told_in k (M.callable l) (M.phase_of (record_at rs l))

-- the answer, the records and the buffer afterwards
pub record After (R : Type 0) : Type 0 where
  pub answer : Result ℕ Refusal
  pub records : List R
  pub buffer : List ℕ

module _ {R : Type 0} (M : Meaning R) (rs : List R) where
  -- a refusal changes nothing; else the record is written in its place and the message from the front
  abbrev pub settled : ℕ → Option Refusal → R → List ℕ → List ℕ → After R
  settled l (Some e) r message buffer = record { answer = Err e; records = rs; buffer = buffer }
  settled l None r message buffer = record { answer = Ok (length message); records = slice_set rs l r; buffer = written message buffer }

  abbrev pub take_step : Heard → List ℕ → After R
  take_step h buffer =
      settled h.leg (row_fault M.system (length buffer) (can_take M rs h.leg h.kind))
      (M.taken h.leg (record_at M rs h.leg) h.type h.kind h.contents)
      (M.takes h.leg (M.phase_of (record_at M rs h.leg)) h.type h.kind h.contents).octets buffer

  abbrev pub tell_step : ℕ → Kind → Contents → List ℕ → After R
  tell_step l k c buffer =
      settled l (row_fault M.system (length buffer) (can_tell M rs l k)) (M.told l (record_at M rs l) k c)
      (M.tells l (M.phase_of (record_at M rs l)) k c).octets buffer

-- a call did this
pub record Did {R : Type 0} (a : After R) (answer : Result ℕ Refusal) (records : List R) (buffer : List ℕ) : Type 0 where
  pub answered : answer ≡ a.answer
  pub left : records ≡ a.records
  pub wrote : buffer ≡ a.buffer

-- the same of one record: refused with nothing changed, or the record, the length and the buffer afterwards
abbrev pub One : {R : Type 0} → Option Refusal → R → List ℕ → List ℕ → List ℕ → Result (R × ℕ) Refusal → Type 0
One fault next message before after r =
    MatchResult r (λ x. (fault ≡ None) × (x.0 ≡ next) × (x.1 ≡ length message) × (after ≡ written message before)) (λ e. (fault ≡ Some e) × (after ≡ before))
