-- The messages of analogue lines: what is read, what is refused and where, what is written, what is kept.
-- Rests on the kinds, the table of phases and the rule of dialled digits.
use Rattle.std.specs.Prelude.{ℕ, ◌+◌, ◌-◌, Bool, true, false, cond, ◌&&◌, List, [], ◌∷◌, ◌++◌, length, drop, Some, None, Ok, Err, Option, Result, ◌==◌, nat_le, nat_lt, slice_index}
use Rattle.values.specs.declared.types.NumberType.{NumberType}
use Rattle.values.specs.declared.types.NumberType.TheVariants.{Unknown}
use Rattle.digits.specs.declared.types.DigitFault.{DigitFault}
use Rattle.digits.specs.declared.types.DigitFault.TheVariants.{NoDigits, TooMany, NotADigit}
use Rattle.digits.specs.Dialling.{dialled}
use Rattle.side.specs.declared.kinds.Kind.{Kind}
use Rattle.side.specs.declared.kinds.Kind.TheVariants.{Setup, Complete, Progress, Alerting, Answer, Quiet, Clear, Down}
use Rattle.side.specs.declared.kinds.Phase.{Phase}
use Rattle.side.specs.declared.kinds.Phase.TheVariants.{Idle}
use Rattle.side.specs.declared.kinds.System.TheVariants.{Line}
use Rattle.side.specs.declared.kinds.Reason.{Reason}
use Rattle.side.specs.declared.kinds.Reason.TheVariants.{Malformed, UnknownType, NoSuchLeg, BadValue}
use Rattle.side.specs.declared.kinds.Layer.TheVariants.{Message}
use Rattle.side.specs.declared.kinds.Refusal.{Refusal}
use Rattle.side.specs.Table.{heard_to, told_to}
use Rattle.side.specs.Signals.{Contents, Heard, empty}
use Rattle.side.specs.Meaning.{Turn, Far}
use Rattle.side.specs.declared.records.Dialled.{Dialled}
use Rattle.side.specs.declared.records.LineRecord.{LineRecord}

-- LIN in IA5 and the version, at the front of every message
abbrev pub head : List ℕ
head = 0x4C ∷ 0x49 ∷ 0x4E ∷ 0x00 ∷ 0x01 ∷ []

abbrev pub refusal : Reason → ℕ → Refusal
refusal r p = record { reason = r; place = p; system = Line; layer = Message }

-- a head of eight octets: the five above, the line, the event and the count of digits
abbrev pub headed : List ℕ → Bool
headed o =
    nat_le 8 (length o) && (nat_le (length o) 255 && (slice_index o 0 == 0x4C && (slice_index o 1 == 0x49 && (slice_index o 2 == 0x4E && (slice_index o 3 == 0x00 && slice_index o 4 == 0x01)))))

-- the events that a line sends
abbrev pub event_kind : ℕ → Option Kind
event_kind e = cond (e == 0x01) (Some Setup) (cond (e == 0x02) (Some Alerting) (cond (e == 0x03) (Some Answer) (cond (e == 0x04) (Some Clear) None)))

-- what a setup from a line says: 3.1 kHz audio, an unknown type of number, no ISDN
abbrev pub setup_of : List ℕ → Contents
setup_of d = record { bearer = 0x90 ∷ 0x90 ∷ 0xA3 ∷ []; number = Some (Unknown, d); progress = None; cause = None; isdn = false; parts = [] }

-- and the other events: no ISDN; a line that is hung up clears normally
abbrev pub others_of : Kind → Contents
others_of Setup = empty
others_of Complete = empty
others_of Progress = empty
others_of Alerting = record { bearer = []; number = None; progress = None; cause = None; isdn = false; parts = [] }
others_of Answer = record { bearer = []; number = None; progress = None; cause = None; isdn = false; parts = [] }
others_of Quiet = empty
others_of Clear = record { bearer = []; number = None; progress = None; cause = Some (0, 16); isdn = true; parts = [] }
others_of Down = empty

abbrev pub heard_as : List ℕ → Kind → Contents → Result Heard Refusal
heard_as o k c = Ok (record { leg = slice_index o 5; type = slice_index o 6; kind = k; contents = c })

-- a wrong count is refused at the count, a wrong digit at its own place
abbrev pub digit_place : DigitFault → ℕ
digit_place NoDigits = 7
digit_place TooMany = 7
digit_place (NotADigit k) = 8 + k

-- a setup has 1 to 20 digits: their count is at place 7, and they stand from place 8 on
abbrev pub setup_read : List ℕ → Result (List ℕ) DigitFault → Result Heard Refusal
setup_read o (Ok d) = heard_as o Setup (setup_of d)
setup_read o (Err f) = Err (refusal BadValue (digit_place f))

-- any other event has none
abbrev pub other_read : List ℕ → Kind → Result Heard Refusal
other_read o k = cond (slice_index o 7 == 0) (heard_as o k (others_of k)) (Err (refusal BadValue 7))

abbrev pub body_read : List ℕ → Kind → Result Heard Refusal
body_read o Setup = setup_read o (dialled (drop 8 o))
body_read o Complete = other_read o Complete
body_read o Progress = other_read o Progress
body_read o Alerting = other_read o Alerting
body_read o Answer = other_read o Answer
body_read o Quiet = other_read o Quiet
body_read o Clear = other_read o Clear
body_read o Down = other_read o Down

abbrev pub event_read : ℕ → List ℕ → Option Kind → Result Heard Refusal
event_read n o None = Err (refusal UnknownType 6)
event_read n o (Some k) =
    cond (nat_lt (slice_index o 5) n && nat_lt (slice_index o 5) 64)
    (cond (slice_index o 7 == length o - 8) (body_read o k) (Err (refusal Malformed 7)))
    (Err (refusal NoSuchLeg 5))

-- a message, to a side with n lines
abbrev pub reads : ℕ → List ℕ → Result Heard Refusal
reads n o = cond (headed o) (event_read n o (event_kind (slice_index o 6))) (Err (refusal Malformed 0))

-- the events that a line is told
abbrev pub told_event : Kind → Option ℕ
told_event Setup = Some 0x11
told_event Complete = None
told_event Progress = None
told_event Alerting = Some 0x12
told_event Answer = Some 0x13
told_event Quiet = None
told_event Clear = Some 0x14
told_event Down = None

abbrev pub told_octets : ℕ → Option ℕ → List ℕ
told_octets l None = []
told_octets l (Some e) = head ++ (l ∷ e ∷ 0x00 ∷ [])

-- nothing is replied to a line, and a line that clears is free at once
abbrev pub takes : ℕ → Phase → ℕ → Kind → Contents → Turn
takes l p t k c = record { phase = heard_to k Idle p; octets = [] }

abbrev pub tells : ℕ → Phase → Kind → Contents → Turn
tells l p k c = record { phase = told_to k p; octets = told_octets l (told_event k) }

-- a number as a record keeps it
abbrev pub zeros : List ℕ
zeros = 0 ∷ 0 ∷ 0 ∷ 0 ∷ 0 ∷ 0 ∷ 0 ∷ 0 ∷ 0 ∷ 0 ∷ 0 ∷ 0 ∷ 0 ∷ 0 ∷ 0 ∷ 0 ∷ 0 ∷ 0 ∷ 0 ∷ 0 ∷ []

abbrev pub kept : List ℕ → Dialled
kept d = record { octets = d ++ drop (length d) zeros; count = length d }

-- a setup's number is kept, and stays until the next
abbrev pub kept_of : Option (NumberType × List ℕ) → Option Dialled → Option Dialled
kept_of None before = before
kept_of (Some n) before = Some (kept n.1)

abbrev pub taken : ℕ → LineRecord → ℕ → Kind → Contents → LineRecord
taken l r t k c = record { phase = heard_to k Idle r.phase; dialled = kept_of c.number r.dialled }

abbrev pub told : ℕ → LineRecord → Kind → Contents → LineRecord
told l r k c = record { phase = told_to k r.phase; dialled = r.dialled }

-- what the set at the far end makes of an event
abbrev pub far_kind : ℕ → Kind
far_kind e = cond (e == 0x11) Setup (cond (e == 0x12) Alerting (cond (e == 0x13) Answer Clear))

abbrev pub far : Phase → List ℕ → Far
far p o = record { kind = far_kind (slice_index o 6); parts = [] }
