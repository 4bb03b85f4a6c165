-- The messages of DSS 1: what is read, what is refused and where, what is written, what is kept.
-- Rests on element lists, on the values inside elements, on the kinds and on the table of phases.
use Rattle.std.specs.Prelude.{◌≡◌, ℕ, ◌+◌, ◌-◌, ◌*◌, ◌/◌, ◌%◌, ◌<◌, Bool, true, false, cond, not, ◌&&◌, ◌||◌, List, [], ◌∷◌, ◌++◌, length, drop, is_some, is_ok, ok_or, Some, None, Ok, Err, Option, Result, ◌==◌, nat_le, nat_lt, slice_index}
use Rattle.elements.specs.declared.types.ListFault.{ListFault}
use Rattle.elements.specs.Elements.{checked}
pub use Rattle.elements.specs.Faults.{fault_place}
use Rattle.entries.specs.Codings.{dss1}
use Rattle.entries.specs.Entries.{Entry, listed, found}
use Rattle.values.specs.declared.types.NumberType.{NumberType}
use Rattle.values.specs.Causes.{cause_in}
use Rattle.values.specs.Bearers.{bearer_in}
use Rattle.values.specs.Numbers.{code_of, type_of}
use Rattle.digits.specs.Dialling.{dialled}
use Rattle.side.specs.declared.kinds.Kind.{Kind}
use Rattle.side.specs.declared.kinds.Kind.TheVariants.{Setup, Complete, Progress, Alerting, Answer, Quiet, Clear, Down}
use Rattle.side.specs.declared.kinds.Phase.{Phase}
use Rattle.side.specs.declared.kinds.Phase.TheVariants.{Idle, Clearing}
use Rattle.side.specs.declared.kinds.System.TheVariants.{Dss1}
use Rattle.side.specs.declared.kinds.Reason.{Reason}
use Rattle.side.specs.declared.kinds.Reason.TheVariants.{Malformed, UnknownType, NoSuchLeg, Missing, BadValue}
use Rattle.side.specs.declared.kinds.Layer.TheVariants.{Message, List as InList}
use Rattle.side.specs.declared.kinds.Refusal.{Refusal}
use Rattle.side.specs.Table.{heard_to, told_to}
use Rattle.side.specs.Contents.{Part}
use Rattle.side.specs.Signals.{Contents, Heard, empty, noted, described}
use Rattle.side.specs.Meaning.{Turn, Far}
use Rattle.side.specs.declared.records.Dss1Record.{Dss1Record}
use Rattle.carried.specs.Carried.{Five, five_in, parts_of, fault_of, part_at, progress_octets, cause_octets, tag_place, bad_at, parts_bad_at, sooner, told_bearer}
pub use Rattle.carried.specs.Messages.{Said, numbered, there}
use Rattle.dss1_meaning.specs.declared.types.MessageType.{MessageType}
use Rattle.dss1_meaning.specs.declared.types.MessageType.TheVariants as type
use Rattle.carried.specs.declared.UnknownOctet.{UnknownOctet}

abbrev pub refusal : Reason → ℕ → Refusal
refusal r p = record { reason = r; place = p; system = Dss1; layer = Message }

-- 1. The head: 08, 01 (one octet of reference), reference, type

abbrev pub headed : List ℕ → Bool
headed o = nat_le 4 (length o) && (nat_le (length o) 255 && (slice_index o 0 == 0x08 && slice_index o 1 == 0x01))

abbrev pub type_in : ℕ → Option MessageType
type_in t =
    cond (t == 0x01) (Some type.Alerting)
    (cond (t == 0x02) (Some type.CallProceeding)
    (cond (t == 0x03) (Some type.Progress)
    (cond (t == 0x05) (Some type.Setup)
    (cond (t == 0x07) (Some type.Connect)
    (cond (t == 0x0F) (Some type.ConnectAcknowledge)
    (cond (t == 0x45) (Some type.Disconnect)
    (cond (t == 0x4D) (Some type.Release)
    (cond (t == 0x5A) (Some type.ReleaseComplete) None))))))))

abbrev pub type_octet : MessageType → ℕ
type_octet type.Alerting = 0x01
type_octet type.CallProceeding = 0x02
type_octet type.Progress = 0x03
type_octet type.Setup = 0x05
type_octet type.Connect = 0x07
type_octet type.ConnectAcknowledge = 0x0F
type_octet type.Disconnect = 0x45
type_octet type.Release = 0x4D
type_octet type.ReleaseComplete = 0x5A

-- the type that an octet stands for, or the octet that stands for none
abbrev pub type_or_unknown : ℕ → Result MessageType UnknownOctet
type_or_unknown t = ok_or (type_in t) (record { 0 = t })

-- which end reads a message: the exchange's or the user's
pub data End : Type 0 where
  exchange : End
  user : End

-- 2. The reference: bit 8 is the flag, the rest the value, 1 to 32. A sender that began the call writes flag 0.
-- Legs 0 to 31 are begun by the user, legs 32 to 63 by the exchange; at the two ends the flag means the opposite.

abbrev pub flagged : ℕ → Bool
flagged r = nat_le 128 r

abbrev pub leg_of : End → ℕ → ℕ
leg_of exchange r = cond (flagged r) (r % 128 + 31) (r % 128 - 1)
leg_of user r = cond (flagged r) (r % 128 - 1) (r % 128 + 31)

-- a setup begins a call, so its flag is 0
abbrev pub begins : MessageType → Bool
begins type.Alerting = false
begins type.CallProceeding = false
begins type.Progress = false
begins type.Setup = true
begins type.Connect = false
begins type.ConnectAcknowledge = false
begins type.Disconnect = false
begins type.Release = false
begins type.ReleaseComplete = false

-- whether the reference names a leg, at a side with n of them
abbrev pub named : End → ℕ → MessageType → ℕ → Bool
named end n t r = nat_le 1 (r % 128) && (nat_le (r % 128) 32 && (nat_lt (leg_of end r) n && not (begins t && flagged r)))

-- the reference that is written to a leg: the flag is the opposite of the one heard from it (legs are below 64)
abbrev pub reference_to : ℕ → ℕ
reference_to l = cond (nat_lt (l % 64) 32) (l % 64 + 129) (l % 64 - 31)

-- only legs that the exchange begins may be called
abbrev pub callable : ℕ → Bool
callable l = nat_le 32 l && nat_lt l 64

-- 3. The body: what is found in the list of elements behind the head

pub record Body : Type 0 where
  pub bearer : List ℕ
  pub cause : List ℕ
  pub progress : List ℕ
  pub number : List ℕ
  pub parts : Five
  -- the places of the tags whose values are checked
  pub bearer_at : ℕ
  pub number_at : ℕ
  pub user_at : ℕ

abbrev pub body_in : List ℕ → Body
body_in x = record {
  bearer = found dss1 0x04 x;
  cause = found dss1 0x08 x;
  progress = found dss1 0x1E x;
  number = found dss1 0x70 x;
  parts = five_in x (found dss1 0x7E x);
  bearer_at = tag_place dss1 4 0x04 x;
  number_at = tag_place dss1 4 0x70 x;
  user_at = tag_place dss1 4 0x7E x;
}

-- a called number: bits 7 to 5 of the first octet are its type, the digits follow
abbrev pub number_in : List ℕ → Option (NumberType × List ℕ)
number_in [] = None
number_in (a ∷ digits) = numbered (type_of (a / 16 % 8)) (dialled digits)

-- a cause that is missing or too short means location 0, value 31
abbrev pub cause_or : Option (ℕ × ℕ) → ℕ × ℕ
cause_or None = (0, 31)
cause_or (Some c) = c

-- contents; origin and access are ISDN
abbrev pub setup_says : Body → Contents
setup_says b = record { bearer = b.bearer; number = number_in b.number; progress = noted b.progress; cause = None; isdn = true; parts = parts_of b.parts }

abbrev pub party_says : Body → Contents
party_says b = record { bearer = []; number = None; progress = noted b.progress; cause = None; isdn = true; parts = parts_of b.parts }

abbrev pub progress_says : Option (ℕ × ℕ) → Contents
progress_says p = record { bearer = []; number = None; progress = p; cause = None; isdn = true; parts = [] }

abbrev pub clear_says : Body → Contents
clear_says b = record { bearer = []; number = None; progress = None; cause = Some (cause_or (cause_in b.cause)); isdn = true; parts = parts_of b.parts }

-- the first value outside its rule, if there is one, refuses the message at its place
abbrev pub judged : Option ℕ → Kind → Contents → Result Said Refusal
judged None k c = Ok (record { kind = k; contents = c })
judged (Some p) k c = Err (refusal BadValue p)

abbrev pub parts_bad : Body → Option ℕ
parts_bad b = parts_bad_at (fault_of b.parts) b.user_at

abbrev pub setup_bad : Body → Option ℕ
setup_bad b = sooner (bad_at (is_ok (bearer_in b.bearer)) b.bearer_at) (sooner (bad_at (is_some (number_in b.number)) b.number_at) (parts_bad b))

-- a setup needs a bearer and a number
abbrev pub setup_read : Body → Result Said Refusal
setup_read b = cond (there b.bearer && there b.number) (judged (setup_bad b) Setup (setup_says b)) (Err (refusal Missing 0))

-- with a description other than 3, 4 and 8 a call that proceeds is in progress
abbrev pub proceeding_read : Option (ℕ × ℕ) → Result Said Refusal
proceeding_read None = Ok (record { kind = Complete; contents = progress_says None })
proceeding_read (Some p) =
    cond (described p == 3 || (described p == 4 || described p == 8))
    (Ok (record { kind = Complete; contents = progress_says (Some p) }))
    (Ok (record { kind = Progress; contents = progress_says (Some p) }))

-- progress needs its indicator; with description 3 or 8 there is nothing that the other party has to learn
abbrev pub progress_read : Option (ℕ × ℕ) → Result Said Refusal
progress_read None = Err (refusal Missing 0)
progress_read (Some p) =
    cond (described p == 3 || described p == 8)
    (Ok (record { kind = Quiet; contents = empty }))
    (Ok (record { kind = Progress; contents = progress_says (Some p) }))

abbrev pub body_read : MessageType → Body → Result Said Refusal
body_read type.Alerting b = judged (parts_bad b) Alerting (party_says b)
body_read type.CallProceeding b = proceeding_read (noted b.progress)
body_read type.Progress b = progress_read (noted b.progress)
body_read type.Setup b = setup_read b
body_read type.Connect b = judged (parts_bad b) Answer (party_says b)
body_read type.ConnectAcknowledge b = Ok (record { kind = Quiet; contents = empty })
body_read type.Disconnect b = judged (parts_bad b) Clear (clear_says b)
body_read type.Release b = judged (parts_bad b) Clear (clear_says b)
body_read type.ReleaseComplete b = judged (parts_bad b) Clear (clear_says b)

-- 4. The whole message

abbrev pub heard_as : End → List ℕ → Result Said Refusal → Result Heard Refusal
heard_as end o (Ok s) = Ok (record { leg = leg_of end (slice_index o 2); type = slice_index o 3; kind = s.kind; contents = s.contents })
heard_as end o (Err e) = Err e

-- an element that breaks off is refused at its tag
abbrev pub list_read : End → List ℕ → MessageType → Result ℕ ListFault → Result Heard Refusal
list_read end o t (Err f) = Err (record { reason = Malformed; place = 4 + fault_place f; system = Dss1; layer = InList })
list_read end o t (Ok n) = heard_as end o (body_read t (body_in (drop 4 o)))

abbrev pub type_read : End → ℕ → List ℕ → Option MessageType → Result Heard Refusal
type_read end n o None = Err (refusal UnknownType 3)
type_read end n o (Some t) =
    cond (named end n t (slice_index o 2)) (list_read end o t (checked dss1 (drop 4 o))) (Err (refusal NoSuchLeg 2))

-- a message as an end with n legs reads it
abbrev pub reads_at : End → ℕ → List ℕ → Result Heard Refusal
reads_at end n o = cond (headed o) (type_read end n o (type_in (slice_index o 3))) (Err (refusal Malformed 0))

abbrev pub reads : ℕ → List ℕ → Result Heard Refusal
reads = reads_at exchange

-- 5. Taking: the reply is a head alone, and a disconnect leaves the leg clearing

abbrev pub head : ℕ → MessageType → List ℕ
head l t = 0x08 ∷ 0x01 ∷ reference_to l ∷ type_octet t ∷ []

abbrev pub reply_to : ℕ → Option MessageType
reply_to t =
    cond (t == 0x07) (Some type.ConnectAcknowledge)
    (cond (t == 0x45) (Some type.Release)
    (cond (t == 0x4D) (Some type.ReleaseComplete) None))

abbrev pub replied : ℕ → Option MessageType → List ℕ
replied l None = []
replied l (Some t) = head l t

abbrev pub cleared_by : ℕ → Phase
cleared_by t = cond (t == 0x45) Clearing Idle

abbrev pub takes : ℕ → Phase → ℕ → Kind → Contents → Turn
takes l p t k c = record { phase = heard_to k (cleared_by t) p; octets = replied l (reply_to t) }

-- the value of the last cause stays until the next
abbrev pub kept_of : Option (ℕ × ℕ) → Option ℕ → Option ℕ
kept_of None before = before
kept_of (Some c) before = Some c.1

abbrev pub taken : ℕ → Dss1Record → ℕ → Kind → Contents → Dss1Record
taken l r t k c = record { phase = heard_to k (cleared_by t) r.phase; cause = kept_of c.cause r.cause }

-- 6. Telling: a head and elements in ascending order

abbrev pub told_type : Kind → Option MessageType
told_type Setup = Some type.Setup
told_type Complete = Some type.CallProceeding
told_type Progress = Some type.Progress
told_type Alerting = Some type.Alerting
told_type Answer = Some type.Connect
told_type Quiet = None
told_type Clear = Some type.Disconnect
told_type Down = None

abbrev pub number_octets : Option (NumberType × List ℕ) → List ℕ
number_octets None = []
number_octets (Some n) = (0x80 + 16 * code_of n.0 + 1) ∷ n.1

-- every element that a message may hold; an empty one is left out
abbrev pub table : List ℕ → List ℕ → List ℕ → List ℕ → List Part → List Entry
table bearer cause progress number parts =
    record { tag = 0x04; contents = bearer }
    ∷ record { tag = 0x08; contents = cause }
    ∷ record { tag = 0x1E; contents = progress }
    ∷ record { tag = 0x6D; contents = part_at 0x6D parts }
    ∷ record { tag = 0x70; contents = number }
    ∷ record { tag = 0x71; contents = part_at 0x71 parts }
    ∷ record { tag = 0x7C; contents = part_at 0x7C parts }
    ∷ record { tag = 0x7D; contents = part_at 0x7D parts }
    ∷ record { tag = 0x7E; contents = part_at 0x7E parts }
    ∷ []

-- where no progress came, a party that is no ISDN is noted
abbrev pub or_noted : Option (ℕ × ℕ) → Bool → ℕ × ℕ → Option (ℕ × ℕ)
or_noted (Some p) isdn other = Some p
or_noted None true other = None
or_noted None false other = Some other

abbrev pub told_elements : Kind → Contents → List Entry
told_elements Setup c = table (told_bearer c.bearer) [] (progress_octets (or_noted c.progress c.isdn (0x82, 0x83))) (number_octets c.number) c.parts
told_elements Complete c = table [] [] (progress_octets c.progress) [] []
told_elements Progress c = table [] [] (progress_octets c.progress) [] []
told_elements Alerting c = table [] [] (progress_octets (or_noted c.progress c.isdn (0x82, 0x82))) [] c.parts
told_elements Answer c = table [] [] (progress_octets (or_noted c.progress c.isdn (0x82, 0x82))) [] c.parts
told_elements Quiet c = []
told_elements Clear c = table [] (cause_octets c.cause) [] [] c.parts
told_elements Down c = []

abbrev pub told_octets : ℕ → Option MessageType → List Entry → List ℕ
told_octets l None es = []
told_octets l (Some t) es = head l t ++ listed es

abbrev pub tells : ℕ → Phase → Kind → Contents → Turn
tells l p k c = record { phase = told_to k p; octets = told_octets l (told_type k) (told_elements k c) }

abbrev pub told : ℕ → Dss1Record → Kind → Contents → Dss1Record
told l r k c = record { phase = told_to k r.phase; cause = r.cause }

-- 7. The far end: the user's set reads the same tables, with the flag's meaning swapped

abbrev pub far_of : Result Heard Refusal → Far
far_of (Ok h) = record { kind = h.kind; parts = h.contents.parts }
far_of (Err e) = record { kind = Quiet; parts = [] }

abbrev pub far : Phase → List ℕ → Far
far p o = far_of (reads_at user 64 o)

-- a reference means one leg, the same at both ends: what is written to a leg names it at the user's end, and a
-- message with the other flag comes from it
abbrev pub ReferencesNameLegs : Type 0
ReferencesNameLegs = (l : ℕ) → l < 64 → (leg_of user (reference_to l) ≡ l) × ((r : ℕ) → r < 256 → leg_of exchange r ≡ l → named exchange 64 type.Alerting r ≡ true → flagged r ≡ not (flagged (reference_to l)))
