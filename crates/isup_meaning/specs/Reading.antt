-- The messages of ISUP as they are read: circuit, type, fixed octets, pointers, the fields they reach; refusals and their places.
-- Rests on element lists, on the values inside parameters and on the kinds.
use Rattle.std.specs.Prelude.{ℕ, ◌+◌, ◌*◌, ◌/◌, ◌%◌, Bool, true, false, cond, not, ◌&&◌, ◌||◌, List, [], ◌∷◌, length, take, drop, is_some, is_ok, Some, None, Ok, Err, Option, Result, ok_or, ◌==◌, nat_le, nat_lt, slice_index}
use Rattle.elements.specs.declared.types.ListFault.{ListFault}
use Rattle.elements.specs.declared.types.ListFault.TheVariants.{BreaksOff, NoEnd}
use Rattle.elements.specs.Elements.{checked}
use Rattle.entries.specs.Codings.{dss1, isup}
use Rattle.entries.specs.Entries.{found}
use Rattle.values.specs.declared.types.NumberType.{NumberType}
use Rattle.values.specs.Causes.{cause_in}
use Rattle.values.specs.Bearers.{bearer_in}
use Rattle.values.specs.Numbers.{type_of_nature}
use Rattle.digits.specs.Signals.{unpacked}
use Rattle.side.specs.declared.kinds.Kind.{Kind}
use Rattle.side.specs.declared.kinds.Kind.TheVariants.{Setup, Complete, Progress, Alerting, Answer, Quiet, Clear, Down}
use Rattle.side.specs.declared.kinds.System.TheVariants.{Isup}
use Rattle.side.specs.declared.kinds.Reason.{Reason}
use Rattle.side.specs.declared.kinds.Reason.TheVariants.{Malformed, UnknownType, NoSuchLeg, Missing, BadValue}
use Rattle.side.specs.declared.kinds.Layer.TheVariants.{NestedList, Message, List as InList}
use Rattle.side.specs.declared.kinds.Refusal.{Refusal}
use Rattle.side.specs.Signals.{Contents, Heard, empty}
use Rattle.carried.specs.Carried.{Five, five_in, parts_of, fault_of, progress_in, tag_place, bad_at, parts_bad_at, sooner, earlier}
pub use Rattle.carried.specs.Messages.{Said, numbered, there}
use Rattle.isup_meaning.specs.declared.types.MessageType.{MessageType}
use Rattle.isup_meaning.specs.declared.types.MessageType.TheVariants as type
use Rattle.carried.specs.declared.UnknownOctet.{UnknownOctet}

abbrev pub refusal : Reason → ℕ → Refusal
refusal r p = record { reason = r; place = p; system = Isup; layer = Message }

-- 1. The head: the circuit in octet 0 and the low half of octet 1, and the type

abbrev pub headed : List ℕ → Bool
headed o = nat_le 3 (length o) && nat_le (length o) 255

abbrev pub circuit_in : List ℕ → ℕ
circuit_in o = slice_index o 0 + 256 * (slice_index o 1 % 16)

abbrev pub type_in : ℕ → Option MessageType
type_in t =
    cond (t == 0x01) (Some type.InitialAddress)
    (cond (t == 0x06) (Some type.AddressComplete)
    (cond (t == 0x07) (Some type.Connect)
    (cond (t == 0x09) (Some type.Answer)
    (cond (t == 0x0C) (Some type.Release)
    (cond (t == 0x10) (Some type.ReleaseComplete)
    (cond (t == 0x2C) (Some type.CallProgress) None))))))

-- the type that an octet stands for, or the octet that stands for none
abbrev pub type_or_unknown : ℕ → Result MessageType UnknownOctet
type_or_unknown t = ok_or (type_in t) (record { 0 = t })

abbrev pub type_octet : MessageType → ℕ
type_octet type.InitialAddress = 0x01
type_octet type.AddressComplete = 0x06
type_octet type.Connect = 0x07
type_octet type.Answer = 0x09
type_octet type.CallProgress = 0x2C
type_octet type.Release = 0x0C
type_octet type.ReleaseComplete = 0x10

-- 2. The layout behind the type: fixed octets, the pointer to a mandatory field in two of the types, the pointer to the optional list

abbrev pub fixed_count : MessageType → ℕ
fixed_count type.InitialAddress = 5
fixed_count type.AddressComplete = 2
fixed_count type.Connect = 2
fixed_count type.Answer = 0
fixed_count type.CallProgress = 1
fixed_count type.Release = 0
fixed_count type.ReleaseComplete = 0

abbrev pub has_field : MessageType → Bool
has_field type.InitialAddress = true
has_field type.AddressComplete = false
has_field type.Connect = false
has_field type.Answer = false
has_field type.CallProgress = false
has_field type.Release = true
has_field type.ReleaseComplete = false

-- the places of the two pointers
abbrev pub field_pointer : MessageType → ℕ
field_pointer t = 3 + fixed_count t

abbrev pub list_pointer : MessageType → ℕ
list_pointer t = 3 + fixed_count t + cond (has_field t) 1 0

-- a pointer counts from its own octet
abbrev pub pointed : List ℕ → ℕ → ℕ
pointed o at = at + slice_index o at

-- the mandatory field: a length and its contents
abbrev pub field_in : List ℕ → ℕ → List ℕ
field_in o at = cond (slice_index o at == 0) [] (take (slice_index o (pointed o at)) (drop (pointed o at + 1) o))

-- the optional list begins at the octet that its pointer reaches; a pointer of 00 means none
abbrev pub list_in : List ℕ → ℕ → List ℕ
list_in o at = cond (slice_index o at == 0) [] (drop (pointed o at) o)

-- 3. What is broken in the body, and where

-- the pointer is not there, or the field that it reaches is not all there
abbrev pub field_fault : List ℕ → ℕ → Option Refusal
field_fault o at =
    cond (nat_lt at (length o))
    (cond (slice_index o at == 0) None
    (cond (nat_le (pointed o at + 1 + slice_index o (pointed o at)) (length o)) None (Some (refusal Malformed at))))
    (Some (refusal Malformed at))

-- an element that breaks off is refused at its tag, an end tag that is missing at the pointer
abbrev pub list_fault : ℕ → ℕ → Result ℕ ListFault → Option Refusal
list_fault at start (Ok n) = None
list_fault at start (Err (BreaksOff p)) = Some (record { reason = Malformed; place = start + p; system = Isup; layer = InList })
list_fault at start (Err (NoEnd p)) = Some (record { reason = Malformed; place = at; system = Isup; layer = InList })

abbrev pub optional_fault : List ℕ → ℕ → Option Refusal
optional_fault o at =
    cond (nat_lt at (length o))
    (cond (slice_index o at == 0) None (list_fault at (pointed o at) (checked isup (drop (pointed o at) o))))
    (Some (refusal Malformed at))

-- access transport is a list of its own; what is broken in it is refused at its tag
abbrev pub nested_fault : ℕ → Result ℕ ListFault → Option Refusal
nested_fault place (Ok n) = None
nested_fault place (Err f) = Some (record { reason = Malformed; place = place; system = Isup; layer = NestedList })

-- 4. The body: what the pointers reach

pub record Body : Type 0 where
  pub octets : List ℕ
  pub field : List ℕ
  pub access : List ℕ
  pub bearer : List ℕ
  pub user : List ℕ
  -- the places of the tags whose values are checked
  pub access_at : ℕ
  pub bearer_at : ℕ
  pub user_at : ℕ

abbrev pub body_in : List ℕ → MessageType → Body
body_in o t = record {
  octets = o;
  field = field_in o (field_pointer t);
  access = found isup 0x03 (list_in o (list_pointer t));
  bearer = found isup 0x1D (list_in o (list_pointer t));
  user = found isup 0x20 (list_in o (list_pointer t));
  access_at = tag_place isup (pointed o (list_pointer t)) 0x03 (list_in o (list_pointer t));
  bearer_at = tag_place isup (pointed o (list_pointer t)) 0x1D (list_in o (list_pointer t));
  user_at = tag_place isup (pointed o (list_pointer t)) 0x20 (list_in o (list_pointer t));
}

-- everything that is broken, the smallest place first
abbrev pub broken : List ℕ → MessageType → Body → Option Refusal
broken o t b =
    earlier (cond (has_field t) (field_fault o (field_pointer t)) None)
    (earlier (optional_fault o (list_pointer t)) (nested_fault b.access_at (checked dss1 b.access)))

abbrev pub five_of : Body → Five
five_of b = five_in b.access b.user

abbrev pub progress_of : Body → Option (ℕ × ℕ)
progress_of b = progress_in b.access

-- a called number: nature of address, with bit 8 set for an odd count of signals; an octet that is ignored; the signals
abbrev pub number_in : List ℕ → Option (NumberType × List ℕ)
number_in [] = None
number_in (a ∷ []) = None
number_in (a ∷ b ∷ signals) = numbered (type_of_nature (a % 128)) (unpacked (nat_le 128 a) signals)

-- the bearer that a medium stands for, where no bearer came
abbrev pub medium_bearer : ℕ → Option (List ℕ)
medium_bearer m =
    cond (m == 0x00) (Some (0x80 ∷ 0x90 ∷ 0xA3 ∷ []))
    (cond (m == 0x02) (Some (0x88 ∷ 0x90 ∷ []))
    (cond (m == 0x03) (Some (0x90 ∷ 0x90 ∷ 0xA3 ∷ [])) None))

abbrev pub or_bearer : Option (List ℕ) → List ℕ
or_bearer None = []
or_bearer (Some b) = b

abbrev pub bearer_of : Body → List ℕ
bearer_of b = cond (there b.bearer) b.bearer (or_bearer (medium_bearer (slice_index b.octets 7)))

-- ISDN indicators: bit 1 of the second forward octet, bit 5 of the second backward octet
abbrev pub forward_isdn : Body → Bool
forward_isdn b = slice_index b.octets 5 % 2 == 1

abbrev pub backward_isdn : Body → Bool
backward_isdn b = slice_index b.octets 4 / 16 % 2 == 1

-- contents
abbrev pub setup_says : Body → Contents
setup_says b = record { bearer = bearer_of b; number = number_in b.field; progress = progress_of b; cause = None; isdn = forward_isdn b; parts = parts_of (five_of b) }

abbrev pub party_says : Bool → Body → Contents
party_says isdn b = record { bearer = []; number = None; progress = progress_of b; cause = None; isdn = isdn; parts = parts_of (five_of b) }

abbrev pub progress_says : Bool → Option (ℕ × ℕ) → Contents
progress_says isdn p = record { bearer = []; number = None; progress = p; cause = None; isdn = isdn; parts = [] }

abbrev pub clear_says : ℕ × ℕ → Body → Contents
clear_says cause b = record { bearer = []; number = None; progress = None; cause = Some cause; isdn = true; parts = parts_of (five_of b) }

-- the first value outside its rule, if there is one, refuses the message at its place
abbrev pub judged : Option ℕ → Kind → Contents → Result Said Refusal
judged None k c = Ok (record { kind = k; contents = c })
judged (Some p) k c = Err (refusal BadValue p)

abbrev pub parts_bad : Body → Option ℕ
parts_bad b = parts_bad_at (fault_of (five_of b)) b.user_at

-- the medium stands at place 7, the number's pointer at place 8
abbrev pub setup_bad : Body → Option ℕ
setup_bad b =
    sooner (bad_at (is_some (medium_bearer (slice_index b.octets 7))) 7)
    (sooner (bad_at (is_some (number_in b.field)) 8)
    (sooner (bad_at (not (there b.bearer) || is_ok (bearer_in b.bearer)) b.bearer_at) (parts_bad b)))

-- a setup needs a number of at least two octets
abbrev pub setup_read : Body → Result Said Refusal
setup_read b = cond (nat_le 2 (length b.field)) (judged (setup_bad b) Setup (setup_says b)) (Err (refusal Missing 0))

-- an address complete message rings if bits 4 and 3 of its first backward octet are 01
abbrev pub complete_read : Body → Result Said Refusal
complete_read b =
    cond (slice_index b.octets 3 / 4 % 4 == 1)
    (judged (parts_bad b) Alerting (party_says (backward_isdn b) b))
    (Ok (record { kind = Complete; contents = progress_says (backward_isdn b) (progress_of b) }))

-- an event of progress says something only with its indicator
abbrev pub event_read : Option (ℕ × ℕ) → Result Said Refusal
event_read None = Ok (record { kind = Quiet; contents = empty })
event_read (Some p) = Ok (record { kind = Progress; contents = progress_says true (Some p) })

-- events: 01 alerting, 02 progress, 03 in-band information, which is progress 82 88 whatever indicator came
abbrev pub progress_read : Body → Result Said Refusal
progress_read b =
    cond (slice_index b.octets 3 % 128 == 1) (judged (parts_bad b) Alerting (party_says true b))
    (cond (slice_index b.octets 3 % 128 == 2) (event_read (progress_of b))
    (cond (slice_index b.octets 3 % 128 == 3) (Ok (record { kind = Progress; contents = progress_says true (Some (0x82, 0x88)) }))
    (Err (refusal BadValue 3))))

-- a release needs a whole cause
abbrev pub release_read : Option (ℕ × ℕ) → Body → Result Said Refusal
release_read None b = Err (refusal Missing 0)
release_read (Some c) b = judged (parts_bad b) Clear (clear_says c b)

abbrev pub body_read : MessageType → Body → Result Said Refusal
body_read type.InitialAddress b = setup_read b
body_read type.AddressComplete b = complete_read b
body_read type.Connect b = judged (parts_bad b) Answer (party_says (backward_isdn b) b)
body_read type.Answer b = judged (parts_bad b) Answer (party_says true b)
body_read type.CallProgress b = progress_read b
body_read type.Release b = release_read (cause_in b.field) b
body_read type.ReleaseComplete b = Ok (record { kind = Down; contents = empty })

-- 5. The whole message

abbrev pub heard_as : List ℕ → Result Said Refusal → Result Heard Refusal
heard_as o (Ok s) = Ok (record { leg = circuit_in o; type = slice_index o 2; kind = s.kind; contents = s.contents })
heard_as o (Err e) = Err e

abbrev pub whole_read : List ℕ → MessageType → Option Refusal → Result Heard Refusal
whole_read o t (Some e) = Err e
whole_read o t None = heard_as o (body_read t (body_in o t))

-- fixed octets that are missing are refused at place 0
abbrev pub layout_read : List ℕ → MessageType → Result Heard Refusal
layout_read o t = cond (nat_le (3 + fixed_count t) (length o)) (whole_read o t (broken o t (body_in o t))) (Err (refusal Malformed 0))

abbrev pub type_read : ℕ → List ℕ → Option MessageType → Result Heard Refusal
type_read n o None = Err (refusal UnknownType 2)
type_read n o (Some t) = cond (nat_lt (circuit_in o) n && nat_lt (circuit_in o) 64) (layout_read o t) (Err (refusal NoSuchLeg 0))

-- a message, to a side with n circuits
abbrev pub reads : ℕ → List ℕ → Result Heard Refusal
reads n o = cond (headed o) (type_read n o (type_in (slice_index o 2))) (Err (refusal Malformed 0))
