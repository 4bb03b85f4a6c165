-- The messages of ISUP as they are written, the record of a circuit, and what the distant exchange reads.
-- Rests on how messages are read, on tables of elements and on the table of phases.
use Rattle.std.specs.Prelude.{ℕ, ◌+◌, ◌%◌, Bool, true, false, cond, List, [], ◌∷◌, ◌++◌, length, Some, None, Ok, Err, Option, Result, ◌==◌, slice_index}
use Rattle.entries.specs.Entries.{Entry, listed}
use Rattle.values.specs.declared.types.NumberType.{NumberType}
use Rattle.values.specs.Numbers.{nature_of}
use Rattle.digits.specs.Signals.{ended, packed, odd_count}
use Rattle.side.specs.declared.kinds.Kind.{Kind}
use Rattle.side.specs.declared.kinds.Kind.TheVariants.{Setup, Complete, Progress, Alerting, Answer, Quiet, Clear, Down}
use Rattle.side.specs.declared.kinds.Phase.{Phase}
use Rattle.side.specs.declared.kinds.Phase.TheVariants.{Idle, Calling, CallingComplete, Called, CalledComplete, Alerted, Answered, Clearing}
use Rattle.side.specs.declared.kinds.Refusal.{Refusal}
use Rattle.side.specs.declared.records.Seizer.{Seizer}
use Rattle.side.specs.declared.records.Seizer.TheVariants.{FarEnd, We}
use Rattle.side.specs.declared.records.CircuitRecord.{CircuitRecord}
use Rattle.side.specs.Table.{heard_to, told_to}
use Rattle.side.specs.Contents.{Part}
use Rattle.side.specs.Signals.{Contents, Heard, described}
use Rattle.side.specs.Meaning.{Turn, Far}
use Rattle.carried.specs.Carried.{part_at, progress_octets, cause_octets, told_bearer}
use Rattle.isup_meaning.specs.declared.types.MessageType.{MessageType}
use Rattle.isup_meaning.specs.declared.types.MessageType.TheVariants as type
use Rattle.isup_meaning.specs.Reading.{type_octet, reads}

-- circuit and type (circuits are below 64)
abbrev pub head : ℕ → MessageType → List ℕ
head l t = l % 64 ∷ 0 ∷ type_octet t ∷ []

-- 1. Taking: a release is replied by a release complete; a circuit that is clearing stays so, any other is free

abbrev pub replied : ℕ → ℕ → List ℕ
replied l t = cond (t == 0x0C) (head l type.ReleaseComplete ++ (0 ∷ [])) []

abbrev pub cleared_from : Phase → Phase
cleared_from Idle = Idle
cleared_from Calling = Idle
cleared_from CallingComplete = Idle
cleared_from Called = Idle
cleared_from CalledComplete = Idle
cleared_from Alerted = Idle
cleared_from Answered = Idle
cleared_from Clearing = Clearing

abbrev pub takes : ℕ → Phase → ℕ → Kind → Contents → Turn
takes l p t k c = record { phase = heard_to k (cleared_from p) p; octets = replied l t }

-- who last seized the circuit
abbrev pub seized_by : Seizer → Kind → Option Seizer → Option Seizer
seized_by who Setup before = Some who
seized_by who Complete before = before
seized_by who Progress before = before
seized_by who Alerting before = before
seized_by who Answer before = before
seized_by who Quiet before = before
seized_by who Clear before = before
seized_by who Down before = before

abbrev pub taken : ℕ → CircuitRecord → ℕ → Kind → Contents → CircuitRecord
taken l r t k c = record { phase = heard_to k (cleared_from r.phase) r.phase; seized = seized_by FarEnd k r.seized }

-- 2. The optional list: access transport with progress and the parts but user-user, the bearer, user-user

-- in-band information is never said in access transport
abbrev pub but_in_band : Option (ℕ × ℕ) → Option (ℕ × ℕ)
but_in_band None = None
but_in_band (Some p) = cond (described p == 8) None (Some p)

abbrev pub access_table : Option (ℕ × ℕ) → List Part → List Entry
access_table progress parts =
    record { tag = 0x1E; contents = progress_octets (but_in_band progress) }
    ∷ record { tag = 0x6D; contents = part_at 0x6D parts }
    ∷ record { tag = 0x71; contents = part_at 0x71 parts }
    ∷ record { tag = 0x7C; contents = part_at 0x7C parts }
    ∷ record { tag = 0x7D; contents = part_at 0x7D parts }
    ∷ []

abbrev pub optional_table : Option (ℕ × ℕ) → List Part → List ℕ → List Entry
optional_table progress parts bearer =
    record { tag = 0x03; contents = listed (access_table progress parts) }
    ∷ record { tag = 0x1D; contents = bearer }
    ∷ record { tag = 0x20; contents = part_at 0x7E parts }
    ∷ []

-- a list with nothing in it is not written, and its pointer is 00
abbrev pub pointer_to : ℕ → List ℕ → ℕ
pointer_to distance list = cond (length list == 0) 0 distance

abbrev pub tail : List ℕ → List ℕ
tail list = cond (length list == 0) [] (list ++ (0 ∷ []))

-- behind the fixed octets: the pointer to the list alone, or the pointers to a field and to the list
abbrev pub list_only : List ℕ → List ℕ
list_only list = pointer_to 1 list ∷ tail list

abbrev pub field_and_list : List ℕ → List ℕ → List ℕ
field_and_list field list = 2 ∷ pointer_to (2 + length field) list ∷ length field ∷ (field ++ tail list)

-- 3. The messages

abbrev pub isdn_octet : ℕ → ℕ → Bool → ℕ
isdn_octet with without isdn = cond isdn with without

abbrev pub medium_of : List ℕ → ℕ
medium_of bearer = cond (slice_index bearer 0 % 32 == 8) 0x02 (cond (slice_index bearer 0 % 32 == 16) 0x03 0x00)

abbrev pub odd_bit : Bool → ℕ
odd_bit odd = cond odd 128 0

abbrev pub number_field : Option (NumberType × List ℕ) → List ℕ
number_field None = []
number_field (Some n) = (nature_of n.0 + odd_bit (odd_count (length n.1 + 1))) ∷ 0x10 ∷ packed (ended n.1)

abbrev pub iam : ℕ → Contents → List ℕ
iam l c =
    head l type.InitialAddress
    ++ (0x00 ∷ 0x20 ∷ isdn_octet 0x01 0x00 c.isdn ∷ 0x0A ∷ medium_of (told_bearer c.bearer)
    ∷ field_and_list (number_field c.number) (listed (optional_table c.progress c.parts (told_bearer c.bearer))))

-- the lists of messages with and without parts
abbrev pub party_list : Contents → List ℕ
party_list c = listed (optional_table c.progress c.parts [])

abbrev pub progress_list : Contents → List ℕ
progress_list c = listed (optional_table c.progress [] [])

abbrev pub acm : ℕ → ℕ → Bool → List ℕ → List ℕ
acm l status isdn list = head l type.AddressComplete ++ (status ∷ isdn_octet 0x14 0x04 isdn ∷ list_only list)

abbrev pub cpg : ℕ → ℕ → List ℕ → List ℕ
cpg l event list = head l type.CallProgress ++ (event ∷ list_only list)

abbrev pub con : ℕ → Bool → List ℕ → List ℕ
con l isdn list = head l type.Connect ++ (0x10 ∷ isdn_octet 0x14 0x04 isdn ∷ list_only list)

abbrev pub anm : ℕ → List ℕ → List ℕ
anm l list = head l type.Answer ++ list_only list

abbrev pub rel : ℕ → Contents → List ℕ
rel l c = head l type.Release ++ field_and_list (cause_octets c.cause) (listed (optional_table None c.parts []))

-- in-band information is an event of its own
abbrev pub progress_event : Option (ℕ × ℕ) → ℕ
progress_event None = 0x02
progress_event (Some p) = cond (described p == 8) 0x03 0x02

-- whether an address complete message went before
abbrev pub completed : Phase → Bool
completed Idle = false
completed Calling = false
completed CallingComplete = true
completed Called = false
completed CalledComplete = false
completed Alerted = false
completed Answered = false
completed Clearing = false

abbrev pub told_octets : ℕ → Bool → Kind → Contents → List ℕ
told_octets l done Setup c = iam l c
told_octets l done Complete c = cond done (cpg l 0x02 (progress_list c)) (acm l 0x10 c.isdn (progress_list c))
told_octets l done Progress c = cond done (cpg l (progress_event c.progress) (progress_list c)) (acm l 0x10 c.isdn (progress_list c))
told_octets l done Alerting c = cond done (cpg l 0x01 (party_list c)) (acm l 0x14 c.isdn (party_list c))
told_octets l done Answer c = cond done (anm l (party_list c)) (con l c.isdn (party_list c))
told_octets l done Quiet c = []
told_octets l done Clear c = rel l c
told_octets l done Down c = []

abbrev pub tells : ℕ → Phase → Kind → Contents → Turn
tells l p k c = record { phase = told_to k p; octets = told_octets l (completed p) k c }

abbrev pub told : ℕ → CircuitRecord → Kind → Contents → CircuitRecord
told l r k c = record { phase = told_to k r.phase; seized = seized_by We k r.seized }

-- 4. The far end: the distant exchange reads by the same tables

abbrev pub far_of : Result Heard Refusal → Far
far_of (Ok h) = record { kind = h.kind; parts = h.contents.parts }
far_of (Err e) = record { kind = Quiet; parts = [] }

abbrev pub far : Phase → List ℕ → Far
far p o = far_of (reads 64 o)
