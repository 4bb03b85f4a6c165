-- Eight worked messages: what one side hears, what it replies, and what the other side is told.
-- Rests on the tables of the three systems, and on nothing else.
use Rattle.std.specs.Prelude.{◌≡◌, ℕ, List, [], ◌∷◌, Ok, Err, Result}
use Rattle.side.specs.declared.kinds.Kind.{Kind}
use Rattle.side.specs.declared.kinds.Phase.{Phase}
use Rattle.side.specs.declared.kinds.Phase.TheVariants.{Idle, Calling}
use Rattle.side.specs.declared.kinds.Refusal.{Refusal}
use Rattle.side.specs.Signals.{Contents, Heard}
use Rattle.side.specs.Meaning.{Turn}
use Rattle.dss1_meaning.specs.Dss1 as dss1
use Rattle.isup_meaning.specs.Reading as isup-in
use Rattle.isup_meaning.specs.Writing as isup
use Rattle.line_meaning.specs.Lines as line

-- what a leg in a phase is told by a message that was read, and what is replied to it in a phase
abbrev pub told_by : (ℕ → Phase → Kind → Contents → Turn) → ℕ → Phase → Result Heard Refusal → List ℕ
told_by tells l p (Ok h) = (tells l p h.kind h.contents).octets
told_by tells l p (Err e) = []

abbrev pub replied_to : (ℕ → Phase → ℕ → Kind → Contents → Turn) → Phase → Result Heard Refusal → List ℕ
replied_to takes p (Ok h) = (takes h.leg p h.type h.kind h.contents).octets
replied_to takes p (Err e) = []

-- the leg that a message was read from; 64 is none
abbrev pub leg_by : Result Heard Refusal → ℕ
leg_by (Ok h) = h.leg
leg_by (Err e) = 64

abbrev pub setup : List ℕ
setup = 0x08 ∷ 0x01 ∷ 0x05 ∷ 0x05 ∷ 0x04 ∷ 0x03 ∷ 0x90 ∷ 0x90 ∷ 0xA3 ∷ 0x70 ∷ 0x04 ∷ 0xC1 ∷ 0x31 ∷ 0x32 ∷ 0x33 ∷ []

abbrev pub iam : List ℕ
iam = 0x09 ∷ 0x00 ∷ 0x01 ∷ 0x00 ∷ 0x20 ∷ 0x01 ∷ 0x0A ∷ 0x03 ∷ 0x02 ∷ 0x06 ∷ 0x04 ∷ 0x01 ∷ 0x10 ∷ 0x21 ∷ 0xF3 ∷ 0x1D ∷ 0x03 ∷ 0x90 ∷ 0x90 ∷ 0xA3 ∷ 0x00 ∷ []

abbrev pub acm : ℕ → List ℕ
acm access = 0x09 ∷ 0x00 ∷ 0x06 ∷ 0x14 ∷ access ∷ 0x00 ∷ []

abbrev pub rel : List ℕ
rel = 0x09 ∷ 0x00 ∷ 0x0C ∷ 0x02 ∷ 0x00 ∷ 0x02 ∷ 0x82 ∷ 0x90 ∷ []

abbrev pub connect : List ℕ
connect = 0x08 ∷ 0x01 ∷ 0x85 ∷ 0x07 ∷ []

abbrev pub release_complete : List ℕ
release_complete = 0x08 ∷ 0x01 ∷ 0x85 ∷ 0x5A ∷ 0x08 ∷ 0x02 ∷ 0x80 ∷ 0x95 ∷ []

abbrev pub dialled : List ℕ
dialled = 0x4C ∷ 0x49 ∷ 0x4E ∷ 0x00 ∷ 0x01 ∷ 0x03 ∷ 0x01 ∷ 0x03 ∷ 0x31 ∷ 0x32 ∷ 0x33 ∷ []

pub record WorkedMessages : Type 0 where
  -- a SETUP from leg 4 goes out as an IAM on circuit 9
  pub setup_out : told_by isup.tells 9 Idle (dss1.reads 64 setup) ≡ iam
  pub setup_leg : leg_by (dss1.reads 64 setup) ≡ 4
  -- that IAM comes in as the same SETUP, to leg 36
  pub setup_in : told_by dss1.tells 36 Idle (isup-in.reads 64 iam) ≡ setup
  pub iam_leg : leg_by (isup-in.reads 64 iam) ≡ 9
  -- an ACM that rings is an ALERTING to leg 4, with progress where the access is no ISDN
  pub rings : told_by dss1.tells 4 Calling (isup-in.reads 64 (acm 0x14)) ≡ 0x08 ∷ 0x01 ∷ 0x85 ∷ 0x01 ∷ []
  pub rings_analogue : told_by dss1.tells 4 Calling (isup-in.reads 64 (acm 0x04)) ≡ 0x08 ∷ 0x01 ∷ 0x85 ∷ 0x01 ∷ 0x1E ∷ 0x02 ∷ 0x82 ∷ 0x82 ∷ []
  -- a REL is replied by an RLC and told as a DISCONNECT, in every phase of the two
  pub released : (p q : Phase) → (replied_to isup.takes p (isup-in.reads 64 rel) ≡ 0x09 ∷ 0x00 ∷ 0x10 ∷ 0x00 ∷ []) × (told_by dss1.tells 4 q (isup-in.reads 64 rel) ≡ 0x08 ∷ 0x01 ∷ 0x85 ∷ 0x45 ∷ 0x08 ∷ 0x02 ∷ 0x82 ∷ 0x90 ∷ [])
  -- a CONNECT from the called leg 36 is acknowledged, and is a CON where no ACM went
  pub answered : (p : Phase) → (replied_to dss1.takes p (dss1.reads 64 connect) ≡ 0x08 ∷ 0x01 ∷ 0x05 ∷ 0x0F ∷ []) × (told_by isup.tells 9 Calling (dss1.reads 64 connect) ≡ 0x09 ∷ 0x00 ∷ 0x07 ∷ 0x10 ∷ 0x14 ∷ 0x00 ∷ [])
  pub answer_leg : leg_by (dss1.reads 64 connect) ≡ 36
  -- a RELEASE COMPLETE from leg 36 is a REL, in every phase of the circuit
  pub ended : (q : Phase) → told_by isup.tells 9 q (dss1.reads 64 release_complete) ≡ 0x09 ∷ 0x00 ∷ 0x0C ∷ 0x02 ∷ 0x00 ∷ 0x02 ∷ 0x80 ∷ 0x95 ∷ []
  pub end_leg : leg_by (dss1.reads 64 release_complete) ≡ 36
  -- a line that dials goes out as the same IAM, but not from an ISDN and with a number of unknown type
  pub dialled_out : told_by isup.tells 9 Idle (line.reads 32 dialled) ≡ 0x09 ∷ 0x00 ∷ 0x01 ∷ 0x00 ∷ 0x20 ∷ 0x00 ∷ 0x0A ∷ 0x03 ∷ 0x02 ∷ 0x06 ∷ 0x04 ∷ 0x02 ∷ 0x10 ∷ 0x21 ∷ 0xF3 ∷ 0x1D ∷ 0x03 ∷ 0x90 ∷ 0x90 ∷ 0xA3 ∷ 0x00 ∷ []
