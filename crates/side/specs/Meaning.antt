-- What a signalling side is: pure functions that say what its messages mean, and the laws that they keep.
-- Rests on the table of phases and on contents seen from outside; whoever is generic over sides rests on this alone.
use Rattle.std.specs.Prelude.{◌≡◌, ℕ, ◌+◌, ◌<◌, ◌≤◌, Bool, true, false, cond, ◌⊎◌, ◌↔◌, List, [], ◌∷◌, length, Some, Ok, Err, Result, ◌≢◌}
use Rattle.values.specs.declared.types.NumberType.{NumberType}
use Rattle.digits.specs.Dialling as dialling
use Rattle.side.specs.declared.kinds.Kind.{Kind}
use Rattle.side.specs.declared.kinds.Kind.TheVariants.{Setup, Complete, Progress, Alerting, Answer, Quiet, Clear, Down}
use Rattle.side.specs.declared.kinds.Phase.{Phase}
use Rattle.side.specs.declared.kinds.Phase.TheVariants.{Idle, Clearing}
use Rattle.side.specs.declared.kinds.System.{System}
use Rattle.side.specs.declared.kinds.Reason.{Reason}
use Rattle.side.specs.declared.kinds.Reason.TheVariants.{ShortBuffer, Malformed, UnknownType, NoSuchLeg, Missing, BadValue, WrongPhase, NoRoute, NotInCall}
use Rattle.side.specs.declared.kinds.Refusal.{Refusal}
use Rattle.side.specs.Table.{heard_in, told_in, heard_to, told_to}
use Rattle.side.specs.Limits.{cost}
use Rattle.side.specs.Contents.{Part, five}
use Rattle.side.specs.declared.contents.Signal.{Signal}
use Rattle.side.specs.Signals.{Contents, Heard, kind_of, contents_of}

-- the number by which a refusal is known
abbrev pub reason_number : Reason → ℕ
reason_number ShortBuffer = 1
reason_number Malformed = 2
reason_number UnknownType = 3
reason_number NoSuchLeg = 4
reason_number Missing = 5
reason_number BadValue = 6
reason_number WrongPhase = 7
reason_number NoRoute = 8
reason_number NotInCall = 9

-- the kinds that carry parts
abbrev pub bears : Kind → Bool
bears Setup = true
bears Complete = false
bears Progress = false
bears Alerting = true
bears Answer = true
bears Quiet = false
bears Clear = true
bears Down = false

-- the kinds that a side which carries a part never tells by an empty message, besides Clear
abbrev pub speaks : Kind → Bool
speaks Setup = true
speaks Complete = false
speaks Progress = false
speaks Alerting = true
speaks Answer = true
speaks Quiet = false
speaks Clear = false
speaks Down = false

-- parts in the order of their tags and within their limits
pub record PartsWithin (ps : List Part) : Type 0 where
  pub calling : List ℕ
  pub called : List ℕ
  pub low : List ℕ
  pub high : List ℕ
  pub user : List ℕ
  pub are : ps ≡ five calling called low high user
  pub total : cost (length calling) + cost (length called) + cost (length low) + cost (length high) + cost (length user) ≤ 200
  pub few : length user ≤ 129

-- contents within the limits of their kind
pub record Within (k : Kind) (c : Contents) : Type 0 where
  pub parts : PartsWithin c.parts
  pub bare : bears k ≡ false → c.parts ≡ []
  pub bearer : k ≡ Setup → (2 ≤ length c.bearer) × (length c.bearer ≤ 11)
  pub number : k ≡ Setup → (t : NumberType) × ((d : List ℕ) × (c.number ≡ Some (t, d)) × dialling.Number d)
  pub noted : k ≡ Progress → (l : ℕ) × ((d : ℕ) × (c.progress ≡ Some (l, d)))
  pub cause : k ≡ Clear → (l : ℕ) × ((v : ℕ) × (c.cause ≡ Some (l, v)) × (l < 16) × (v < 128))

-- every value of the type keeps to them
abbrev pub AllWithin : Type 0
AllWithin = (s : Signal) → Within (kind_of s) (contents_of s)

-- the phase that a leg is in afterwards, and the message that goes out at it
pub record Turn : Type 0 where
  pub phase : Phase
  pub octets : List ℕ

-- what the far end reads of a message
pub record Far : Type 0 where
  pub kind : Kind
  pub parts : List Part

abbrev pub keep : (Part → Bool) → List Part → List Part
keep f [] = []
keep f (p ∷ ps) = cond (f p) (p ∷ keep f ps) (keep f ps)

-- what a kind that was heard leads to: the table's phase, and at the end of a call idle or clearing
abbrev pub HeardTo : Kind → Phase → Phase → Type 0
HeardTo k p q = (q ≡ heard_to k q p) × (k ≡ Clear → (q ≡ Idle) ⊎ (q ≡ Clearing))

pub record Meaning (R : Type 0) : Type 0 where
  -- which system, how many legs at most, the record of a leg at opening, and its phase
  pub system : System
  pub most : ℕ
  pub blank : R
  pub phase_of : R → Phase
  -- which legs may be called, and which parts are carried
  pub callable : ℕ → Bool
  pub carries : ℕ → Bool
  -- a message, given the number of legs
  pub reads : ℕ → List ℕ → Result Heard Refusal
  -- leg, phase, type heard, kind and contents: what taking a message does; and telling
  pub takes : ℕ → Phase → ℕ → Kind → Contents → Turn
  pub tells : ℕ → Phase → Kind → Contents → Turn
  -- what they leave of the leg's record
  pub taken : ℕ → R → ℕ → Kind → Contents → R
  pub told : ℕ → R → Kind → Contents → R
  -- what the far end reads of a told message, given the phase before it
  pub far : Phase → List ℕ → Far
  pub few : most ≤ 64
  pub blank_idle : phase_of blank ≡ Idle
  pub read_leg : (n : ℕ) (o : List ℕ) (h : Heard) → reads n o ≡ Ok h → h.leg < n
  pub read_within : (n : ℕ) (o : List ℕ) (h : Heard) → reads n o ≡ Ok h → Within h.kind h.contents
  pub read_refuses : (n : ℕ) (o : List ℕ) (e : Refusal) → reads n o ≡ Err e → (2 ≤ reason_number e.reason) × (reason_number e.reason ≤ 6)
  pub take_moves : (l : ℕ) (p : Phase) (t : ℕ) (k : Kind) (c : Contents) → heard_in k p ≡ true → HeardTo k p (takes l p t k c).phase
  pub tell_moves : (l : ℕ) (p : Phase) (k : Kind) (c : Contents) → told_in k (callable l) p ≡ true → (tells l p k c).phase ≡ told_to k p
  pub taken_phase : (l : ℕ) (r : R) (t : ℕ) (k : Kind) (c : Contents) → heard_in k (phase_of r) ≡ true → phase_of (taken l r t k c) ≡ (takes l (phase_of r) t k c).phase
  pub told_phase : (l : ℕ) (r : R) (k : Kind) (c : Contents) → told_in k (callable l) (phase_of r) ≡ true → phase_of (told l r k c) ≡ (tells l (phase_of r) k c).phase
  pub take_short : (l : ℕ) (p : Phase) (t : ℕ) (k : Kind) (c : Contents) → Within k c → length (takes l p t k c).octets ≤ 255
  pub tell_short : (l : ℕ) (p : Phase) (k : Kind) (c : Contents) → Within k c → length (tells l p k c).octets ≤ 255
  pub far_clear : (l : ℕ) (p : Phase) (k : Kind) (c : Contents) → Within k c → told_in k (callable l) p ≡ true → ((tells l p k c).octets ≢ []) → ((far p (tells l p k c).octets).kind ≡ Clear) ↔ (k ≡ Clear)
  pub far_parts : (l : ℕ) (p : Phase) (k : Kind) (c : Contents) → Within k c → told_in k (callable l) p ≡ true → ((tells l p k c).octets ≢ []) → (far p (tells l p k c).octets).parts ≡ keep (λ q. carries q.tag) c.parts
  pub clear_said : (l : ℕ) (p : Phase) (c : Contents) → told_in Clear (callable l) p ≡ true → (tells l p Clear c).octets ≢ []
  pub part_said : (l : ℕ) (p : Phase) (k : Kind) (c : Contents) (t : ℕ) → carries t ≡ true → speaks k ≡ true → told_in k (callable l) p ≡ true → (tells l p k c).octets ≢ []
