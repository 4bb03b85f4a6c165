-- A side with a number of legs, as an exchange sees it, and how any side's meaning gives one.
-- Rests on the meaning of a side; of a leg only the phase is seen, not the record.
use Rattle.std.specs.Prelude.{◌≡◌, ℕ, ◌<◌, ◌≤◌, Bool, true, ◌↔◌, List, [], length, Ok, Err, Result, ◌≢◌}
use Rattle.side.specs.declared.kinds.Kind.{Kind}
use Rattle.side.specs.declared.kinds.Kind.TheVariants.{Clear}
use Rattle.side.specs.declared.kinds.Phase.{Phase}
use Rattle.side.specs.declared.kinds.Refusal.{Refusal}
use Rattle.side.specs.Table.{heard_in, told_in, told_to}
use Rattle.side.specs.Signals.{Contents, Heard}
use Rattle.side.specs.Meaning.{Meaning, Turn, Far, Within, HeardTo, speaks, keep, reason_number}
use Rattle.rows.specs.declared.kinds.Which.{Which}
use Rattle.rows.specs.declared.kinds.Which.TheVariants.{First, Second}

-- a message is refused by a number at a place, or heard: its leg, its type, its kind and its contents
pub data Reading : Type 0 where
  unread : ℕ → ℕ → Reading
  heard : ℕ → ℕ → Kind → Contents → Reading

abbrev pub reading_of : Result Heard Refusal → Reading
reading_of (Ok h) = heard h.leg h.type h.kind h.contents
reading_of (Err e) = unread (reason_number e.reason) e.place

-- a side with its legs
pub record Side : Type 0 where
  pub legs : ℕ
  pub callable : ℕ → Bool
  pub carries : ℕ → Bool
  pub reads : List ℕ → Result Heard Refusal
  pub takes : ℕ → Phase → ℕ → Kind → Contents → Turn
  pub tells : ℕ → Phase → Kind → Contents → Turn
  pub far : Phase → List ℕ → Far
  pub read_leg : (o : List ℕ) (h : Heard) → reads o ≡ Ok h → h.leg < legs
  pub read_within : (o : List ℕ) (h : Heard) → reads o ≡ Ok h → Within h.kind h.contents
  pub read_refuses : (o : List ℕ) (e : Refusal) → reads o ≡ Err e → (2 ≤ reason_number e.reason) × (reason_number e.reason ≤ 6)
  pub take_moves : (l : ℕ) (p : Phase) (t : ℕ) (k : Kind) (c : Contents) → heard_in k p ≡ true → HeardTo k p (takes l p t k c).phase
  pub tell_moves : (l : ℕ) (p : Phase) (k : Kind) (c : Contents) → told_in k (callable l) p ≡ true → (tells l p k c).phase ≡ told_to k p
  pub take_short : (l : ℕ) (p : Phase) (t : ℕ) (k : Kind) (c : Contents) → Within k c → length (takes l p t k c).octets ≤ 255
  pub tell_short : (l : ℕ) (p : Phase) (k : Kind) (c : Contents) → Within k c → length (tells l p k c).octets ≤ 255
  pub far_clear : (l : ℕ) (p : Phase) (k : Kind) (c : Contents) → Within k c → told_in k (callable l) p ≡ true → ((tells l p k c).octets ≢ []) → ((far p (tells l p k c).octets).kind ≡ Clear) ↔ (k ≡ Clear)
  pub far_parts : (l : ℕ) (p : Phase) (k : Kind) (c : Contents) → Within k c → told_in k (callable l) p ≡ true → ((tells l p k c).octets ≢ []) → (far p (tells l p k c).octets).parts ≡ keep (λ q. carries q.tag) c.parts
  pub clear_said : (l : ℕ) (p : Phase) (c : Contents) → told_in Clear (callable l) p ≡ true → (tells l p Clear c).octets ≢ []
  pub part_said : (l : ℕ) (p : Phase) (k : Kind) (c : Contents) (t : ℕ) → carries t ≡ true → speaks k ≡ true → told_in k (callable l) p ≡ true → (tells l p k c).octets ≢ []

abbrev pub reading : Side → List ℕ → Reading
reading A o = reading_of (A.reads o)

-- any meaning, at a number of legs
abbrev pub side_of : {R : Type 0} → Meaning R → ℕ → Side
side_of M n = record {
  legs = n;
  callable = M.callable;
  carries = M.carries;
  reads = M.reads n;
  takes = M.takes;
  tells = M.tells;
  far = M.far;
  read_leg = M.read_leg n;
  read_within = M.read_within n;
  read_refuses = M.read_refuses n;
  take_moves = M.take_moves;
  tell_moves = M.tell_moves;
  take_short = M.take_short;
  tell_short = M.tell_short;
  far_clear = M.far_clear;
  far_parts = M.far_parts;
  clear_said = M.clear_said;
  part_said = M.part_said;
}

-- the two sides of an exchange, each a meaning with a number of legs
abbrev pub sides_of : {R S : Type 0} → Meaning R → ℕ → Meaning S → ℕ → Which → Side
sides_of M m N n First = side_of M m
sides_of M m N n Second = side_of N n
