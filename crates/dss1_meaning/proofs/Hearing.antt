-- What reading a message of DSS 1 gives: a leg that is there and contents within their limits, or a refusal of the message. Assumes nothing.
use Rattle.std.proofs.Common.{◌≡◌, ℕ, ◌+◌, ◌/◌, ◌%◌, ◌<◌, Bool, true, false, cond, not, ◌&&◌, ◌||◌, eqb, ltb, leb, List, [], ◌∷◌, get_or, drop, is_some, Some, None, Ok, Err, Option, Result, refl, ap, subst, arith, lit<, lit≤}
use Rattle.std.proofs.lemmas.Bool.{ltb-true, and_parts, both_ways}
use Rattle.elements.specs.declared.types.ListFault.{ListFault}
use Rattle.elements.specs.Elements.{checked}
use Rattle.entries.specs.Codings.{dss1}
use Rattle.values.specs.declared.types.NumberType.{NumberType}
use Rattle.values.specs.Causes.{cause_in}
use Rattle.values.specs.Numbers.{type_of}
use Rattle.digits.specs.Dialling.{dialled, Number}
use Rattle.side.specs.declared.kinds.Kind.{Kind}
use Rattle.side.specs.declared.kinds.Kind.TheVariants.{Setup, Complete, Progress, Alerting, Answer, Quiet, Clear}
use Rattle.side.specs.declared.kinds.Reason.TheVariants.{Malformed, UnknownType, NoSuchLeg, Missing, BadValue}
use Rattle.side.specs.declared.kinds.System.TheVariants.{Dss1}
use Rattle.side.specs.declared.kinds.Layer.TheVariants.{List as InList}
use Rattle.side.specs.declared.kinds.Refusal.{Refusal}
use Rattle.side.specs.Signals.{Contents, Heard, empty, noted, described}
use Rattle.side.specs.Meaning.{Within, bears}
use Rattle.side.proofs.Limited.{none_within, plain}
use Rattle.carried.specs.Carried.{fault_of}
use Rattle.carried.proofs.Numbers.{text_of_number}
use Rattle.carried.proofs.PartLaws.{sooner_none, bad_none, parts_bad_none, fault_none}
use Rattle.carried.proofs.Served.{bearer_good}
use Rattle.carried.proofs.Withins.{quiet_within, setup_fits, progress_fits, clear_fits, cause_in_range, numbered_is, Between, between_is}
use Rattle.dss1_meaning.specs.declared.types.MessageType.{MessageType}
use Rattle.dss1_meaning.specs.declared.types.MessageType.TheVariants as type
use Rattle.dss1_meaning.specs.Dss1 as table
use Rattle.dss1_meaning.specs.Dss1.{exchange, user, Body, body_in, Said, headed, type_in, named, leg_of, flagged, begins, numbered, number_in, cause_or, setup_says, party_says, progress_says, clear_says, judged, parts_bad, setup_bad, there, setup_read, proceeding_read, progress_read, body_read, heard_as, fault_place, list_read, type_read}

pub number_good : (o : List ℕ) → is_some (number_in o) ≡ true → (t : NumberType) × ((d : List ℕ) × (number_in o ≡ Some (t, d)) × Number d)
number_good [] e = absurd (grind arith)
number_good (a ∷ digits) e =
    let n = numbered_is (type_of (a / 16 % 8)) (dialled digits) e in
    (n.0, (n.1.0, n.1.1, text_of_number digits n.1.0 n.1.2))

-- the cause of a message that ends a call
pub cause_or_within : (o : Option (ℕ × ℕ)) → ((c : ℕ × ℕ) → o ≡ Some c → (c.0 < 16) × (c.1 < 128)) → ((cause_or o).0 < 16) × ((cause_or o).1 < 128)
cause_or_within None h = (lit< tt, lit< tt)
cause_or_within (Some c) h = h c refl

-- a cause as it is read has a location below 16 and a value below 128
pub cause_within : (o : List ℕ) → (l : ℕ) × ((v : ℕ) × (Some (cause_or (cause_in o)) ≡ Some (l, v)) × (l < 16) × (v < 128))
cause_within o = let h = cause_or_within (cause_in o) (cause_in_range o) in ((cause_or (cause_in o)).0, ((cause_or (cause_in o)).1, refl, h.0, h.1))

-- contents by kind
pub setup_within : (b : Body) → setup_bad b ≡ None → Within Setup (setup_says b)
setup_within b e =
    let f = sooner_none _ _ e in
    let g = sooner_none _ _ f.1 in
    setup_fits (setup_says b) (fault_none b.parts (parts_bad_none _ _ g.1)) (bearer_good b.bearer (bad_none _ _ f.0)) (number_good b.number (bad_none _ _ g.0))

pub party_within : (k : Kind) (b : Body) → fault_of b.parts ≡ None → (bears k ≡ true) → (k ≡ Setup → ⊥) → (k ≡ Clear → ⊥) → Within k (party_says b)
party_within k b e h s t = plain k (party_says b) (fault_none b.parts e) (λ z. absurd (both_ways (bears k) z h)) s (λ z. absurd (both_ways (bears k) (ap bears z) h)) t

pub complete_within : (p : Option (ℕ × ℕ)) → Within Complete (progress_says p)
complete_within p = plain Complete (progress_says p) none_within (λ _. refl) (λ z. grind arith) (λ z. grind arith) (λ z. grind arith)

pub progress_within : (p : ℕ × ℕ) → Within Progress (progress_says (Some p))
progress_within p = progress_fits (progress_says (Some p)) p refl refl

pub clear_within : (b : Body) → fault_of b.parts ≡ None → Within Clear (clear_says b)
clear_within b e = clear_fits (clear_says b) (cause_or (cause_in b.cause)) (fault_none b.parts e) refl (cause_or_within (cause_in b.cause) (cause_in_range b.cause))

-- what is said of a message that is read
abbrev pub SaidWithin : Said → Type 0
SaidWithin s = Within s.kind s.contents

abbrev pub saying : Kind → Contents → Said
saying k c = record { kind = k; contents = c }

abbrev pub says : Kind → Contents → Result Said Refusal
says k c = Ok (saying k c)

pub judged_in : (bad : Option ℕ) (k : Kind) (c : Contents) (s : Said) → judged bad k c ≡ Ok s → (bad ≡ None → Within k c) → SaidWithin s
judged_in None k c s e h = let i : saying k c ≡ s = grind arith in subst SaidWithin i (h refl)
judged_in (Some p) k c s e h = absurd (grind arith)

module _ (b : Body) (s : Said) where
  pub setup_in : setup_read b ≡ Ok s → SaidWithin s
  setup_in e = at (there b.bearer && there b.number) e
    where
      at : (t : Bool) → cond t (judged (setup_bad b) Setup (setup_says b)) (Err (table.refusal Missing 0)) ≡ Ok s → SaidWithin s
      at true z = judged_in (setup_bad b) Setup (setup_says b) s z (λ y. setup_within b y)
      at false z = absurd (grind arith)

  pub proceeding_in : (p : Option (ℕ × ℕ)) → proceeding_read p ≡ Ok s → SaidWithin s
  proceeding_in None e = let i : saying Complete (progress_says None) ≡ s = grind arith in subst SaidWithin i (complete_within None)
  proceeding_in (Some p) e = at (eqb (described p) 3 || (eqb (described p) 4 || eqb (described p) 8)) e
    where
      at : (t : Bool) → cond t (says Complete (progress_says (Some p))) (says Progress (progress_says (Some p))) ≡ Ok s → SaidWithin s
      at true z = let i : saying Complete (progress_says (Some p)) ≡ s = grind arith in subst SaidWithin i (complete_within (Some p))
      at false z = let i : saying Progress (progress_says (Some p)) ≡ s = grind arith in subst SaidWithin i (progress_within p)

  pub progress_in_within : (p : Option (ℕ × ℕ)) → progress_read p ≡ Ok s → SaidWithin s
  progress_in_within None e = absurd (grind arith)
  progress_in_within (Some p) e = at (eqb (described p) 3 || eqb (described p) 8) e
    where
      at : (t : Bool) → cond t (says Quiet empty) (says Progress (progress_says (Some p))) ≡ Ok s → SaidWithin s
      at true z = let i : saying Quiet empty ≡ s = grind arith in subst SaidWithin i quiet_within
      at false z = let i : saying Progress (progress_says (Some p)) ≡ s = grind arith in subst SaidWithin i (progress_within p)

  whole : parts_bad b ≡ None → fault_of b.parts ≡ None
  whole = parts_bad_none (fault_of b.parts) b.user_at

  pub body_in_within : (t : MessageType) → body_read t b ≡ Ok s → SaidWithin s
  body_in_within type.Alerting e = judged_in (parts_bad b) Alerting (party_says b) s e (λ y. party_within Alerting b (whole y) refl (λ z. grind arith) (λ z. grind arith))
  body_in_within type.CallProceeding e = proceeding_in (noted b.progress) e
  body_in_within type.Progress e = progress_in_within (noted b.progress) e
  body_in_within type.Setup e = setup_in e
  body_in_within type.Connect e = judged_in (parts_bad b) Answer (party_says b) s e (λ y. party_within Answer b (whole y) refl (λ z. grind arith) (λ z. grind arith))
  body_in_within type.ConnectAcknowledge e = let i : saying Quiet empty ≡ s = grind arith in subst SaidWithin i quiet_within
  body_in_within type.Disconnect e = judged_in (parts_bad b) Clear (clear_says b) s e (λ y. clear_within b (whole y))
  body_in_within type.Release e = judged_in (parts_bad b) Clear (clear_says b) s e (λ y. clear_within b (whole y))
  body_in_within type.ReleaseComplete e = judged_in (parts_bad b) Clear (clear_says b) s e (λ y. clear_within b (whole y))

-- a message that is read
module _ (n : ℕ) (o : List ℕ) (h : Heard) where
  abbrev Fine : Type 0
  Fine = (h.leg < n) × Within h.kind h.contents

  heard_in_within : (r : Result Said Refusal) → leg_of exchange (get_or o 2 0) < n → ((s : Said) → r ≡ Ok s → SaidWithin s) → heard_as exchange o r ≡ Ok h → Fine
  heard_in_within (Ok s) l w e =
      let i : record { leg = leg_of exchange (get_or o 2 0); type = get_or o 3 0; kind = s.kind; contents = s.contents } ≡ h = grind arith in
      (subst (λ x. x.leg < n) i l, subst (λ x. Within x.kind x.contents) i (w s refl))
  heard_in_within (Err f) l w e = absurd (grind arith)

  list_in_within : (t : MessageType) (r : Result ℕ ListFault) → leg_of exchange (get_or o 2 0) < n → list_read exchange o t r ≡ Ok h → Fine
  list_in_within t (Ok m) l e = heard_in_within (body_read t (body_in (drop 4 o))) l (λ s. body_in_within (body_in (drop 4 o)) s t) e
  list_in_within t (Err f) l e = absurd (grind arith)

  type_in_is : (t : Option MessageType) → type_read exchange n o t ≡ Ok h → Fine
  type_in_is None e = absurd (grind arith)
  type_in_is (Some t) e = at (named exchange n t (get_or o 2 0)) refl e
    where
      leg : (a b c d : Bool) → (a && (b && (c && d))) ≡ true → c ≡ true
      leg a b c d z = (and_parts c d (and_parts b (c && d) (and_parts a (b && (c && d)) z).1).1).0

      at : (b : Bool) → named exchange n t (get_or o 2 0) ≡ b → cond b (list_read exchange o t (checked dss1 (drop 4 o))) (Err (table.refusal NoSuchLeg 2)) ≡ Ok h → Fine
      at true i z =
          let r : ℕ = get_or o 2 0 in
          let l = leg (leb 1 (r % 128)) (leb (r % 128) 32) (ltb (leg_of exchange r) n) (not (begins t && flagged r)) i in
          list_in_within t (checked dss1 (drop 4 o)) (ltb-true (leg_of exchange r) n l) z
      at false i z = absurd (grind arith)

  pub read_in : table.reads n o ≡ Ok h → Fine
  read_in e = at (headed o) e
    where
      at : (b : Bool) → cond b (type_read exchange n o (type_in (get_or o 3 0))) (Err (table.refusal Malformed 0)) ≡ Ok h → Fine
      at true z = type_in_is (type_in (get_or o 3 0)) z
      at false z = absurd (grind arith)

-- the refusals that a reading may give
module _ (e : Refusal) where
  given : (r : Refusal) → r ≡ e → Between r → Between e
  given r = between_is r e

  judged_out : (bad : Option ℕ) (k : Kind) (c : Contents) → judged bad k c ≡ Err e → Between e
  judged_out None k c z = absurd (grind arith)
  judged_out (Some p) k c z = given (table.refusal BadValue p) (grind arith) (lit≤ tt, lit≤ tt)

  setup_out : (b : Body) → setup_read b ≡ Err e → Between e
  setup_out b z = at (there b.bearer && there b.number) z
    where
      at : (t : Bool) → cond t (judged (setup_bad b) Setup (setup_says b)) (Err (table.refusal Missing 0)) ≡ Err e → Between e
      at true y = judged_out (setup_bad b) Setup (setup_says b) y
      at false y = given (table.refusal Missing 0) (grind arith) (lit≤ tt, lit≤ tt)

  proceeding_out : (p : Option (ℕ × ℕ)) → proceeding_read p ≡ Err e → Between e
  proceeding_out None z = absurd (grind arith)
  proceeding_out (Some p) z = at (eqb (described p) 3 || (eqb (described p) 4 || eqb (described p) 8)) z
    where
      at : (t : Bool) → cond t (says Complete (progress_says (Some p))) (says Progress (progress_says (Some p))) ≡ Err e → Between e
      at true y = absurd (grind arith)
      at false y = absurd (grind arith)

  progress_out : (p : Option (ℕ × ℕ)) → progress_read p ≡ Err e → Between e
  progress_out None z = given (table.refusal Missing 0) (grind arith) (lit≤ tt, lit≤ tt)
  progress_out (Some p) z = at (eqb (described p) 3 || eqb (described p) 8) z
    where
      at : (t : Bool) → cond t (says Quiet empty) (says Progress (progress_says (Some p))) ≡ Err e → Between e
      at true y = absurd (grind arith)
      at false y = absurd (grind arith)

  body_out : (t : MessageType) (b : Body) → body_read t b ≡ Err e → Between e
  body_out type.Alerting b z = judged_out (parts_bad b) Alerting (party_says b) z
  body_out type.CallProceeding b z = proceeding_out (noted b.progress) z
  body_out type.Progress b z = progress_out (noted b.progress) z
  body_out type.Setup b z = setup_out b z
  body_out type.Connect b z = judged_out (parts_bad b) Answer (party_says b) z
  body_out type.ConnectAcknowledge b z = absurd (grind arith)
  body_out type.Disconnect b z = judged_out (parts_bad b) Clear (clear_says b) z
  body_out type.Release b z = judged_out (parts_bad b) Clear (clear_says b) z
  body_out type.ReleaseComplete b z = judged_out (parts_bad b) Clear (clear_says b) z

  heard_out : (o : List ℕ) (r : Result Said Refusal) → (r ≡ Err e → Between e) → heard_as exchange o r ≡ Err e → Between e
  heard_out o (Ok s) w z = absurd (grind arith)
  heard_out o (Err f) w z = let i : f ≡ e = grind arith in w (ap Err i)

  list_out : (o : List ℕ) (t : MessageType) (r : Result ℕ ListFault) → list_read exchange o t r ≡ Err e → Between e
  list_out o t (Ok m) z = heard_out o (body_read t (body_in (drop 4 o))) (λ y. body_out t (body_in (drop 4 o)) y) z
  list_out o t (Err f) z = given (record { reason = Malformed; place = 4 + fault_place f; system = Dss1; layer = InList }) (grind arith) (lit≤ tt, lit≤ tt)

  type_out : (n : ℕ) (o : List ℕ) (t : Option MessageType) → type_read exchange n o t ≡ Err e → Between e
  type_out n o None z = given (table.refusal UnknownType 3) (grind arith) (lit≤ tt, lit≤ tt)
  type_out n o (Some t) z = at (named exchange n t (get_or o 2 0)) z
    where
      at : (b : Bool) → cond b (list_read exchange o t (checked dss1 (drop 4 o))) (Err (table.refusal NoSuchLeg 2)) ≡ Err e → Between e
      at true y = list_out o t (checked dss1 (drop 4 o)) y
      at false y = given (table.refusal NoSuchLeg 2) (grind arith) (lit≤ tt, lit≤ tt)

  pub read_out : (n : ℕ) (o : List ℕ) → table.reads n o ≡ Err e → Between e
  read_out n o z = at (headed o) z
    where
      at : (b : Bool) → cond b (type_read exchange n o (type_in (get_or o 3 0))) (Err (table.refusal Malformed 0)) ≡ Err e → Between e
      at true y = type_out n o (type_in (get_or o 3 0)) y
      at false y = given (table.refusal Malformed 0) (grind arith) (lit≤ tt, lit≤ tt)
