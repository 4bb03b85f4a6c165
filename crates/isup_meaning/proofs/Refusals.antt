-- What a reading refuses has one of the reasons of reading. Assumes nothing.
use Rattle.std.proofs.Common.{◌≡◌, ℕ, ◌+◌, ◌/◌, ◌%◌, Bool, true, false, cond, ◌&&◌, eqb, ltb, leb, List, length, get_or, drop, Some, None, Ok, Err, Option, Result, refl, arith, lit≤}
use Rattle.elements.specs.declared.types.ListFault.{ListFault}
use Rattle.elements.specs.declared.types.ListFault.TheVariants.{BreaksOff, NoEnd}
use Rattle.elements.specs.Elements.{checked}
use Rattle.entries.specs.Codings.{dss1, isup}
use Rattle.values.specs.Causes.{cause_in}
use Rattle.side.specs.declared.kinds.Kind.{Kind}
use Rattle.side.specs.declared.kinds.Kind.TheVariants.{Setup, Complete, Progress, Alerting, Answer, Clear}
use Rattle.side.specs.declared.kinds.Reason.TheVariants.{Malformed, UnknownType, NoSuchLeg, Missing, BadValue}
use Rattle.side.specs.declared.kinds.Refusal.{Refusal}
use Rattle.side.specs.Signals.{Contents}
use Rattle.carried.specs.Carried.{earlier}
use Rattle.carried.proofs.Withins.{Between, between_is}
use Rattle.isup_meaning.specs.declared.types.MessageType.{MessageType}
use Rattle.isup_meaning.specs.declared.types.MessageType.TheVariants as type
use Rattle.isup_meaning.specs.Reading.{Body, Said, refusal, circuit_in, headed, type_in, fixed_count, has_field, field_pointer, list_pointer, pointed, field_fault, list_fault, optional_fault, nested_fault, body_in, broken, progress_of, backward_isdn, setup_says, party_says, progress_says, clear_says, judged, parts_bad, setup_bad, event_read, release_read, body_read, heard_as, whole_read, layout_read, type_read, reads}

some_between : (r e : Refusal) → Some r ≡ Some e → Between r → Between e
some_between r e i h = between_is r e (grind arith) h

-- what is broken
pub field_out : (o : List ℕ) (at : ℕ) (e : Refusal) → field_fault o at ≡ Some e → Between e
field_out o at e z = by (ltb at (length o)) (eqb (get_or o at 0) 0) (leb (pointed o at + 1 + get_or o (pointed o at) 0) (length o)) z
  where
    by : (a b c : Bool) → cond a (cond b None (cond c None (Some (refusal Malformed at)))) (Some (refusal Malformed at)) ≡ Some e → Between e
    by true true c w = absurd (grind arith)
    by true false true w = absurd (grind arith)
    by true false false w = between_is (refusal Malformed at) e (grind arith) (lit≤ tt, lit≤ tt)
    by false b c w = between_is (refusal Malformed at) e (grind arith) (lit≤ tt, lit≤ tt)

pub list_out : (at start : ℕ) (r : Result ℕ ListFault) (e : Refusal) → list_fault at start r ≡ Some e → Between e
list_out at start (Ok n) e z = absurd (grind arith)
list_out at start (Err (BreaksOff p)) e z = let i : list_fault at start (Err (BreaksOff p)) ≡ Some e = z in some_between _ e i (lit≤ tt, lit≤ tt)
list_out at start (Err (NoEnd p)) e z = let i : list_fault at start (Err (NoEnd p)) ≡ Some e = z in some_between _ e i (lit≤ tt, lit≤ tt)

pub optional_out : (o : List ℕ) (at : ℕ) (e : Refusal) → optional_fault o at ≡ Some e → Between e
optional_out o at e z = by (ltb at (length o)) (eqb (get_or o at 0) 0) (checked isup (drop (pointed o at) o)) z
  where
    by : (a b : Bool) (r : Result ℕ ListFault) → cond a (cond b None (list_fault at (pointed o at) r)) (Some (refusal Malformed at)) ≡ Some e → Between e
    by true true r w = absurd (grind arith)
    by true false r w = list_out at (pointed o at) r e w
    by false b r w = between_is (refusal Malformed at) e (grind arith) (lit≤ tt, lit≤ tt)

pub nested_out : (place : ℕ) (r : Result ℕ ListFault) (e : Refusal) → nested_fault place r ≡ Some e → Between e
nested_out place (Ok n) e z = absurd (grind arith)
nested_out place (Err f) e z = some_between _ e z (lit≤ tt, lit≤ tt)

pub earlier_out : (a b : Option Refusal) (e : Refusal) → ((x : Refusal) → a ≡ Some x → Between x) → ((x : Refusal) → b ≡ Some x → Between x) → earlier a b ≡ Some e → Between e
earlier_out None b e p q z = q e z
earlier_out (Some a) None e p q z = p e z
earlier_out (Some a) (Some b) e p q z = by (leb a.place b.place) z
  where
    by : (x : Bool) → Some (cond x a b) ≡ Some e → Between e
    by true w = p e w
    by false w = q e w

pub broken_out : (o : List ℕ) (t : MessageType) (b : Body) (e : Refusal) → broken o t b ≡ Some e → Between e
broken_out o t b e z =
    earlier_out _ _ e (λ x f. has (has_field t) x f)
    (λ x f. earlier_out _ _ x (λ y g. optional_out o (list_pointer t) y g) (λ y g. nested_out b.access_at (checked dss1 b.access) y g) f) z
  where
    has : (h : Bool) (x : Refusal) → cond h (field_fault o (field_pointer t)) None ≡ Some x → Between x
    has true x f = field_out o (field_pointer t) x f
    has false x f = absurd (grind arith)

-- what is said badly
pub judged_out : (x : Option ℕ) (k : Kind) (c : Contents) (e : Refusal) → judged x k c ≡ Err e → Between e
judged_out None k c e z = absurd (grind arith)
judged_out (Some p) k c e z = between_is (refusal BadValue p) e (grind arith) (lit≤ tt, lit≤ tt)

pub body_out : (t : MessageType) (b : Body) (e : Refusal) → body_read t b ≡ Err e → Between e
body_out type.InitialAddress b e z = at (leb 2 (length b.field)) z
  where
    at : (x : Bool) → cond x (judged (setup_bad b) Setup (setup_says b)) (Err (refusal Missing 0)) ≡ Err e → Between e
    at true w = judged_out (setup_bad b) Setup (setup_says b) e w
    at false w = between_is (refusal Missing 0) e (grind arith) (lit≤ tt, lit≤ tt)
body_out type.AddressComplete b e z = at (eqb (get_or b.octets 3 0 / 4 % 4) 1) z
  where
    at : (x : Bool) → cond x (judged (parts_bad b) Alerting (party_says (backward_isdn b) b)) (Ok (record { kind = Complete; contents = progress_says (backward_isdn b) (progress_of b) })) ≡ Err e → Between e
    at true w = judged_out (parts_bad b) Alerting (party_says (backward_isdn b) b) e w
    at false w = absurd (grind arith)
body_out type.Connect b e z = judged_out (parts_bad b) Answer (party_says (backward_isdn b) b) e z
body_out type.Answer b e z = judged_out (parts_bad b) Answer (party_says true b) e z
body_out type.CallProgress b e z = at (eqb (get_or b.octets 3 0 % 128) 1) (eqb (get_or b.octets 3 0 % 128) 2) (eqb (get_or b.octets 3 0 % 128) 3) (progress_of b) z
  where
    at : (x y v : Bool) (p : Option (ℕ × ℕ)) →
        cond x (judged (parts_bad b) Alerting (party_says true b))
        (cond y (event_read p)
        (cond v (Ok (record { kind = Progress; contents = progress_says true (Some (0x82, 0x88)) }))
        (Err (refusal BadValue 3)))) ≡ Err e → Between e
    at true y v p w = judged_out (parts_bad b) Alerting (party_says true b) e w
    at false true v None w = absurd (grind arith)
    at false true v (Some p) w = absurd (grind arith)
    at false false true p w = absurd (grind arith)
    at false false false p w = between_is (refusal BadValue 3) e (grind arith) (lit≤ tt, lit≤ tt)
body_out type.Release b e z = at (cause_in b.field) z
  where
    at : (c : Option (ℕ × ℕ)) → release_read c b ≡ Err e → Between e
    at None w = between_is (refusal Missing 0) e (grind arith) (lit≤ tt, lit≤ tt)
    at (Some c) w = judged_out (parts_bad b) Clear (clear_says c b) e w
body_out type.ReleaseComplete b e z = absurd (grind arith)

-- a whole message
pub heard_out : (o : List ℕ) (r : Result Said Refusal) (e : Refusal) → ((x : Refusal) → r ≡ Err x → Between x) → heard_as o r ≡ Err e → Between e
heard_out o (Ok s) e w z = absurd (grind arith)
heard_out o (Err f) e w z = let i : f ≡ e = grind arith in between_is f e i (w f refl)

pub whole_out : (o : List ℕ) (t : MessageType) (f : Option Refusal) (e : Refusal) → ((x : Refusal) → f ≡ Some x → Between x) → whole_read o t f ≡ Err e → Between e
whole_out o t (Some f) e w z = let i : f ≡ e = grind arith in between_is f e i (w f refl)
whole_out o t None e w z = heard_out o (body_read t (body_in o t)) e (λ x f. body_out t (body_in o t) x f) z

pub layout_out : (o : List ℕ) (t : MessageType) (e : Refusal) → layout_read o t ≡ Err e → Between e
layout_out o t e z = at (leb (3 + fixed_count t) (length o)) (broken o t (body_in o t)) (λ x f. broken_out o t (body_in o t) x f) z
  where
    at : (x : Bool) (f : Option Refusal) → ((x : Refusal) → f ≡ Some x → Between x) → cond x (whole_read o t f) (Err (refusal Malformed 0)) ≡ Err e → Between e
    at true f w y = whole_out o t f e w y
    at false f w y = between_is (refusal Malformed 0) e (grind arith) (lit≤ tt, lit≤ tt)

module _ (n : ℕ) (o : List ℕ) where
  pub type_out : (t : Option MessageType) (e : Refusal) → type_read n o t ≡ Err e → Between e
  type_out None e z = between_is (refusal UnknownType 2) e (grind arith) (lit≤ tt, lit≤ tt)
  type_out (Some t) e z = at (ltb (circuit_in o) n && ltb (circuit_in o) 64) z
    where
      at : (a : Bool) → cond a (layout_read o t) (Err (refusal NoSuchLeg 0)) ≡ Err e → Between e
      at true w = layout_out o t e w
      at false w = between_is (refusal NoSuchLeg 0) e (grind arith) (lit≤ tt, lit≤ tt)

  pub read_out : (e : Refusal) → reads n o ≡ Err e → Between e
  read_out e z = at (headed o) z
    where
      at : (b : Bool) → cond b (type_read n o (type_in (get_or o 2 0))) (Err (refusal Malformed 0)) ≡ Err e → Between e
      at true w = type_out (type_in (get_or o 2 0)) e w
      at false w = between_is (refusal Malformed 0) e (grind arith) (lit≤ tt, lit≤ tt)
