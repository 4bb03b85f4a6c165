-- What the readers of a message make of its parts. Assumes nothing.
use Rattle.std.proofs.Common.{◌≡◌, ℕ, ◌-◌, ◌/◌, ◌%◌, ◌<◌, ◌≤◌, Bool, true, false, cond, ◌&&◌, eqb, ltb, List, [], ◌∷◌, length, get_or, take, drop, is_some, is_ok, IfOk, MatchResult, MatchOption, Some, None, Ok, Err, Option, Result, sym, refl, ap, subst, ◌∙◌, arith}
use Rattle.std.proofs.lemmas.List.{take_rest}
use Rattle.std.proofs.lemmas.Bool.{cond-true, cond-false, lt-ltb, eqb-false}
use Rattle.std.proofs.lemmas.Result.{IfOk-at_ok}
use Rattle.std.specs.Option.{option_map, ok_or}
use Rattle.std.specs.Result.{result_ok}
use Rattle.values.specs.declared.types.BearerFault.{BearerFault}
use Rattle.values.specs.Bearers.{bearer_in}
use Rattle.values.specs.declared.types.NumberType.{NumberType}
use Rattle.values.specs.Numbers.{type_of}
use Rattle.digits.specs.declared.types.DigitFault.{DigitFault}
use Rattle.digits.specs.Dialling.{dialled}
use Rattle.elements.specs.declared.types.ListFault.{ListFault}
use Rattle.elements.specs.Elements.{checked}
use Rattle.entries.specs.Codings.{dss1}
use Rattle.side.specs.declared.kinds.Kind.{Kind}
use Rattle.side.specs.declared.kinds.Kind.TheVariants as kind
use Rattle.side.specs.declared.kinds.Refusal.{Refusal}
use Rattle.side.specs.declared.kinds.Reason.TheVariants.{BadValue, NoSuchLeg}
use Rattle.side.specs.declared.contents.Bearer.{Bearer}
use Rattle.side.specs.declared.contents.Number.{Number}
use Rattle.side.specs.declared.parts.Parts.{Parts}
use Rattle.side.specs.Contents as side
use Rattle.side.specs.Signals.{Contents, bearer_of, noted}
use Rattle.side.proofs.Limited.{bearer_served}
use Rattle.carried.specs.Carried.{parts_of, bad_at, sooner, both, earlier, refused}
use Rattle.carried.specs.Messages.{Said, numbered, number_of}
use Rattle.carried.proofs.Refusals.{both_refused_at, both_ok, sooner_refused}
use Rattle.dss1_meaning.specs.declared.types.MessageType.{MessageType}
use Rattle.carried.specs.declared.UnknownOctet.{UnknownOctet}
use Rattle.dss1_meaning.specs.Dss1.{refusal, headed, type_in, exchange, named, Body, body_in, number_in, parts_bad, setup_says, setup_bad, setup_read, judged, body_read, heard_as, list_read, type_read, reads}
use Rattle.dss1_reading.specs.Reads.{list_fault, setup_fault}

-- a bearer that is read is one that is served
pub bearer_read : (o : List ℕ) (r : Result Bearer BearerFault) → MatchResult r (λ b. bearer_of b ≡ o) (λ e. bearer_in o ≡ Err e) → MatchOption (result_ok r) (is_ok (bearer_in o) ≡ false) (λ _. is_ok (bearer_in o) ≡ true)
bearer_read o (Ok b) h = ap (λ x. is_ok (bearer_in x)) (sym h) ∙ ap is_ok (bearer_served b)
bearer_read o (Err e) h = ap is_ok h

-- contents that are not empty
pub filled : (xs ys : List ℕ) → false ≡ eqb (length xs) 0 → xs ≡ ys → 0 < length ys
filled xs ys h e = let k : length xs ≡ 0 → ⊥ = λ z. eqb-false (length xs) 0 (sym h) z in omega (arith, ap length e)

-- a message that is judged by what stands against its values
pub judged_refused : (o : Option ℕ) (k : Kind) (c : Contents) (e : Refusal) → Some e ≡ option_map (refusal BadValue) o → Err e ≡ judged o k c
judged_refused None k c e h = absurd (grind arith)
judged_refused (Some p) k c e h = grind arith

pub judged_said : (o : Option ℕ) (k : Kind) (c d : Contents) → None ≡ option_map (refusal BadValue) o → c ≡ d → Ok (record { kind = k; contents = c }) ≡ judged o k d
judged_said None k c d h e = ap (λ x. Ok (record { kind = k; contents = x })) e
judged_said (Some p) k c d h e = absurd (grind arith)

-- the refusal at the smallest place is the one at the sooner of the places
pub setup_fault_is : (b : Body) → setup_fault b ≡ option_map (refusal BadValue) (setup_bad b)
setup_fault_is b =
    sym
    (sooner_refused (refusal BadValue) (λ q. refl) (bad_at (is_ok (bearer_in b.bearer)) b.bearer_at) _
    ∙ ap (earlier (option_map (refusal BadValue) (bad_at (is_ok (bearer_in b.bearer)) b.bearer_at))) (sooner_refused (refusal BadValue) (λ q. refl) (bad_at (is_some (number_in b.number)) b.number_at) (parts_bad b)))

-- a setup whose bearer and number are there, and its three values, or their refusal
module _ (b : Body) (bearer-there : 0 < length b.bearer) (number_there : 0 < length b.number)
    (r : Result (Bearer × (Number × Parts)) Refusal) (fault : refused r ≡ setup_fault b) where
  bad : refused r ≡ option_map (refusal BadValue) (setup_bad b)
  bad = fault ∙ setup_fault_is b

  head : setup_read b ≡ judged (setup_bad b) kind.Setup (setup_says b)
  head = cond-true _ _ _ (λ i. lt-ltb 0 (length b.bearer) bearer-there i && lt-ltb 0 (length b.number) number_there i)

  -- with a value outside its rule
  pub setup_refused : (e : Refusal) → r ≡ Err e → Err e ≡ setup_read b
  setup_refused e h = judged_refused (setup_bad b) kind.Setup (setup_says b) e (sym (ap refused h) ∙ bad) ∙ sym head

  -- with every value in its rule
  module _ (values : IfOk r (λ v. (bearer_of v.0 ≡ b.bearer) × (Some (number_of v.1.0) ≡ number_in b.number) × (side.parts_of v.1.1 ≡ parts_of b.parts)))
      (v : Bearer × (Number × Parts)) (e : r ≡ Ok v) (progress : Option (ℕ × ℕ)) (progress-is : progress ≡ noted b.progress) where
    pub setup_said :
        Ok (record { kind = kind.Setup; contents = record { bearer = bearer_of v.0; number = Some (number_of v.1.0); progress = progress; cause = None; isdn = true; parts = side.parts_of v.1.1 } }) ≡ setup_read b
    setup_said =
        let are = IfOk-at_ok (λ v. (bearer_of v.0 ≡ b.bearer) × (Some (number_of v.1.0) ≡ number_in b.number) × (side.parts_of v.1.1 ≡ parts_of b.parts)) e values in
        judged_said (setup_bad b) kind.Setup _ (setup_says b) (sym (ap refused e) ∙ bad)
        (λ i. record { bearer = are.0 i; number = are.1 i; progress = progress-is i; cause = None; isdn = true; parts = are.2 i }) ∙ sym head

-- a type that was found, whatever one that was not is refused with
pub type_found : (o : Option MessageType) (t : MessageType) (u : UnknownOctet) (r : Result MessageType UnknownOctet) (m : Result MessageType Refusal) (P : UnknownOctet → Type 0) →
    r ≡ ok_or o u → m ≡ Ok t → is_ok m ≡ is_ok r → MatchResult r (λ x. m ≡ Ok x) P → Some t ≡ o
type_found None t u r m P e f v h = let z : true ≡ false = ap is_ok (sym f) ∙ v ∙ ap is_ok e in absurd (grind arith)
type_found (Some s) t u r m P e f v h = let k : m ≡ Ok s = subst (λ r. MatchResult r (λ x. m ≡ Ok x) P) e h in grind arith

-- a message whose head and type are read
module _ (n : ℕ) (o : List ℕ) (t : MessageType) (h : true ≡ headed o) (e : Some t ≡ type_in (get_or o 3 0)) where
  typed : type_read exchange n o (Some t) ≡ reads n o
  typed = ap (type_read exchange n o) e ∙ sym (cond-true _ _ _ (sym h))

  -- and whose reference names a leg
  module _ (f : named exchange n t (get_or o 2 0) ≡ true) where
    listed : list_read exchange o t (checked dss1 (drop 4 o)) ≡ reads n o
    listed = sym (cond-true _ _ _ f) ∙ typed

    whole : checked dss1 (take (length o - 4) (drop 4 o)) ≡ checked dss1 (drop 4 o)
    whole = ap (checked dss1) (take_rest o 4)

    pub body_read_is : (s : Result Said Refusal) → None ≡ list_fault (checked dss1 (take (length o - 4) (drop 4 o))) → s ≡ body_read t (body_in (take (length o - 4) (drop 4 o))) → heard_as exchange o s ≡ reads n o
    body_read_is s g q = ap (heard_as exchange o) (q ∙ ap (λ l. body_read t (body_in l)) (take_rest o 4)) ∙ by (checked dss1 (drop 4 o)) (g ∙ ap list_fault whole) ∙ listed
      where
        by : (c : Result ℕ ListFault) → None ≡ list_fault c → heard_as exchange o (body_read t (body_in (drop 4 o))) ≡ list_read exchange o t c
        by (Ok m) z = refl
        by (Err f) z = absurd (grind arith)

-- a called number from its type and what its digits are
pub number_read : (xs : List ℕ) (t : NumberType) (r : Result (List ℕ) DigitFault) → 1 ≤ length xs → Some t ≡ type_of (get_or xs 0 0 / 16 % 8) → r ≡ dialled (take (length xs - 1) (drop 1 xs)) →
    numbered (Some t) r ≡ number_in xs
number_read [] t r h e d = absurd (omega arith)
number_read (a ∷ xs) t r h e d = let k : r ≡ dialled xs = d ∙ ap dialled (take_rest (a ∷ xs) 1) in λ i. numbered (e i) (k i)

-- the first of three places, from those that were found
pub first_place : {a b c x y z w o : Option ℕ} → o ≡ sooner x w → w ≡ sooner y z → x ≡ a → y ≡ b → z ≡ c → o ≡ sooner a (sooner b c)
first_place e f p q r = e ∙ (λ i. sooner (p i) ((f ∙ (λ j. sooner (q j) (r j))) i))

-- a setup with a value outside its rule
pub setup_bad_refused : (b : Body) (p : ℕ) → 0 < length b.bearer → 0 < length b.number → Some p ≡ setup_bad b → Err (refusal BadValue p) ≡ setup_read b
setup_bad_refused b p h k e =
    let f : (ltb 0 (length b.bearer) && ltb 0 (length b.number)) ≡ true = λ i. lt-ltb 0 (length b.bearer) h i && lt-ltb 0 (length b.number) k i in
    sym (cond-true _ _ _ f ∙ ap (λ o. judged o kind.Setup (setup_says b)) (sym e))

-- what a leg that was looked for and not found says of the reference
pub leg_missing : (b : Bool) (x : ℕ) → None ≡ cond b (Some x) None → b ≡ false
leg_missing b x e = grind arith

-- a message whose reference names no leg, or whose list is broken
module _ (n : ℕ) (o : List ℕ) (t : MessageType) (h : true ≡ headed o) (e : Some t ≡ type_in (get_or o 3 0)) where
  pub no_leg : named exchange n t (get_or o 2 0) ≡ false → Err (refusal NoSuchLeg 2) ≡ reads n o
  no_leg f = sym (cond-false _ _ _ f) ∙ typed n o t h e

  module _ (f : named exchange n t (get_or o 2 0) ≡ true) where
    pub list_refused : (r : Refusal) → Some r ≡ list_fault (checked dss1 (take (length o - 4) (drop 4 o))) → Err r ≡ reads n o
    list_refused r g = by (checked dss1 (drop 4 o)) (g ∙ ap list_fault (whole n o t h e f)) ∙ listed n o t h e f
      where
        by : (c : Result ℕ ListFault) → Some r ≡ list_fault c → Err r ≡ list_read exchange o t c
        by (Ok m) z = absurd (grind arith)
        by (Err f) z = grind arith
