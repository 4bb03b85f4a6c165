-- What the user's end reads of a told message: its kind and the parts told. Assumes nothing.
use Rattle.std.proofs.Common.{◌≡◌, ℕ, ◌+◌, ◌*◌, ◌/◌, ◌%◌, ◌≤◌, Bool, true, false, cond, ◌&&◌, ◌||◌, eqb, leb, ◌↔◌, List, [], ◌++◌, length, get_or, drop, is_some, is_ok, Some, None, Ok, Err, Option, Result, sym, refl, ap, ◌∙◌, subst, arith, lit<, lit≤}
use Rattle.std.proofs.lemmas.Bool.{and_from, and_parts, le-leb, lt-ltb, cond-true}
use Rattle.elements.specs.Elements.{checked}
use Rattle.entries.specs.Codings.{dss1}
use Rattle.entries.specs.Entries.{Entry, listed, weight, weights, under, found, Ascending}
use Rattle.entries.proofs.Tables.{reads_found_bare, whole_bare, listed_length, light}
use Rattle.values.specs.declared.types.NumberType.{NumberType}
use Rattle.values.specs.declared.types.NumberType.TheVariants.{Unknown, International, National, Subscriber}
use Rattle.values.specs.declared.types.Capability.{Capability}
use Rattle.values.specs.Bearers.{bearer_in}
use Rattle.values.specs.Numbers.{code_of, type_of}
use Rattle.digits.specs.Dialling.{dialled, Number}
use Rattle.carried.proofs.Served.{told_bearer_served}
use Rattle.digits.proofs.Steps.{reads_itself}
use Rattle.side.specs.declared.kinds.Kind.{Kind}
use Rattle.side.specs.declared.kinds.Kind.TheVariants.{Setup, Complete, Progress, Alerting, Answer, Quiet, Clear, Down}
use Rattle.side.specs.declared.kinds.Phase.{Phase}
use Rattle.side.specs.declared.kinds.Reason.TheVariants.{Malformed, NoSuchLeg, Missing}
use Rattle.side.specs.declared.kinds.Refusal.{Refusal}
use Rattle.side.proofs.Limited.{none_within}
use Rattle.side.specs.Table.{told_in, between}
use Rattle.side.specs.Contents.{Part}
use Rattle.side.specs.Signals.{Contents, empty, noted, described}
use Rattle.side.specs.Meaning.{Within, PartsWithin, Far}
use Rattle.carried.specs.Carried.{Five, five_at, parts_of, fault_of, part_at, progress_octets, cause_octets, bad_at, parts_bad_at, sooner, told_bearer}
use Rattle.carried.proofs.PartLaws.{within_parts, within_weights, within_fault, part_short}
use Rattle.dss1_meaning.specs.declared.types.MessageType.{MessageType}
use Rattle.dss1_meaning.specs.declared.types.MessageType.TheVariants as type
use Rattle.dss1_meaning.specs.Dss1.{user, Body, body_in, Said, headed, type_in, type_octet, begins, named, reference_to, callable, numbered, number_in, number_octets, setup_says, party_says, progress_says, clear_says, judged, parts_bad, setup_bad, there, setup_read, proceeding_read, progress_read, body_read, heard_as, list_read, type_read, reads_at, head, table, or_noted, told_elements, tells, far_of, far}
use Rattle.dss1_meaning.specs.Dss1 as system
use Rattle.dss1_meaning.proofs.Legs.{named_in_call, named_to_begin}
use Rattle.carried.proofs.Withins.{progress_short, cause_short}
use Rattle.dss1_meaning.proofs.Hearing.{says}

-- a table that is written whole: its tags ascend, and with a head it fits 255 octets
pub record Fits (es : List Entry) : Type 0 where
  pub ascends : Ascending dss1 0 es
  pub short : length (listed es) ≤ 251

-- contents that a message holds fit
module _ (b cs pr nm : List ℕ) (ps : List Part) (w : PartsWithin ps) where
  pub table_fits : length b ≤ 11 → length cs ≤ 2 → length pr ≤ 2 → length nm ≤ 21 → Fits (table b cs pr nm ps)
  table_fits hb hc hp hn = record { ascends = ascending; short = subst (λ n. n ≤ 251) (sym (listed_length (table b cs pr nm ps))) bound }
    where
      ascending : Ascending dss1 0 (table b cs pr nm ps)
      ascending =
          let s = part_short ps w in (
            lit< tt,
            refl,
            refl,
            omega arith,
            (
              lit< tt,
              refl,
              refl,
              omega arith,
              (
                lit< tt,
                refl,
                refl,
                omega arith,
                (
                  lit< tt,
                  refl,
                  refl,
                  omega arith,
                  (
                    lit< tt,
                    refl,
                    refl,
                    omega arith,
                    (
                      lit< tt,
                      refl,
                      refl,
                      omega arith,
                      (
                        lit< tt,
                        refl,
                        refl,
                        omega arith,
                        (
                          lit< tt,
                          refl,
                          refl,
                          omega arith,
                          (lit< tt, refl, refl, omega arith, tt),
                        ),
                      ),
                    ),
                  ),
                ),
              ),
            ),
          )

      sum : (b c p a n d e f g : ℕ) → b ≤ 13 → c ≤ 4 → p ≤ 4 → n ≤ 23 → a + d + e + f + g ≤ 200 → b + (c + (p + (a + (n + (d + (e + (f + (g + 0)))))))) ≤ 251
      sum b c p a n d e f g i j k l m = omega arith

      bound : weights (table b cs pr nm ps) ≤ 251
      bound =
          let x = light (length b) in
          let y = light (length cs) in
          let z = light (length pr) in
          let v = light (length nm) in
          sum (weight (length b)) (weight (length cs)) (weight (length pr)) (weight (length (part_at 0x6D ps))) (weight (length nm)) (weight (length (part_at 0x71 ps))) (weight (length (part_at 0x7C ps))) (weight (length (part_at 0x7D ps))) (weight (length (part_at 0x7E ps)))
          (omega arith) (omega arith) (omega arith) (omega arith) (within_weights ps w)

-- a number takes its digits and one octet more
number_short : (o : Option (NumberType × List ℕ)) (t : NumberType) (d : List ℕ) → o ≡ Some (t, d) → Number d → length (number_octets o) ≤ 21
number_short o t d e h = subst (λ n. length (number_octets n) ≤ 21) (sym e) (let k = h.1 in omega arith)

pub told_fits : (k : Kind) (c : Contents) → Within k c → Fits (told_elements k c)
told_fits Setup c w =
    let n = w.number refl in
    let pr : List ℕ = progress_octets (or_noted c.progress c.isdn (0x82, 0x83)) in
    table_fits (told_bearer c.bearer) [] pr (number_octets c.number) c.parts w.parts (told_bearer_served c.bearer).1 (lit≤ tt) (progress_short (or_noted c.progress c.isdn (0x82, 0x83)))
    (number_short c.number n.0 n.1.0 n.1.1 n.1.2)
told_fits Complete c w = table_fits [] [] (progress_octets c.progress) [] [] none_within (lit≤ tt) (lit≤ tt) (progress_short c.progress) (lit≤ tt)
told_fits Progress c w = table_fits [] [] (progress_octets c.progress) [] [] none_within (lit≤ tt) (lit≤ tt) (progress_short c.progress) (lit≤ tt)
told_fits Alerting c w =
    let p : Option (ℕ × ℕ) = or_noted c.progress c.isdn (0x82, 0x82) in
    table_fits [] [] (progress_octets p) [] c.parts w.parts (lit≤ tt) (lit≤ tt) (progress_short p) (lit≤ tt)
told_fits Answer c w =
    let p : Option (ℕ × ℕ) = or_noted c.progress c.isdn (0x82, 0x82) in
    table_fits [] [] (progress_octets p) [] c.parts w.parts (lit≤ tt) (lit≤ tt) (progress_short p) (lit≤ tt)
told_fits Quiet c w = record { ascends = tt; short = lit≤ tt }
told_fits Clear c w = table_fits [] (cause_octets c.cause) [] [] c.parts w.parts (lit≤ tt) (cause_short c.cause) (lit≤ tt) (lit≤ tt)
told_fits Down c w = record { ascends = tt; short = lit≤ tt }

-- the octet of a type stands for it
pub type_back : (t : MessageType) → type_in (type_octet t) ≡ Some t
type_back type.Alerting = refl
type_back type.CallProceeding = refl
type_back type.Progress = refl
type_back type.Setup = refl
type_back type.Connect = refl
type_back type.ConnectAcknowledge = refl
type_back type.Disconnect = refl
type_back type.Release = refl
type_back type.ReleaseComplete = refl

-- what the far end makes of a reading
abbrev pub said_far : Result Said Refusal → Far
said_far (Ok s) = record { kind = s.kind; parts = s.contents.parts }
said_far (Err e) = record { kind = Quiet; parts = [] }

far_said : (o : List ℕ) (r : Result Said Refusal) → far_of (heard_as user o r) ≡ said_far r
far_said o (Ok s) = refl
far_said o (Err e) = refl

-- a head and a table that fits are read by their type
module _ (l : ℕ) (t : MessageType) (es : List Entry) (f : Fits es) where
  abbrev message : List ℕ
  message = head l t ++ listed es

  head_right : headed message ≡ true
  head_right =
      let k = f.short in
      and_from (leb 4 (length message)) (leb (length message) 255 && (eqb (get_or message 0 0) 0x08 && eqb (get_or message 1 0) 0x01)) (le-leb 4 (length message) (omega arith))
      (and_from (leb (length message) 255) (eqb (get_or message 0 0) 0x08 && eqb (get_or message 1 0) 0x01) (le-leb (length message) 255 (omega arith)) refl)

  pub far_reads : named user 64 t (reference_to l) ≡ true → far_of (reads_at user 64 message) ≡ said_far (body_read t (body_in (listed es)))
  far_reads n =
      ap far_of (cond-true (headed message) (type_read user 64 message (type_in (get_or message 3 0))) (Err (system.refusal Malformed 0)) head_right
      ∙ ap (type_read user 64 message) (type_back t)
      ∙ cond-true (named user 64 t (get_or message 2 0)) (list_read user message t (checked dss1 (drop 4 message))) (Err (system.refusal NoSuchLeg 2)) n
      ∙ ap (list_read user message t) (whole_bare dss1 refl 0 es f.ascends))
      ∙ far_said message (body_read t (body_in (listed es)))

-- the table is read back
module _ (b cs pr nm : List ℕ) (ps : List Part) (f : Fits (table b cs pr nm ps)) where
  abbrev told : Body
  told = body_in (listed (table b cs pr nm ps))

  back : (t : ℕ) → found dss1 t (listed (table b cs pr nm ps)) ≡ under t (table b cs pr nm ps)
  back = reads_found_bare dss1 refl 0 (table b cs pr nm ps) f.ascends

  bearer_back : told.bearer ≡ b
  bearer_back = back 0x04

  number_back : told.number ≡ nm
  number_back = back 0x70

  parts_back : told.parts ≡ five_at ps
  parts_back = λ i. record { calling = back 0x6D i; called = back 0x71 i; low = back 0x7C i; high = back 0x7D i; user = back 0x7E i }

-- parts within their limits are told as they are
module _ (f : Five) (ps : List Part) (e : f ≡ five_at ps) (w : PartsWithin ps) where
  fault_free : (p : ℕ) → parts_bad_at (fault_of f) p ≡ None
  fault_free p = ap (λ x. parts_bad_at (fault_of x) p) e ∙ ap (λ x. parts_bad_at x p) (within_fault ps w)

  same_parts : parts_of f ≡ ps
  same_parts = ap parts_of e ∙ within_parts ps w

  judged_far : (o : Option ℕ) (k : Kind) (c : Contents) → o ≡ None → c.parts ≡ parts_of f → said_far (judged o k c) ≡ record { kind = k; parts = ps }
  judged_far o k c h i = ap (λ x. said_far (judged x k c)) h ∙ ap (λ x. record { kind = k; parts = x }) (i ∙ same_parts)

-- a served bearer and a number are read back
type_of_code : (t : NumberType) → type_of ((0x80 + 16 * code_of t + 1) / 16 % 8) ≡ Some t
type_of_code Unknown = refl
type_of_code International = refl
type_of_code National = refl
type_of_code Subscriber = refl

number_in_back : (t : NumberType) (d : List ℕ) → Number d → number_in (number_octets (Some (t, d))) ≡ Some (t, d)
number_in_back t d h = ap (λ o. numbered o (dialled d)) (type_of_code t) ∙ ap (numbered (Some t)) (reads_itself d h)

no_bad : (a b c : Option ℕ) → a ≡ None → b ≡ None → c ≡ None → sooner a (sooner b c) ≡ None
no_bad a b c i j k = ap (λ x. sooner x (sooner b c)) i ∙ ap (λ x. sooner x c) j ∙ k

setup_far : (b : Body) (ps : List Part) (bearer : List ℕ) (capability : Capability) (t : NumberType) (d : List ℕ) → b.bearer ≡ bearer → bearer_in bearer ≡ Ok capability → 2 ≤ length bearer →
    b.number ≡ number_octets (Some (t, d)) → Number d → b.parts ≡ five_at ps → PartsWithin ps → said_far (setup_read b) ≡ record { kind = Setup; parts = ps }
setup_far b ps bearer capability t d e served long n h p w =
    ap said_far (cond-true (there b.bearer && there b.number) (judged (setup_bad b) Setup (setup_says b)) (Err (system.refusal Missing 0))
    (and_from (there b.bearer) (there b.number)
    (ap there e ∙ lt-ltb 0 (length bearer) (omega arith))
    (ap there n ∙ lt-ltb 0 (length (number_octets (Some (t, d)))) (omega arith))))
    ∙ judged_far b.parts ps p w (setup_bad b) Setup (setup_says b)
    (no_bad (bad_at (is_ok (bearer_in b.bearer)) b.bearer_at) (bad_at (is_some (number_in b.number)) b.number_at) (parts_bad b)
    (ap (λ x. bad_at (is_ok (bearer_in x)) b.bearer_at) e ∙ ap (λ x. bad_at (is_ok x) b.bearer_at) served)
    (ap (λ x. bad_at (is_some (number_in x)) b.number_at) n ∙ ap (λ x. bad_at (is_some x) b.number_at) (number_in_back t d h))
    (fault_free b.parts ps p w b.user_at))
    refl

-- what a call that proceeds or is in progress tells is no clearing, and has no parts
abbrev Plain : Far → Type 0
Plain f = (f.kind ≡ Clear → ⊥) × (f.parts ≡ [])

proceeding_far : (o : Option (ℕ × ℕ)) → Plain (said_far (proceeding_read o))
proceeding_far None = ((λ z. grind arith), refl)
proceeding_far (Some p) = at (eqb (described p) 3 || (eqb (described p) 4 || eqb (described p) 8))
  where
    at : (t : Bool) → Plain (said_far (cond t (says Complete (progress_says (Some p))) (says Progress (progress_says (Some p)))))
    at true = ((λ z. grind arith), refl)
    at false = ((λ z. grind arith), refl)

progress_far : (o : Option (ℕ × ℕ)) → Plain (said_far (progress_read o))
progress_far None = ((λ z. grind arith), refl)
progress_far (Some p) = at (eqb (described p) 3 || eqb (described p) 8)
  where
    at : (t : Bool) → Plain (said_far (cond t (says Quiet empty) (says Progress (progress_says (Some p)))))
    at true = ((λ z. grind arith), refl)
    at false = ((λ z. grind arith), refl)

-- the far end reads a clearing exactly of a told clearing, and the parts that were told
abbrev pub FarReads : Kind → Contents → Far → Type 0
FarReads k c f = ((f.kind ≡ Clear) ↔ (k ≡ Clear)) × (f.parts ≡ c.parts)

same : (k : Kind) (c : Contents) (f : Far) → f ≡ record { kind = k; parts = c.parts } → FarReads k c f
same k c f e = subst (FarReads k c) (sym e) (((λ z. z), (λ z. z)), refl)

plain_far : (k : Kind) (c : Contents) (f g : Far) → f ≡ g → Plain g → (k ≡ Clear → ⊥) → c.parts ≡ [] → FarReads k c f
plain_far k c f g e h n p = subst (FarReads k c) (sym e) (((λ z. absurd (h.0 z)), (λ z. absurd (n z))), h.1 ∙ sym p)

-- a message that tells parts and no setup: its body is judged by them
party_far : (l : ℕ) (k : Kind) (c : Contents) (t : MessageType) (cs pr : List ℕ) → PartsWithin c.parts → Fits (table [] cs pr [] c.parts) → begins t ≡ false →
    (heard : Contents) → body_read t (body_in (listed (table [] cs pr [] c.parts))) ≡ judged (parts_bad (body_in (listed (table [] cs pr [] c.parts)))) k heard →
    heard.parts ≡ parts_of (body_in (listed (table [] cs pr [] c.parts))).parts →
    FarReads k c (far_of (reads_at user 64 (head l t ++ listed (table [] cs pr [] c.parts))))
party_far l k c t cs pr w f n heard e i =
    let es : List Entry = table [] cs pr [] c.parts in
    let b : Body = body_in (listed es) in
    let p = parts_back [] cs pr [] c.parts f in
    same k c (far_of (reads_at user 64 (head l t ++ listed es)))
    (far_reads l t es f (named_in_call t l n) ∙ ap said_far e ∙ judged_far b.parts c.parts p w (parts_bad b) k heard (fault_free b.parts c.parts p w b.user_at) i)

pub told_far : (l : ℕ) (p : Phase) (k : Kind) (c : Contents) → Within k c → told_in k (callable l) p ≡ true → FarReads k c (far p (tells l p k c).octets)
told_far l p Setup c w h =
    let es : List Entry = told_elements Setup c in
    let f = told_fits Setup c w in
    let n = w.number refl in
    let tb : List ℕ = told_bearer c.bearer in
    let s = told_bearer_served c.bearer in
    let pr : List ℕ = progress_octets (or_noted c.progress c.isdn (0x82, 0x83)) in
    let nm : List ℕ = number_octets c.number in
    same Setup c (far_of (reads_at user 64 (head l type.Setup ++ listed es)))
    (far_reads l type.Setup es f (named_to_begin l (and_parts (callable l) (between 0 0 p) h).0)
    ∙ setup_far (body_in (listed es)) c.parts tb s.2.0 n.0 n.1.0 (bearer_back tb [] pr nm c.parts f) s.2.1 s.0
    (number_back tb [] pr nm c.parts f ∙ ap number_octets n.1.1) n.1.2 (parts_back tb [] pr nm c.parts f) w.parts)
told_far l p Complete c w h =
    let es : List Entry = told_elements Complete c in
    plain_far Complete c (far_of (reads_at user 64 (head l type.CallProceeding ++ listed es))) (said_far (proceeding_read (noted (body_in (listed es)).progress)))
    (far_reads l type.CallProceeding es (told_fits Complete c w) (named_in_call type.CallProceeding l refl)) (proceeding_far (noted (body_in (listed es)).progress))
    (λ z. grind arith) (w.bare refl)
told_far l p Progress c w h =
    let es : List Entry = told_elements Progress c in
    plain_far Progress c (far_of (reads_at user 64 (head l type.Progress ++ listed es))) (said_far (progress_read (noted (body_in (listed es)).progress)))
    (far_reads l type.Progress es (told_fits Progress c w) (named_in_call type.Progress l refl)) (progress_far (noted (body_in (listed es)).progress))
    (λ z. grind arith) (w.bare refl)
told_far l p Alerting c w h =
    let pr : List ℕ = progress_octets (or_noted c.progress c.isdn (0x82, 0x82)) in
    party_far l Alerting c type.Alerting [] pr w.parts (told_fits Alerting c w) refl (party_says (body_in (listed (told_elements Alerting c)))) refl refl
told_far l p Answer c w h =
    let pr : List ℕ = progress_octets (or_noted c.progress c.isdn (0x82, 0x82)) in
    party_far l Answer c type.Connect [] pr w.parts (told_fits Answer c w) refl (party_says (body_in (listed (told_elements Answer c)))) refl refl
told_far l p Quiet c w h = absurd (grind arith)
told_far l p Clear c w h =
    party_far l Clear c type.Disconnect (cause_octets c.cause) [] w.parts (told_fits Clear c w) refl (clear_says (body_in (listed (told_elements Clear c)))) refl refl
told_far l p Down c w h = absurd (grind arith)
