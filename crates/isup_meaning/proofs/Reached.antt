-- What the distant exchange reads of each message: its parts, and Clear of a release alone. Assumes nothing.
use Rattle.std.proofs.Common.{◌≡◌, ℕ, ◌+◌, ◌%◌, ◌≤◌, Bool, true, false, cond, not, ◌||◌, eqb, leb, ◌↔◌, List, [], ◌∷◌, length, get_or, is_some, is_ok, Some, None, Err, Option, Result, sym, refl, ap, ◌∙◌, subst, arith, lit≤}
use Rattle.std.proofs.lemmas.Bool.{cond-true, le-leb}
use Rattle.entries.specs.Entries.{listed}
use Rattle.values.specs.declared.types.NumberType.{NumberType}
use Rattle.values.specs.declared.types.NumberType.TheVariants.{Unknown, International, National, Subscriber}
use Rattle.values.specs.Causes.{cause_in}
use Rattle.values.specs.Bearers.{bearer_in}
use Rattle.values.specs.Numbers.{nature_of, type_of_nature}
use Rattle.digits.specs.Dialling.{Number}
use Rattle.digits.specs.Signals.{ended, packed, odd_count, unpacked}
use Rattle.digits.proofs.Packs.{number_back}
use Rattle.carried.proofs.Served.{told_bearer_served}
use Rattle.side.specs.declared.kinds.Kind.{Kind}
use Rattle.side.specs.declared.kinds.Kind.TheVariants.{Setup, Complete, Progress, Alerting, Answer, Quiet, Clear}
use Rattle.side.specs.declared.kinds.Reason.TheVariants.{Missing}
use Rattle.side.specs.declared.kinds.Refusal.{Refusal}
use Rattle.side.specs.Contents.{Part}
use Rattle.side.specs.Signals.{Contents, Heard, described}
use Rattle.side.specs.Meaning.{Within, PartsWithin}
use Rattle.carried.specs.Carried.{parts_of, cause_octets, bad_at, sooner, told_bearer}
use Rattle.carried.proofs.PartLaws.{cause_back}
use Rattle.isup_meaning.specs.declared.types.MessageType.TheVariants as type
use Rattle.isup_meaning.specs.Reading.{Body, refusal, body_in, five_of, progress_of, numbered, number_in, medium_bearer, there, backward_isdn, setup_says, party_says, clear_says, judged, parts_bad, setup_bad, setup_read, event_read, release_read, heard_as, reads}
use Rattle.isup_meaning.specs.Writing.{optional_table, number_field, isdn_octet, odd_bit, medium_of, iam, acm, cpg, con, anm, rel, progress_event, far_of}
use Rattle.carried.proofs.Withins.{no_parts}
use Rattle.isup_meaning.proofs.Shorts.{iam_short, rel_short}
use Rattle.isup_meaning.proofs.FarEnd.{plain_parts, plain_fine, plain_reads, long_parts, long_fine, long_bearer, long_field, long_reads}

-- parts as they were told, and Clear exactly of a Clear
abbrev pub Reaches : Kind → List Part → Result Heard Refusal → Type 0
Reaches k ps r = (((far_of r).kind ≡ Clear) ↔ (k ≡ Clear)) × ((far_of r).parts ≡ ps)

abbrev pub Alike : Kind → Kind → Type 0
Alike j k = (j ≡ Clear) ↔ (k ≡ Clear)

pub same_kind : (k : Kind) → Alike k k
same_kind k = ((λ e. e), (λ e. e))

pub neither : (j k : Kind) → (j ≡ Clear → ⊥) → (k ≡ Clear → ⊥) → Alike j k
neither j k a b = ((λ e. absurd (a e)), (λ e. absurd (b e)))

pub judged_reaches : (o : List ℕ) (x : Option ℕ) (k : Kind) (c : Contents) (ps : List Part) → x ≡ None → c.parts ≡ ps → Reaches k ps (heard_as o (judged x k c))
judged_reaches o x k c ps n e = subst (λ y. Reaches k ps (heard_as o (judged y k c))) (sym n) (same_kind k, e)

-- a number is read as it was written
nature_back : (t : NumberType) (odd : Bool) → type_of_nature ((nature_of t + odd_bit odd) % 128) ≡ Some t
nature_back Unknown true = refl
nature_back Unknown false = refl
nature_back International true = refl
nature_back International false = refl
nature_back National true = refl
nature_back National false = refl
nature_back Subscriber true = refl
nature_back Subscriber false = refl

odd_back : (t : NumberType) (odd : Bool) → leb 128 (nature_of t + odd_bit odd) ≡ odd
odd_back Unknown true = refl
odd_back Unknown false = refl
odd_back International true = refl
odd_back International false = refl
odd_back National true = refl
odd_back National false = refl
odd_back Subscriber true = refl
odd_back Subscriber false = refl

pub field_number : (t : NumberType) (d : List ℕ) → Number d → number_in (number_field (Some (t, d))) ≡ Some (t, d)
field_number t d n =
    let odd : Bool = odd_count (length d + 1) in
    ap (λ x. numbered x (unpacked (leb 128 (nature_of t + odd_bit odd)) (packed (ended d)))) (nature_back t odd)
    ∙ ap (λ b. numbered (Some t) (unpacked b (packed (ended d)))) (odd_back t odd)
    ∙ ap (numbered (Some t)) (number_back d n)

-- a medium that is written stands for a bearer
pub medium_back : (bearer : List ℕ) → is_some (medium_bearer (medium_of bearer)) ≡ true
medium_back bearer = by (eqb (get_or bearer 0 0 % 32) 8) (eqb (get_or bearer 0 0 % 32) 16)
  where
    by : (a b : Bool) → is_some (medium_bearer (cond a 0x02 (cond b 0x03 0x00))) ≡ true
    by true b = refl
    by false true = refl
    by false false = refl

-- setup
pub setup_fine : (b : Body) → is_some (medium_bearer (get_or b.octets 7 0)) ≡ true → is_some (number_in b.field) ≡ true → is_ok (bearer_in b.bearer) ≡ true → parts_bad b ≡ None → setup_bad b ≡ None
setup_fine b m n s p =
    ap (λ x. sooner (bad_at x 7) (sooner (bad_at (is_some (number_in b.field)) 8) (sooner (bad_at (not (there b.bearer) || is_ok (bearer_in b.bearer)) b.bearer_at) (parts_bad b)))) m
    ∙ ap (λ x. sooner (bad_at x 8) (sooner (bad_at (not (there b.bearer) || is_ok (bearer_in b.bearer)) b.bearer_at) (parts_bad b))) n
    ∙ ap (λ x. sooner (bad_at x b.bearer_at) (parts_bad b)) (either (not (there b.bearer)) (is_ok (bearer_in b.bearer)) s)
    ∙ p
  where
    either : (x y : Bool) → y ≡ true → (x || y) ≡ true
    either true y h = refl
    either false y h = h

pub setup_reaches : (o : List ℕ) (b : Body) (ps : List Part) → 2 ≤ length b.field → setup_bad b ≡ None → parts_of (five_of b) ≡ ps → Reaches Setup ps (heard_as o (setup_read b))
setup_reaches o b ps l f p =
    subst (λ r. Reaches Setup ps (heard_as o r)) (sym (cond-true (leb 2 (length b.field)) (judged (setup_bad b) Setup (setup_says b)) (Err (refusal Missing 0)) (le-leb 2 (length b.field) l)))
    (judged_reaches o (setup_bad b) Setup (setup_says b) ps f p)

pub event_reaches : (o : List ℕ) (k : Kind) (p : Option (ℕ × ℕ)) → (k ≡ Clear → ⊥) → Reaches k [] (heard_as o (event_read p))
event_reaches o k None h = (neither Quiet k (λ e. grind arith) h, refl)
event_reaches o k (Some p) h = (neither Progress k (λ e. grind arith) h, refl)

pub release_reaches : (o : List ℕ) (b : Body) (c : ℕ × ℕ) (ps : List Part) → cause_in b.field ≡ Some c → parts_bad b ≡ None → parts_of (five_of b) ≡ ps → Reaches Clear ps (heard_as o (release_read (cause_in b.field) b))
release_reaches o b c ps f n e =
    subst (λ x. Reaches Clear ps (heard_as o (release_read x b))) (sym f) (judged_reaches o (parts_bad b) Clear (clear_says c b) ps n e)

-- messages with a list alone
module _ (l : ℕ) (p : Option (ℕ × ℕ)) (ps : List Part) (w : PartsWithin ps) where
  pub acm_alerting : (i : Bool) → length (acm l 0x14 i (listed (optional_table p ps []))) ≤ 255 → Reaches Alerting ps (reads 64 (acm l 0x14 i (listed (optional_table p ps []))))
  acm_alerting i h =
      let o : List ℕ = acm l 0x14 i (listed (optional_table p ps [])) in
      let f : List ℕ = 0x14 ∷ isdn_octet 0x14 0x04 i ∷ [] in
      let b : Body = body_in o type.AddressComplete in
      subst (Reaches Alerting ps) (sym (plain_reads o l type.AddressComplete f refl refl p ps w refl h))
      (judged_reaches o (parts_bad b) Alerting (party_says (backward_isdn b) b) ps
      (plain_fine o l type.AddressComplete f refl refl p ps w refl h) (plain_parts o l type.AddressComplete f refl refl p ps w refl h))

  pub cpg_alerting : length (cpg l 0x01 (listed (optional_table p ps []))) ≤ 255 → Reaches Alerting ps (reads 64 (cpg l 0x01 (listed (optional_table p ps []))))
  cpg_alerting h =
      let o : List ℕ = cpg l 0x01 (listed (optional_table p ps [])) in
      let f : List ℕ = 0x01 ∷ [] in
      let b : Body = body_in o type.CallProgress in
      subst (Reaches Alerting ps) (sym (plain_reads o l type.CallProgress f refl refl p ps w refl h))
      (judged_reaches o (parts_bad b) Alerting (party_says true b) ps
      (plain_fine o l type.CallProgress f refl refl p ps w refl h) (plain_parts o l type.CallProgress f refl refl p ps w refl h))

  pub con_answer : (i : Bool) → length (con l i (listed (optional_table p ps []))) ≤ 255 → Reaches Answer ps (reads 64 (con l i (listed (optional_table p ps []))))
  con_answer i h =
      let o : List ℕ = con l i (listed (optional_table p ps [])) in
      let f : List ℕ = 0x10 ∷ isdn_octet 0x14 0x04 i ∷ [] in
      let b : Body = body_in o type.Connect in
      subst (Reaches Answer ps) (sym (plain_reads o l type.Connect f refl refl p ps w refl h))
      (judged_reaches o (parts_bad b) Answer (party_says (backward_isdn b) b) ps
      (plain_fine o l type.Connect f refl refl p ps w refl h) (plain_parts o l type.Connect f refl refl p ps w refl h))

  pub anm_answer : length (anm l (listed (optional_table p ps []))) ≤ 255 → Reaches Answer ps (reads 64 (anm l (listed (optional_table p ps []))))
  anm_answer h =
      let o : List ℕ = anm l (listed (optional_table p ps [])) in
      let b : Body = body_in o type.Answer in
      subst (Reaches Answer ps) (sym (plain_reads o l type.Answer [] refl refl p ps w refl h))
      (judged_reaches o (parts_bad b) Answer (party_says true b) ps
      (plain_fine o l type.Answer [] refl refl p ps w refl h) (plain_parts o l type.Answer [] refl refl p ps w refl h))

-- messages of progress, which carry no parts
module _ (l : ℕ) (p : Option (ℕ × ℕ)) (k : Kind) (not-clear : k ≡ Clear → ⊥) where
  pub acm_complete : (i : Bool) → length (acm l 0x10 i (listed (optional_table p [] []))) ≤ 255 → Reaches k [] (reads 64 (acm l 0x10 i (listed (optional_table p [] []))))
  acm_complete i h =
      let o : List ℕ = acm l 0x10 i (listed (optional_table p [] [])) in
      let f : List ℕ = 0x10 ∷ isdn_octet 0x14 0x04 i ∷ [] in
      subst (Reaches k []) (sym (plain_reads o l type.AddressComplete f refl refl p [] no_parts refl h))
      (neither Complete k (λ e. grind arith) not-clear, refl)

  pub cpg_event : length (cpg l 0x02 (listed (optional_table p [] []))) ≤ 255 → Reaches k [] (reads 64 (cpg l 0x02 (listed (optional_table p [] []))))
  cpg_event h =
      let o : List ℕ = cpg l 0x02 (listed (optional_table p [] [])) in
      let f : List ℕ = 0x02 ∷ [] in
      subst (Reaches k []) (sym (plain_reads o l type.CallProgress f refl refl p [] no_parts refl h))
      (event_reaches o k (progress_of (body_in o type.CallProgress)) not-clear)

  pub cpg_band : length (cpg l 0x03 (listed (optional_table p [] []))) ≤ 255 → Reaches k [] (reads 64 (cpg l 0x03 (listed (optional_table p [] []))))
  cpg_band h =
      let o : List ℕ = cpg l 0x03 (listed (optional_table p [] [])) in
      let f : List ℕ = 0x03 ∷ [] in
      subst (Reaches k []) (sym (plain_reads o l type.CallProgress f refl refl p [] no_parts refl h))
      (neither Progress k (λ e. grind arith) not-clear, refl)

  pub cpg_progress : length (cpg l (progress_event p) (listed (optional_table p [] []))) ≤ 255 → Reaches k [] (reads 64 (cpg l (progress_event p) (listed (optional_table p [] []))))
  cpg_progress h = subst (λ x. Reaches k [] (reads 64 (cpg l x (listed (optional_table p [] []))))) (sym (is p)) (by (in_band p) h)
    where
      in_band : Option (ℕ × ℕ) → Bool
      in_band None = false
      in_band (Some q) = eqb (described q) 8

      is : (q : Option (ℕ × ℕ)) → progress_event q ≡ cond (in_band q) 0x03 0x02
      is None = refl
      is (Some q) = refl

      by : (b : Bool) → length (cpg l (progress_event p) (listed (optional_table p [] []))) ≤ 255 → Reaches k [] (reads 64 (cpg l (cond b 0x03 0x02) (listed (optional_table p [] []))))
      by true h = cpg_band h
      by false h = cpg_event h

-- release
pub rel_clear : (l : ℕ) (c : Contents) → Within Clear c → Reaches Clear c.parts (reads 64 (rel l c))
rel_clear l c w =
    let o : List ℕ = rel l c in
    let b : Body = body_in o type.Release in
    let x = w.cause refl in
    let h = rel_short l c w.parts in
    let field : List ℕ = cause_octets c.cause in
    subst (Reaches Clear c.parts) (sym (long_reads o l type.Release [] field refl refl None c.parts w.parts [] (lit≤ tt) refl h))
    (release_reaches o b (x.0, x.1.0) c.parts
    (ap cause_in (long_field o l type.Release [] field refl refl None c.parts w.parts [] (lit≤ tt) refl h ∙ ap cause_octets x.1.1) ∙ cause_back x.0 x.1.0 x.1.2 x.1.3)
    (long_fine o l type.Release [] field refl refl None c.parts w.parts [] (lit≤ tt) refl h)
    (long_parts o l type.Release [] field refl refl None c.parts w.parts [] (lit≤ tt) refl h))

-- initial address
pub iam_setup : (l : ℕ) (c : Contents) → Within Setup c → Reaches Setup c.parts (reads 64 (iam l c))
iam_setup l c w =
    let o : List ℕ = iam l c in
    let b : Body = body_in o type.InitialAddress in
    let n = w.number refl in
    let tb : List ℕ = told_bearer c.bearer in
    let s = told_bearer_served c.bearer in
    let few = s.1 in
    let h = iam_short l c w in
    let field : List ℕ = number_field c.number in
    let fixed : List ℕ = 0x00 ∷ 0x20 ∷ isdn_octet 0x01 0x00 c.isdn ∷ 0x0A ∷ medium_of tb ∷ [] in
    let same : b.field ≡ number_field (Some (n.0, n.1.0)) =
    long_field o l type.InitialAddress fixed field refl refl c.progress c.parts w.parts tb few refl h ∙ ap number_field n.1.1 in
    let enough : 2 ≤ length (number_field (Some (n.0, n.1.0))) = omega arith in
    subst (Reaches Setup c.parts) (sym (long_reads o l type.InitialAddress fixed field refl refl c.progress c.parts w.parts tb few refl h))
    (setup_reaches o b c.parts (subst (λ x. 2 ≤ length x) (sym same) enough)
    (setup_fine b (medium_back tb)
    (ap (λ x. is_some (number_in x)) same ∙ ap is_some (field_number n.0 n.1.0 n.1.2))
    (ap (λ x. is_ok (bearer_in x)) (long_bearer o l type.InitialAddress fixed field refl refl c.progress c.parts w.parts tb few refl h) ∙ ap is_ok s.2.1)
    (long_fine o l type.InitialAddress fixed field refl refl c.progress c.parts w.parts tb few refl h))
    (long_parts o l type.InitialAddress fixed field refl refl c.progress c.parts w.parts tb few refl h))
