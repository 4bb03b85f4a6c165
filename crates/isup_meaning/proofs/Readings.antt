-- What a message that is read says is within its limits, and its circuit exists. Assumes nothing.
use Rattle.std.proofs.Common.{◌≡◌, ℕ, ◌+◌, ◌/◌, ◌%◌, ◌<◌, Bool, true, false, cond, not, ◌&&◌, ◌||◌, eqb, ltb, leb, List, [], ◌∷◌, length, get_or, is_some, is_ok, Some, None, Ok, Err, Option, Result, sym, refl, ap, subst, arith, lit≤}
use Rattle.std.proofs.lemmas.Bool.{ltb-true, and_parts, both_ways}
use Rattle.values.specs.declared.types.NumberType.{NumberType}
use Rattle.values.specs.declared.types.Capability.TheVariants.{Speech, Unrestricted, Audio}
use Rattle.values.specs.Causes.{cause_in}
use Rattle.values.specs.Bearers.{bearer_in}
use Rattle.values.specs.Numbers.{type_of_nature}
use Rattle.digits.specs.Dialling.{Number}
use Rattle.digits.specs.Signals.{unpacked, digits_of, without_end, signals_in}
use Rattle.side.specs.declared.kinds.Kind.{Kind}
use Rattle.side.specs.declared.kinds.Kind.TheVariants.{Setup, Complete, Progress, Alerting, Answer, Quiet, Clear, Down}
use Rattle.side.specs.declared.kinds.Reason.TheVariants.{Malformed, NoSuchLeg, Missing, BadValue}
use Rattle.side.specs.declared.kinds.Refusal.{Refusal}
use Rattle.side.specs.Signals.{Contents, Heard, empty}
use Rattle.side.specs.Meaning.{Within, PartsWithin, bears}
use Rattle.carried.specs.Carried.{parts_of, fault_of}
use Rattle.carried.proofs.PartLaws.{sooner_none, bad_none, parts_bad_none, fault_none}
use Rattle.carried.proofs.Numbers.{text_of_number}
use Rattle.carried.proofs.Served.{Served, bearer_good}
use Rattle.carried.proofs.Withins.{no_parts, plain, quiet_within, setup_fits, progress_fits, clear_fits, cause_in_range, numbered_is}
use Rattle.isup_meaning.specs.declared.types.MessageType.{MessageType}
use Rattle.isup_meaning.specs.declared.types.MessageType.TheVariants as type
use Rattle.isup_meaning.specs.Reading.{Body, Said, refusal, circuit_in, headed, type_in, fixed_count, body_in, broken, five_of, progress_of, number_in, medium_bearer, or_bearer, there, bearer_of, backward_isdn, setup_says, party_says, progress_says, clear_says, judged, parts_bad, setup_bad, setup_read, complete_read, event_read, progress_read, release_read, body_read, heard_as, whole_read, layout_read, type_read, reads}

-- a number field that says a number
pub number_in_back : (f : List ℕ) → is_some (number_in f) ≡ true → (t : NumberType) × ((d : List ℕ) × (number_in f ≡ Some (t, d)) × Number d)
number_in_back [] e = absurd (grind arith)
number_in_back (a ∷ []) e = absurd (grind arith)
number_in_back (a ∷ b ∷ ss) e =
    let n = numbered_is (type_of_nature (a % 128)) (unpacked (leb 128 a) ss) e in
    (n.0, (n.1.0, n.1.1, text_of_number (digits_of (without_end (signals_in (leb 128 a) ss))) n.1.0 n.1.2))

pub medium_in : (m : ℕ) → is_some (medium_bearer m) ≡ true → Served (or_bearer (medium_bearer m))
medium_in m e = by (eqb m 0x00) (eqb m 0x02) (eqb m 0x03) e
  where
    by : (x y z : Bool) → is_some {T = List ℕ} (cond x (Some (0x80 ∷ 0x90 ∷ 0xA3 ∷ [])) (cond y (Some (0x88 ∷ 0x90 ∷ [])) (cond z (Some (0x90 ∷ 0x90 ∷ 0xA3 ∷ [])) None))) ≡ true →
        Served (or_bearer (cond x (Some (0x80 ∷ 0x90 ∷ 0xA3 ∷ [])) (cond y (Some (0x88 ∷ 0x90 ∷ [])) (cond z (Some (0x90 ∷ 0x90 ∷ 0xA3 ∷ [])) None))))
    by true y z h = (lit≤ tt, lit≤ tt, (Speech, refl))
    by false true z h = (lit≤ tt, lit≤ tt, (Unrestricted, refl))
    by false false true h = (lit≤ tt, lit≤ tt, (Audio, refl))
    by false false false h = absurd (grind arith)

-- the bearer of a setup whose medium and whose bearer, if it came, are valid
pub served_in : (b : Body) → is_some (medium_bearer (get_or b.octets 7 0)) ≡ true → (not (there b.bearer) || is_ok (bearer_in b.bearer)) ≡ true → Served (bearer_of b)
served_in b m e = by (there b.bearer) e
  where
    by : (x : Bool) → (not x || is_ok (bearer_in b.bearer)) ≡ true → Served (cond x b.bearer (or_bearer (medium_bearer (get_or b.octets 7 0))))
    by true h = bearer_good b.bearer h
    by false h = medium_in (get_or b.octets 7 0) m

pub parts_in : (b : Body) → parts_bad b ≡ None → PartsWithin (parts_of (five_of b))
parts_in b e = fault_none (five_of b) (parts_bad_none (fault_of (five_of b)) b.user_at e)

pub setup_within : (b : Body) → setup_bad b ≡ None → Within Setup (setup_says b)
setup_within b e =
    let m = sooner_none _ _ e in
    let n = sooner_none _ _ m.1 in
    let r = sooner_none _ _ n.1 in
    setup_fits (setup_says b) (parts_in b r.1) (served_in b (bad_none _ _ m.0) (bad_none _ _ r.0)) (number_in_back b.field (bad_none _ _ n.0))

pub party_within : (k : Kind) (i : Bool) (b : Body) → bears k ≡ true → (k ≡ Setup → ⊥) → (k ≡ Clear → ⊥) → parts_bad b ≡ None → Within k (party_says i b)
party_within k i b h s t e =
    plain k (party_says i b) (parts_in b e) (λ z. absurd (both_ways (bears k) z h)) s (λ z. absurd (both_ways (bears k) (ap bears z) h)) t

pub alerting_within : (i : Bool) (b : Body) → parts_bad b ≡ None → Within Alerting (party_says i b)
alerting_within i b e = party_within Alerting i b refl (λ z. grind arith) (λ z. grind arith) e

pub answer_within : (i : Bool) (b : Body) → parts_bad b ≡ None → Within Answer (party_says i b)
answer_within i b e = party_within Answer i b refl (λ z. grind arith) (λ z. grind arith) e

pub complete_within : (i : Bool) (p : Option (ℕ × ℕ)) → Within Complete (progress_says i p)
complete_within i p = plain Complete (progress_says i p) no_parts (λ _. refl) (λ e. grind arith) (λ e. grind arith) (λ e. grind arith)

pub down_within : Within Down empty
down_within = plain Down empty no_parts (λ _. refl) (λ e. grind arith) (λ e. grind arith) (λ e. grind arith)

pub progress_within : (i : Bool) (p : ℕ × ℕ) → Within Progress (progress_says i (Some p))
progress_within i p = progress_fits (progress_says i (Some p)) p refl refl

pub clear_within : (c : ℕ × ℕ) (b : Body) → cause_in b.field ≡ Some c → parts_bad b ≡ None → Within Clear (clear_says c b)
clear_within c b f e = clear_fits (clear_says c b) c (parts_in b e) refl (cause_in_range b.field c f)

-- what was judged well is said
abbrev pub Fine : Said → Type 0
Fine s = Within s.kind s.contents

pub judged_in : (x : Option ℕ) (k : Kind) (c : Contents) (s : Said) → (x ≡ None → Within k c) → judged x k c ≡ Ok s → Fine s
judged_in None k c s w e = let i : record { kind = k; contents = c } ≡ s = grind arith in subst Fine i (w refl)
judged_in (Some p) k c s w e = absurd (grind arith)

pub said_in : (k : Kind) (c : Contents) (s : Said) → Within k c → ◌≡◌ {A = Result Said Refusal} (Ok (record { kind = k; contents = c })) (Ok s) → Fine s
said_in k c s w e = let i : record { kind = k; contents = c } ≡ s = grind arith in subst Fine i w

pub setup_in : (b : Body) (s : Said) → setup_read b ≡ Ok s → Fine s
setup_in b s e = at (leb 2 (length b.field)) e
  where
    at : (x : Bool) → cond x (judged (setup_bad b) Setup (setup_says b)) (Err (refusal Missing 0)) ≡ Ok s → Fine s
    at true h = judged_in (setup_bad b) Setup (setup_says b) s (setup_within b) h
    at false h = absurd (grind arith)

pub complete_in : (b : Body) (s : Said) → complete_read b ≡ Ok s → Fine s
complete_in b s e = at (eqb (get_or b.octets 3 0 / 4 % 4) 1) e
  where
    at : (x : Bool) → cond x (judged (parts_bad b) Alerting (party_says (backward_isdn b) b)) (Ok (record { kind = Complete; contents = progress_says (backward_isdn b) (progress_of b) })) ≡ Ok s → Fine s
    at true h = judged_in (parts_bad b) Alerting (party_says (backward_isdn b) b) s (alerting_within (backward_isdn b) b) h
    at false h = said_in Complete (progress_says (backward_isdn b) (progress_of b)) s (complete_within (backward_isdn b) (progress_of b)) h

pub event_in : (p : Option (ℕ × ℕ)) (s : Said) → event_read p ≡ Ok s → Fine s
event_in None s e = said_in Quiet empty s quiet_within e
event_in (Some p) s e = said_in Progress (progress_says true (Some p)) s (progress_within true p) e

pub progress_in_within : (b : Body) (s : Said) → progress_read b ≡ Ok s → Fine s
progress_in_within b s e = at (eqb (get_or b.octets 3 0 % 128) 1) (eqb (get_or b.octets 3 0 % 128) 2) (eqb (get_or b.octets 3 0 % 128) 3) e
  where
    at : (x y z : Bool) →
        cond x (judged (parts_bad b) Alerting (party_says true b))
        (cond y (event_read (progress_of b))
        (cond z (Ok (record { kind = Progress; contents = progress_says true (Some (0x82, 0x88)) }))
        (Err (refusal BadValue 3)))) ≡ Ok s → Fine s
    at true y z h = judged_in (parts_bad b) Alerting (party_says true b) s (alerting_within true b) h
    at false true z h = event_in (progress_of b) s h
    at false false true h = said_in Progress (progress_says true (Some (0x82, 0x88))) s (progress_within true (0x82, 0x88)) h
    at false false false h = absurd (grind arith)

pub release_in : (b : Body) (c : Option (ℕ × ℕ)) (s : Said) → cause_in b.field ≡ c → release_read c b ≡ Ok s → Fine s
release_in b None s f e = absurd (grind arith)
release_in b (Some c) s f e = judged_in (parts_bad b) Clear (clear_says c b) s (clear_within c b f) e

pub body_in_within : (t : MessageType) (b : Body) (s : Said) → body_read t b ≡ Ok s → Fine s
body_in_within type.InitialAddress b s e = setup_in b s e
body_in_within type.AddressComplete b s e = complete_in b s e
body_in_within type.Connect b s e = judged_in (parts_bad b) Answer (party_says (backward_isdn b) b) s (answer_within (backward_isdn b) b) e
body_in_within type.Answer b s e = judged_in (parts_bad b) Answer (party_says true b) s (answer_within true b) e
body_in_within type.CallProgress b s e = progress_in_within b s e
body_in_within type.Release b s e = release_in b (cause_in b.field) s refl e
body_in_within type.ReleaseComplete b s e = said_in Down empty s down_within e

-- a whole message
abbrev pub Well : List ℕ → Heard → Type 0
Well o h = (h.leg ≡ circuit_in o) × Within h.kind h.contents

pub heard_in_within : (o : List ℕ) (r : Result Said Refusal) (h : Heard) → ((s : Said) → r ≡ Ok s → Fine s) → heard_as o r ≡ Ok h → Well o h
heard_in_within o (Ok s) h w e =
    let i : record { leg = circuit_in o; type = get_or o 2 0; kind = s.kind; contents = s.contents } ≡ h = grind arith in
    subst (Well o) i (refl, w s refl)
heard_in_within o (Err f) h w e = absurd (grind arith)

pub whole_in : (o : List ℕ) (t : MessageType) (f : Option Refusal) (h : Heard) → whole_read o t f ≡ Ok h → Well o h
whole_in o t (Some f) h e = absurd (grind arith)
whole_in o t None h e = heard_in_within o (body_read t (body_in o t)) h (λ s z. body_in_within t (body_in o t) s z) e

pub layout_in : (o : List ℕ) (t : MessageType) (h : Heard) → layout_read o t ≡ Ok h → Well o h
layout_in o t h e = at (leb (3 + fixed_count t) (length o)) (broken o t (body_in o t)) e
  where
    at : (x : Bool) (f : Option Refusal) → cond x (whole_read o t f) (Err (refusal Malformed 0)) ≡ Ok h → Well o h
    at true f z = whole_in o t f h z
    at false f z = absurd (grind arith)

module _ (n : ℕ) (o : List ℕ) where
  pub type_in_is : (t : Option MessageType) (h : Heard) → type_read n o t ≡ Ok h → (h.leg < n) × Within h.kind h.contents
  type_in_is None h e = absurd (grind arith)
  type_in_is (Some t) h e = at (ltb (circuit_in o) n && ltb (circuit_in o) 64) refl e
    where
      at : (a : Bool) → (ltb (circuit_in o) n && ltb (circuit_in o) 64) ≡ a → cond a (layout_read o t) (Err (refusal NoSuchLeg 0)) ≡ Ok h → (h.leg < n) × Within h.kind h.contents
      at true i w =
          let q = layout_in o t h w in
          let l = ltb-true (circuit_in o) n (and_parts _ _ i).0 in
          (subst (λ k. k < n) (sym q.0) l, q.1)
      at false i w = absurd (grind arith)

  pub read_in : (h : Heard) → reads n o ≡ Ok h → (h.leg < n) × Within h.kind h.contents
  read_in h e = at (headed o) e
    where
      at : (b : Bool) → cond b (type_read n o (type_in (get_or o 2 0))) (Err (refusal Malformed 0)) ≡ Ok h → (h.leg < n) × Within h.kind h.contents
      at true w = type_in_is (type_in (get_or o 2 0)) h w
      at false w = absurd (grind arith)
