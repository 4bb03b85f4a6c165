-- The laws of the line side. Assumes nothing.
use Rattle.std.proofs.Common.{◌≡◌, ℕ, ◌-◌, ◌<◌, ◌≤◌, Bool, true, false, cond, ◌&&◌, eqb, ltb, ◌↔◌, List, [], ◌∷◌, length, get_or, drop, Some, None, Ok, Err, Option, Result, sym, refl, ap, ◌∙◌, subst, inl, arith, lit<, lit≤}
use Rattle.std.proofs.lemmas.Bool.{false≢true, ltb-true, ltb-false, eqb-false, and_parts}
use Rattle.values.specs.declared.types.NumberType.TheVariants.{Unknown}
use Rattle.digits.specs.declared.types.DigitFault.{DigitFault}
use Rattle.digits.specs.declared.types.DigitFault.TheVariants.{NoDigits, TooMany, NotADigit}
use Rattle.digits.specs.Dialling.{stray_from, dialled, Number}
use Rattle.digits.proofs.Steps.{all_digits}
use Rattle.side.specs.declared.kinds.Kind.{Kind}
use Rattle.side.specs.declared.kinds.Kind.TheVariants.{Setup, Complete, Progress, Alerting, Answer, Quiet, Clear, Down}
use Rattle.side.specs.declared.kinds.Phase.{Phase}
use Rattle.side.specs.declared.kinds.Phase.TheVariants.{Idle}
use Rattle.side.specs.declared.kinds.System.TheVariants.{Line}
use Rattle.side.specs.declared.kinds.Reason.TheVariants.{Malformed, UnknownType, NoSuchLeg, BadValue}
use Rattle.side.specs.declared.kinds.Refusal.{Refusal}
use Rattle.side.specs.Table.{heard_in, heard_to}
use Rattle.side.specs.Signals.{Heard, empty}
use Rattle.side.specs.Contents.{Part}
use Rattle.side.specs.Meaning.{Meaning, Within, HeardTo, reason_number, keep}
use Rattle.side.proofs.Limited.{none_within, plain}
use Rattle.side.specs.declared.records.LineRecord.{LineRecord}
use Rattle.line_meaning.specs.Lines as line
use Rattle.line_meaning.specs.Lines.{headed, event_kind, setup_of, others_of, heard_as, setup_read, other_read, body_read, event_read, told_event, told_octets, far_kind}

-- a text that dials a number is one
pub number : (text d : List ℕ) → dialled text ≡ Ok d → Number d
number text d e =
    let f = only (eqb (length text) 0) (ltb 20 (length text)) (stray_from 0 text) text d e in
    let z = eqb-false (length text) 0 f.1 in
    subst Number f.0 (omega arith, ltb-false 20 (length text) f.2, all_digits 0 text f.3)
  where
    only : (a b : Bool) (o : Option ℕ) (text d : List ℕ) → cond a (Err NoDigits) (cond b (Err TooMany) (elim o [ None ↦ Ok text | Some k ↦ Err (NotADigit k) ])) ≡ Ok d → (text ≡ d) × (a ≡ false) × (b ≡ false) × (o ≡ None)
    only a b o text d h = (grind arith, grind arith, grind arith, grind arith)

pub setup_within : (d : List ℕ) → Number d → Within Setup (setup_of d)
setup_within d h = record {
  parts = none_within;
  bare = λ _. refl;
  bearer = λ _. (lit≤ tt, lit≤ tt);
  number = λ _. (Unknown, (d, refl, h));
  noted = λ e. absurd (let z : ◌≡◌ {A = ℕ} 0 1 = cc in omega arith);
  cause = λ e. absurd (let z : ◌≡◌ {A = ℕ} 0 1 = cc in omega arith);
}

pub plain_within : (k : Kind) → (k ≡ Setup → ⊥) → (k ≡ Progress → ⊥) → Within k (others_of k)
plain_within Setup a b = absurd (a refl)
plain_within Complete a b = plain Complete empty none_within (λ _. refl) (λ e. grind arith) (λ e. grind arith) (λ e. grind arith)
plain_within Progress a b = absurd (b refl)
plain_within Alerting a b = plain Alerting (others_of Alerting) none_within (λ _. refl) (λ e. grind arith) (λ e. grind arith) (λ e. grind arith)
plain_within Answer a b = plain Answer (others_of Answer) none_within (λ _. refl) (λ e. grind arith) (λ e. grind arith) (λ e. grind arith)
plain_within Quiet a b = plain Quiet empty none_within (λ _. refl) (λ e. grind arith) (λ e. grind arith) (λ e. grind arith)
plain_within Clear a b = record {
  parts = none_within;
  bare = λ _. refl;
  bearer = λ e. absurd (grind arith);
  number = λ e. absurd (grind arith);
  noted = λ e. absurd (grind arith);
  cause = λ _. (0, (16, refl, lit< tt, lit< tt));
}
plain_within Down a b = plain Down empty none_within (λ _. refl) (λ e. grind arith) (λ e. grind arith) (λ e. grind arith)

-- the refusals that a reading may give
abbrev pub Between : Refusal → Type 0
Between e = (2 ≤ reason_number e.reason) × (reason_number e.reason ≤ 6)

pub named : (r e : Refusal) → r ≡ e → Between r → Between e
named r e z h = subst Between z h

-- what a reading rests on
module _ (n : ℕ) (o : List ℕ) where
  pub other_in : (k : Kind) (h : Heard) → (k ≡ Setup → ⊥) → (k ≡ Progress → ⊥) → other_read o k ≡ Ok h → (h.leg ≡ get_or o 5 0) × Within h.kind h.contents
  other_in k h a b e = at (eqb (get_or o 7 0) 0) e
    where
      at : (t : Bool) → cond t (heard_as o k (others_of k)) (Err (line.refusal BadValue 7)) ≡ Ok h → (h.leg ≡ get_or o 5 0) × Within h.kind h.contents
      at true z = let i : record { leg = get_or o 5 0; type = get_or o 6 0; kind = k; contents = others_of k } ≡ h = grind arith in
          (sym (ap (λ x. x.leg) i), subst (λ x. Within x.kind x.contents) i (plain_within k a b))
      at false z = absurd (grind arith)

  pub setup_in : (r : Result (List ℕ) DigitFault) (h : Heard) → dialled (drop 8 o) ≡ r → setup_read o r ≡ Ok h → (h.leg ≡ get_or o 5 0) × Within h.kind h.contents
  setup_in (Ok d) h e z = let i : record { leg = get_or o 5 0; type = get_or o 6 0; kind = Setup; contents = setup_of d } ≡ h = grind arith in
      (sym (ap (λ x. x.leg) i), subst (λ x. Within x.kind x.contents) i (setup_within d (number (drop 8 o) d e)))
  setup_in (Err f) h e z = absurd (grind arith)

  pub body_in_within : (k : Kind) (h : Heard) → (k ≡ Progress → ⊥) → body_read o k ≡ Ok h → (h.leg ≡ get_or o 5 0) × Within h.kind h.contents
  body_in_within Setup h b e = setup_in (dialled (drop 8 o)) h refl e
  body_in_within Complete h b e = other_in Complete h (λ z. grind arith) b e
  body_in_within Progress h b e = absurd (b refl)
  body_in_within Alerting h b e = other_in Alerting h (λ z. grind arith) b e
  body_in_within Answer h b e = other_in Answer h (λ z. grind arith) b e
  body_in_within Quiet h b e = other_in Quiet h (λ z. grind arith) b e
  body_in_within Clear h b e = other_in Clear h (λ z. grind arith) b e
  body_in_within Down h b e = other_in Down h (λ z. grind arith) b e

  pub no_progress : (e : ℕ) → event_kind e ≡ Some Progress → ⊥
  no_progress e z = grind arith

  pub event_in : (x : Option Kind) (h : Heard) → event_kind (get_or o 6 0) ≡ x → event_read n o x ≡ Ok h → (h.leg < n) × Within h.kind h.contents
  event_in None h z e = absurd (grind arith)
  event_in (Some k) h z e = at (ltb (get_or o 5 0) n && ltb (get_or o 5 0) 64) refl (eqb (get_or o 7 0) (length o - 8)) e
    where
      at : (a : Bool) → (ltb (get_or o 5 0) n && ltb (get_or o 5 0) 64) ≡ a → (b : Bool) → cond a (cond b (body_read o k) (Err (line.refusal Malformed 7))) (Err (line.refusal NoSuchLeg 5)) ≡ Ok h → (h.leg < n) × Within h.kind h.contents
      at true i true w =
          let q = body_in_within k h (λ y. no_progress (get_or o 6 0) (z ∙ ap Some y)) w in
          let l = ltb-true (get_or o 5 0) n (and_parts _ _ i).0 in
          (omega (arith, q.0), q.1)
      at true i false w = absurd (grind arith)
      at false i b w = absurd (grind arith)

  pub read_in : (h : Heard) → line.reads n o ≡ Ok h → (h.leg < n) × Within h.kind h.contents
  read_in h e = at (headed o) e
    where
      at : (b : Bool) → cond b (event_read n o (event_kind (get_or o 6 0))) (Err (line.refusal Malformed 0)) ≡ Ok h → (h.leg < n) × Within h.kind h.contents
      at true w = event_in (event_kind (get_or o 6 0)) h refl w
      at false w = absurd (grind arith)

  pub setup_out : (r : Result (List ℕ) DigitFault) (e : Refusal) → setup_read o r ≡ Err e → Between e
  setup_out (Ok d) e z = absurd (grind arith)
  setup_out (Err f) e z = named (line.refusal BadValue (line.digit_place f)) e (grind arith) (lit≤ tt, lit≤ tt)

  pub other_out : (k : Kind) (e : Refusal) → other_read o k ≡ Err e → Between e
  other_out k e z = at (eqb (get_or o 7 0) 0) z
    where
      at : (t : Bool) → cond t (heard_as o k (others_of k)) (Err (line.refusal BadValue 7)) ≡ Err e → Between e
      at true w = absurd (grind arith)
      at false w = named (line.refusal BadValue 7) e (grind arith) (lit≤ tt, lit≤ tt)

  pub body_out : (k : Kind) (e : Refusal) → body_read o k ≡ Err e → Between e
  body_out Setup e z = setup_out (dialled (drop 8 o)) e z
  body_out Complete e z = other_out Complete e z
  body_out Progress e z = other_out Progress e z
  body_out Alerting e z = other_out Alerting e z
  body_out Answer e z = other_out Answer e z
  body_out Quiet e z = other_out Quiet e z
  body_out Clear e z = other_out Clear e z
  body_out Down e z = other_out Down e z

  pub event_out : (x : Option Kind) (e : Refusal) → event_read n o x ≡ Err e → Between e
  event_out None e z = named (line.refusal UnknownType 6) e (grind arith) (lit≤ tt, lit≤ tt)
  event_out (Some k) e z = at (ltb (get_or o 5 0) n && ltb (get_or o 5 0) 64) (eqb (get_or o 7 0) (length o - 8)) z
    where
      at : (a b : Bool) → cond a (cond b (body_read o k) (Err (line.refusal Malformed 7))) (Err (line.refusal NoSuchLeg 5)) ≡ Err e → Between e
      at true true w = body_out k e w
      at true false w = named (line.refusal Malformed 7) e (grind arith) (lit≤ tt, lit≤ tt)
      at false b w = named (line.refusal NoSuchLeg 5) e (grind arith) (lit≤ tt, lit≤ tt)

  pub read_out : (e : Refusal) → line.reads n o ≡ Err e → Between e
  read_out e z = at (headed o) z
    where
      at : (b : Bool) → cond b (event_read n o (event_kind (get_or o 6 0))) (Err (line.refusal Malformed 0)) ≡ Err e → Between e
      at true w = event_out (event_kind (get_or o 6 0)) e w
      at false w = named (line.refusal Malformed 0) e (grind arith) (lit≤ tt, lit≤ tt)

-- what is told and kept
pub moves : (k : Kind) (p : Phase) → heard_in k p ≡ true → HeardTo k p (heard_to k Idle p)
moves Setup p h = (refl, λ e. inl (grind arith))
moves Complete p h = (refl, λ e. absurd (grind arith))
moves Progress p h = (refl, λ e. absurd (grind arith))
moves Alerting p h = (refl, λ e. absurd (grind arith))
moves Answer p h = (refl, λ e. absurd (grind arith))
moves Quiet p h = (refl, λ e. absurd (grind arith))
moves Clear p h = (refl, λ _. inl refl)
moves Down p h = (refl, λ _. inl refl)

pub short : (l : ℕ) (o : Option ℕ) → length (told_octets l o) ≤ 255
short l None = lit≤ tt
short l (Some e) = lit≤ tt

-- the far end reads Clear of a told Clear, and of nothing else
pub reads_clear : (k : Kind) (l : ℕ) → (told_octets l (told_event k) ≡ [] → ⊥) → (far_kind (get_or (told_octets l (told_event k)) 6 0) ≡ Clear) ↔ (k ≡ Clear)
reads_clear Setup l h = ((λ e. grind arith), (λ e. grind arith))
reads_clear Complete l h = absurd (h refl)
reads_clear Progress l h = absurd (h refl)
reads_clear Alerting l h = ((λ e. grind arith), (λ e. grind arith))
reads_clear Answer l h = ((λ e. grind arith), (λ e. grind arith))
reads_clear Quiet l h = absurd (h refl)
reads_clear Clear l h = ((λ _. refl), (λ _. refl))
reads_clear Down l h = absurd (h refl)

-- a Clear is always told
pub clear_told : (l : ℕ) → told_octets l (told_event Clear) ≡ [] → ⊥
clear_told l e = grind arith

pub keep_none : (ps : List Part) → keep (λ q. false) ps ≡ []
keep_none [] = refl
keep_none (p ∷ ps) = keep_none ps

-- the meaning of analogue lines: at most 32, all of which may be called, and no part is carried
abbrev pub meaning_of_lines : Meaning LineRecord
meaning_of_lines = record {
  system = Line;
  most = 32;
  blank = record { phase = Idle; dialled = None };
  phase_of = λ r. r.phase;
  callable = λ l. true;
  carries = λ t. false;
  reads = line.reads;
  takes = line.takes;
  tells = line.tells;
  taken = line.taken;
  told = line.told;
  far = line.far;
  few = lit≤ tt;
  blank_idle = refl;
  read_leg = λ n o h e. (read_in n o h e).0;
  read_within = λ n o h e. (read_in n o h e).1;
  read_refuses = λ n o e z. read_out n o e z;
  take_moves = λ l p t k c h. moves k p h;
  tell_moves = λ l p k c h. refl;
  taken_phase = λ l r t k c h. refl;
  told_phase = λ l r k c h. refl;
  take_short = λ l p t k c w. lit≤ tt;
  tell_short = λ l p k c w. short l (told_event k);
  far_clear = λ l p k c w h s. reads_clear k l s;
  far_parts = λ l p k c w h s. sym (keep_none c.parts);
  clear_said = λ l p c h e. clear_told l e;
  part_said = λ l p k c t e f h z. false≢true e;
}
