-- The laws of the ISUP side. Assumes nothing.
use Rattle.std.proofs.Common.{◌≡◌, ℕ, Bool, true, false, ◌⊎◌, [], None, sym, refl, ◌∙◌, subst, inl, inr, arith, lit≤}
use Rattle.side.specs.declared.kinds.Kind.{Kind}
use Rattle.side.specs.declared.kinds.Kind.TheVariants.{Setup, Complete, Progress, Alerting, Answer, Quiet, Clear, Down}
use Rattle.side.specs.declared.kinds.Phase.{Phase}
use Rattle.side.specs.declared.kinds.Phase.TheVariants.{Idle, Calling, CallingComplete, Called, CalledComplete, Alerted, Answered, Clearing}
use Rattle.side.specs.declared.kinds.System.TheVariants.{Isup}
use Rattle.side.specs.declared.records.CircuitRecord.{CircuitRecord}
use Rattle.side.specs.Table.{heard_to}
use Rattle.side.specs.Signals.{Contents}
use Rattle.side.specs.Meaning.{Meaning, Within, HeardTo, speaks}
use Rattle.carried.specs.Carried.{is_part}
use Rattle.carried.proofs.PartLaws.{keep_within}
use Rattle.isup_meaning.specs.Reading.{reads}
use Rattle.isup_meaning.specs.Writing as writing
use Rattle.isup_meaning.specs.Writing.{cleared_from, completed, party_list, progress_list, told_octets}
use Rattle.isup_meaning.proofs.Readings.{read_in}
use Rattle.isup_meaning.proofs.Refusals.{read_out}
use Rattle.isup_meaning.proofs.Shorts.{told_short, reply_short, acm_short, cpg_short, con_short, anm_short, party_length, progress_length}
use Rattle.isup_meaning.proofs.Reached.{Reaches, iam_setup, acm_complete, cpg_event, cpg_progress, acm_alerting, cpg_alerting, con_answer, anm_answer, rel_clear}

-- a circuit that hears a release is free, or goes on clearing
pub cleared : (p : Phase) → (cleared_from p ≡ Idle) ⊎ (cleared_from p ≡ Clearing)
cleared Idle = inl refl
cleared Calling = inl refl
cleared CallingComplete = inl refl
cleared Called = inl refl
cleared CalledComplete = inl refl
cleared Alerted = inl refl
cleared Answered = inl refl
cleared Clearing = inr refl

pub moves : (k : Kind) (p : Phase) → HeardTo k p (heard_to k (cleared_from p) p)
moves Setup p = (refl, λ e. absurd (grind arith))
moves Complete p = (refl, λ e. absurd (grind arith))
moves Progress p = (refl, λ e. absurd (grind arith))
moves Alerting p = (refl, λ e. absurd (grind arith))
moves Answer p = (refl, λ e. absurd (grind arith))
moves Quiet p = (refl, λ e. absurd (grind arith))
moves Clear p = (refl, λ _. cleared p)
moves Down p = (refl, λ e. absurd (grind arith))

-- what the far end reads of a told message
pub reaches : (l : ℕ) (done : Bool) (k : Kind) (c : Contents) → Within k c → (told_octets l done k c ≡ [] → ⊥) → Reaches k c.parts (reads 64 (told_octets l done k c))
reaches l done Setup c w s = iam_setup l c w
reaches l true Complete c w s =
    subst (λ ps. Reaches Complete ps (reads 64 (told_octets l true Complete c))) (sym (w.bare refl))
    (cpg_event l c.progress Complete (λ e. grind arith) (cpg_short l 0x02 (progress_list c) (progress_length c)))
reaches l false Complete c w s =
    subst (λ ps. Reaches Complete ps (reads 64 (told_octets l false Complete c))) (sym (w.bare refl))
    (acm_complete l c.progress Complete (λ e. grind arith) c.isdn (acm_short l 0x10 c.isdn (progress_list c) (progress_length c)))
reaches l true Progress c w s =
    subst (λ ps. Reaches Progress ps (reads 64 (told_octets l true Progress c))) (sym (w.bare refl))
    (cpg_progress l c.progress Progress (λ e. grind arith) (cpg_short l (writing.progress_event c.progress) (progress_list c) (progress_length c)))
reaches l false Progress c w s =
    subst (λ ps. Reaches Progress ps (reads 64 (told_octets l false Progress c))) (sym (w.bare refl))
    (acm_complete l c.progress Progress (λ e. grind arith) c.isdn (acm_short l 0x10 c.isdn (progress_list c) (progress_length c)))
reaches l true Alerting c w s = cpg_alerting l c.progress c.parts w.parts (cpg_short l 0x01 (party_list c) (party_length c w.parts))
reaches l false Alerting c w s = acm_alerting l c.progress c.parts w.parts c.isdn (acm_short l 0x14 c.isdn (party_list c) (party_length c w.parts))
reaches l true Answer c w s = anm_answer l c.progress c.parts w.parts (anm_short l (party_list c) (party_length c w.parts))
reaches l false Answer c w s = con_answer l c.progress c.parts w.parts c.isdn (con_short l c.isdn (party_list c) (party_length c w.parts))
reaches l done Quiet c w s = absurd (s refl)
reaches l done Clear c w s = rel_clear l c w
reaches l done Down c w s = absurd (s refl)

-- what speaks is not told by an empty message
pub said : (l : ℕ) (done : Bool) (k : Kind) (c : Contents) → speaks k ≡ true → told_octets l done k c ≡ [] → ⊥
said l done Setup c f e = grind arith
said l done Complete c f e = absurd (grind arith)
said l done Progress c f e = absurd (grind arith)
said l true Alerting c f e = grind arith
said l false Alerting c f e = grind arith
said l true Answer c f e = grind arith
said l false Answer c f e = grind arith
said l done Quiet c f e = absurd (grind arith)
said l done Clear c f e = absurd (grind arith)
said l done Down c f e = absurd (grind arith)

pub clear_said : (l : ℕ) (done : Bool) (c : Contents) → told_octets l done Clear c ≡ [] → ⊥
clear_said l done c e = grind arith

-- the meaning of ISUP trunks: at most 64 circuits, all of which may be called, and every part is carried
abbrev pub meaning_of_isup : Meaning CircuitRecord
meaning_of_isup = record {
  system = Isup;
  most = 64;
  blank = record { phase = Idle; seized = None };
  phase_of = λ r. r.phase;
  callable = λ l. true;
  carries = is_part;
  reads = reads;
  takes = writing.takes;
  tells = writing.tells;
  taken = writing.taken;
  told = writing.told;
  far = writing.far;
  few = lit≤ tt;
  blank_idle = refl;
  read_leg = λ n o h e. (read_in n o h e).0;
  read_within = λ n o h e. (read_in n o h e).1;
  read_refuses = λ n o e z. read_out n o e z;
  take_moves = λ l p t k c h. moves k p;
  tell_moves = λ l p k c h. refl;
  taken_phase = λ l r t k c h. refl;
  told_phase = λ l r k c h. refl;
  take_short = λ l p t k c w. reply_short l t;
  tell_short = λ l p k c w. told_short l (completed p) k c w;
  far_clear = λ l p k c w h s. (reaches l (completed p) k c w s).0;
  far_parts = λ l p k c w h s. (reaches l (completed p) k c w s).1 ∙ sym (keep_within c.parts w.parts);
  clear_said = λ l p c h e. clear_said l (completed p) c e;
  part_said = λ l p k c t e f h z. said l (completed p) k c f z;
}
