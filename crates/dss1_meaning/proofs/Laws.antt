-- The laws of the DSS 1 side. Assumes nothing.
use Rattle.std.proofs.Common.{◌≡◌, ℕ, ◌≤◌, Bool, true, false, cond, eqb, ◌⊎◌, List, [], length, Some, None, Option, sym, refl, ◌∙◌, inl, inr, arith, lit≤}
use Rattle.entries.specs.Entries.{Entry}
use Rattle.side.specs.declared.kinds.Kind.{Kind}
use Rattle.side.specs.declared.kinds.Kind.TheVariants.{Setup, Complete, Progress, Alerting, Answer, Quiet, Clear, Down}
use Rattle.side.specs.declared.kinds.Phase.{Phase}
use Rattle.side.specs.declared.kinds.Phase.TheVariants.{Idle, Clearing}
use Rattle.side.specs.declared.kinds.System.TheVariants.{Dss1}
use Rattle.side.specs.Table.{heard_to}
use Rattle.side.specs.Meaning.{Meaning, HeardTo, speaks}
use Rattle.side.specs.declared.records.Dss1Record.{Dss1Record}
use Rattle.carried.specs.Carried.{is_part}
use Rattle.carried.proofs.PartLaws.{keep_within}
use Rattle.dss1_meaning.specs.declared.types.MessageType.{MessageType}
use Rattle.dss1_meaning.specs.Dss1 as table
use Rattle.dss1_meaning.specs.Dss1.{reply_to, replied, cleared_by, told_type, told_elements, told_octets}
use Rattle.dss1_meaning.proofs.Hearing.{read_in, read_out}
use Rattle.dss1_meaning.proofs.Telling.{Fits, told_fits, told_far}

-- what a message leads to
pub cleared : (t : ℕ) → (cleared_by t ≡ Idle) ⊎ (cleared_by t ≡ Clearing)
cleared t = at (eqb t 0x45)
  where
    at : (b : Bool) → (cond b Clearing Idle ≡ Idle) ⊎ (cond b Clearing Idle ≡ Clearing)
    at true = inr refl
    at false = inl refl

pub moves : (t : ℕ) (k : Kind) (p : Phase) → HeardTo k p (heard_to k (cleared_by t) p)
moves t Setup p = (refl, λ e. absurd (grind arith))
moves t Complete p = (refl, λ e. absurd (grind arith))
moves t Progress p = (refl, λ e. absurd (grind arith))
moves t Alerting p = (refl, λ e. absurd (grind arith))
moves t Answer p = (refl, λ e. absurd (grind arith))
moves t Quiet p = (refl, λ e. absurd (grind arith))
moves t Clear p = (refl, λ _. cleared t)
moves t Down p = (refl, λ e. absurd (grind arith))

-- what is written is short
pub reply_short : (l : ℕ) (o : Option MessageType) → length (replied l o) ≤ 255
reply_short l None = lit≤ tt
reply_short l (Some t) = lit≤ tt

pub told_short : (l : ℕ) (o : Option MessageType) (es : List Entry) → Fits es → length (told_octets l o es) ≤ 255
told_short l None es f = lit≤ tt
told_short l (Some t) es f = let k = f.short in omega arith

-- what is told by a message is told by octets
pub said : (l : ℕ) (k : Kind) (es : List Entry) → speaks k ≡ true → told_octets l (told_type k) es ≡ [] → ⊥
said l Setup es h e = grind arith
said l Complete es h e = grind arith
said l Progress es h e = grind arith
said l Alerting es h e = grind arith
said l Answer es h e = grind arith
said l Quiet es h e = grind arith
said l Clear es h e = grind arith
said l Down es h e = grind arith

-- and the end of a call always is
pub clear_said : (l : ℕ) (es : List Entry) → told_octets l (told_type Clear) es ≡ [] → ⊥
clear_said l es e = grind arith

-- the meaning of DSS 1: at most 64 legs, of which the exchange may call the upper half; every part is carried
abbrev pub meaning_of_dss1 : Meaning Dss1Record
meaning_of_dss1 = record {
  system = Dss1;
  most = 64;
  blank = record { phase = Idle; cause = None };
  phase_of = λ r. r.phase;
  callable = table.callable;
  carries = is_part;
  reads = table.reads;
  takes = table.takes;
  tells = table.tells;
  taken = table.taken;
  told = table.told;
  far = table.far;
  few = lit≤ tt;
  blank_idle = refl;
  read_leg = λ n o h e. (read_in n o h e).0;
  read_within = λ n o h e. (read_in n o h e).1;
  read_refuses = λ n o e z. read_out e n o z;
  take_moves = λ l p t k c h. moves t k p;
  tell_moves = λ l p k c h. refl;
  taken_phase = λ l r t k c h. refl;
  told_phase = λ l r k c h. refl;
  take_short = λ l p t k c w. reply_short l (reply_to t);
  tell_short = λ l p k c w. told_short l (told_type k) (told_elements k c) (told_fits k c w);
  far_clear = λ l p k c w h s. (told_far l p k c w h).0;
  far_parts = λ l p k c w h s. (told_far l p k c w h).1 ∙ sym (keep_within c.parts w.parts);
  clear_said = λ l p c h e. clear_said l (told_elements Clear c) e;
  part_said = λ l p k c t e f h z. said l k (told_elements k c) f z;
}
