-- One message on lines that were opened just before, from what opening and taking say. Assumes nothing.
use Rattle.std.proofs.Common.{◌≡◌, ℕ, ◌<◌, ◌≤◌, min, ◌⊎◌, List, length, drop, replicate, Ok, Err, sym, ap, ◌∙◌, inl, inr, arith, length-append, length-drop}
use lib.ListN.{length-replicate}
use Rattle.std.proofs.lemmas.List.{drop_at, drop_all}
use Rattle.std.proofs.lemmas.Bool.{cases_lt}
use Rattle.side.specs.declared.kinds.Refusal.{Refusal}
use Rattle.side.specs.declared.records.LineRecord.{LineRecord}
use Rattle.side.specs.Signals.{Heard}
use Rattle.side.specs.Steps.{take_step}
use Rattle.book.specs.Legs.{legs_of, opened}
use Rattle.line_meaning.proofs.Laws.{meaning_of_lines}
use Rattle.line_host.specs.Fresh.{after, one_message}

module _ (rs xs : List LineRecord) (e : xs ≡ opened 32 meaning_of_lines.blank rs) (message buffer : List ℕ) where
  pub took : (h : Heard) → Ok h ≡ meaning_of_lines.reads (length (legs_of 32 xs)) message → take_step meaning_of_lines (legs_of 32 xs) h buffer ≡ one_message rs message buffer
  unfolding one_message
  took h r =
      ap (λ q. after (legs_of 32 xs) q buffer) r
      ∙ ap (λ l. after (legs_of 32 l) (meaning_of_lines.reads (length (legs_of 32 l)) message) buffer) e

  pub refused : (f : Refusal) → Err f ≡ meaning_of_lines.reads (length (legs_of 32 xs)) message → after (legs_of 32 xs) (Err f) buffer ≡ one_message rs message buffer
  unfolding one_message
  refused f r =
      ap (λ q. after (legs_of 32 xs) q buffer) r
      ∙ ap (λ l. after (legs_of 32 l) (meaning_of_lines.reads (length (legs_of 32 l)) message) buffer) e

-- opening leaves the records beyond the most
past : (m : ℕ) (b : LineRecord) (rs : List LineRecord) → drop m (opened m b rs) ≡ drop m rs
past m b rs = at (cases_lt (length rs) m)
  where
    at : (length rs < m) ⊎ (m ≤ length rs) → drop m (opened m b rs) ≡ drop m rs
    at (inl h) =
        drop_all m (opened m b rs) (omega (arith, length-append (replicate (min (length rs) m) b) (drop m rs), length-replicate (min (length rs) m) b, length-drop m rs))
        ∙ sym (drop_all m rs (omega arith))
    at (inr h) = drop_at (replicate (min (length rs) m) b) (drop m rs) m (length-replicate (min (length rs) m) b ∙ omega arith)

pub beyond_opened : (rs xs : List LineRecord) → xs ≡ opened 32 meaning_of_lines.blank rs → drop 32 xs ≡ drop 32 rs
beyond_opened rs xs e = ap (drop 32) e ∙ past 32 meaning_of_lines.blank rs
