-- One message on lines that were opened just before.
-- Rests on the meaning of lines and on what opening leaves of records.
use Rattle.std.specs.Prelude.{ℕ, List, length, Ok, Err, Result}
use Rattle.side.specs.declared.kinds.Refusal.{Refusal}
use Rattle.side.specs.declared.records.LineRecord.{LineRecord}
use Rattle.side.specs.Signals.{Heard}
use Rattle.side.specs.Steps.{After, take_step}
use Rattle.book.specs.Legs.{legs_of, opened}
use Rattle.line_meaning.proofs.Laws.{meaning_of_lines}

abbrev pub fresh : List LineRecord → List LineRecord
fresh rs = legs_of 32 (opened 32 meaning_of_lines.blank rs)

abbrev pub after : List LineRecord → Result Heard Refusal → List ℕ → After LineRecord
after rs (Err e) buffer = record { answer = Err e; records = rs; buffer = buffer }
after rs (Ok h) buffer = take_step meaning_of_lines rs h buffer

-- the answer, the records of the legs and the buffer afterwards
unfoldable pub one_message : List LineRecord → List ℕ → List ℕ → After LineRecord
one_message rs message buffer = after (fresh rs) (meaning_of_lines.reads (length (fresh rs)) message) buffer
