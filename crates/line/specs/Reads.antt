-- A signal that was made from a message, as the reading that it becomes.
-- Rests on the tables of the line's messages.
use Rattle.std.specs.Prelude.{ℕ, List, Ok, Err, Result}
use Rattle.side.specs.declared.kinds.Refusal.{Refusal}
use Rattle.side.specs.declared.contents.Signal.{Signal}
use Rattle.side.specs.Signals.{Heard, kind_of, contents_of}
use Rattle.line_meaning.specs.Lines.{heard_as}

abbrev pub signal_as : List ℕ → Result Signal Refusal → Result Heard Refusal
signal_as o (Ok s) = heard_as o (kind_of s) (contents_of s)
signal_as o (Err e) = Err e
