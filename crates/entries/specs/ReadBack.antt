-- What reading a table gives back: under every tag its contents, and the list is whole.
-- Rests on the reader's definitions and on the table as octets.
use Rattle.std.specs.Prelude.{◌≡◌, ℕ, List, ◌++◌, length, Ok}
use Rattle.elements.specs.declared.types.EndRule.{EndRule}
use Rattle.elements.specs.Elements.{checked}
use Rattle.writer.specs.Written.{ending}
use Rattle.entries.specs.Entries.{Entry, listed, under, found, Ascending}

-- a table whose tags ascend, read as a list of that coding
pub record TableReads (rule : EndRule) (es : List Entry) : Type 0 where
  pub contents : (t : ℕ) → found rule t (listed es ++ ending rule.end) ≡ under t es
  pub whole : checked rule (listed es ++ ending rule.end) ≡ Ok (length (listed es ++ ending rule.end))

abbrev pub EntriesReadBack : Type 0
EntriesReadBack = (rule : EndRule) (es : List Entry) → Ascending rule 0 es → TableReads rule es
