-- The elements of a message that is to be written, seen from outside.
-- Rests on the values that hold them and on the table of elements.
use Rattle.std.specs.Prelude.{ℕ, List, [], ◌++◌, Some, None, Option}
use Rattle.entries.specs.Entries.{Entry, listed}
use Rattle.held.specs.Held.{octets_of}
use Rattle.side.specs.Contents.{parts_of}
use Rattle.dss1_meaning.specs.declared.types.MessageType.{MessageType}
use Rattle.dss1_meaning.specs.Dss1.{head, table}
use Rattle.dss1.specs.declared.fields.Fields.{Fields}

abbrev pub table_of : Fields → List Entry
table_of f = table (octets_of f.bearer) (octets_of f.cause) (octets_of f.progress) (octets_of f.number) (parts_of f.parts)

-- a message to a leg as octets, or none
abbrev pub message_octets : ℕ → Option (MessageType × Fields) → List ℕ
message_octets l None = []
message_octets l (Some m) = head l m.0 ++ listed (table_of m.1)
