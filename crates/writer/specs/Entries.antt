-- An element that was read, as an entry of a table to be written.
-- Rests on both as they are declared; nothing else.
use Rattle.std.specs.Prelude.{Some, None}
use Rattle.elements.specs.declared.types.ListElement.{ListElement}
use Rattle.writer.specs.declared.types.Item.{Item}
use Rattle.writer.specs.declared.types.Item.TheVariants.{Element, Single}

abbrev pub entry_of : ListElement → Item
entry_of e = elim e.contents [ None ↦ Single e.tag | Some c ↦ Element e.tag c ]
