-- The text that is printed for each reason why a step of writing is refused.
use Rattle.std.specs.Prelude.{ℕ, List, codes}
use Rattle.writer.specs.declared.types.WriteFault.{WriteFault}
use Rattle.writer.specs.declared.types.WriteFault.TheVariants.{NoRoom, TooLong, NotATag, OutOfOrder}

abbrev pub write_fault_text : WriteFault → List ℕ
write_fault_text NotATag = codes "a tag that no element of this coding may have"
write_fault_text OutOfOrder = codes "the tags are not in ascending order"
write_fault_text TooLong = codes "more contents than a length octet can tell"
write_fault_text NoRoom = codes "no room in the buffer"
