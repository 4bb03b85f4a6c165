-- A table of elements as octets, and what stands against writing it.
-- Rests on the single steps of writing.
use Rattle.std.specs.Prelude.{ℕ, ◌+◌, ◌-◌, List, [], ◌∷◌, ◌++◌, length, Some, None, Option}
use Rattle.elements.specs.declared.types.EndRule.{EndRule}
use Rattle.writer.specs.declared.types.WriteFault.{WriteFault}
use Rattle.writer.specs.declared.types.Item.{Item}
use Rattle.writer.specs.declared.types.Item.TheVariants.{Element, Single, Absent}
use Rattle.writer.specs.Written.{element, ending, room_fault, element_fault, single_fault}

-- an entry as octets
abbrev pub octets_of : Item → List ℕ
octets_of (Element tag contents) = element tag contents.now
octets_of (Single tag) = tag ∷ []
octets_of Absent = []

abbrev pub written : List Item → List ℕ
written [] = []
written (i ∷ is) = octets_of i ++ written is

-- the tag that the next element may not be below
abbrev pub last_of : ℕ → Item → ℕ
last_of last (Element tag contents) = tag
last_of last (Single tag) = last
last_of last Absent = last

-- what stands against an entry, in a message written as far as `at`, in a buffer of that size
abbrev pub item_fault : EndRule → ℕ → ℕ → Item → ℕ → Option WriteFault
item_fault rule last at (Element tag contents) size = element_fault rule last at tag (length contents.now) size
item_fault rule last at (Single tag) size = single_fault rule at tag size
item_fault rule last at Absent size = None

abbrev pub or_else : Option WriteFault → Option WriteFault → Option WriteFault
or_else (Some e) later = Some e
or_else None later = later

-- what stands against a table and the end of its list: the first entry that may not be written, or the end
abbrev pub table_fault : EndRule → ℕ → ℕ → List Item → ℕ → Option WriteFault
table_fault rule last at [] size = room_fault at (length (ending rule.end)) size
table_fault rule last at (i ∷ is) size = or_else (item_fault rule last at i size) (table_fault rule (last_of last i) (at + length (octets_of i)) is size)

-- what stands against a nested list with the tag: no room for its head, the list itself, or the element that holds it
abbrev pub nest_fault : EndRule → EndRule → ℕ → ℕ → ℕ → List Item → ℕ → Option WriteFault
nest_fault outer inner last at tag is size =
    or_else (room_fault at 2 size)
    (or_else (table_fault inner 0 0 is (size - (at + 2))) (element_fault outer last at tag (length (written is ++ ending inner.end)) size))
