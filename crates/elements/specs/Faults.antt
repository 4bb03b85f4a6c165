-- What a fault of a list says: its place, the same fault counted from further in front, and the text that is printed.
-- Rests on the two kinds of fault; nothing else.
use Rattle.std.specs.Prelude.{ℕ, ◌+◌, ◌-◌, ◌^◌, List, ◌++◌, min, codes, decimal}
use Rattle.elements.specs.declared.types.ListFault.{ListFault}
use Rattle.elements.specs.declared.types.ListFault.TheVariants.{BreaksOff, NoEnd}

-- the place of a fault, of either kind
abbrev pub fault_place : ListFault → ℕ
fault_place (BreaksOff p) = p
fault_place (NoEnd p) = p

-- a place that so many octets stand before, or the last place that a number of 64 bits tells
abbrev pub place_behind : ℕ → ℕ → ℕ
place_behind start p = min (p + start) (2 ^ 64 - 1)

-- the fault of a list that so many octets stand before
abbrev pub fault_behind : ℕ → ListFault → ListFault
fault_behind start (BreaksOff p) = BreaksOff (place_behind start p)
fault_behind start (NoEnd p) = NoEnd (place_behind start p)

abbrev pub fault_text : ListFault → List ℕ
fault_text (BreaksOff p) = codes "an element breaks off; its tag stands at place " ++ decimal p
fault_text (NoEnd p) = codes "the end tag is missing; it should stand at place " ++ decimal p
