-- The end rules of the two codings, by name.
-- Rests on nothing but what an end rule is.
use Rattle.std.specs.Prelude.{true, false, Some, None}
use Rattle.elements.specs.declared.types.EndRule.{EndRule}

-- no end tag, and one-octet elements from tag 80 hex
abbrev pub dss1 : EndRule
dss1 = record { end = None; singles = true }

-- tag 00 ends the list
abbrev pub isup : EndRule
isup = record { end = Some 0; singles = false }
