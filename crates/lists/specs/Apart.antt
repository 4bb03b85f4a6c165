-- What taking a list apart gives: elements that, written again, are the octets they were read from.
-- Rests on the reader's verdict on a list and on a table of elements as octets.
use Rattle.std.specs.Prelude.{◌≡◌, ℕ, List, [], ◌++◌, take, Ok, Err, Result}
use Rattle.elements.specs.declared.types.EndRule.{EndRule}
use Rattle.elements.specs.declared.types.ListFault.{ListFault}
use Rattle.elements.specs.declared.types.ListFault.TheVariants.{BreaksOff, NoEnd}
use Rattle.elements.specs.Elements.{checked}
use Rattle.writer.specs.declared.types.Item.{Item}
use Rattle.writer.specs.Written.{ending}
use Rattle.writer.specs.Items.{written}

-- how far a list is whole
abbrev pub reach : Result ℕ ListFault → ℕ
reach (Ok n) = n
reach (Err (BreaksOff p)) = p
reach (Err (NoEnd p)) = p

-- the end of a list that is whole
abbrev pub closing : EndRule → Result ℕ ListFault → List ℕ
closing rule (Ok n) = ending rule.end
closing rule (Err f) = []

pub record TakenApart (rule : EndRule) (list : List ℕ) (items : List Item) (end : Result ℕ ListFault) : Type 0 where
  pub verdict : end ≡ checked rule list
  pub octets : written items ++ closing rule end ≡ take (reach end) list
