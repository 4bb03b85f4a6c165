use Rattle.std.proofs.Common.{◌≡◌}
use Rattle.elements.specs.Places.{walk_from}
use Rattle.elements.specs.Elements.{item_in, walk}
use Rattle.elements.proofs.first.Given as goal

abbrev pub invariant-loop-element : goal.invariant-loop-element
invariant-loop-element g l =
    (goal.iterator-loop-element g).can_next l.element-iterator
    × (goal.iterator-loop-element g).is_finite l.element-iterator
    × (item_in l.wanted (walk_from l.element-iterator.rule l.element-iterator.list.now l.element-iterator.place) ≡ item_in l.wanted (walk g.C.Coding.rule 0 0 l.list))
