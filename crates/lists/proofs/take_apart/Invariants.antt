use Rattle.std.proofs.Common.{◌≡◌, ◌-◌, length, take, vec_items}
use Rattle.elements.specs.Elements.{verdict, checked}
use Rattle.elements.specs.Places.{walk_from}
use Rattle.writer.specs.Items.{written}
use Rattle.lists.proofs.take_apart.Given as goal

abbrev pub invariant-loop-element : goal.invariant-loop-element
invariant-loop-element g l =
    (l.elements.rule ≡ g.C.Coding.rule)
    × (l.elements.list.now ≡ l.list)
    × (verdict l.elements.rule (walk_from l.elements.rule l.elements.list.now l.elements.place) ≡ checked g.C.Coding.rule l.list)
    × (written (vec_items l.items) ≡ take l.elements.place l.elements.list.now)

abbrev pub decreases-loop-element : goal.decreases-loop-element
decreases-loop-element g l = length l.elements.list.now - l.elements.place
