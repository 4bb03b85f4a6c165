use Rattle.std.proofs.Common.{◌≡◌}
use Rattle.elements.specs.Places.{walk_from}
use Rattle.elements.specs.Elements.{verdict}
use Rattle.elements.proofs.Elements.end.Given as goal

abbrev pub invariant-loop : goal.invariant-loop
invariant-loop l =
    verdict l.self.rule (walk_from l.self.rule l.self.list.now l.self.place)
    ≡ verdict l.initial.self.rule (walk_from l.initial.self.rule l.initial.self.list.now l.initial.self.place)
