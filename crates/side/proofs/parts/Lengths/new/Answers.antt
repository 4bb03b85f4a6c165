use Rattle.side.proofs.Builds.{over}
use Rattle.side.proofs.parts.Lengths.new.Goals as goal

pub returns-then-total-gt-MOST_PARTS-clause-fault : goal.returns-then-total-gt-MOST_PARTS-clause-fault
returns-then-total-gt-MOST_PARTS-clause-fault c =
    over c.args.calling c.args.called c.args.low c.args.high c.args.user _ _ _ _ _
    c.cost_of.ensures c.cost_of-2.ensures c.cost_of-3.ensures c.cost_of-4.ensures c.cost_of-5.ensures c.if-total-gt-MOST_PARTS.true
