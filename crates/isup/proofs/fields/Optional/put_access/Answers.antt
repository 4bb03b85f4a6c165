use Rattle.held.specs.Held.{octets_of}
use Rattle.held.proofs.Lengths.{held_few}
use Rattle.isup.proofs.Optional.{nest_step}
use Rattle.isup.proofs.fields.Optional.put_access.Goals as goal

pub returns : goal.returns
returns c =
    nest_step c.args.self.now.parts.now c.as_octets.result c.calling.result c.called.result c.low.result c.high.result
    c.entry.result c.entry-2.result c.entry-3.result c.entry-4.result c.entry-5.result
    c.entry.ensures c.entry-2.ensures c.entry-3.ensures c.entry-4.ensures c.entry-5.ensures
    (octets_of c.args.self.now.progress) c.as_octets.ensures.are c.calling.ensures c.called.ensures c.low.ensures c.high.ensures
    _ _ c.nest.result c.args.front.at _ _ _ _ (held_few c.args.self.now.progress) c.list-listing.ensures.0 c.list-listing.ensures.1 c.if-no_access.ensures c.nest.ensures
