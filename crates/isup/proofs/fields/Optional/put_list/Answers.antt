use Rattle.std.proofs.Common.{arith}
use Rattle.held.specs.Held.{octets_of}
use Rattle.held.proofs.Lengths.{held_few}
use Rattle.isup.proofs.Optional.{close_step}
use Rattle.isup.proofs.fields.Optional.put_list.Goals as goal

pub returns : goal.returns
returns c =
    close_step c.args.self.now.parts.now c.args.self.now.bearer c.user_user.result c.entry.result c.entry-2.result c.entry.ensures c.entry-2.ensures c.user_user.ensures
    _ c.close_with.result _ _ c.args.front.at _ _ (octets_of c.args.self.now.progress) c.args.out.now (held_few c.args.self.now.progress) c.args.self.now.short c.in_ok-listing.ensures.1 (omega arith)
    c.in_ok-listing.ensures.0 c.close_with.ensures
