use Rattle.std.proofs.Common.{refl, rules}
use Rattle.writer.proofs.Puts.{copied}
use Rattle.side.proofs.parts.building.append.Goals as goal

pub returns : goal.returns
returns c = copied c.args.octets.now c.args.contents.now _ c.args.at _ refl (search rules) c.copy_from_slice.ensures.after
