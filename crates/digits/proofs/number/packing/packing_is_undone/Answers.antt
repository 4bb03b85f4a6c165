use Rattle.digits.proofs.Packs.{undone}
use Rattle.digits.proofs.number.packing.packing_is_undone.Goals as goal

pub returns : goal.returns
returns c = undone
