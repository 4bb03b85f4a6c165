use Rattle.rows.specs.Sides.{sides_of}
use Rattle.rows.proofs.Cuts.{cutting}
use Rattle.rows.proofs.cuts_tell_both_legs.Goals as goal

pub returns : goal.returns
returns g c = λ first m second n. cutting (sides_of first m second n)
