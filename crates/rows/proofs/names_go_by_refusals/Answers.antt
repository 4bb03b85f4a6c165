use Rattle.rows.specs.Sides.{sides_of}
use Rattle.rows.proofs.Named.{naming}
use Rattle.rows.proofs.names_go_by_refusals.Goals as goal

pub returns : goal.returns
returns g c = λ first m second n. naming (sides_of first m second n)
