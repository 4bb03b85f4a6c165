use Rattle.rows.specs.Sides.{sides_of}
use Rattle.rows.proofs.Account.{accounting}
use Rattle.rows.proofs.calls_are_accounted_for.Goals as goal

pub returns : goal.returns
returns g c = λ first m second n. accounting (sides_of first m second n)
