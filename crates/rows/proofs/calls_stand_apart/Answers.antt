use Rattle.rows.specs.Sides.{sides_of}
use Rattle.rows.proofs.Apart.{independence}
use Rattle.rows.proofs.calls_stand_apart.Goals as goal

pub returns : goal.returns
returns g c = λ first m second n. independence (sides_of first m second n)
