use Rattle.rows.specs.Sides.{sides_of}
use Rattle.rows.proofs.Carry.{carriage}
use Rattle.rows.proofs.parts_are_carried.Goals as goal

pub returns : goal.returns
returns g c = λ first m second n. carriage (sides_of first m second n)
