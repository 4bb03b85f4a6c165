use Rattle.rows.specs.Sides.{sides_of}
use Rattle.rows.proofs.Refused.{refusals}
use Rattle.rows.proofs.refusals_have_reasons.Goals as goal

pub returns : goal.returns
returns g c = λ first m second n. refusals (sides_of first m second n)
