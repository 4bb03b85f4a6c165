use Rattle.std.proofs.Common.{refl, sym}
use Rattle.side.specs.Signals.{bearer_of}
use Rattle.side.proofs.Limited.{bearer_served}
use Rattle.carried.proofs.Served.{told_bearer_is}
use Rattle.dss1.proofs.telling.message_of.Goals as goal

pub returns-in-Setup : goal.returns-in-Setup
returns-in-Setup c =
    let b = c.in-Setup.setup.bearer in
    let same = told_bearer_is (bearer_of b) b.capability (bearer_served b) in
    rw c.in-Setup.is (refl, rw same (sym c.setup.ensures))
