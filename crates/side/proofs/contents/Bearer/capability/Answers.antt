use Rattle.side.proofs.Limited.{bearer_served}
use Rattle.side.proofs.contents.Bearer.capability.Goals as goal

pub returns : goal.returns
returns c = bearer_served c.args.self.now
