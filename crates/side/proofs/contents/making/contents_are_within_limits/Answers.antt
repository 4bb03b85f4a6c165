use Rattle.side.proofs.Limited.{within}
use Rattle.side.proofs.contents.making.contents_are_within_limits.Goals as goal

pub returns : goal.returns
returns c = within
