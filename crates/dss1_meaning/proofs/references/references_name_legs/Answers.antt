-- A reference means one leg, the same at both ends.
use Rattle.dss1_meaning.proofs.Legs.{references_name_legs}
use Rattle.dss1_meaning.proofs.references.references_name_legs.Goals as goal

pub returns : goal.returns
returns c = references_name_legs
