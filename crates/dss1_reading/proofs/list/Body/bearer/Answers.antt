use Rattle.std.proofs.Common.{rules}
use Rattle.entries.specs.Codings.{dss1}
use Rattle.entries.specs.Entries.{found}
use Rattle.side.specs.declared.kinds.Reason.TheVariants.{BadValue}
use Rattle.carried.specs.Carried.{tag_place}
use Rattle.carried.proofs.Refusals.{some_or_refused}
use Rattle.dss1_meaning.specs.Dss1.{refusal}
use Rattle.dss1_reading.proofs.Readings.{bearer_read}
use Rattle.dss1_reading.proofs.list.Body.bearer.Goals as goal

pub returns-clause-bad : goal.returns-clause-bad
returns-clause-bad c =
    some_or_refused (refusal BadValue) (tag_place dss1 4 4 c.args.self.octets.now) _ c.ok.result c.or_refuse.result
    (rw c.ok.ensures.value (bearer_read (found dss1 4 c.args.self.octets.now) c.read.result (search rules))) c.or_refuse.ensures
