use Rattle.std.proofs.Common.{rules}
use Rattle.entries.specs.Codings.{dss1}
use Rattle.dss1_reading.proofs.Places.{place_fits}
use Rattle.dss1_reading.proofs.list.Body.place_of.Goals as goal

pub overflow_add-result : goal.overflow_add-result
overflow_add-result c = let k = place_fits dss1 c.args.tag c.args.self.octets.now c.find.result c.unwrap_or.result c.args.self.short c.find.ensures c.unwrap_or.ensures in search rules
