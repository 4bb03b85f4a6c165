use Rattle.std.proofs.Common.{rules}
use Rattle.entries.specs.Codings.{dss1}
use Rattle.dss1_reading.proofs.Places.{fault_fits}
use Rattle.dss1_reading.proofs.list.Body.check.Goals as goal

pub overflow_add-place : goal.overflow_add-place
overflow_add-place c = let k = fault_fits dss1 c.args.self.octets.now c.in-Err.fault c.place-place.result c.args.self.short c.in-Err.ensures c.place-place.ensures in search rules
