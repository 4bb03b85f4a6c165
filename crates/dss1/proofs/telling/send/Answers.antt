use Rattle.std.proofs.Common.{◌≡◌, ◌++◌, Some, rules}
use Rattle.entries.specs.Entries.{listed}
use Rattle.dss1_meaning.specs.Dss1.{head}
use Rattle.dss1.specs.Fields.{table_of}
use Rattle.dss1.proofs.Writings.{from_front}
use Rattle.dss1.proofs.telling.send.Goals as goal

pub returns-clause-wrote : goal.returns-clause-wrote
returns-clause-wrote c =
    let k : c.args.message ≡ Some (c.in-Some.message_type, c.in-Some.fields) = search rules in
    rw k (from_front (head c.args.leg.number c.in-Some.message_type ++ listed (table_of c.in-Some.fields)) c.args.out.now c.write.new.out c.unwrap.result (rw c.unwrap.ensures at c.write.ensures))
