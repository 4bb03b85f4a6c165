use Rattle.entries.specs.Entries.{listed}
use Rattle.dss1_meaning.specs.Dss1.{reference_to, type_octet}
use Rattle.dss1.specs.Fields.{table_of}
use Rattle.dss1.proofs.Writings.{whole}
use Rattle.dss1.proofs.writing.write.Goals as goal

pub returns : goal.returns
returns c =
    whole (reference_to c.args.leg.number) (type_octet c.args.message) c.reference_to.result c.octet.result (listed (table_of c.args.fields.now))
    c.args.out.now c.octets.new.buf c.write_elements.new.out c.begin.result.at c.in_ok-front.front.at c.in_ok-closed.closed.length c.length.result
    c.reference_to.ensures c.octet.ensures c.begin.ensures c.length.ensures c.in_ok-front.ensures.adds c.in_ok-closed.ensures
