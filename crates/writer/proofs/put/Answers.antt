use Rattle.writer.proofs.Puts.{copied}
use Rattle.writer.proofs.put.Goals as goal

pub returns : goal.returns
returns c =
    let e = c.in_ok-end.ensures in
    record { fine = e.0; adds = copied c.args.buf.now c.args.octets.now _ c.args.at _ e.1.0 e.1.1 c.copy_from_slice.ensures.after }
