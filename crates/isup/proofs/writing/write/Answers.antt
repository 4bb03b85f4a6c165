use Rattle.std.proofs.Common.{subst}
use Rattle.held.specs.Held.{octets_of}
use Rattle.entries.specs.Entries.{listed}
use Rattle.isup.specs.Writes.{optional_of, message_of, Wrote}
use Rattle.isup.proofs.Optional.{message_writes}
use Rattle.isup.proofs.writing.write.Goals as goal

pub returns : goal.returns
returns c =
    let o = c.args.optional.now in
    subst
    (λ b. Wrote (message_of c.args.fixed.now b (listed (optional_of (octets_of o.progress) o.parts.now o.bearer.now))) c.args.out.now c.close.new.out c.length.result)
    c.as_octets-between.ensures.are
    (message_writes c.args.fixed.now c.as_octets-between.result.now (octets_of o.progress) o.parts.now o.bearer.now _ _ _ _ _ _ _ _ _ _ _ _
    c.begin.ensures c.pointer.ensures c.in_ok-fixed.ensures c.in_ok-pointer.ensures c.in_ok-field.ensures c.in_ok-closed.ensures c.length.ensures)
