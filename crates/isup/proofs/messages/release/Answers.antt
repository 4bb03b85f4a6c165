use Rattle.std.proofs.Common.{[], Some, None, subst}
use Rattle.held.specs.Held.{octets_of}
use Rattle.side.specs.Signals.{cause_of}
use Rattle.carried.specs.Carried.{cause_octets}
use Rattle.isup.specs.Writes.{Sent}
use Rattle.isup.proofs.Assembled.{optional_is, rel_is}
use Rattle.isup.proofs.messages.release.Goals as goal

pub returns : goal.returns
returns c =
    subst (λ o. Sent o c.args.out.now c.write.new.out c.write.result)
    (rel_is _ _ c.args.leg.number _ (cause_octets (Some (cause_of c.args.cause))) _ _ c.octet.ensures.is c.args.leg.few c.octet-2.ensures
    c.cause_field.ensures (optional_is (octets_of c.none.result) None c.args.parts.now [] c.none.ensures))
    c.write.ensures
