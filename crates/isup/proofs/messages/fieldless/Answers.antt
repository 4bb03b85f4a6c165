use Rattle.std.proofs.Common.{[], subst}
use Rattle.std.specs.Option.{option_map}
use Rattle.held.specs.Held.{octets_of}
use Rattle.entries.specs.Entries.{listed}
use Rattle.side.specs.Signals.{progress_of}
use Rattle.isup.specs.Writes.{optional_of, message_of, Sent}
use Rattle.isup.proofs.Assembled.{optional_is}
use Rattle.isup.proofs.messages.fieldless.Goals as goal

pub returns : goal.returns
returns c =
    subst (λ l. Sent (message_of c.args.fixed.now [] l) c.args.out.now c.write.new.out c.write.result)
    (optional_is (octets_of c.progress_octets.result) (option_map progress_of c.args.progress) c.args.parts.now [] c.progress_octets.ensures)
    (subst (λ b. Sent (message_of c.args.fixed.now b (listed (optional_of (octets_of c.progress_octets.result) c.args.parts.now []))) c.args.out.now c.write.new.out c.write.result)
    c.none.ensures c.write.ensures)
