use Rattle.std.proofs.Common.{ap, ◌∙◌}
use Rattle.entries.specs.Codings.{dss1}
use Rattle.side.specs.declared.kinds.Reason.TheVariants.{BadValue}
use Rattle.carried.specs.Carried.{tag_place}
use Rattle.carried.specs.Messages.{number_of}
use Rattle.carried.proofs.Refusals.{some_or_refused, read_is}
use Rattle.dss1_meaning.specs.Dss1.{refusal, number_in}
use Rattle.dss1_reading.proofs.list.Body.number.Goals as goal

pub returns-clause-bad : goal.returns-clause-bad
returns-clause-bad c =
    some_or_refused (refusal BadValue) (tag_place dss1 4 0x70 c.args.self.octets.now) _ c.called_number.result c.or_refuse.result
    (read_is number_of c.called_number.result _ (c.called_number.ensures ∙ ap number_in c.found.ensures)) c.or_refuse.ensures
