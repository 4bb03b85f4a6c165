use Rattle.isup_reading.proofs.Numbers.{number_there}
use Rattle.isup_reading.proofs.reading.called_number.Goals as goal

pub returns : goal.returns
returns c =
    number_there c.args.field.now c.in_ok-kind.kind c.unpack.result c.in_ok-digits.digits c.in-len2-up.len_at_least c.in_ok-kind.ensures c.unpack.ensures.reads c.in_ok-digits.ensures.value
