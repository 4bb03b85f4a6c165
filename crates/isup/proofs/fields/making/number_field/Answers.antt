use Rattle.std.proofs.Common.{◌+◌, ap, ◌∙◌, rules}
use Rattle.digits.specs.Dialling.{characters}
use Rattle.digits.specs.Signals.{packed, ended}
use Rattle.isup_meaning.specs.Writing.{odd_bit}
use Rattle.isup.proofs.Assembled.{number_octets_are}
use Rattle.isup.proofs.fields.making.number_field.Goals as goal

pub returns : goal.returns
returns c =
    let held = rw c.unwrap-signals.ensures at c.pack.ensures in
    let odd = c.odd_bit.ensures ∙ ap odd_bit c.signals_odd.ensures in
    search rules ∙ number_octets_are c.unwrap-signals.result c.unwrap-signals.result _ _ c.pack.new.out (packed (ended (characters c.args.number.now.digits)))
    (λ i. c.nature.ensures.is i + odd i) held.0 held.0 held.1
