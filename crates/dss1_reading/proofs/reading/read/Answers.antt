use Rattle.std.proofs.Common.{get_or, Ok, sym, ap, ◌∙◌}
use Rattle.std.specs.Option.{option_map}
use Rattle.side.specs.Signals.{kind_of, contents_of}
use Rattle.side.proofs.Legs.{leg_found}
use Rattle.dss1_reading.proofs.Readings.{type_found, body_read_is}
use Rattle.dss1_reading.proofs.reading.read.Goals as goal

pub returns : goal.returns
returns c =
    let leg = leg_found _ _ _ (ap (option_map (λ l. l.number)) (sym c.in_ok-leg.ensures.ok_part) ∙ c.leg_of.ensures) in
    ap (λ l. Ok (record { leg = l; type = get_or c.args.message.now 3 0; kind = kind_of c.in_ok-signal.signal; contents = contents_of c.in_ok-signal.signal })) leg.1
    ∙ body_read_is c.args.legs c.args.message.now c.in_ok-message_type.message_type c.if-not-has_head.ensures (type_found _ _ _ c.try_from.result c.map_err.result _ c.try_from.ensures c.in_ok-message_type.was c.map_err.ensures.variant c.map_err.ensures.cases) leg.0
    _ c.in_ok-check.ensures c.in_ok-signal.ensures
