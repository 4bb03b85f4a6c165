use Rattle.std.proofs.Common.{◌&&◌, ltb, get_or, Ok, sym, ap, ◌∙◌}
use Rattle.std.proofs.lemmas.Result.{err_from_is_err_and}
use Rattle.std.specs.Option.{option_map}
use Rattle.side.specs.declared.leg.Leg.{Leg}
use Rattle.side.specs.Signals.{kind_of, contents_of}
use Rattle.side.proofs.Legs.{leg_found}
use Rattle.line.proofs.Places.{whole}
use Rattle.line.proofs.reading.read.Goals as goal

pub returns-in_err-signal : goal.returns-in_err-signal
returns-in_err-signal c =
    let p = err_from_is_err_and c.from_residual-in_err-signal.result c.from_residual-in_err-signal.ensures.1 in
    let leg = leg_found _ _ _ (ap (option_map (λ (l : Leg). l.number)) (sym c.in_ok-leg.ensures.ok_part) ∙ c.among.ensures) in
    rw (p.1, p.2) (c.in_err-signal.ensures
    ∙ whole c.args.legs c.args.message.now _ c.if-not-has_head.ensures (sym c.in_ok-event.ensures)
    (ap (λ q. ltb q c.args.legs && ltb q 64) (sym c.from.ensures) ∙ leg.0) (sym c.from-2.ensures ∙ c.if-from-message.false))

pub returns : goal.returns
returns c =
    let leg = leg_found _ _ _ (ap (option_map (λ (l : Leg). l.number)) (sym c.in_ok-leg.ensures.ok_part) ∙ c.among.ensures) in
    ap (λ l. Ok (record { leg = l; type = get_or c.args.message.now 6 0; kind = kind_of c.in_ok-signal.signal; contents = contents_of c.in_ok-signal.signal })) (leg.1 ∙ c.from.ensures)
    ∙ c.in_ok-signal.ensures
    ∙ whole c.args.legs c.args.message.now _ c.if-not-has_head.ensures (sym c.in_ok-event.ensures)
    (ap (λ q. ltb q c.args.legs && ltb q 64) (sym c.from.ensures) ∙ leg.0) (sym c.from-2.ensures ∙ c.if-from-message.false)
