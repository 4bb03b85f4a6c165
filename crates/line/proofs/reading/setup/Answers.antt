use Rattle.std.proofs.Common.{false, Some, None, Err, ap, ◌∙◌}
use Rattle.values.specs.declared.types.NumberType.TheVariants.{Unknown}
use Rattle.side.specs.declared.kinds.Kind.TheVariants as kind
use Rattle.digits.specs.Dialling.{characters}
use Rattle.line_meaning.specs.Lines.{heard_as, refusal}
use Rattle.line.proofs.Places.{place_fits, setup_read_from}
use Rattle.side.specs.declared.kinds.Reason.TheVariants.{BadValue}
use Rattle.line.proofs.reading.setup.Goals as goal

pub digit_place-requires : goal.digit_place-requires
digit_place-requires c = place_fits c.args.message.now c.in-Err.fault c.in-Err.ensures

pub returns-in-Ok : goal.returns-in-Ok
returns-in-Ok c =
    (λ i. heard_as c.args.message.now kind.Setup (record { bearer = c.audio.ensures i; number = Some (Unknown, characters c.in-Ok.digits); progress = None; cause = None; isdn = false; parts = c.none.ensures i }))
    ∙ setup_read_from c.args.message.now _ c.in-Ok.ensures

pub returns-in-Err : goal.returns-in-Err
returns-in-Err c = ap Err (c.refuses.ensures ∙ ap (refusal BadValue) c.digit_place.ensures) ∙ setup_read_from c.args.message.now _ c.in-Err.ensures
