use Rattle.std.proofs.Common.{◌%◌, eqb, sym, ap, ◌∙◌}
use Rattle.std.proofs.lemmas.Result.{err_from_is_err_and}
use Rattle.isup_reading.specs.Reads.{body_of}
use Rattle.isup_reading.proofs.Setups.{setup_refused, setup_says_this}
use Rattle.isup_reading.proofs.layout.Body.setup.Goals as goal

pub returns-in_err-medium : goal.returns-in_err-medium
returns-in_err-medium c =
    let p = err_from_is_err_and c.from_residual.result c.from_residual.ensures.1 in
    rw (p.1, p.2)
    (setup_refused (body_of c.args.self) c.medium.result c.number.result c.bearer.result c.parts.result c.both.result c.both-2.result
    c.both.ensures c.both-2.ensures c.if-self-lt2.false c.medium.ensures.bad c.number.ensures.bad c.bearer.ensures.bad c.parts.ensures.bad
    _ (sym c.in_err-medium.was ∙ c.both-3.ensures))

pub returns : goal.returns
returns c =
    setup_says_this (body_of c.args.self) c.medium.result c.number.result c.bearer.result c.parts.result c.both.result c.both-2.result
    c.both.ensures c.both-2.ensures c.if-self-lt2.false c.medium.ensures.bad c.number.ensures.bad c.bearer.ensures.bad c.parts.ensures.bad
    c.medium.ensures.value c.number.ensures.value c.bearer.ensures.value c.parts.ensures.value _ (sym c.in_ok-medium.was ∙ c.both-3.ensures)
    _ _ _ c.unwrap_or.ensures c.progress.ensures (ap (λ n. eqb (n % 2) 1) c.octet.ensures)
