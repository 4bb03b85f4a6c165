use Rattle.std.proofs.lemmas.Result.{err_from_is_err_and}
use Rattle.dss1_meaning.specs.Dss1.{body_in}
use Rattle.dss1_reading.proofs.Readings.{filled, setup_refused, setup_said}
use Rattle.dss1_reading.proofs.list.Body.setup.Goals as goal

pub returns-in_err-bearer : goal.returns-in_err-bearer
returns-in_err-bearer c =
    let b = body_in c.args.self.octets.now in
    let p = err_from_is_err_and c.from_residual.result c.from_residual.ensures.1 in
    let bearer = filled c.found.result.now b.bearer c.if-is_empty.ensures c.found.ensures in
    let number = filled c.found-else-is_empty.result.now b.number c.if-is_empty-2.ensures c.found-else-is_empty.ensures in
    rw (p.1, p.2)
    (setup_refused b bearer number c.setup_values.result c.setup_values.ensures.bad c.in_err-bearer.field-0.0 c.in_err-bearer.was)

pub returns : goal.returns
returns c =
    let b = body_in c.args.self.octets.now in
    let bearer = filled c.found.result.now b.bearer c.if-is_empty.ensures c.found.ensures in
    let number = filled c.found-else-is_empty.result.now b.number c.if-is_empty-2.ensures c.found-else-is_empty.ensures in
    setup_said b bearer number c.setup_values.result c.setup_values.ensures.bad c.setup_values.ensures.are
    (c.in_ok-bearer.bearer, (c.in_ok-bearer.number, c.in_ok-bearer.parts)) c.in_ok-bearer.was _ c.progress.ensures
