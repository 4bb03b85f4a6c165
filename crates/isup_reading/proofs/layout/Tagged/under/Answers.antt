use Rattle.std.proofs.Common.{unwrap_or, ap, ◌∙◌, arith}
use Rattle.entries.specs.Codings.{isup}
use Rattle.isup_reading.proofs.Within.{place_or_zero}
use Rattle.isup_reading.proofs.layout.Tagged.under.Goals as goal

pub overflow_add-result : goal.overflow_add-result
overflow_add-result c =
    let e = c.unwrap_or-2.ensures ∙ ap (λ o. unwrap_or o 0) c.find.ensures in
    let i = place_or_zero isup c.args.tag c.args.list.now in
    omega arith
