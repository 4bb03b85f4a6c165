use Rattle.std.proofs.Common.{length, take, ap, ◌∙◌}
use Rattle.std.proofs.lemmas.Slice.Eq.{slice_eq-Decides}
use Rattle.inspection.proofs.rewrite.same.Goals as goal
use Rattle.std.proofs.lemmas.Bool.Decides.{Decides-eqb}

pub returns-then-written-count : goal.returns-then-written-count
returns-then-written-count c t =
    (slice_eq-Decides Decides-eqb c.args.written.now (take (length c.args.written.now) c.args.octets.now) c.starts_with.result c.starts_with.ensures.value).0 t
    ∙ ap (λ k. take k c.args.octets.now) c.if-written-count.true
