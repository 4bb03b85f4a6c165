use Rattle.std.proofs.Common.{length, sym, ◌∙◌}
use Rattle.side.specs.Contents.{five, parts_fault}
use Rattle.side.proofs.Builds.{laid}
use Rattle.side.proofs.parts.Parts.new.Goals as goal

pub returns : goal.returns
returns c =
    let A = c.came-calling.ensures in
    let B = c.came-called.ensures in
    let C = c.came-low.ensures in
    let D = c.came-high.ensures in
    let E = c.came-user.ensures in
    let is = c.in_ok-lengths.ensures.same in (
      sym (λ i. parts_fault (length (A i)) (length (B i)) (length (C i)) (length (D i)) (length (E i))) ∙ c.in_ok-lengths.ensures.fault,
      laid _ _ _ _ _ _ _ _ _ _ _ _ _ _ _ _ c.append-a.ensures c.append-b.ensures c.append-c.ensures c.append-d.ensures c.append.ensures
          _ _ _ _ _ is.0 is.1 is.2 is.3 is.4
          ∙ (λ i. five (A i) (B i) (C i) (D i) (E i)),
    )
