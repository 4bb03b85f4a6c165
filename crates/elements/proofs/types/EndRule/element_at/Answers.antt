use Rattle.std.proofs.Common.{◌<◌, length, refl, arith}
use Rattle.std.proofs.lemmas.Grind.{common_steps}
use Rattle.elements.proofs.Stands.{single_stands, element_stands}
use Rattle.elements.proofs.types.EndRule.element_at.Goals as goal
use Rattle.elements.proofs.types.EndRule.element_at.Goals.{in-Single, in-Element}

pub returns : goal.returns
returns c =
    elim c.match-look.branch [
      | in-Single w ↦ rw w.behind-is (single_stands c.args.self c.args.list.now c.args.place w.in-Single.ensures.within w.in-Single.ensures.seen, refl)
      | in-Element w ↦
          let fits = w.in-Element.ensures.within in
          let here : c.args.place < length c.args.list.now = omega (arith, fits) in
          let n = w.in-Element.n in
          rw w.behind-is (
            element_stands c.args.self c.args.list.now c.args.place here n fits w.in-Element.ensures.seen _ refl,
            grind (arith, common_steps),
          )
    ]
