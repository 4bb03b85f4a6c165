use Rattle.std.proofs.Common.{take, vec_items, ◌∷◌, [], ◌++◌, sym, ap, ◌∙◌, arith, rules}
use Rattle.std.proofs.lemmas.Grind.{common_steps}
use Rattle.writer.specs.Items.{written}
use Rattle.lists.proofs.Aparts.{one_more, ends}
use Rattle.lists.proofs.take_apart.Goals as goal

pub loop-element-preserved : goal.loop-element-preserved
loop-element-preserved g c =
    let inv = c.loop-element.invariant in
    let s = c.in-Some.ensures.steps in (
      s.0 ∙ inv.0,
      s.1 ∙ inv.1,
      grind (arith, common_steps),
      ap written c.in_ok-push.ensures.items
          ∙ ap (λ x. written (vec_items c.loop-element.items ++ x ∷ [])) c.from.ensures
          ∙ one_more c.loop-element.elements.rule c.loop-element.elements.list.now c.loop-element.elements.place (vec_items c.loop-element.items) inv.3 c.in-Some.element s.2.0
          ∙ (λ i. take (sym s.2.1 i) (sym s.1 i)),
    )

-- By search, and by no name of the call that tells the end: another expression of the same value is proved as well.
pub returns : goal.returns
returns g c =
    let inv = c.loop-element.invariant in
    let s = c.in_default.ensures.steps in
    rw (← inv.0, ← inv.1)
    (ends c.loop-element.elements.rule c.loop-element.elements.list.now c.loop-element.elements.place (vec_items c.loop-element.items) inv.3 s.2.1 _ (search rules) (search rules))
