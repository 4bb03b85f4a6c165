use Rattle.std.proofs.Common.{sym, ◌∙◌, ◌==◌, arith, rules}
use Rattle.std.proofs.lemmas.Bool.Decides.{nat_tests}
use borrow.Author.Tests.{tests}
use Rattle.std.proofs.lemmas.Grind.{common_steps}
use Rattle.std.proofs.lemmas.Iterator.{YieldsList-from_slice}
use Rattle.std.proofs.lemmas.Iterator.Search.{position_from_yields_List}
use Rattle.text.proofs.Steps.{found, to_end}
use Rattle.text.proofs.words.next_line.Goals as goal

pub returns-in-Some : goal.returns-in-Some
returns-in-Some c =
    let text = c.args.text.now in
    let place = position_from_yields_List (λ c. c == 10) _ _ c.position.result c.position.ensures.ran (YieldsList-from_slice text cc) (λ x b q k. search (rules, tests)) in
    let at = found (λ c. c == 10) text c.in-Some.n (sym c.in-Some.is ∙ place) in
    grind (arith, common_steps, nat_tests)

pub returns-in-None : goal.returns-in-None
returns-in-None c =
    let text = c.args.text.now in
    let place = position_from_yields_List (λ c. c == 10) _ _ c.position.result c.position.ensures.ran (YieldsList-from_slice text cc) (λ x b q k. search (rules, tests)) in
    let end = to_end (λ c. c == 10) text (sym c.in-None.is ∙ place) in
    grind (arith, common_steps, nat_tests)
