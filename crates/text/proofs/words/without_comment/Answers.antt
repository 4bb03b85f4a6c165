use Rattle.std.proofs.Common.{ap, ◌∙◌, ◌==◌, take, rules}
use borrow.Author.Tests.{tests}
use Rattle.std.proofs.lemmas.Iterator.{YieldsList-from_slice}
use Rattle.std.proofs.lemmas.Iterator.Search.{position_from_yields_List}
use Rattle.text.proofs.Steps.{found_or_end}
use Rattle.text.proofs.words.without_comment.Goals as goal

pub returns : goal.returns
returns c =
    let line = c.args.line.now in
    let place = position_from_yields_List (λ c. c == 35) _ _ c.position.result c.position.ensures.ran (YieldsList-from_slice line cc) (λ x b q k. search (rules, tests)) in
    ap (λ n. take n line) (c.unwrap_or-n.ensures ∙ found_or_end (λ c. c == 35) line c.position.result place)
