use Rattle.std.proofs.Common.{◌-◌, not, length, take, drop, rules, arith}
use Rattle.std.proofs.lemmas.List.{take_rest}
use borrow.Author.Tests.{tests}
use Rattle.std.proofs.lemmas.Grind.{common_steps}
use Rattle.std.proofs.lemmas.Iterator.{YieldsList-from_slice}
use Rattle.std.proofs.lemmas.Iterator.Search.{position_from_yields_List}
use Rattle.text.specs.Parts.{blank}
use Rattle.text.proofs.Steps.{found_or_end}
use Rattle.text.proofs.words.first_word.Goals as goal

pub returns : goal.returns
returns c =
    let line = c.args.line.now in
    let word = take (length line - c.unwrap_or-start.result) (drop c.unwrap_or-start.result line) in
    let start = found_or_end (λ c. not (blank c)) line c.position.result (position_from_yields_List (λ c. not (blank c)) _ _ c.position.result c.position.ensures.ran (YieldsList-from_slice line cc) (λ x b q k. search (rules, tests))) in
    let n = found_or_end blank word c.position-2.result (position_from_yields_List blank _ _ c.position-2.result c.position-2.ensures.ran (YieldsList-from_slice word cc) (λ x b q k. search (rules, tests))) in
    let rest = take_rest line c.unwrap_or-start.result in
    grind (arith, common_steps)
