use borrow.Author.Tests.{tests}
use Rattle.std.proofs.Common.{◌∙◌, not, rules}
use Rattle.std.proofs.lemmas.Iterator.{YieldsList-from_slice}
use Rattle.std.proofs.lemmas.Iterator.Search.{position_from_yields_List}
use Rattle.std.proofs.lemmas.Iterator.Adapters.{position_from-zero}
use Rattle.digits.specs.Dialling.{digit_char}
use Rattle.digits.proofs.Steps.{stray_is}
use Rattle.digits.proofs.number.reading.first_stray.Goals as goal

pub returns : goal.returns
returns c =
    let text = c.args.text.now in
    position_from_yields_List (λ c. not (digit_char c)) _ _ c.position.result c.position.ensures.ran (YieldsList-from_slice text cc) (λ x b q k. search (rules, tests))
    ∙ position_from-zero (λ c. not (digit_char c)) text
    ∙ stray_is 0 text
