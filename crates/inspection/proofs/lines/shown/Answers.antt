use Rattle.std.proofs.Common.{sym, arith}
use Rattle.std.proofs.lemmas.List.{take_all, length-take-le}
use Rattle.inspection.proofs.lines.shown.Goals as goal

pub slice_bounds-result-end : goal.slice_bounds-result-end
slice_bounds-result-end c = sym (length-take-le 32 c.args.word.now (omega arith))

pub returns-else-word-gt-MOST_SHOWN : goal.returns-else-word-gt-MOST_SHOWN
returns-else-word-gt-MOST_SHOWN c = sym (take_all 32 c.args.word.now (omega arith))
