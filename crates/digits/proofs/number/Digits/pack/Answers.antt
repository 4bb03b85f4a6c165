use Rattle.std.proofs.Common.{◌+◌, ◌*◌, ◌∙◌, arith}
use Rattle.std.proofs.lemmas.Grind.{common_steps}
use Rattle.digits.specs.Dialling.{characters}
use Rattle.digits.specs.Signals.{ended}
use Rattle.digits.proofs.Packs.{packed_at, signal_at_is}
use Rattle.digits.proofs.number.Digits.pack.Goals as goal

pub loop-n-preserved : goal.loop-n-preserved
loop-n-preserved c =
    let d = c.args.self.now in
    let n = c.loop-n.n in
    let first = c.signal.ensures.signal ∙ signal_at_is d (2 * n) in
    let second = c.signal-in-loop-n.ensures.signal ∙ signal_at_is d (2 * n + 1) in
    let octet = packed_at (ended (characters d)) n in
    grind (arith, common_steps)
