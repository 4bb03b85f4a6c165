use Rattle.std.proofs.Common.{◌≡◌, take}
use Rattle.digits.specs.Dialling.{characters}
use Rattle.digits.specs.Signals.{ended, packed}
use Rattle.digits.proofs.number.Digits.pack.Given as goal

abbrev pub invariant-loop-n : goal.invariant-loop-n
invariant-loop-n l = take l.n l.octet-items ≡ take l.n (packed (ended (characters l.self)))
