-- What lines send and are told, by the octets of their messages.
-- Rests on the kinds and on the two enumerations.
use Rattle.std.specs.Prelude.{ℕ}
use Rattle.side.specs.declared.kinds.Kind.{Kind}
use Rattle.side.specs.declared.kinds.Kind.TheVariants as kind
use Rattle.line.specs.declared.reading.Sent.{Sent}
use Rattle.line.specs.declared.reading.Sent.TheVariants as sent
use Rattle.line.specs.declared.telling.Told.{Told}
use Rattle.line.specs.declared.telling.Told.TheVariants.{Setup, Alerting, Answer, Clear}

-- the kind of what a line sends
abbrev pub kind_sent : Sent → Kind
kind_sent sent.Setup = kind.Setup
kind_sent sent.Alerting = kind.Alerting
kind_sent sent.Answer = kind.Answer
kind_sent sent.Clear = kind.Clear

-- the octet of what a line is told
abbrev pub told_octet : Told → ℕ
told_octet Setup = 0x11
told_octet Alerting = 0x12
told_octet Answer = 0x13
told_octet Clear = 0x14
