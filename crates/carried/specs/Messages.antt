-- What a message says, whatever the system, and what the readers hold of it.
-- Rests on the kinds, on contents seen from outside and on what a number dials.
use Rattle.std.specs.Prelude.{ℕ, Bool, List, length, Some, None, Ok, Err, Option, Result, nat_lt}
use Rattle.values.specs.declared.types.NumberType.{NumberType}
use Rattle.digits.specs.declared.types.DigitFault.{DigitFault}
use Rattle.digits.specs.Dialling.{characters}
use Rattle.side.specs.declared.kinds.Kind.{Kind}
use Rattle.side.specs.declared.kinds.Refusal.{Refusal}
use Rattle.side.specs.declared.contents.Number.{Number}
use Rattle.side.specs.declared.contents.Signal.{Signal}
use Rattle.side.specs.Signals.{Contents, kind_of, contents_of}

-- what a message says
pub record Said : Type 0 where
  pub kind : Kind
  pub contents : Contents

-- a signal as what a message says
abbrev pub signal_as : Result Signal Refusal → Result Said Refusal
signal_as (Ok s) = Ok (record { kind = kind_of s; contents = contents_of s })
signal_as (Err e) = Err e

-- a number from its type and what its digits are
abbrev pub numbered : Option NumberType → Result (List ℕ) DigitFault → Option (NumberType × List ℕ)
numbered None r = None
numbered (Some t) (Err f) = None
numbered (Some t) (Ok d) = Some (t, d)

-- a called number as its type and its digits
abbrev pub number_of : Number → NumberType × List ℕ
number_of n = (n.kind, characters n.digits)

-- contents that are not empty
abbrev pub there : List ℕ → Bool
there contents = nat_lt 0 (length contents)
