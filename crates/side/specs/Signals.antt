-- What a message says, seen from outside: its kind and its contents as plain lists and numbers.
-- Rests on the values that hold them and on the carried parts.
use Rattle.std.specs.Prelude.{ℕ, ◌%◌, Bool, true, List, [], ◌∷◌, take, Some, None, Ok, Err, Option, Result}
use Rattle.std.specs.Option.{option_map}
use Rattle.values.specs.declared.types.NumberType.{NumberType}
use Rattle.digits.specs.Dialling.{characters}
use Rattle.side.specs.declared.kinds.Kind.{Kind}
use Rattle.side.specs.declared.kinds.Kind.TheVariants as kind
use Rattle.side.specs.declared.kinds.Refusal.{Refusal}
use Rattle.side.specs.declared.contents.Bearer.{Bearer}
use Rattle.side.specs.declared.contents.Cause.{Cause}
use Rattle.side.specs.declared.contents.Progress.{Progress}
use Rattle.side.specs.declared.contents.Signal.{Signal}
use Rattle.side.specs.declared.contents.Signal.TheVariants as said
use Rattle.side.specs.declared.contents.Reading.{Reading}
use Rattle.side.specs.Contents.{Part, parts_of}

abbrev pub bearer_of : Bearer → List ℕ
bearer_of b = take b.count b.octets

abbrev pub cause_of : Cause → ℕ × ℕ
cause_of c = (c.location, c.value)

-- a progress indicator by its first two octets; a shorter one counts as absent
abbrev pub noted : List ℕ → Option (ℕ × ℕ)
noted [] = None
noted (a ∷ []) = None
noted (a ∷ b ∷ rest) = Some (a, b)

-- what it describes: the low seven bits of the second
abbrev pub described : ℕ × ℕ → ℕ
described p = p.1 % 128

abbrev pub progress_of : Progress → ℕ × ℕ
progress_of p = (p.location, p.description)

pub record Contents : Type 0 where
  pub bearer : List ℕ
  pub number : Option (NumberType × List ℕ)
  pub progress : Option (ℕ × ℕ)
  pub cause : Option (ℕ × ℕ)
  pub isdn : Bool
  pub parts : List Part

abbrev pub kind_of : Signal → Kind
kind_of (said.Setup s) = kind.Setup
kind_of (said.Complete p i) = kind.Complete
kind_of (said.Progress p i) = kind.Progress
kind_of (said.Alerting p i ps) = kind.Alerting
kind_of (said.Answer p i ps) = kind.Answer
kind_of said.Quiet = kind.Quiet
kind_of (said.Clear c ps) = kind.Clear
kind_of said.Down = kind.Down

-- contents with nothing in them
abbrev pub empty : Contents
empty = record { bearer = []; number = None; progress = None; cause = None; isdn = true; parts = [] }

abbrev pub contents_of : Signal → Contents
contents_of (said.Setup s) = record { bearer = bearer_of s.bearer; number = Some (s.number.kind, characters s.number.digits); progress = option_map progress_of s.progress; cause = None; isdn = s.isdn; parts = parts_of s.parts }
contents_of (said.Complete p i) = record { bearer = []; number = None; progress = option_map progress_of p; cause = None; isdn = i; parts = [] }
contents_of (said.Progress p i) = record { bearer = []; number = None; progress = Some (progress_of p); cause = None; isdn = i; parts = [] }
contents_of (said.Alerting p i ps) = record { bearer = []; number = None; progress = option_map progress_of p; cause = None; isdn = i; parts = parts_of ps }
contents_of (said.Answer p i ps) = record { bearer = []; number = None; progress = option_map progress_of p; cause = None; isdn = i; parts = parts_of ps }
contents_of said.Quiet = empty
contents_of (said.Clear c ps) = record { bearer = []; number = None; progress = None; cause = Some (cause_of c); isdn = true; parts = parts_of ps }
contents_of said.Down = empty

-- a message as it was read
pub record Heard : Type 0 where
  pub leg : ℕ
  pub type : ℕ
  pub kind : Kind
  pub contents : Contents

abbrev pub heard_of : Reading → Heard
heard_of r = record { leg = r.leg.number; type = r.heard; kind = kind_of r.signal; contents = contents_of r.signal }

abbrev pub read_as : Result Reading Refusal → Result Heard Refusal
read_as (Ok r) = Ok (heard_of r)
read_as (Err e) = Err e
