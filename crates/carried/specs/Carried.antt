-- Progress and the carried parts in a list of DSS 1 elements, where values outside their rule are refused, and the
-- bearer of a told setup. Rests on the reader's definitions, on the limits of parts, on which bearers are served and on
-- contents seen from outside.
use Rattle.std.specs.Prelude.{ℕ, ◌+◌, Bool, cond, ◌||◌, List, [], ◌∷◌, length, Some, None, Ok, Err, Option, Result, ◌==◌, nat_le}
use Rattle.values.specs.declared.types.Capability.{Capability}
use Rattle.values.specs.declared.types.BearerFault.{BearerFault}
use Rattle.values.specs.Bearers.{bearer_in}
use Rattle.elements.specs.declared.types.EndRule.{EndRule}
use Rattle.elements.specs.Elements.{place_of}
use Rattle.entries.specs.Codings.{dss1}
use Rattle.entries.specs.Entries.{found}
use Rattle.side.specs.declared.kinds.Refusal.{Refusal}
use Rattle.side.specs.declared.kinds.PartsFault.{PartsFault}
use Rattle.side.specs.declared.kinds.PartsFault.TheVariants.{TotalOver, UserUserOver}
use Rattle.side.specs.Contents.{Part, five, parts_fault}
use Rattle.side.specs.Signals.{noted}

-- the contents of the five parts; an empty one is not there
pub record Five : Type 0 where
  pub calling : List ℕ
  pub called : List ℕ
  pub low : List ℕ
  pub high : List ℕ
  pub user : List ℕ

-- subaddresses and compatibilities are in a list of DSS 1 elements; user-user is found by each system in its own place
abbrev pub five_in : List ℕ → List ℕ → Five
five_in list user = record { calling = found dss1 0x6D list; called = found dss1 0x71 list; low = found dss1 0x7C list; high = found dss1 0x7D list; user = user }

abbrev pub parts_of : Five → List Part
parts_of f = five f.calling f.called f.low f.high f.user

-- what stands against them
abbrev pub fault_of : Five → Option PartsFault
fault_of f = parts_fault (length f.calling) (length f.called) (length f.low) (length f.high) (length f.user)

-- progress in a list of DSS 1 elements
abbrev pub progress_in : List ℕ → Option (ℕ × ℕ)
progress_in list = noted (found dss1 0x1E list)

-- the tags of the carried parts
abbrev pub is_part : ℕ → Bool
is_part t = t == 0x6D || (t == 0x71 || (t == 0x7C || (t == 0x7D || t == 0x7E)))

-- the contents of the part with a tag; none is an empty list
abbrev pub part_at : ℕ → List Part → List ℕ
part_at t [] = []
part_at t (p ∷ ps) = cond (p.tag == t) p.contents (part_at t ps)

-- the contents of the five parts by their tags
abbrev pub five_at : List Part → Five
five_at ps = record { calling = part_at 0x6D ps; called = part_at 0x71 ps; low = part_at 0x7C ps; high = part_at 0x7D ps; user = part_at 0x7E ps }

-- progress as the two octets that are written, or none
abbrev pub progress_octets : Option (ℕ × ℕ) → List ℕ
progress_octets None = []
progress_octets (Some p) = p.0 ∷ p.1 ∷ []

-- a cause as the two octets that are written: 80 + location, 80 + value
abbrev pub cause_octets : Option (ℕ × ℕ) → List ℕ
cause_octets None = []
cause_octets (Some c) = (0x80 + c.0) ∷ (0x80 + c.1) ∷ []

-- a bearer where it is served, else 3.1 kHz audio
abbrev pub served_or : Result Capability BearerFault → List ℕ → List ℕ
served_or (Ok capability) bearer = bearer
served_or (Err fault) bearer = 0x90 ∷ 0x90 ∷ 0xA3 ∷ []

-- the bearer that a told setup asks for: its own. The code can hold no setup whose bearer is not served, but the tables
-- answer for all contents
abbrev pub told_bearer : List ℕ → List ℕ
told_bearer bearer = served_or (bearer_in bearer) bearer

-- the place of a tag that is there, in a list that begins at a place of the message
abbrev pub or_zero : Option ℕ → ℕ
or_zero None = 0
or_zero (Some p) = p

abbrev pub tag_place : EndRule → ℕ → ℕ → List ℕ → ℕ
tag_place rule start t list = start + or_zero (place_of rule t list)

-- a value outside its rule is refused at a place
abbrev pub bad_at : Bool → ℕ → Option ℕ
bad_at good place = cond good None (Some place)

-- too many octets together are refused at place 0, too much user-user at its tag
abbrev pub parts_bad_at : Option PartsFault → ℕ → Option ℕ
parts_bad_at None place = None
parts_bad_at (Some TotalOver) place = Some 0
parts_bad_at (Some UserUserOver) place = Some place

-- of two places the smaller
abbrev pub sooner : Option ℕ → Option ℕ → Option ℕ
sooner None b = b
sooner (Some a) None = Some a
sooner (Some a) (Some b) = Some (cond (nat_le a b) a b)

-- of two refusals the one at the smaller place, the first of two at one place
abbrev pub first_of : Refusal → Refusal → Refusal
first_of a b = cond (nat_le a.place b.place) a b

-- the same where something may stand against each of two things
abbrev pub earlier : Option Refusal → Option Refusal → Option Refusal
earlier None b = b
earlier (Some a) None = Some a
earlier (Some a) (Some b) = Some (first_of a b)

-- both values, or the refusal at the smaller place
abbrev pub both : {A B : Type 0} → Result A Refusal → Result B Refusal → Result (A × B) Refusal
both (Ok a) (Ok b) = Ok (a, b)
both (Ok a) (Err f) = Err f
both (Err e) (Ok b) = Err e
both (Err e) (Err f) = Err (first_of e f)

-- what stands against a value
abbrev pub refused : {A : Type 0} → Result A Refusal → Option Refusal
refused (Ok a) = None
refused (Err e) = Some e
