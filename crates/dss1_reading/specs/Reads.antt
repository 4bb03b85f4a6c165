-- What the readers of parts of a message answer, as the table has it.
-- Rests on the tables of DSS 1 and on what a message says.
use Rattle.std.specs.Prelude.{ℕ, ◌+◌, is_ok, is_some, Some, None, Ok, Err, Option, Result}
use Rattle.std.specs.Option.{option_map}
use Rattle.values.specs.Bearers.{bearer_in}
use Rattle.elements.specs.declared.types.ListFault.{ListFault}
use Rattle.side.specs.declared.kinds.Refusal.{Refusal}
use Rattle.side.specs.declared.kinds.Reason.TheVariants.{Malformed, BadValue}
use Rattle.side.specs.declared.kinds.System.TheVariants.{Dss1}
use Rattle.side.specs.declared.kinds.Layer.TheVariants.{List as InList}
use Rattle.carried.specs.Carried.{bad_at, earlier}
use Rattle.dss1_meaning.specs.Dss1.{Body, refusal, fault_place, number_in, parts_bad}
pub use Rattle.carried.specs.Messages.{signal_as, number_of}

-- what stands against the list of elements
abbrev pub list_fault : Result ℕ ListFault → Option Refusal
list_fault (Ok n) = None
list_fault (Err f) = Some (record { reason = Malformed; place = 4 + fault_place f; system = Dss1; layer = InList })

-- what stands against a setup's bearer, number and parts: the refusal at the smallest place; by refusals, as each is told,
-- and at the place that the table of DSS 1 gives (`setup_fault_is` of proofs/Readings)
abbrev pub setup_fault : Body → Option Refusal
setup_fault b =
    earlier (option_map (refusal BadValue) (bad_at (is_ok (bearer_in b.bearer)) b.bearer_at))
    (earlier (option_map (refusal BadValue) (bad_at (is_some (number_in b.number)) b.number_at)) (option_map (refusal BadValue) (parts_bad b)))
