use Rattle.std.proofs.Common.{Err, sym, ap, ◌∙◌, arith}
use Rattle.entries.specs.Codings.{isup}
use Rattle.elements.specs.declared.types.ListFault.TheVariants.{BreaksOff}
use Rattle.carried.proofs.Places.{fault_within}
use Rattle.isup_reading.proofs.message.Pointer.check_list.Goals as goal

pub overflow_add-place : goal.overflow_add-place
overflow_add-place c =
    let i = fault_within isup c.rest.result.now (BreaksOff c.in-Err-BreaksOff.place) (sym c.check.ensures ∙ c.in-Err-BreaksOff.is ∙ ap Err c.in-Err-BreaksOff.field-0-is) in
    omega arith
