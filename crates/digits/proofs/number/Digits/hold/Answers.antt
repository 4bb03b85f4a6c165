use Rattle.digits.proofs.Steps.{held_digits, held_padding}
use Rattle.digits.proofs.number.Digits.hold.Goals as goal

pub invariant_of-result-clause-digits : goal.invariant_of-result-clause-digits
invariant_of-result-clause-digits c = held_digits c.args.text.now _ _ c.copy_from_slice.ensures.after c.requires.digits

pub invariant_of-result-clause-padded : goal.invariant_of-result-clause-padded
invariant_of-result-clause-padded c = held_padding c.args.text.now _ 20 c.copy_from_slice.ensures.after c.requires.most
