use Rattle.std.proofs.Common.{refl}
use Rattle.worked.proofs.worked_messages.Goals as goal

pub returns : goal.returns
returns c = record {
  setup_out = refl;
  setup_leg = refl;
  setup_in = refl;
  iam_leg = refl;
  rings = refl;
  rings_analogue = refl;
  released = λ p q. (refl, refl);
  answered = λ p. (refl, refl);
  answer_leg = refl;
  ended = λ q. refl;
  end_leg = refl;
  dialled_out = refl;
}
