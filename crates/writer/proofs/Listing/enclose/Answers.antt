use Rattle.std.proofs.Common.{refl, arith}
use Rattle.std.proofs.lemmas.Grind.{common_steps}
use Rattle.writer.proofs.Puts.{moved, headed}
use Rattle.writer.proofs.Listing.enclose.Goals as goal

pub returns : goal.returns
returns g c = (
  record {
    fine = grind (arith, common_steps);
    adds = rw (c.put_head.ensures) (moved refl (grind (arith, common_steps)) (headed c.args.buf.now c.args.self.at c.args.tag c.args.nested.length (grind (arith, common_steps))));
  },
  grind (arith, common_steps),
)
