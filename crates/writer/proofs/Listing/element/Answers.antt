use Rattle.std.proofs.Common.{refl, arith}
use Rattle.std.proofs.lemmas.Grind.{common_steps}
use Rattle.writer.proofs.Puts.{moved, whole}
use Rattle.writer.proofs.Listing.element.Goals as goal

pub returns : goal.returns
returns g c = (
  record {
    fine = grind (arith, common_steps);
    adds = rw (c.put_head.ensures) (moved refl (grind (arith, common_steps)) (whole c.args.buf.now c.args.contents.now _ c.args.self.at c.args.tag (grind (arith, common_steps)) c.copy_from_slice.ensures.after));
  },
  grind (arith, common_steps),
)
