use Rattle.std.proofs.Common.{refl, subst, arith}
use Rattle.std.proofs.lemmas.Grind.{common_steps}
use Rattle.writer.specs.Written.{Adds}
use Rattle.writer.proofs.Puts.{then}
use Rattle.writer.proofs.Tables.{one_more}
use Rattle.writer.proofs.Listing.close_with.Goals as goal

pub loop-item-preserved : goal.loop-item-preserved
loop-item-preserved g c = (
  grind (arith, common_steps),
  subst (λ ys. Adds ys c.from_parts-listing.result.at c.args.buf.now c.in_ok-listing.listing.at c.item.new.buf)
      (one_more c.args.items.now c.loop-item.item-index _ c.loop-item-test.true)
      (then c.loop-item.invariant.1 refl c.in_ok-listing.ensures.0.adds),
)
