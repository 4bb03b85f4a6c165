use Rattle.std.proofs.Common.{◌%◌, length, sym, ap, ◌∙◌, arith, length-append, length-drop}
use Rattle.std.proofs.lemmas.List.{take_at}
use Rattle.side.proofs.Builds.{bearer_size, bearer_code, first_of}
use Rattle.side.proofs.contents.Bearer.read.Goals as goal

pub invariant_of-result : goal.invariant_of-result
invariant_of-result c =
    let ok = c.in_ok-capability.ensures in
    let size = bearer_size c.args.contents.now c.in_ok-capability.capability (sym ok) in
    let copy = c.copy_from_slice.ensures.after in record {
      room = simp (length-append, length-drop) (omega (arith, ap length copy, size.1));
      least = size.0;
      most = size.1;
      served = ap (λ n. n % 32) (first_of c.args.contents.now _ _ copy (omega arith)) ∙ bearer_code c.args.contents.now c.in_ok-capability.capability (sym ok);
    }

pub returns : goal.returns
returns c = take_at c.copy_from_slice.new.self _ _ (ap length c.copy_from_slice.ensures.after) ∙ c.copy_from_slice.ensures.after
