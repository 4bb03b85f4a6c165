use Rattle.std.proofs.Common.{◌≡◌, ◌∷◌, length, vec_items, ap, ◌∙◌, arith, length-drop}
use Rattle.std.proofs.lemmas.List.{take_rest}
use Rattle.text.proofs.Steps.{octet_more}
use Rattle.text.proofs.hex.read_octets.Goals as goal

pub loop-first-preserved : goal.loop-first-preserved
loop-first-preserved c =
    let after = c.in-Some.after.now in
    let octet = c.in_ok-octet_of in
    let split : c.loop-first.rest.now ≡ c.in-Some.first.now ∷ c.in-Some.after.now = c.in-Some.ensures.cases.0 in
    let so_far = rw split at c.loop-first.invariant in
    rw (take_rest after 1, c.in_ok-push.ensures.items) (
      omega (arith, ap length split, length-drop 1 after),
      octet_more (length c.args.text.now) (vec_items c.loop-first.octets) c.in-Some.first.now after octet.field-0 so_far.0 c.if-is_blank.ensures (rw split at octet.ensures.octet) octet.ensures.within
          ∙ so_far.1,
    )
