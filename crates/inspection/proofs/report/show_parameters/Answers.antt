use Rattle.std.proofs.Common.{arith, refl, length, ◌≡◌, true, false, not, is_ok, sym, ap, ◌∙◌}
use Rattle.inspection.proofs.report.show_parameters.Goals as goal
use Rattle.inspection.proofs.report.show_parameters.Goals.{then-broken, else-broken}

pub returns : goal.returns
returns c = record {
  own = length c.in_ok-apart.apart.items.items;
  counts = record {
    items = c.in_ok-apart.apart.items.items;
    end = c.in_ok-apart.apart.end;
    apart = c.in_ok-apart.ensures;
    count = refl;
  };
  least = omega arith;
  broken = λ h. elim c.if-broken.branch [
    | then-broken w ↦ w.result-is ∙ w.if-broken.true
    | else-broken w ↦
        let whole : true ≡ false = sym h ∙ ap (λ end. not (is_ok end)) (sym c.in_ok-apart.ensures.verdict) ∙ sym c.in_ok-broken.ensures ∙ w.if-broken.false in
        cc
  ];
  refused = refl;
}
