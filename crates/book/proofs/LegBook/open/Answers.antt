use Rattle.std.proofs.Common.{◌≡◌, min, length, refl, arith, rules}
use Rattle.book.proofs.Fills.{all_same, filled_front}
use Rattle.book.proofs.LegBook.open.Goals as goal

pub returns : goal.returns
returns g c =
    let M = g.S.Signalling.meaning in
    let h = c.fill_with.ensures.ran in
    let n : c.min-n.result ≡ min M.most (length c.args.records.now) = omega (arith, c.min-n.ensures, c.leg_limit.ensures) in
    record {
      records = filled_front c.min-n.result M.most c.args.records.now c.fill_with.new.self M.blank n c.fill_with.ensures.len
          (all_same _ M.blank (λ p x q s. search rules) _ _ _ h.1);
      lender = refl;
    }
