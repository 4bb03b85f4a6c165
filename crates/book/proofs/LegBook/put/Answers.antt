use Rattle.std.proofs.Common.{◌<◌, length, drop, set, refl, ap, ◌∙◌, arith, rules}
use Rattle.book.specs.Legs.{legs_of}
use Rattle.book.proofs.Fills.{within, leg_put, rest_put}
use Rattle.book.proofs.LegBook.put.Goals as goal

pub offset_bounds-self-n : goal.offset_bounds-self-n
offset_bounds-self-n g c =
    let i = within g.S.Signalling.meaning.most c.args.self.now.records.now c.args.leg.number c.requires in
    let h : c.number-n.result < length c.args.self.now.records.now = omega (arith, c.number-n.ensures.is) in
    search rules

pub bounds-self-n : goal.bounds-self-n
bounds-self-n g c =
    let i = within g.S.Signalling.meaning.most c.args.self.now.records.now c.args.leg.number c.requires in
    omega (arith, c.number-n.ensures.is)

pub returns : goal.returns
returns g c =
    let most = g.S.Signalling.meaning.most in
    let xs = c.args.self.now.records.now in
    record {
      legs = ap (λ n. legs_of most (set xs n c.args.next)) c.number-n.ensures.is ∙ leg_put most xs c.args.leg.number c.requires c.args.next;
      rest = ap (λ n. drop most (set xs n c.args.next)) c.number-n.ensures.is ∙ rest_put most xs c.args.leg.number c.requires c.args.next;
      lender = refl;
    }
