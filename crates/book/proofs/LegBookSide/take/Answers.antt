use Rattle.std.proofs.Common.{refl}
use Rattle.std.proofs.lemmas.Result.{err_from_is_err_and}
use Rattle.side.specs.Signals.{heard_of}
use Rattle.book.specs.Legs.{legs_of}
use Rattle.book.proofs.Settles.{taking, has, leg_balks, leg_settles, lacks}
use Rattle.book.proofs.LegBookSide.take.Goals as goal

pub put-requires : goal.put-requires
put-requires g c =
    let M = g.S.Signalling.meaning in
    has M (legs_of M.most c.args.self.now.records.now) (taking M (heard_of c.args.reading.now)) c.args.reply.now _ c.get.ensures _ c.in_ok-record.ensures.ok_part

pub returns-in_err-record : goal.returns-in_err-record
returns-in_err-record g c =
    let M = g.S.Signalling.meaning in
    let p = err_from_is_err_and c.from_residual.result c.from_residual.ensures.1 in
    rw (p.1, p.2) (record {
      did = lacks M (legs_of M.most c.args.self.now.records.now) (taking M (heard_of c.args.reading.now)) c.args.reply.now _ c.get.ensures _ _ _ c.in_err-record.ensures.value c.no_row.ensures c.system.ensures;
      beyond = refl;
      lender = refl;
    })

pub returns-in_err-next : goal.returns-in_err-next
returns-in_err-next g c =
    let M = g.S.Signalling.meaning in
    let p = err_from_is_err_and c.from_residual-in_err-next.result c.from_residual-in_err-next.ensures.1 in
    rw (p.1, p.2) (record {
      did = leg_balks M (legs_of M.most c.args.self.now.records.now) (taking M (heard_of c.args.reading.now)) c.args.reply.now _ c.get.ensures _ _ _ c.in_ok-record.ensures.ok_part c.in_err-next.ensures;
      beyond = refl;
      lender = refl;
    })

pub returns : goal.returns
returns g c =
    let M = g.S.Signalling.meaning in
    record {
      did = leg_settles M (legs_of M.most c.args.self.now.records.now) (taking M (heard_of c.args.reading.now)) c.args.reply.now _ c.get.ensures _ _ _ _ _ c.in_ok-record.ensures.ok_part c.in_ok-next.ensures c.put.ensures.legs;
      beyond = c.put.ensures.rest;
      lender = c.put.ensures.lender;
    }
