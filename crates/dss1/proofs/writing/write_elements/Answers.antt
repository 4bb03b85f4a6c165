use Rattle.std.proofs.Common.{[], ◌∷◌}
use Rattle.dss1.proofs.Writings.{elements_step}
use Rattle.dss1.proofs.writing.write_elements.Goals as goal

pub returns : goal.returns
returns c =
    elements_step c.args.fields.now
    c.as_octets.result c.as_octets-2.result c.as_octets-3.result c.calling.result c.as_octets-4.result c.called.result c.low.result c.high.result c.user_user.result
    c.as_octets.ensures.are c.as_octets-2.ensures.are c.as_octets-3.ensures.are c.calling.ensures c.as_octets-4.ensures.are c.called.ensures c.low.ensures c.high.ensures c.user_user.ensures
    (c.entry.result ∷ c.entry-2.result ∷ c.entry-3.result ∷ c.entry-4.result ∷ c.entry-5.result ∷ c.entry-6.result ∷ c.entry-7.result ∷ c.entry-8.result ∷ c.entry-9.result ∷ [])
    (λ i. c.entry.ensures i ∷ c.entry-2.ensures i ∷ c.entry-3.ensures i ∷ c.entry-4.ensures i ∷ c.entry-5.ensures i ∷ c.entry-6.ensures i ∷ c.entry-7.ensures i ∷ c.entry-8.ensures i ∷ c.entry-9.ensures i ∷ [])
    c.list.result.last c.list.result.at c.args.front.at c.args.out.now c.close_with.new.buf c.close_with.result c.list.ensures.1 c.list.ensures.0 c.close_with.ensures
