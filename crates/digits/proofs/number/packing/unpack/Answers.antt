use Rattle.std.proofs.Common.{◌≡◌, ◌*◌, [], get_or, length, take, map, sym, ap, ◌∙◌, arith}
use Rattle.std.proofs.lemmas.Grind.{common_steps}
use Rattle.std.proofs.lemmas.List.{get_or-map}
use Rattle.digits.specs.Dialling.{dialled}
use Rattle.digits.specs.Signals.{signals_in}
use Rattle.digits.proofs.Packs.{pair_read, halves_filled, used_read, without_read, too_many, undoes_by}
use Rattle.digits.proofs.number.packing.unpack.Goals as goal

pub returns-then-octets-gt-MOST_OCTETS-clause-reads : goal.returns-then-octets-gt-MOST_OCTETS-clause-reads
returns-then-octets-gt-MOST_OCTETS-clause-reads c = too_many c.args.odd c.args.octets.now (omega arith)

pub loop-n-preserved : goal.loop-n-preserved
loop-n-preserved c =
    let here : get_or (map pair_read c.args.octets.now) c.loop-n.n [] ≡ pair_read (get_or c.args.octets.now c.loop-n.n 0) =
    get_or-map pair_read c.args.octets.now c.loop-n.n 0 [] (grind (arith, common_steps))
    in
    grind (arith, common_steps)

pub returns-clause-reads : goal.returns-clause-reads
returns-clause-reads c =
    let octets = c.args.octets.now in
    let long : length c.loop-n.pair-items ≡ length c.args.octets.now = grind (arith, common_steps) in
    let all : c.loop-n.n ≡ length c.args.octets.now = grind (arith, common_steps) in
    let filled = sym (ap (λ k. take k c.loop-n.pair-items) all) ∙ c.loop-n.invariant ∙ ap (λ k. take k (map pair_read octets)) all in
    let halves = ap (take (2 * length octets)) c.as_flattened.ensures.value ∙ halves_filled octets c.loop-n.pair-items _ long filled in
    let used = c.without_spare-text.ensures ∙ used_read c.args.odd octets _ halves in
    c.read.ensures ∙ ap dialled (c.without_end.ensures ∙ without_read (signals_in c.args.odd octets) c.without_spare-text.result.now used)

pub returns-clause-undoes : goal.returns-clause-undoes
returns-clause-undoes c = undoes_by _ c.args.odd c.args.octets.now (returns-clause-reads c)
