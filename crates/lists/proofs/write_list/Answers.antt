use Rattle.std.proofs.Common.{length, sym, ap, ◌∙◌}
use Rattle.writer.proofs.Puts.{moved}
use Rattle.writer.specs.Items.{table_fault}
use Rattle.lists.proofs.Backs.{reads_back}
use Rattle.lists.proofs.write_list.Goals as goal

pub returns : goal.returns
returns g c =
    let p = c.in_ok-closed.ensures in
    let l = c.list.ensures in
    let fine = sym (ap (λ k. table_fault g.C.Coding.rule k c.list.result.at c.args.items.now (length c.args.buf.now)) l.1 ∙ ap (λ k. table_fault g.C.Coding.rule 0 k c.args.items.now (length c.args.buf.now)) (l.0 ∙ c.begin.ensures)) ∙ p.fine in
    let adds = moved (l.0 ∙ c.begin.ensures) (sym c.length.ensures) p.adds in
    record { wrote = record { fine = fine; adds = adds }; reads = reads_back g.C.Coding.rule (length c.args.buf.now) c.args.items.now c.args.buf.now _ _ fine adds }
