use Rattle.std.proofs.Common.{◌≡◌, ◌+◌, length, drop}
use Rattle.writer.specs.Items.{written, table_fault}
use Rattle.writer.proofs.standing.Standing.table.Given as goal

abbrev pub invariant-loop-item : goal.invariant-loop-item
invariant-loop-item l =
    (table_fault l.standing.rule l.standing.last l.standing.at (drop l.item-index l.items) l.standing.size ≡ table_fault l.initial.standing.rule l.initial.standing.last l.initial.standing.at l.items l.initial.standing.size)
    × (l.standing.at + length (written (drop l.item-index l.items)) ≡ l.initial.standing.at + length (written l.items))
    × (l.standing.rule ≡ l.initial.standing.rule)
    × (l.standing.size ≡ l.initial.standing.size)
