use Rattle.std.proofs.Common.{◌≡◌, length, take, drop, None}
use Rattle.writer.specs.Written.{Adds}
use Rattle.writer.specs.Items.{written, table_fault}
use Rattle.writer.proofs.Listing.close_with.Given as goal

abbrev pub invariant-loop-item : goal.invariant-loop-item
invariant-loop-item g l =
    (table_fault g.C.Coding.rule l.listing.last l.listing.at (drop l.item-index l.items) (length l.buf) ≡ None)
    × Adds (written (take l.item-index l.items)) l.initial.listing.at l.initial.buf l.listing.at l.buf
