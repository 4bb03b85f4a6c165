use Rattle.entries.proofs.Tables.{reads_found, reads_whole}
use Rattle.entries.proofs.entries_read_back.Goals as goal

pub returns : goal.returns
returns c = λ rule es a. record { contents = reads_found rule 0 es a; whole = reads_whole rule 0 es a }
