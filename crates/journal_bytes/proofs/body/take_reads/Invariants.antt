use Rattle.std.proofs.Common.{◌≡◌}
use Rattle.journal_bytes.specs.Record.{reads_at}
use Rattle.journal_bytes.proofs.Listing.{behind_done}
use Rattle.journal_bytes.proofs.body.take_reads.Given as goal

abbrev pub invariant-reads : goal.invariant-reads
invariant-reads l = reads_at l.count l.bytes ≡ behind_done l.reads.items (reads_at l.left l.rest)

abbrev pub decreases-reads : goal.decreases-reads
decreases-reads l = l.left
