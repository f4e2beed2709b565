-- The entry is prepared, and its reads are compared.
use Rattle.std.proofs.Common.{sym, ◌∙◌}
use Rattle.core_at_work.proofs.Kept.{with_room}
use Rattle.journal_replay.proofs.Entered.{never_full, of_one_ram, same_reads}
use Rattle.journal_replay.proofs.replay.Replay.prepare.Goals as goal

pub invariant_of-self : goal.invariant_of-self
invariant_of-self c =
    let old = c.args.self.now in
    record { kept = (with_room old.at_work.core c.prepare.new.self.core c.prepare.ensures.room).terms ∙ old.kept }

pub returns-then-are_same_reads-clause-prepares : goal.returns-then-are_same_reads-clause-prepares
returns-then-are_same_reads-clause-prepares c = record {
  is = c.in-Ok.ensures.prepares;
  reads_so = sym c.as_slice.ensures ∙ c.are_same_reads.ensures.0 c.if-are_same_reads.true;
}

pub returns-else-are_same_reads-clause-prepares : goal.returns-else-are_same_reads-clause-prepares
returns-else-are_same_reads-clause-prepares c can =
    let old = c.args.self.now in
    let visitor = c.args.visitor.now in
    let reads = c.args.reads.now in
    let same = same_reads old visitor reads can old.lane (c.requires.laid (of_one_ram old visitor reads can)) c.prepare.new.self.core c.in-Ok.prepared
    c.prepare.ensures.room c.in-Ok.ensures.prepares in
    let yes = c.are_same_reads.ensures.1 (c.as_slice.ensures ∙ same) in
    absurd cc

pub returns-in-Err-Full-clause-prepares : goal.returns-in-Err-Full-clause-prepares
returns-in-Err-Full-clause-prepares c can =
    let old = c.args.self.now in
    let visitor = c.args.visitor.now in
    let reads = c.args.reads.now in
    never_full old visitor reads can old.lane (c.requires.laid (of_one_ram old visitor reads can)) c.in-Err-Full.field-0-0
    c.in-Err-Full.field-0-1 c.requires.few (rw c.in-Err-Full.field-0-is at c.in-Err-Full.ensures.prepares).1
