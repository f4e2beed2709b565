use Rattle.std.proofs.Common.{◌≡◌, arith, subst, sym}
use Rattle.std.proofs.lemmas.Result.{on_ok_weaker}
use Rattle.event_journal.specs.declared.event.Event.TheVariants.{Entry}
use Rattle.journal_bytes.specs.Sound.{HasRegs}
use Rattle.journal_bytes.proofs.Writes.{reads_fit}
use Rattle.journal_bytes.proofs.writing.put_event.Goals as goal

pub overflow_cast-len : goal.overflow_cast-len
overflow_cast-len c =
    let is : c.args.event.now ≡ Entry c.in-Entry.cpu c.in-Entry.regs c.in-Entry.steps c.in-Entry.reads = cc in
    let fits = reads_fit c.args.event.now c.in-Entry.cpu c.in-Entry.steps c.in-Entry.regs c.in-Entry.reads is c.requires.each c.requires.few in
    omega (arith, fits, c.len.ensures)

pub returns-in_ok-put_word-in-Entry-2-clause-regs : goal.returns-in_ok-put_word-in-Entry-2-clause-regs
returns-in_ok-put_word-in-Entry-2-clause-regs c =
    let is : c.args.event.now ≡ Entry c.in-Entry.cpu c.in-Entry.regs c.in-Entry.steps c.in-Entry.reads = cc in
    on_ok_weaker c.put_reads.result (λ put. subst HasRegs (sym is) c.in_ok-put_regs-in-Entry.ensures.regs) c.put_reads.ensures
