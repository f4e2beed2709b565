use Rattle.std.proofs.Common.{List, sym, subst, rules}
use Rattle.std.specs.Prelude.{All}
use Rattle.event_journal.specs.declared.event.Event.{Event}
use Rattle.ta_isa.specs.declared.boot.App.{App}
use Rattle.trace_bin.specs.Spelling.{IsIdentified}
use Rattle.journal_bytes.specs.Sound.{AreSoundReads, HasRegs}
use Rattle.journal_bytes.proofs.Writes.{all_reads_sound}
use Rattle.journal_bytes.proofs.Written.{spelled_back}
use Rattle.journal_bytes.proofs.writing.write_journal.Goals as goal

pub put_events-requires-clause-each : goal.put_events-requires-clause-each
put_events-requires-clause-each c =
    let A : List Event → Type 0 = λ events. All AreSoundReads events in
    subst A (sym c.as_slice-events.ensures) (all_reads_sound c.args.boot.now.cpus c.args.journal.now.events c.requires.journal.each)

pub returns-clause-spelled : goal.returns-clause-spelled
returns-clause-spelled c =
    let boot = c.args.boot.now in
    let events = c.args.journal.now.events in
    let A : List App → Type 0 = λ apps. All IsIdentified apps in
    let R : List Event → Type 0 = λ events. All HasRegs events in
    spelled_back boot events _ (search rules) c.has_key.ensures (subst A c.as_slice-apps.ensures c.are_identified.ensures) c.requires.journal
    (subst R c.as_slice-events.ensures c.in_ok-put_events.ensures.regs)
