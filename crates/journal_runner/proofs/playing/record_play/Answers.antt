-- The journal of the player at the end of its trace is that of the trace's play.
use Rattle.std.proofs.Common.{Some, sym, ap, subst, ◌∙◌}
use Rattle.kernel_state.specs.declared.terms.Terms.{Terms}
use Rattle.native_tas.specs.Table.{entries}
use Rattle.ta_isa.specs.Boots.{IsBoot}
use Rattle.trace_player.specs.Starting.{trace_of, uuids_of}
use Rattle.trace_player.proofs.Playable.{at-start}
use Rattle.trace_text.specs.Sound.{IsSoundBoot}
use Rattle.journal_runner.proofs.Journaled.{journal_is, sound_journal, spelled_is, status_is}
use Rattle.journal_runner.proofs.playing.record_play.Goals as goal

pub play_items-requires : goal.play_items-requires
play_items-requires g c = (
  entries c.args.natives.now,
  trace_of c.args.boot c.args.fills.now c.args.items.now,
  at-start _ _ _ _ c.in_ok-player.player c.requires c.in_ok-player.ensures.boots c.in_ok-player.ensures.stands,
)

-- its core was booted to keep its events
pub journal-requires : goal.journal-requires
journal-requires g c = ap (λ (terms : Terms). terms.keeps) (c.play_items.ensures.terms ∙ c.in_ok-player.ensures.terms)

pub write_journal-requires-clause-boot : goal.write_journal-requires-clause-boot
write_journal-requires-clause-boot g c = subst IsBoot (sym c.in_ok-header.ensures.cases) c.requires.boot.boots

pub write_journal-requires-clause-journal : goal.write_journal-requires-clause-journal
write_journal-requires-clause-journal g c =
    let natives = entries c.args.natives.now in
    let trace = trace_of c.args.boot c.args.fills.now c.args.items.now in
    let start = at-start _ _ _ _ c.in_ok-player.player c.requires c.in_ok-player.ensures.boots c.in_ok-player.ensures.stands in
    sound_journal natives trace c.play_items.new.player c.in_ok-status.status (c.in_ok-status.ensures.end natives trace start)
    c.in_ok-header.header (ap Some (sym c.in_ok-header.ensures.cases)) _ c.journal.ensures
    (c.play_items.ensures.terms ∙ c.in_ok-player.ensures.terms) c.core_journals_are_sound.ensures

pub returns : goal.returns
returns g c =
    let natives = entries c.args.natives.now in
    let trace = trace_of c.args.boot c.args.fills.now c.args.items.now in
    let start = at-start _ _ _ _ c.in_ok-player.player c.requires c.in_ok-player.ensures.boots c.in_ok-player.ensures.stands in
    let end = c.in_ok-status.ensures.end natives trace start in
    let has_boot = ap Some (sym c.in_ok-header.ensures.cases) in
    record {
      bytes = journal_is natives trace c.play_items.new.player c.in_ok-status.status end c.in_ok-header.header has_boot _ c.journal.ensures
          c.in_ok-bytes.bytes.items c.in_ok-bytes.ensures.bytes;
      spelled = spelled_is natives trace c.play_items.new.player c.in_ok-status.status end c.in_ok-header.header has_boot _ c.journal.ensures
          c.in_ok-bytes.bytes.items c.in_ok-bytes.ensures.bytes c.in_ok-bytes.ensures.spelled
          (subst (IsSoundBoot (uuids_of natives)) (sym c.in_ok-header.ensures.cases) c.requires.boot);
      status = status_is natives trace c.play_items.new.player c.in_ok-status.status end c.in_ok-header.header has_boot _ c.journal.ensures;
    }
