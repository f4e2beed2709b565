use Rattle.std.proofs.Common.{ℕ, get_or, sym, subst, arith, ap, below_more, ◌∙◌}
use Rattle.std.proofs.lemmas.List.{get_or_default}
use Rattle.std.proofs.lemmas.List.Sums.{get_or-le-sum_by}
use Rattle.event_journal.specs.Event.{copied_by}
use Rattle.event_journal.specs.declared.event.Event.{Event}
use Rattle.journal_bytes.specs.Sound.{AreSoundReads, HasRegs}
use Rattle.journal_bytes.specs.Spelling.{event_record}
use Rattle.trace_bin.proofs.Puts.{put_more}
use Rattle.journal_bytes.proofs.writing.put_events.Goals as goal

pub loop-event-preserved : goal.loop-event-preserved
loop-event-preserved c = record {
  put = put_more event_record c.args.events.now c.loop-event.event-index c.event-item.result _ _ _ _ c.loop-event-test.true c.event-item.is c.loop-event.invariant.put c.in_ok-put_event.ensures.put;
  regs = below_more (λ (k : ℕ). (d : Event) → HasRegs (get_or c.args.events.now k d)) _ c.loop-event.invariant.regs
      (λ d. subst HasRegs (c.event-item.is ∙ get_or_default c.args.events.now c.loop-event.event-index c.event-item.result d c.loop-event-test.true)
      c.in_ok-put_event.ensures.regs);
}

pub put_event-requires-clause-each : goal.put_event-requires-clause-each
put_event-requires-clause-each c =
    subst AreSoundReads (sym c.event-item.is) (c.requires.each c.loop-event.event-index c.event-item.result c.loop-event-test.true)

pub put_event-requires-clause-few : goal.put_event-requires-clause-few
put_event-requires-clause-few c =
    omega (arith, get_or-le-sum_by copied_by c.args.events.now c.loop-event.event-index c.event-item.result c.loop-event-test.true, ap copied_by c.event-item.is)
