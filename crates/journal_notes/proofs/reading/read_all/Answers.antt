-- Each event is the next of a journal that can be.
use Rattle.std.proofs.Common.{List, ◌++◌, refl, ap, sym, ◌∙◌}
use Rattle.std.proofs.lemmas.List.{take_all}
use Rattle.event_journal.specs.declared.event.Event.{Event}
use Rattle.journal_notes.proofs.ReadOn.{can_be_next, done_more, few_with_next}
use Rattle.journal_replay.specs.Replaying.{boot_of, done_by}
use Rattle.kernel_model.specs.Application.{Booted}
use Rattle.journal_notes.proofs.reading.read_all.Goals as goal

pub loop-event-init : goal.loop-event-init
loop-event-init g c =
    let meaning = g.N.EventNotes.meaning in
    let boot = boot_of c.args.replay.now in
    let of = meaning.subject c.args.notes.now in
    record {
      boot = refl;
      done = c.requires.nothing;
      subject = refl;
      on = c.requires.on;
      log = c.new-log.ensures.items ∙ sym (ap (λ (h : List Event). meaning.log of boot h) c.requires.nothing ∙ meaning.none of boot);
    }

pub read-requires-clause-few : goal.read-requires-clause-few
read-requires-clause-few g c =
    few_with_next (boot_of c.args.replay.now) c.args.events.now c.loop-event.event-index c.event-item.result c.loop-event-test.true c.event-item.is
    c.loop-event.replay c.loop-event.invariant.boot c.loop-event.invariant.done c.requires.few

pub unreachable-requires : goal.unreachable-requires
unreachable-requires g c =
    (rw c.in-None.is at c.in_ok-news.ensures)
    (can_be_next (boot_of c.args.replay.now) c.args.events.now c.loop-event.event-index c.event-item.result c.loop-event-test.true c.event-item.is
    c.loop-event.replay c.loop-event.invariant.boot c.loop-event.invariant.done c.requires.can)

pub loop-event-preserved : goal.loop-event-preserved
loop-event-preserved g c =
    let has = rw c.in-Some.is at c.in_ok-news.ensures in
    record {
      boot = has.done.boot ∙ c.loop-event.invariant.boot;
      done = has.done.events ∙ done_more (boot_of c.args.replay.now) c.args.events.now c.loop-event.event-index c.event-item.result
          c.loop-event-test.true c.event-item.is c.loop-event.replay c.loop-event.invariant.boot c.loop-event.invariant.done;
      subject = has.subject ∙ c.loop-event.invariant.subject;
      on = has.grown.on;
      log = c.in_ok-add_all-in-Some.ensures ∙ ap (λ (log : List _). log ++ c.in-Some.more.items) c.loop-event.invariant.log ∙ sym has.grown.log;
    }

pub returns : goal.returns
returns g c =
    let meaning = g.N.EventNotes.meaning in
    let it = c.loop-event.invariant in
    let all = it.done ∙ take_all c.loop-event.event-index c.args.events.now c.loop-event-test.false in
    let first = meaning.subject c.args.notes.now in
    record {
      boot = it.boot;
      done = all;
      subject = it.subject;
      reading = it.on;
      whole = it.log ∙ ap (λ (of : meaning.Subject). meaning.log of (boot_of c.loop-event.replay) (done_by c.loop-event.replay)) it.subject
          ∙ ap (λ (b : Booted). meaning.log first b (done_by c.loop-event.replay)) it.boot
          ∙ ap (λ (h : List Event). meaning.log first (boot_of c.args.replay.now) h) all;
    }
