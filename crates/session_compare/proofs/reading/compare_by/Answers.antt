use Rattle.std.proofs.Common.{◌≤◌, ◌^◌, List, refl, inl, subst, sym}
use Rattle.audit_model.specs.Verdicts.{IsIllegalAt}
use Rattle.compare_model.specs.Comparing.{core_of}
use Rattle.event_journal.specs.Journal.{copied_bytes}
use Rattle.event_journal.specs.declared.event.Event.{Event}
use Rattle.kernel_model.specs.Application.{Booted, booted}
use Rattle.native_tas.specs.Table.{entries}
use Rattle.session_compare.proofs.Logs.{illegal_answer}
use Rattle.session_compare.proofs.ReadBoth.{shown_whole, whole_can_begin}
use Rattle.session_compare.specs.Pairs.{pair_of}
use Rattle.session_compare.proofs.reading.compare_by.Goals as goal

pub read_both-requires-clause-first : goal.read_both-requires-clause-first
read_both-requires-clause-first g c = c.requires.first.unread

pub read_both-requires-clause-second : goal.read_both-requires-clause-second
read_both-requires-clause-second g c = c.requires.second.unread

pub read_both-requires-clause-few : goal.read_both-requires-clause-few
read_both-requires-clause-few g c =
    subst (λ (es : List Event). copied_bytes es ≤ 2 ^ 28) (sym c.as_slice-events.ensures) c.requires.one.few

pub read_both-requires-clause-few_too : goal.read_both-requires-clause-few_too
read_both-requires-clause-few_too g c =
    subst (λ (es : List Event). copied_bytes es ≤ 2 ^ 28) (sym c.as_slice-others.ensures) c.requires.two.few

pub compared_app-requires : goal.compared_app-requires
compared_app-requires g c = (rw c.in-Whole.is at c.in_ok-read.ensures).one.fits

pub compared_app-requires-in-Whole : goal.compared_app-requires-in-Whole
compared_app-requires-in-Whole g c = (rw c.in-Whole.is at c.in_ok-read.ensures).two.fits

pub returns-in_ok-other-in-Whole : goal.returns-in_ok-other-in-Whole
returns-in_ok-other-in-Whole g c =
    let so_far = g.L.ReadsLog.so_far in
    let shown = g.L.ReadsLog.shown in
    let pair = pair_of (entries c.args.natives.now) c.args.one.now c.args.two.now in
    let begun = so_far c.args.first in
    let begun_too = so_far c.args.second in
    let first = so_far c.read_both.new.first in
    let second = so_far c.read_both.new.second in
    let events = c.as_slice-events.result.now in
    let others = c.as_slice-others.result.now in
    let whole = rw c.in-Whole.is at c.in_ok-read.ensures in
    c.compare_logs.ensures pair (shown (core_of pair pair.one) pair.one.events begun.whose)
    (shown (core_of pair pair.two) pair.two.events begun_too.whose) first.log second.log (
      whole_can_begin (core_of pair pair.one) pair.one.events events begun first c.requires.first.boot c.as_slice-events.ensures whole.one,
      whole_can_begin (core_of pair pair.two) pair.two.events others begun_too second c.requires.second.boot c.as_slice-others.ensures whole.two,
    )
    (shown_whole shown (core_of pair pair.one) pair.one.events events begun first c.in_ok-app-in-Whole.app c.requires.first.boot
    c.as_slice-events.ensures whole.one c.in_ok-app-in-Whole.ensures)
    (shown_whole shown (core_of pair pair.two) pair.two.events others begun_too second c.in_ok-other-in-Whole.other c.requires.second.boot
    c.as_slice-others.ensures whole.two c.in_ok-other-in-Whole.ensures)
    whole.compares c.is_same_key-one_key.ensures

pub returns-in-FirstEnds : goal.returns-in-FirstEnds
returns-in-FirstEnds g c =
    let natives = entries c.args.natives.now in
    inl (
      refl,
      subst (λ (es : List Event). IsIllegalAt (booted c.args.one.now.boot natives) es c.in-FirstEnds.at) c.as_slice-events.ensures
          (subst (λ (b : Booted). IsIllegalAt b c.as_slice-events.result.now c.in-FirstEnds.at) c.requires.first.boot
          (rw c.in-FirstEnds.is at c.in_ok-read.ensures)),
    )

pub returns-in-SecondEnds : goal.returns-in-SecondEnds
returns-in-SecondEnds g c =
    let natives = entries c.args.natives.now in
    let so_far = g.L.ReadsLog.so_far in
    let shown = g.L.ReadsLog.shown in
    let pair = pair_of natives c.args.one.now c.args.two.now in
    illegal_answer pair (shown (core_of pair pair.one) pair.one.events (so_far c.args.first).whose)
    (shown (core_of pair pair.two) pair.two.events (so_far c.args.second).whose) c.illegal_two.result
    (c.illegal_two.ensures c.args.two.now
    (subst (λ (es : List Event). IsIllegalAt (booted c.args.two.now.boot natives) es c.in-SecondEnds.at) c.as_slice-others.ensures
    (subst (λ (b : Booted). IsIllegalAt b c.as_slice-others.result.now c.in-SecondEnds.at) c.requires.second.boot
    (rw c.in-SecondEnds.is at c.in_ok-read.ensures))))
