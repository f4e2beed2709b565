-- The passes that come back are all of the core's, and its history is that of what they have played.
use Rattle.std.proofs.Common.{◌≡◌, false, List, ap, sym, subst, ◌∙◌}
use Rattle.std.specs.Prelude.{All}
use Rattle.std.specs.List.{flat_map, list_any}
use Rattle.core_lock.specs.Counts.{numbers_from}
use Rattle.core_lock.specs.Passes.{IsIn}
use Rattle.kernel_model.specs.Application.{Booted}
use Rattle.kernel_model.specs.Turns.{cpu_of}
use Rattle.kernel_state.specs.Meaning.{booted_of, events_of}
use Rattle.normal_cpus.specs.Sharing.{AreAllCpusOf, AreCpusOf, CpuPass}
use Rattle.threads_play.specs.Ended.{texts_of}
use Rattle.threads_play.specs.declared.ending.CpuEnd.{CpuEnd}
use Rattle.threads_play.proofs.Closing.{all_played, can_play, closes_all, closes_own, passes_count, were_played}
use Rattle.threads_play.specs.Work.{lacks_memory, was_refused}
use Rattle.threads_play.proofs.playing.play_on_threads.Goals as goal

pub jobs_of-requires : goal.jobs_of-requires
jobs_of-requires g c =
    passes_count c.in-Ok.made.1.items (booted_of c.args.core).cpus c.in-Ok.ensures.numbers ∙ sym c.requires.lanes

pub play_each-requires-after_bounds : goal.play_each-requires-after_bounds
play_each-requires-after_bounds g c κs within =
    can_play c.in-Ok.made.0 c.args.items.now c.in-Ok.made.1.items c.args.lanes.items c.in_ok-jobs.jobs.items
    c.in_ok-jobs.ensures.len c.in_ok-jobs.ensures.each c.in-Ok.ensures.passes.0 c.in-Ok.ensures.passes.1 c.requires.turns

pub close-core-requires-clause-own : goal.close-core-requires-clause-own
close-core-requires-clause-own g c =
    subst (AreCpusOf c.in-Ok.made.0) (sym c.in_ok-passes_of.ensures)
    (closes_own c.in-Ok.made.0 c.args.items.now c.in-Ok.made.1.items c.args.lanes.items c.in_ok-jobs.jobs.items
    c.in_ok-jobs.ensures.len c.in_ok-jobs.ensures.each c.in_ok-ends.ends.items c.in_ok-ends.ensures.len c.in_ok-ends.ensures.each)

pub close-core-requires-clause-all : goal.close-core-requires-clause-all
close-core-requires-clause-all g c =
    subst (AreAllCpusOf c.in-Ok.made.0) (sym c.in_ok-passes_of.ensures)
    (closes_all c.in-Ok.made.0 c.args.items.now c.in-Ok.made.1.items c.args.lanes.items c.in_ok-jobs.jobs.items
    c.in_ok-jobs.ensures.len c.in_ok-jobs.ensures.each c.in_ok-ends.ends.items c.in_ok-ends.ensures.len c.in_ok-ends.ensures.each
    (c.in-Ok.ensures.numbers ∙ ap (λ (on : Booted). numbers_from 0 on.cpus) (sym c.in-Ok.ensures.boot)))

pub returns-clause-played : goal.returns-clause-played
returns-clause-played g c =
    let shared = c.in-Ok.made.0 in
    let passes = c.in-Ok.made.1.items in
    let ends = c.in_ok-ends.ends.items in
    let core = c.close-core.result in
    let numbers = c.in-Ok.ensures.numbers ∙ ap (λ (on : Booted). numbers_from 0 on.cpus) (sym c.in-Ok.ensures.boot) in
    let none : list_any (λ (end : CpuEnd). lacks_memory end.outcome) ends ≡ false =
    ap (λ (es : List CpuEnd). list_any (λ (end : CpuEnd). lacks_memory end.outcome) es) (sym c.as_slice.ensures.value)
    ∙ sym c.some_lacked_memory.ensures ∙ c.if-some_lacked_memory.false in
    let are_in = subst (λ (ps : List CpuPass). All (IsIn cpu_of (events_of core)) ps) c.in_ok-passes_of.ensures
    c.close-core.ensures.passes in
    were_played c.ends_are_played.ensures shared c.args.lanes.items c.args.items.now passes ends core (booted_of c.args.core)
    c.in_ok-text.text.items c.some_refused-refused.result
    (all_played shared c.args.items.now passes c.args.lanes.items c.in_ok-jobs.jobs.items
    c.in_ok-jobs.ensures.len c.in_ok-jobs.ensures.each ends c.in_ok-ends.ensures.len c.in_ok-ends.ensures.each
    core numbers none c.close-core.ensures.boot c.close-core.ensures.kept are_in)
    c.in-Ok.ensures.boot
    (c.in_ok-text.ensures ∙ ap (λ (es : List CpuEnd). flat_map (λ block. block) (texts_of es)) c.as_slice-2.ensures.value)
    (c.some_refused-refused.ensures
    ∙ ap (λ (es : List CpuEnd). list_any (λ (end : CpuEnd). was_refused end.outcome) es) c.as_slice-3.ensures.value)
