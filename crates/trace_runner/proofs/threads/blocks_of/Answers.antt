-- The items, the lanes and the core are those of the trace, and what the threads have played of it is true to the kernel.
use Rattle.std.proofs.Common.{refl}
use Rattle.base.specs.Zeros.{zeros}
use Rattle.core_at_work.proofs.Apart.{none_repeated, within_limits}
use Rattle.kernel_state.specs.Meaning.{booted_of, events_of}
use Rattle.native_tas.specs.Table.{entries}
use Rattle.play_model.specs.Play.{filled}
use Rattle.trace_player.specs.Starting.{trace_of, uuids_of}
use Rattle.trace_runner.proofs.OnThreads.{lanes-there, of-trace, played-in-order}
use Rattle.trace_runner.proofs.threads.blocks_of.Goals as goal

pub core_of-requires-clause-limits : goal.core_of-requires-clause-limits
core_of-requires-clause-limits g c = within_limits c.args.boot c.requires.boot.boots

pub core_of-requires-clause-apart : goal.core_of-requires-clause-apart
core_of-requires-clause-apart g c =
    none_repeated (uuids_of (entries c.args.natives.now)) c.args.boot c.requires.boot.boots c.requires.boot.no_native

pub play_on_threads-requires-clause-lanes : goal.play_on_threads-requires-clause-lanes
play_on_threads-requires-clause-lanes g c = λ κs live.
    lanes-there (entries c.args.natives.now) c.args.boot (booted_of c.in_ok-core.core) c.in_ok-lanes.lanes.items
    (filled (zeros 0x400000) c.args.fills.now) c.in_ok-core.ensures.booted c.in_ok-lanes.ensures

pub play_on_threads-requires-clause-turns : goal.play_on_threads-requires-clause-turns
play_on_threads-requires-clause-turns g c = λ κs live cpu below.
    c.sound_traces_are_in_turn.ensures (uuids_of (entries c.args.natives.now))
    (trace_of c.args.boot c.args.fills.now c.args.items.now) cpu below c.requires

pub returns : goal.returns
returns g c =
    let natives = entries c.args.natives.now in
    let boot = c.args.boot in
    let trace = trace_of boot c.args.fills.now c.args.items.now in
    played-in-order natives boot trace (events_of c.in_ok-play.play.core) c.in_ok-play.play.text.items c.in_ok-play.play.refused
    c.in_ok-core.ensures.boots refl
    (λ cpu below. c.sound_traces_are_in_turn.ensures (uuids_of natives) trace cpu below c.requires)
    (c.in_ok-play.ensures.played natives boot trace
    (of-trace natives boot c.args.fills.now c.args.items.now (booted_of c.in_ok-core.core) c.in_ok-lanes.lanes.items
    c.in_ok-core.ensures.booted c.in_ok-lanes.ensures))
