use Rattle.std.proofs.Common.{refl}
use Rattle.kernel_model.specs.Application.{booted}
use Rattle.live_play.specs.Answer.{Platform, platform_within}
use Rattle.live_player.proofs.Staging.{can_begin, closed_signal, core_signal, signal_sound}
use Rattle.trace_text.specs.declared.statement.Statement.TheVariants as says
use Rattle.native_tas.specs.Table.{drivers, entries}
use Rattle.live_player.proofs.stage.Stage.signal.Goals as goal

pub signal_on-requires-clause-least : goal.signal_on-requires-clause-least
signal_on-requires-clause-least g c =
    (signal_sound (platform_within c.requires.0 (entries c.args.natives.now) (drivers c.args.natives.now)) c.requires.1 c.args.value c.requires.2).some

pub signal_on-requires-clause-most : goal.signal_on-requires-clause-most
signal_on-requires-clause-most g c =
    (signal_sound (platform_within c.requires.0 (entries c.args.natives.now) (drivers c.args.natives.now)) c.requires.1 c.args.value c.requires.2).few

pub returns-in-Core-clause-plays : goal.returns-in-Core-clause-plays
returns-in-Core-clause-plays g c = λ most lines text next stands.
    let natives = entries c.args.natives.now in
    let ds = drivers c.args.natives.now in
    let there = (rw c.in-Core.is at stands).0 in
    core_signal most natives ds lines c.args.value c.in-Core.player c.signal_on.new.player text there
    (c.signal_on.ensures.signalled (booted there.boot natives) ds there.told there.stands)

pub first_player-requires : goal.first_player-requires
first_player-requires g c =
    let on : Platform = platform_within c.requires.0 (entries c.args.natives.now) (drivers c.args.natives.now) in
    let there = rw c.in-Header.is at c.requires.3 in (
      c.requires.0,
      c.requires.1,
      can_begin on c.requires.1 (says.Signal c.args.value) c.in-Header.header there.0 there.1 there.2 c.requires.2
          (closed_signal c.requires.1 c.args.value) refl,
    )

pub signal_on-requires-in-Header-clause-least : goal.signal_on-requires-in-Header-clause-least
signal_on-requires-in-Header-clause-least g c =
    (signal_sound (platform_within c.requires.0 (entries c.args.natives.now) (drivers c.args.natives.now)) c.requires.1 c.args.value c.requires.2).some

pub signal_on-requires-in-Header-clause-most : goal.signal_on-requires-in-Header-clause-most
signal_on-requires-in-Header-clause-most g c =
    (signal_sound (platform_within c.requires.0 (entries c.args.natives.now) (drivers c.args.natives.now)) c.requires.1 c.args.value c.requires.2).few

pub returns-in_ok-player-in-Header-clause-plays : goal.returns-in_ok-player-in-Header-clause-plays
returns-in_ok-player-in-Header-clause-plays g c = λ most lines text next stands.
    let natives = entries c.args.natives.now in
    let ds = drivers c.args.natives.now in
    let there = rw c.in-Header.is at stands in
    let can = can_begin (platform_within most natives ds) lines (says.Signal c.args.value) c.in-Header.header there.0 there.1 there.2 next
    (closed_signal lines c.args.value) refl in
    let begun = c.in_ok-player-in-Header.ensures.played most lines can in
    core_signal most natives ds lines c.args.value c.in_ok-player-in-Header.player c.signal_on-in-Header.new.player text begun
    (c.signal_on-in-Header.ensures.signalled (booted begun.boot natives) ds begun.told begun.stands)
