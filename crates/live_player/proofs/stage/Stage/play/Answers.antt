use Rattle.std.proofs.Common.{refl}
use Rattle.live_play.specs.Answer.{Platform, platform_within}
use Rattle.live_player.proofs.Panics.{no_panic}
use Rattle.live_player.proofs.Staging.{none_out, waits, waits_inside, waits_unended}
use Rattle.notify_text.specs.Statement.{with_statement}
use Rattle.trace_text.specs.declared.statement.Statement.TheVariants as says
use Rattle.native_tas.specs.Table.{drivers, entries}
use Rattle.live_player.proofs.stage.Stage.play.Goals as goal

pub play_item-requires : goal.play_item-requires
play_item-requires g c = (c.requires.0, c.requires.1, rw c.in-Item.is at c.requires.2, c.requires.3)

pub returns-in-Item-clause-plays : goal.returns-in-Item-clause-plays
returns-in-Item-clause-plays g c = λ most lines next stands. rw c.in-Item.is (c.play_item.ensures.plays most lines (rw c.in-Item.is at next) stands)

pub signal-requires : goal.signal-requires
signal-requires g c = (c.requires.0, c.requires.1, rw c.in-Signal.is at c.requires.2, c.requires.3)

pub returns-in_ok-signal-in-Signal-clause-plays :
    goal.returns-in_ok-signal-in-Signal-clause-plays
returns-in_ok-signal-in-Signal-clause-plays g c = λ most lines next stands.
    rw c.in-Signal.is (c.in_ok-signal-in-Signal.ensures.plays most lines c.args.text.now.items (rw c.in-Signal.is at next) stands)

pub returns-in-Blank-clause-plays : goal.returns-in-Blank-clause-plays
returns-in-Blank-clause-plays g c = λ most lines next stands.
    let on : Platform = platform_within most (entries c.args.natives.now) (drivers c.args.natives.now) in
    waits on lines c.args.said.now c.args.self.now c.args.text.now.items c.in-Blank.is next.placed stands

pub returns-in-Blank-2-clause-plays : goal.returns-in-Blank-2-clause-plays
returns-in-Blank-2-clause-plays g c = λ most lines next stands.
    let on : Platform = platform_within most (entries c.args.natives.now) (drivers c.args.natives.now) in
    waits on lines c.args.said.now c.args.self.now c.args.text.now.items c.in-Blank.is next.placed stands

pub returns-in-Blank-3-clause-plays : goal.returns-in-Blank-3-clause-plays
returns-in-Blank-3-clause-plays g c = λ most lines next stands.
    let on : Platform = platform_within most (entries c.args.natives.now) (drivers c.args.natives.now) in
    waits on lines c.args.said.now c.args.self.now c.args.text.now.items c.in-Blank.is next.placed stands

pub returns-in-Blank-4-clause-plays : goal.returns-in-Blank-4-clause-plays
returns-in-Blank-4-clause-plays g c = λ most lines next stands.
    let on : Platform = platform_within most (entries c.args.natives.now) (drivers c.args.natives.now) in
    waits on lines c.args.said.now c.args.self.now c.args.text.now.items c.in-Blank.is next.placed stands

pub returns-in-Blank-5-clause-plays : goal.returns-in-Blank-5-clause-plays
returns-in-Blank-5-clause-plays g c = λ most lines next stands.
    let on : Platform = platform_within most (entries c.args.natives.now) (drivers c.args.natives.now) in
    waits on lines c.args.said.now c.args.self.now c.args.text.now.items c.in-Blank.is next.placed stands

pub returns-in-Item-clause-panic : goal.returns-in-Item-clause-panic
returns-in-Item-clause-panic g c = λ most lines next stands.
    rw c.in-Item.is (c.play_item.ensures.panic most lines (rw c.in-Item.is at next) stands)

pub returns-in_ok-signal-in-Signal-clause-panic :
    goal.returns-in_ok-signal-in-Signal-clause-panic
returns-in_ok-signal-in-Signal-clause-panic g c = λ most lines next stands.
    let on : Platform = platform_within most (entries c.args.natives.now) (drivers c.args.natives.now) in
    rw c.in-Signal.is (no_panic on lines (with_statement lines (says.Signal c.in-Signal.value)) refl)

pub returns-in-Blank-clause-panic : goal.returns-in-Blank-clause-panic
returns-in-Blank-clause-panic g c = λ most lines next stands.
    let on : Platform = platform_within most (entries c.args.natives.now) (drivers c.args.natives.now) in
    waits_unended on lines c.args.said.now c.in-Blank.is

pub returns-in-Blank-2-clause-panic : goal.returns-in-Blank-2-clause-panic
returns-in-Blank-2-clause-panic g c = λ most lines next stands.
    let on : Platform = platform_within most (entries c.args.natives.now) (drivers c.args.natives.now) in
    waits_unended on lines c.args.said.now c.in-Blank.is

pub returns-in-Blank-3-clause-panic : goal.returns-in-Blank-3-clause-panic
returns-in-Blank-3-clause-panic g c = λ most lines next stands.
    let on : Platform = platform_within most (entries c.args.natives.now) (drivers c.args.natives.now) in
    waits_unended on lines c.args.said.now c.in-Blank.is

pub returns-in-Blank-4-clause-panic : goal.returns-in-Blank-4-clause-panic
returns-in-Blank-4-clause-panic g c = λ most lines next stands.
    let on : Platform = platform_within most (entries c.args.natives.now) (drivers c.args.natives.now) in
    waits_unended on lines c.args.said.now c.in-Blank.is

pub returns-in-Blank-5-clause-panic : goal.returns-in-Blank-5-clause-panic
returns-in-Blank-5-clause-panic g c = λ most lines next stands.
    let on : Platform = platform_within most (entries c.args.natives.now) (drivers c.args.natives.now) in
    waits_unended on lines c.args.said.now c.in-Blank.is

pub returns-in-Item-clause-kept : goal.returns-in-Item-clause-kept
returns-in-Item-clause-kept g c = λ most cpu lines next stands on out.
    rw c.in-Item.is (c.play_item.ensures.kept most cpu lines (rw c.in-Item.is at next) stands on (rw c.in-Item.is at out))

pub returns-in-Blank-clause-kept : goal.returns-in-Blank-clause-kept
returns-in-Blank-clause-kept g c = λ most cpu lines next stands on out. absurd (waits_inside c.args.said.now cpu c.in-Blank.is out)

pub returns-in-Blank-2-clause-kept : goal.returns-in-Blank-2-clause-kept
returns-in-Blank-2-clause-kept g c = λ most cpu lines next stands on out. absurd (waits_inside c.args.said.now cpu c.in-Blank.is out)

pub returns-in-Blank-3-clause-kept : goal.returns-in-Blank-3-clause-kept
returns-in-Blank-3-clause-kept g c = λ most cpu lines next stands on out. absurd (waits_inside c.args.said.now cpu c.in-Blank.is out)

pub returns-in-Blank-4-clause-kept : goal.returns-in-Blank-4-clause-kept
returns-in-Blank-4-clause-kept g c = λ most cpu lines next stands on out. absurd (waits_inside c.args.said.now cpu c.in-Blank.is out)

pub returns-in-Blank-5-clause-kept : goal.returns-in-Blank-5-clause-kept
returns-in-Blank-5-clause-kept g c = λ most cpu lines next stands on out. absurd (waits_inside c.args.said.now cpu c.in-Blank.is out)

pub returns-in_ok-signal-in-Signal-clause-kept : goal.returns-in_ok-signal-in-Signal-clause-kept
returns-in_ok-signal-in-Signal-clause-kept g c = λ most cpu lines next stands on out.
    absurd (none_out c.args.said.now c.in-Signal.value cpu c.in-Signal.is out)
