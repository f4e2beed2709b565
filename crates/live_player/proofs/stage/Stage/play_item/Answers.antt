use Rattle.std.proofs.Common.{refl}
use Rattle.live_play.specs.Answer.{Platform, platform_within}
use Rattle.live_player.proofs.Staging.{begun_plays, can_begin, closed_item, core_plays, refused_plays}
use Rattle.trace_text.specs.declared.statement.Statement.TheVariants as says
use Rattle.native_tas.specs.Table.{drivers, entries}
use Rattle.live_player.proofs.stage.Stage.play_item.Goals as goal

pub play_on-requires : goal.play_on-requires
play_on-requires g c = (c.requires.0, c.requires.1, c.requires.2, (rw c.in-Core.is at c.requires.3).0)

pub returns-in-Core-clause-plays : goal.returns-in-Core-clause-plays
returns-in-Core-clause-plays g c = λ most lines next stands.
    let on : Platform = platform_within most (entries c.args.natives.now) (drivers c.args.natives.now) in
    let there = rw c.in-Core.is at stands in
    core_plays on lines c.args.item.now c.play_on.result c.play_on.new.player c.args.text.now.items
    c.play_on.new.text.items there.1 (c.play_on.ensures.plays most lines next there.0)

pub first_player-requires : goal.first_player-requires
first_player-requires g c =
    let on : Platform = platform_within c.requires.0 (entries c.args.natives.now) (drivers c.args.natives.now) in
    let there = rw c.in-Header.is at c.requires.3 in (
      c.requires.0,
      c.requires.1,
      can_begin on c.requires.1 (says.Item c.args.item.now) c.in-Header.header there.0 there.1 there.2 c.requires.2
          (closed_item c.requires.1 c.args.item.now) refl,
    )

pub play_on-requires-in-Header : goal.play_on-requires-in-Header
play_on-requires-in-Header g c =
    let on : Platform = platform_within c.requires.0 (entries c.args.natives.now) (drivers c.args.natives.now) in
    let there = rw c.in-Header.is at c.requires.3 in (
      c.requires.0,
      c.requires.1,
      c.requires.2,
      c.in_ok-player-in-Header.ensures.played c.requires.0 c.requires.1
          (can_begin on c.requires.1 (says.Item c.args.item.now) c.in-Header.header there.0 there.1 there.2 c.requires.2
          (closed_item c.requires.1 c.args.item.now) refl),
    )

pub returns-in-Done-clause-plays : goal.returns-in-Done-clause-plays
returns-in-Done-clause-plays g c = λ most lines next stands.
    let on : Platform = platform_within most (entries c.args.natives.now) (drivers c.args.natives.now) in
    let there = rw c.in-Header.is at stands in
    let can = can_begin on lines (says.Item c.args.item.now) c.in-Header.header there.0 there.1 there.2 next
    (closed_item lines c.args.item.now) refl in
    rw c.in-Done.is (begun_plays on lines c.args.item.now c.play_on-in-Header.new.player c.args.text.now.items
    c.play_on-in-Header.new.text.items
    (rw c.in-Done.is at (c.in_ok-how-in-Header.ensures.plays most lines next (c.in_ok-player-in-Header.ensures.played most lines can))))

pub returns-in-Full-clause-plays : goal.returns-in-Full-clause-plays
returns-in-Full-clause-plays g c = λ most lines next stands.
    let on : Platform = platform_within most (entries c.args.natives.now) (drivers c.args.natives.now) in
    let there = rw c.in-Header.is at stands in
    let can = can_begin on lines (says.Item c.args.item.now) c.in-Header.header there.0 there.1 there.2 next
    (closed_item lines c.args.item.now) refl in
    rw c.in-Full.is (refused_plays on lines c.args.item.now _ c.play_on-in-Header.new.player _ c.args.text.now.items
    c.play_on-in-Header.new.text.items
    (rw c.in-Full.is at (c.in_ok-how-in-Header.ensures.plays most lines next (c.in_ok-player-in-Header.ensures.played most lines can))) there)

pub returns-in-Core-clause-panic : goal.returns-in-Core-clause-panic
returns-in-Core-clause-panic g c = λ most lines next stands.
    c.play_on.ensures.panic most lines (rw c.in-Core.is at stands).0

pub returns-in-Done-clause-panic : goal.returns-in-Done-clause-panic
returns-in-Done-clause-panic g c = λ most lines next stands.
    let on : Platform = platform_within most (entries c.args.natives.now) (drivers c.args.natives.now) in
    let there = rw c.in-Header.is at stands in
    let can = can_begin on lines (says.Item c.args.item.now) c.in-Header.header there.0 there.1 there.2 next
    (closed_item lines c.args.item.now) refl in
    c.in_ok-how-in-Header.ensures.panic most lines (c.in_ok-player-in-Header.ensures.played most lines can)

pub returns-in-Full-clause-panic : goal.returns-in-Full-clause-panic
returns-in-Full-clause-panic g c = λ most lines next stands.
    let on : Platform = platform_within most (entries c.args.natives.now) (drivers c.args.natives.now) in
    let there = rw c.in-Header.is at stands in
    let can = can_begin on lines (says.Item c.args.item.now) c.in-Header.header there.0 there.1 there.2 next
    (closed_item lines c.args.item.now) refl in
    c.in_ok-how-in-Header.ensures.panic most lines (c.in_ok-player-in-Header.ensures.played most lines can)

pub returns-in-Core-clause-kept : goal.returns-in-Core-clause-kept
returns-in-Core-clause-kept g c = λ most cpu lines next stands on out.
    c.play_on.ensures.kept most cpu lines next (rw c.in-Core.is at stands).0 on out

pub returns-in-Done-clause-kept : goal.returns-in-Done-clause-kept
returns-in-Done-clause-kept g c = λ most cpu lines next stands on out.
    let there : Platform = platform_within most (entries c.args.natives.now) (drivers c.args.natives.now) in
    let head = rw c.in-Header.is at stands in
    let can = can_begin there lines (says.Item c.args.item.now) c.in-Header.header head.0 head.1 head.2 next
    (closed_item lines c.args.item.now) refl in
    c.in_ok-how-in-Header.ensures.kept most cpu lines next (c.in_ok-player-in-Header.ensures.played most lines can) on out

pub returns-in-Full-clause-kept : goal.returns-in-Full-clause-kept
returns-in-Full-clause-kept g c = λ most cpu lines next stands on out.
    let there : Platform = platform_within most (entries c.args.natives.now) (drivers c.args.natives.now) in
    let head = rw c.in-Header.is at stands in
    let can = can_begin there lines (says.Item c.args.item.now) c.in-Header.header head.0 head.1 head.2 next
    (closed_item lines c.args.item.now) refl in
    c.in_ok-how-in-Header.ensures.kept most cpu lines next (c.in_ok-player-in-Header.ensures.played most lines can) on out
