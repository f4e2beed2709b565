use Rattle.std.specs.Prelude.{if◌then◌else◌}
use Rattle.std.proofs.Common.{◌^◌, refl, sym, ◌∙◌}
use Rattle.live_play.specs.Answer.{Platform, platform, platform_within}
use Rattle.live_play.specs.Showing.{lane_at}
use Rattle.notify_text.specs.Statement.{with_statement}
use Rattle.native_tas.specs.Table.{drivers, entries}
use Rattle.live_player.specs.Panicking.{taken_as}
use Rattle.live_player.proofs.Watched.{can_still_watch, not_open, watches_done, watches_full, watches_staying}
use Rattle.live_player.proofs.player.LivePlayer.take_watched.Goals as goal

pub returns-in_default : goal.returns-in_default
returns-in_default g c = λ lines next come.
    let on : Platform = platform (entries c.args.natives.now) (drivers c.args.natives.now) in
    rw c.taken.ensures (watches_staying on lines c.args.said (taken_as c.in_ok-take.field-0) c.args.self.now.stage c.take.new.self
    c.args.text.now.items c.take.new.text.items (λ cpu out. c.in_default.not-Some cpu (c.cpu_going_out.ensures ∙ out)) next
    come.stage_at (c.in_ok-take.ensures.takes lines next come))

pub push_changes-requires : goal.push_changes-requires
push_changes-requires g c =
    let next = c.requires.next in
    let takes = rw c.in-Done.is at (c.in_ok-panic.ensures.takes next.0 next.1 next.2) in
    let natives = entries c.args.natives.now in
    let ds = drivers c.args.natives.now in
    let most = if next.0.forgets then 2 ^ 63 else 2 ^ 28 in
    let there : Platform = platform_within most natives ds in
    let cpu = c.in-Some.cpu in
    let out = sym c.cpu_going_out.ensures ∙ c.in-Some.is in (
      there,
      with_statement next.0.told c.args.said,
      lane_at there next.0.told cpu,
      can_still_watch most natives ds next.0.told c.args.said cpu c.take-2.new.self.stage out next.1 takes.come.stage_at,
      rw c.in-Done.is at (c.in_ok-panic.ensures.kept cpu next.0 next.1 next.2 refl out),
    )

pub returns-in_ok-push_changes-in-Done : goal.returns-in_ok-push_changes-in-Done
returns-in_ok-push_changes-in-Done g c = λ lines next come.
    let natives = entries c.args.natives.now in
    let ds = drivers c.args.natives.now in
    let on : Platform = platform natives ds in
    let most = if lines.forgets then 2 ^ 63 else 2 ^ 28 in
    let there : Platform = platform_within most natives ds in
    let cpu = c.in-Some.cpu in
    let out = sym c.cpu_going_out.ensures ∙ c.in-Some.is in
    let takes = rw c.in-Done.is at (c.in_ok-panic.ensures.takes lines next come) in
    let after = with_statement lines.told c.args.said in
    let kept = rw c.in-Done.is at (c.in_ok-panic.ensures.kept cpu lines next come refl out) in
    let pushed = c.in_ok-push_changes-in-Done.ensures there after (lane_at there lines.told cpu)
    (can_still_watch most natives ds lines.told c.args.said cpu c.take-2.new.self.stage out next takes.come.stage_at)
    (not_open lines.told c.args.said cpu out) kept in
    watches_done on lines c.args.said cpu c.args.self.now.stage c.take-2.new.self (lane_at there lines.told cpu)
    c.args.text.now.items c.take-2.new.text.items c.push_panic.new.text.items c.push_changes.new.text.items c.in-Done.panic
    out next come.stage_at refl takes (rw c.in-Done.is at (c.in_ok-panic.ensures.panic lines next come))
    c.in_ok-push_panic-in-Done.ensures pushed

pub returns-in-Full : goal.returns-in-Full
returns-in-Full g c = λ lines next come.
    let on : Platform = platform (entries c.args.natives.now) (drivers c.args.natives.now) in
    watches_full on lines c.args.said c.in-Full.copied c.take-2.new.self c.args.text.now.items c.take-2.new.text.items
    (rw c.in-Full.is at (c.in_ok-panic.ensures.takes lines next come))
