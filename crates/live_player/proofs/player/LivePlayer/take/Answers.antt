use Rattle.std.proofs.Common.{◌^◌, ap, refl, ◌∙◌}
use Rattle.std.specs.Prelude.{if◌then◌else◌}
use Rattle.live_play.specs.Answer.{platform}
use Rattle.live_play.specs.Showing.{platform_at}
use Rattle.live_player.proofs.Taking.{adds_told}
use Rattle.live_text.specs.Scene.{scene_of}
use Rattle.native_tas.specs.Table.{drivers, entries}
use Rattle.live_player.proofs.player.LivePlayer.take.Goals as goal

pub returns-in_ok-add-in-Done-clause-takes : goal.returns-in_ok-add-in-Done-clause-takes
returns-in_ok-add-in-Done-clause-takes g c = λ lines next come.
    let on = platform (entries c.args.natives.now) (drivers c.args.natives.now) in
    let most = if lines.forgets then 2 ^ 63 else 2 ^ 28 in
    let plays = rw c.in-Done.is at (c.in_ok-panic.ensures.plays most lines.told next come.stage_at) in
    record {
      answers = plays.answers;
      come = record {
        scene = c.in_ok-take-in-Done.ensures.taken lines come.scene ∙ ap scene_of (adds_told lines c.args.said);
        within = record { sound = next.next.sound; signals = next.next.signals };
        stage_at = c.in_ok-add-in-Done.ensures.added (platform_at on lines) lines.told next.placed plays.stands;
        terms = c.in_ok-add-in-Done.ensures.terms ∙ c.in_ok-panic.ensures.terms refl ∙ come.terms;
      };
    }

pub returns-in-Full-clause-takes : goal.returns-in-Full-clause-takes
returns-in-Full-clause-takes g c = λ lines next come.
    let most = if lines.forgets then 2 ^ 63 else 2 ^ 28 in
    let plays = rw c.in-Full.is at (c.in_ok-panic.ensures.plays most lines.told next come.stage_at) in
    record {
      answers = plays.answers;
      come = record {
        scene = come.scene;
        within = come.within;
        stage_at = plays.stands;
        terms = c.in_ok-panic.ensures.terms refl ∙ come.terms;
      };
    }

pub returns-in_ok-add-in-Done-clause-panic : goal.returns-in_ok-add-in-Done-clause-panic
returns-in_ok-add-in-Done-clause-panic g c = λ lines next come.
    rw c.in-Done.is at (c.in_ok-panic.ensures.panic (if lines.forgets then 2 ^ 63 else 2 ^ 28) lines.told next come.stage_at)

pub returns-in-Full-clause-panic : goal.returns-in-Full-clause-panic
returns-in-Full-clause-panic g c = λ lines next come.
    rw c.in-Full.is at (c.in_ok-panic.ensures.panic (if lines.forgets then 2 ^ 63 else 2 ^ 28) lines.told next come.stage_at)

pub play-requires : goal.play-requires
play-requires g c =
    let next = c.requires.next in
    (if next.0.forgets then 2 ^ 63 else 2 ^ 28, next.0.told, next.1, next.2.stage_at)

pub returns-in_ok-add-in-Done-clause-kept : goal.returns-in_ok-add-in-Done-clause-kept
returns-in_ok-add-in-Done-clause-kept g c = λ cpu lines next come on out.
    rw c.in-Done.is at (c.in_ok-panic.ensures.kept (if lines.forgets then 2 ^ 63 else 2 ^ 28) cpu lines.told next come.stage_at on out)

pub returns-in-Full-clause-kept : goal.returns-in-Full-clause-kept
returns-in-Full-clause-kept g c = λ cpu lines next come on out. tt
