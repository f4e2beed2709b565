use Rattle.std.proofs.Common.{ap, refl, ◌∙◌}
use Rattle.base.specs.Zeros.{zeros}
use Rattle.kernel_state.specs.Meaning.{booted_of, terms_of}
use Rattle.native_tas.specs.Table.{drivers}
use Rattle.play_model.specs.Play.{first_play_within}
use Rattle.trace_player.specs.Playing.{terms_in}
use Rattle.trace_player.specs.declared.player.Player.{Player}
use Rattle.notify_player.proofs.player.NotifyPlayer.with_fills.Goals as goal

pub returns-clause-stands : goal.returns-clause-stands
returns-clause-stands g c =
    let on = booted_of c.args.core in
    c.new-2.ensures.stands on (drivers c.args.natives.now)
    (first_play_within (terms_of c.args.core).most (zeros 0x400000) on c.args.fills.now)
    c.in_ok-player.ensures.stands refl c.in_ok-desk.ensures

pub returns-clause-terms : goal.returns-clause-terms
returns-clause-terms g c = ap (λ (player : Player). terms_in player) c.new-2.ensures.player ∙ c.in_ok-player.ensures.terms
