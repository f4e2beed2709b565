use Rattle.live_player.proofs.player.LivePlayer.is_booted.Goals as goal

pub returns : goal.returns
returns c = λ on lines stands. c.is_booted.ensures.lines lines stands.come.scene
