use Rattle.live_player.proofs.Taking.{come_off}
use Rattle.live_player.proofs.player.LivePlayer.forget.Goals as goal

pub returns : goal.returns
returns c = λ on lines come none.
    come_off on lines c.args.self.now _ come none (c.forget.ensures lines come.scene) c.forget-2.ensures.at c.forget-2.ensures.terms
