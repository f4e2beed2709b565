use Rattle.std.proofs.Common.{refl}
use Rattle.live_player.proofs.Heading.{heads_app, heads_boot, heads_fill, heads_key, heads_none}
use Rattle.live_player.proofs.header.Header.add.Goals as goal

pub returns-in-Boot-clause-said : goal.returns-in-Boot-clause-said
returns-in-Boot-clause-said c = λ lines is.
    rw c.in-Boot.is (heads_boot lines c.in-Boot.size c.args.self.now _ is refl c.clear.ensures.items refl refl)

pub returns-in-App-clause-said : goal.returns-in-App-clause-said
returns-in-App-clause-said c = λ lines is.
    rw c.in-App.is (heads_app lines c.in-App.app c.args.self.now _ is refl c.in_ok-push-in-App.ensures.items refl refl)

pub returns-in-Fill-clause-said : goal.returns-in-Fill-clause-said
returns-in-Fill-clause-said c = λ lines is.
    rw c.in-Fill.is (heads_fill lines c.in-Fill.fill c.args.self.now _ is refl c.in_ok-push-in-Fill.ensures.items)

pub returns-in-Key-clause-said : goal.returns-in-Key-clause-said
returns-in-Key-clause-said c = λ lines is.
    rw c.in-Key.is (heads_key lines c.in-Key.key c.args.self.now _ is refl refl refl refl)

pub returns-clause-said : goal.returns-clause-said
returns-clause-said c = λ lines is. heads_none lines c.args.said c.args.self.now is c.in-Blank.is
