use Rattle.std.proofs.Common.{rules, ◌≡◌, true, false}
use Rattle.solo.proofs.Outgoing.{shown_so, shows_now}
use Rattle.solo.proofs.solo_session.SoloSession.show_once.Goals as goal

pub returns-then-not-shown-clause-going : goal.returns-then-not-shown-clause-going
returns-then-not-shown-clause-going c most solo call going beside is e =
    let old = c.args.cont.now in
    let fresh : old.done ≡ false = search rules in
    shows_now c.args.self.now c.end_unrun.new.self old c.end_unrun.new.cont solo call going most
    (record { beside = c.end_unrun.ensures.beside; wakes = c.end_unrun.ensures.wakes; stays = c.end_unrun.ensures.stays }) beside is c.requires fresh e

pub returns-else-not-shown-clause-going : goal.returns-else-not-shown-clause-going
returns-else-not-shown-clause-going c most solo call going beside is e =
    let old = c.args.cont.now in
    let shown : old.done ≡ true = search rules in
    shown_so c.args.self.now old solo call going most beside is c.requires shown e
