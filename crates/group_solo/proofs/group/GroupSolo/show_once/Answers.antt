use Rattle.std.proofs.Common.{rules, ◌≡◌, true, false}
use Rattle.group_solo.proofs.Outgoing.{shown_so, shows_now}
use Rattle.group_solo.proofs.group.GroupSolo.show_once.Goals as goal

pub returns-then-not-shown-clause-going : goal.returns-then-not-shown-clause-going
returns-then-not-shown-clause-going c most g own going beside is e =
    let old = c.args.call.now in
    let fresh : old.cont.done ≡ false = search rules in
    shows_now c.args.self.now c.end_unrun.new.self old c.end_unrun.new.call g own going most
    (record { beside = c.end_unrun.ensures.beside; wakes = c.end_unrun.ensures.wakes; stays = c.end_unrun.ensures.stays }) beside is c.requires fresh e

pub returns-else-not-shown-clause-going : goal.returns-else-not-shown-clause-going
returns-else-not-shown-clause-going c most g own going beside is e =
    let old = c.args.call.now in
    let shown : old.cont.done ≡ true = search rules in
    shown_so c.args.self.now old g own going most beside is c.requires shown e
