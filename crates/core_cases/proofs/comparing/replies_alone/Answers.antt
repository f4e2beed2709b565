use Rattle.std.proofs.Common.{◌≡◌, subst, sym}
use Rattle.core_cases.proofs.Fed.{fed_first}
use Rattle.core_cases.proofs.comparing.replies_alone.Goals as goal
use Rattle.core_cases.specs.Feeding.{AreOfOnlyApp}
use Rattle.native_tas.specs.Table.{entries}
use Rattle.solo.specs.Feeding.{IsFed}

pub feed-requires : goal.feed-requires
feed-requires g c =
    let boot = c.args.boot.now in
    let events = c.in_ok-events.events.items in
    let two = c.as_slice-2.ensures.value in
    let four = c.as_slice-4.ensures.value in
    let second : c.as_slice-2.result.now ≡ events = cc in
    let fourth : c.as_slice-4.result.now ≡ events = cc in
    subst (IsFed c.in_ok-machine.machine) (sym fourth)
    (fed_first boot (entries c.args.natives.now) c.args.journal.now.events c.args.session events _ c.in_ok-machine.machine c.requires
    (subst (AreOfOnlyApp boot) second (c.are_of_only_app.ensures c.if-not-are_of_only_app.false))
    c.in_ok-events.ensures.events
    c.in_ok-events.ensures.feeds c.in_ok-machine.ensures.app c.in_ok-machine.ensures.unopened)
