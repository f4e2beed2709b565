use Rattle.std.proofs.Common.{◌≡◌, [], List, get_or, subst, sym}
use Rattle.std.specs.Prelude.{IsSomeAnd, true}
use Rattle.core_cases.proofs.GroupFed.{first_shares, group_fed}
use Rattle.core_cases.proofs.groups.replies_alone.Goals as goal
use Rattle.group_solo.specs.Feeding.{IsFed}
use Rattle.kernel_model.specs.Application.{booted}
use Rattle.kernel_model.specs.Instances.{app_of, is_single}
use Rattle.native_tas.specs.Table.{entries}
use Rattle.ta_isa.specs.declared.boot.App.{App}

pub feed-requires : goal.feed-requires
feed-requires g c =
    let boot = c.args.boot.now in
    let none = c.index-as_slice-0.result in
    let events = c.in_ok-events.events.items in
    let shown = c.as_slice-3.ensures.value in
    let same : c.as_slice-3.result.now ≡ events = cc in
    let shares : IsSomeAnd (app_of (booted boot []) (get_or c.as_slice.result.now 0 none).uuid) (λ app. is_single app ≡ true) =
    subst (λ (apps : List App). IsSomeAnd (app_of (booted boot []) (get_or apps 0 none).uuid) (λ app. is_single app ≡ true))
    (sym c.as_slice.ensures) (first_shares boot none c.requires.app) in
    subst (IsFed c.in_ok-machine.machine) (sym same)
    (group_fed boot (entries c.args.natives.now) c.args.journal.now.events events (get_or c.as_slice.result.now 0 none).uuid
    c.in_ok-machine.machine c.requires.journal shares c.in_ok-events.ensures.feeds c.in_ok-machine.ensures.app
    c.in_ok-machine.ensures.nobody)
