use Rattle.std.proofs.Common.{◌≡◌, [], true, refl, sym}
use Rattle.begin_call.proofs.Apps.{valid_app}
use Rattle.kernel_model.specs.Instances.{is_single}
use Rattle.kernel_state.specs.Setup.{application_of}
use Rattle.solo.proofs.Applications.{found_in_boot, none_there}
use Rattle.group_solo.proofs.Nobody.{in_boot, nobody}
use Rattle.group_solo.proofs.group.GroupSolo.new.Goals as goal

pub unreachable-requires : goal.unreachable-requires
unreachable-requires c =
    in_boot c.args.boot.now c.args.uuid (λ app. is_single app ≡ true) c.requires.app (none_there c.of_boot.result _ c.of_boot.ensures c.in_default.is)

pub returns-clause-app : goal.returns-clause-app
returns-clause-app c = sym (found_in_boot c.args.boot.now [] c.args.uuid c.in-Some.app.now _ c.in-Some.ensures c.in_ok-shared_app.ensures)

pub returns-clause-nobody : goal.returns-clause-nobody
returns-clause-nobody c =
    nobody _ (record {
      sessions = c.new.ensures.items;
      instance = refl;
      waiting = c.new-2.ensures.items;
      calls = c.new-3.ensures.items;
      next_session = refl;
      next_instance = refl;
    })
    (valid_app c.args.boot.now [] c.args.uuid (application_of c.in_ok-shared_app.field-0) c.requires.boot
    (sym (found_in_boot c.args.boot.now [] c.args.uuid c.in-Some.app.now _ c.in-Some.ensures c.in_ok-shared_app.ensures)))
