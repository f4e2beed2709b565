use Rattle.std.proofs.Common.{◌∙◌, ap, map}
use Rattle.native_tas.specs.Table.{entries}
use Rattle.solo.proofs.Applications.{found_beside, found_in_boot, native_of, none_there}
use Rattle.solo.proofs.apps.application.Goals as goal

pub returns-in-Some : goal.returns-in-Some
returns-in-Some g c =
    found_in_boot c.args.boot.now (entries c.args.natives.now) c.args.uuid.now c.in-Some.app.now c.in_ok-shared_app.field-0 c.in-Some.ensures
    c.in_ok-shared_app.ensures

pub returns-in-Some-of_natives : goal.returns-in-Some-of_natives
returns-in-Some-of_natives g c =
    found_beside c.args.boot.now (entries c.args.natives.now) c.args.uuid.now c.as_slice.result.now _ (none_there c.of_boot.result _ c.of_boot.ensures c.in_default.is)
    (ap (map native_of) c.as_slice.ensures.value ∙ c.in_ok-natives.ensures) c.in-Some-of_natives.ensures

pub returns : goal.returns
returns g c =
    found_beside c.args.boot.now (entries c.args.natives.now) c.args.uuid.now c.as_slice.result.now _ (none_there c.of_boot.result _ c.of_boot.ensures c.in_default.is)
    (ap (map native_of) c.as_slice.ensures.value ∙ c.in_ok-natives.ensures) c.in-None.ensures
