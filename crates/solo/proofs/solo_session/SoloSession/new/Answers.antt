use Rattle.std.proofs.Common.{◌∙◌, refl, sym, ap}
use Rattle.std.specs.Option.{option_map}
use Rattle.begin_call.proofs.Apps.{valid_app}
use Rattle.kernel_state.specs.Setup.{application_of}
use Rattle.native_tas.specs.Table.{entries}
use Rattle.solo.proofs.Unopened.{is_unopened}
use Rattle.solo.proofs.solo_session.SoloSession.new.Goals as goal

pub returns-clause-unopened : goal.returns-clause-unopened
returns-clause-unopened g c =
    is_unopened _ refl refl c.new.ensures.items c.new-2.ensures.items
    (valid_app c.args.boot.now (entries c.args.natives.now) c.args.uuid (application_of c.in-Some.app) c.requires.boot
    (sym c.in_ok-app.ensures ∙ ap (option_map application_of) c.in-Some.is))
