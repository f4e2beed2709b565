use Rattle.kernel_state.proofs.Applications.{app_of_boot}
use Rattle.kernel_state.proofs.setup.Setup.application.Goals as goal

pub returns-in-Some : goal.returns-in-Some
returns-in-Some c = app_of_boot c.args.self.now c.args.uuid.now c.in-Some.app.now c.in_ok-share.field-0 c.in-Some.ensures c.in_ok-share.ensures
