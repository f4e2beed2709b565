use Rattle.kernel_state.specs.Tables.{instance_of}
use Rattle.new_calls.specs.Deciding.{call_of}
use Rattle.new_calls.proofs.Naming.{named_kept}
use Rattle.new_calls.proofs.call.CallAtEntry.close_session.Goals as goal

pub app_on-requires : goal.app_on-requires
app_on-requires c =
    let session = c.in-Some.session in
    let instance = instance_of c.in-Some.instance.now in
    c.requires session.instance instance (named_kept (call_of c.args.self.now) session instance c.in-Some.ensures)
