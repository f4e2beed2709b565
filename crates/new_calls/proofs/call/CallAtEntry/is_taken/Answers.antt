use Rattle.std.proofs.Common.{sym, ◌∙◌}
use Rattle.kernel_model.specs.NewCall.{shared_by}
use Rattle.kernel_model.specs.Sessions.{has_session}
use Rattle.kernel_state.specs.Setup.{application_of}
use Rattle.new_calls.proofs.Sharing.{has_counted, shared_number}
use Rattle.new_calls.specs.Deciding.{call_of}
use Rattle.new_calls.proofs.call.CallAtEntry.is_taken.Goals as goal

pub returns-in-Some : goal.returns-in-Some
returns-in-Some c =
    let call = call_of c.args.self.now in
    let app = application_of c.args.app.now in
    rw (sym c.if-is_multi_session.ensures)
    (sym (has_counted call.tables.sessions c.in-Some.shared.number c.users.result.all c.users.ensures.all)
    ∙ sym (shared_number (shared_by call app) c.in-Some.shared (λ number. has_session call.tables.sessions number) c.in-Some.ensures.shared))
