use Rattle.std.proofs.Common.{sym, subst}
use Rattle.std.specs.Prelude.{length}
use Rattle.teec.specs.Operation.{IsSendable, Sends}
use Rattle.teec.specs.declared.operation.Operation.{Operation}
use Rattle.client_play.proofs.Sendable.{sendable, sends}
use Rattle.client_runner.proofs.WithParams.{operation_is}
use Rattle.client_runner.proofs.operations.operation_of.Goals as goal

pub returns-clause-sendable : goal.returns-clause-sendable
returns-clause-sendable c =
    subst IsSendable
    (sym (operation_is c.args.params.now c.args.cancel_after c.in_ok-param_at.field-0 c.in_ok-param_at-2.field-0 c.in_ok-param_at-3.field-0
    c.in_ok-param_at-4.field-0 c.in_ok-param_at.ensures c.in_ok-param_at-2.ensures c.in_ok-param_at-3.ensures c.in_ok-param_at-4.ensures))
    (sendable c.args.params.now c.args.cancel_after c.requires.lengths)

pub returns-clause-sends : goal.returns-clause-sends
returns-clause-sends c =
    subst (λ (op : Operation). Sends op (length c.args.params.now))
    (sym (operation_is c.args.params.now c.args.cancel_after c.in_ok-param_at.field-0 c.in_ok-param_at-2.field-0 c.in_ok-param_at-3.field-0
    c.in_ok-param_at-4.field-0 c.in_ok-param_at.ensures c.in_ok-param_at-2.ensures c.in_ok-param_at-3.ensures c.in_ok-param_at-4.ensures))
    (sends c.args.params.now c.args.cancel_after c.requires.few)
