use Rattle.std.proofs.Common.{length, ap, ◌∙◌}
use Rattle.client_play.specs.Calls.{Sessions, session_of}
use Rattle.client_text.specs.declared.script.ScriptCall.TheVariants as script
use Rattle.teec.specs.Calls.{invoke_call}
use Rattle.teec.specs.Operation.{operation_back}
use Rattle.teec.specs.declared.operation.Operation.{Operation}
use Rattle.client_runner.proofs.Called.{can_stop_so, returns_so, stops_so}
use Rattle.client_runner.proofs.player.ScriptPlayer.invoke.Goals as goal

pub stop_of-requires : goal.stop_of-requires
stop_of-requires g c =
    let named = c.session_of-session.ensures ∙ ap (λ (s : Sessions). session_of s c.args.name.now) c.requires.stands.names in
    can_stop_so g.B.OfBoot.booted c.requires.place c.args.self.now.names c.args.self.now.client c.invoke_sending-told.new.self
    (script.Invoke c.args.name.now c.args.func c.args.cancel_after c.args.params.now) c.in-Ok.op.cancel_after
    (invoke_call c.session_of-session.result c.args.func c.in-Ok.op (length c.args.params.now)) c.requires.stands c.is_over.ensures
    (λ i. invoke_call (named i) c.args.func (c.in-Ok.ensures.operation i) (length c.args.params.now))
    (ap (λ (op : Operation). op.cancel_after) c.in-Ok.ensures.operation)
    c.in-Err.fault (c.in-Err.ensures.run c.requires.stands.alive.alive) c.requires.goes_on

pub returns-in-Ok-told : goal.returns-in-Ok-told
returns-in-Ok-told g c = λ place at.
    let named = c.session_of-session.ensures ∙ ap (λ (s : Sessions). session_of s c.args.name.now) at.names in
    let ram = c.invoke_sending-told.new.self.world.ram in
    returns_so g.B.OfBoot.booted place c.args.self.now.names c.args.self.now.client c.invoke_sending-told.new.self
    (script.Invoke c.args.name.now c.args.func c.args.cancel_after c.args.params.now) c.in-Ok.op.cancel_after
    (invoke_call c.session_of-session.result c.args.func c.in-Ok.op (length c.args.params.now)) at c.is_over.ensures
    (λ i. invoke_call (named i) c.args.func (c.in-Ok.ensures.operation i) (length c.args.params.now))
    (ap (λ (op : Operation). op.cancel_after) c.in-Ok.ensures.operation)
    (c.in-Ok-told.ensures.run at.alive.alive) c.in-Ok-told.ensures.tries c.in-Ok-told.ensures.answers (c.in-Ok-told.ensures.keeps at.alive.alive)
    c.args.self.now.names at.names (record { told = c.in-Ok-told.told; params = c.invoke_sending-told.new.op.params })
    c.in-Ok-told.ensures.told
    (ap (λ (op : Operation). op.params) c.in-Ok-told.ensures.outputs
    ∙ ap (λ (op : Operation). (operation_back ram 0 op).params) c.in-Ok.ensures.operation)

pub returns-in-Err : goal.returns-in-Err
returns-in-Err g c = λ place at.
    let named = c.session_of-session.ensures ∙ ap (λ (s : Sessions). session_of s c.args.name.now) at.names in
    let was = c.session_of-session.ensures ∙ ap (λ (s : Sessions). session_of s c.args.name.now) c.requires.stands.names in
    let can = can_stop_so g.B.OfBoot.booted c.requires.place c.args.self.now.names c.args.self.now.client c.invoke_sending-told.new.self
    (script.Invoke c.args.name.now c.args.func c.args.cancel_after c.args.params.now) c.in-Ok.op.cancel_after
    (invoke_call c.session_of-session.result c.args.func c.in-Ok.op (length c.args.params.now)) c.requires.stands c.is_over.ensures
    (λ i. invoke_call (was i) c.args.func (c.in-Ok.ensures.operation i) (length c.args.params.now))
    (ap (λ (op : Operation). op.cancel_after) c.in-Ok.ensures.operation)
    c.in-Err.fault (c.in-Err.ensures.run c.requires.stands.alive.alive) c.requires.goes_on in
    stops_so g.B.OfBoot.booted place c.args.self.now.names c.args.self.now.client c.invoke_sending-told.new.self
    (script.Invoke c.args.name.now c.args.func c.args.cancel_after c.args.params.now) c.in-Ok.op.cancel_after
    (invoke_call c.session_of-session.result c.args.func c.in-Ok.op (length c.args.params.now)) at c.is_over.ensures
    (λ i. invoke_call (named i) c.args.func (c.in-Ok.ensures.operation i) (length c.args.params.now))
    (ap (λ (op : Operation). op.cancel_after) c.in-Ok.ensures.operation)
    c.in-Err.fault (c.in-Err.ensures.run at.alive.alive) can c.args.self.now.names c.stop_of.result c.stop_of.ensures
