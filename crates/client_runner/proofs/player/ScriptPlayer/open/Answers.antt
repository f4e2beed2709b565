use Rattle.std.proofs.Common.{[], ◌∷◌, ◌++◌, length, ap, ◌∙◌}
use Rattle.client_text.specs.declared.script.ScriptCall.TheVariants as script
use Rattle.teec.specs.Calls.{open_call}
use Rattle.teec.specs.Operation.{operation_back}
use Rattle.teec.specs.declared.outcome.Opened.{Opened}
use Rattle.teec.specs.declared.operation.Operation.{Operation}
use Rattle.client_runner.proofs.Called.{can_stop_so, returns_so, stops_so}
use Rattle.client_runner.proofs.player.ScriptPlayer.open.Goals as goal

pub stop_of-requires : goal.stop_of-requires
stop_of-requires g c =
    can_stop_so g.B.OfBoot.booted c.requires.place c.args.self.now.names c.args.self.now.client c.open_session_sending-opened.new.self
    (script.Open c.args.name.now c.args.uuid c.args.params.now) c.in-Ok.op.cancel_after
    (open_call c.args.uuid c.in-Ok.op (length c.args.params.now)) c.requires.stands c.is_over.ensures
    (ap (λ (op : Operation). open_call c.args.uuid op (length c.args.params.now)) c.in-Ok.ensures.operation)
    (ap (λ (op : Operation). op.cancel_after) c.in-Ok.ensures.operation)
    c.in-Err.fault (c.in-Err.ensures.run c.requires.stands.alive.alive) c.requires.goes_on

pub returns-in-Err : goal.returns-in-Err
returns-in-Err g c = λ place at.
    let can = can_stop_so g.B.OfBoot.booted c.requires.place c.args.self.now.names c.args.self.now.client c.open_session_sending-opened.new.self
    (script.Open c.args.name.now c.args.uuid c.args.params.now) c.in-Ok.op.cancel_after
    (open_call c.args.uuid c.in-Ok.op (length c.args.params.now)) c.requires.stands c.is_over.ensures
    (ap (λ (op : Operation). open_call c.args.uuid op (length c.args.params.now)) c.in-Ok.ensures.operation)
    (ap (λ (op : Operation). op.cancel_after) c.in-Ok.ensures.operation)
    c.in-Err.fault (c.in-Err.ensures.run c.requires.stands.alive.alive) c.requires.goes_on in
    stops_so g.B.OfBoot.booted place c.args.self.now.names c.args.self.now.client c.open_session_sending-opened.new.self
    (script.Open c.args.name.now c.args.uuid c.args.params.now) c.in-Ok.op.cancel_after
    (open_call c.args.uuid c.in-Ok.op (length c.args.params.now)) at c.is_over.ensures
    (ap (λ (op : Operation). open_call c.args.uuid op (length c.args.params.now)) c.in-Ok.ensures.operation)
    (ap (λ (op : Operation). op.cancel_after) c.in-Ok.ensures.operation)
    c.in-Err.fault (c.in-Err.ensures.run at.alive.alive) can c.args.self.now.names c.stop_of.result c.stop_of.ensures

pub returns-in_ok-add-in-Ok-opened : goal.returns-in_ok-add-in-Ok-opened
returns-in_ok-add-in-Ok-opened g c = λ place at.
    let ram = c.open_session_sending-opened.new.self.world.ram in
    let told = c.in-Ok-opened.ensures.told in
    returns_so g.B.OfBoot.booted place c.args.self.now.names c.args.self.now.client c.open_session_sending-opened.new.self
    (script.Open c.args.name.now c.args.uuid c.args.params.now) c.in-Ok.op.cancel_after
    (open_call c.args.uuid c.in-Ok.op (length c.args.params.now)) at c.is_over.ensures
    (ap (λ (op : Operation). open_call c.args.uuid op (length c.args.params.now)) c.in-Ok.ensures.operation)
    (ap (λ (op : Operation). op.cancel_after) c.in-Ok.ensures.operation)
    (c.in-Ok-opened.ensures.run at.alive.alive) c.in-Ok-opened.ensures.tries c.in-Ok-opened.ensures.answers
    (c.in-Ok-opened.ensures.keeps at.alive.alive)
    c.add.new.self (c.in_ok-add-in-Ok-opened.ensures.opened ∙ (λ i. at.names i ++ (c.args.name.now, (told i).session) ∷ []))
    (record { told = c.in-Ok-opened.opened.result; params = c.open_session_sending-opened.new.op.params })
    (ap (λ (opened : Opened). opened.result) told)
    (ap (λ (op : Operation). op.params) c.in-Ok-opened.ensures.outputs
    ∙ ap (λ (op : Operation). (operation_back ram 2 op).params) c.in-Ok.ensures.operation)
