use Rattle.std.proofs.Common.{◌≡◌, ℕ, List, [], Option, Some, None, refl, ap, sym, subst, ◌∙◌, length}
use Rattle.std.specs.Prelude.{IsSomeAnd}
use Rattle.job_model.specs.Asking.{bytes_at, object_asking}
use Rattle.job_model.specs.Steps.{Advance, advance_on_answer, on_from}
use Rattle.rpc_cont.specs.Answering.{IsAnswered}
use Rattle.rpc_cont.specs.Conts.{job_at, memory_of, memory_size, call_owner}
use Rattle.rpc_cont.specs.declared.cont.Cont.{Cont}
use Rattle.rpc_cont.specs.declared.phase.Phase.TheVariants as phase
use Rattle.rpc_cont.specs.declared.stop.ContStop.TheVariants as stop
use Rattle.rpc_msgs.specs.Answer.{Replied}
use Rattle.ta_step.specs.Machine.{state_of}
use Rattle.ta_step.specs.Requests.{object_span}
use Rattle.ta_step.specs.State.{State}
use Rattle.ta_step.specs.declared.machine.Machine.{Machine as AnyMachine}
use Rattle.ta_step.specs.declared.stop.Request.TheVariants as request
use Rattle.tee_storage.specs.ObjectCalls.{Serving}
use Rattle.tee_storage.specs.States.{StandsFor}
use Rattle.tee_storage.specs.declared.step.StorageStep.TheVariants as storage
use Rattle.rpc_cont.proofs.Asking.{asking_for, holds_as, holds_there, object-asks, object-served, came-over, moved}
use Rattle.rpc_cont.proofs.Answered.{waiting, come-object, goes_or_asks, in_phase, one_more, ran-answered, stored-asks, stored-there}
use Rattle.rpc_cont.proofs.Spans.{store-same_but}
use Rattle.rpc_cont.proofs.cont.Cont.read_on.Goals as goal

pub returns-clause-answers : goal.returns-clause-answers
returns-clause-answers g c job waits =
    let bytes = g.M.TaMemory.bytes in
    let old = c.args.self.now in
    let owner = call_owner old in
    let call = c.args.call in
    let span = object_span call in
    let m = c.unwrap-machine.result in
    let n = c.into_machine.result in
    let s = state_of bytes m in
    let before = c.in-Some.state in
    let state = c.read_on-rpc.new.self in
    let rpc = c.read_on-rpc.result in
    let is : old.machine ≡ Some m = cc in
    let object_is : old.object ≡ Some before = cc in
    let wants = holds_there old.machine _ m is c.requires.asked in
    let w = waiting bytes old job m (request.Object call) c.requires.can waits is wants in
    let answer = Replied c.args.reply.now in
    let more = one_more w.asked answer in
    let left = c.read_on-rpc.new.span in
    let range = bytes_at (state_of bytes left.machine) left.addr left.len in
    let rest = c.read_on-rpc.ensures.rest ∙ c.of-span.ensures.rest in
    let stored = c.into_machine.ensures s span.0 span.1 w.asks.in_range rest in
    let here = stored-there s (state_of bytes n) (state_of bytes left.machine) left.addr left.len span.0 span.1 left.inside w.asks.in_range rest stored in
    let come = come-object owner (bytes_at s span.0 span.1) w.asked old call old.request old.object before object_is w.come in
    let asking = storage.Ask come.0.rpc come.0.payload in
    let came =
    subst (λ (r : List ℕ).
    StandsFor before call owner.uuid owner.key w.asked.range w.asked.objects w.asked.answers (record { step = asking; range = r; objects = old.objects }))
    (sym c.of-span.ensures.bytes) come.1
    in
    let stands = c.read_on-rpc.ensures.stands call owner.uuid owner.key w.asked.range w.asked.objects old.objects w.asked.answers come.0.rpc come.0.payload came in
    let step = storage.Ask rpc [] in
    let now : Serving = record { step = step; range = range; objects = old.objects } in
    let plain = record old { object = None } in
    let mid = moved plain n old.objects in
    let new = asking_for mid (Some state) rpc [] in
    let next = on_from (job_at bytes owner w.image mid) w.image w.here (state_of bytes n) more old.objects (object_asking step) in
    let calm = goes_or_asks (job_at bytes owner w.image mid) w.image w.here (state_of bytes n) more old.objects step refl in
    let asks = stored-asks old.cancelled call s (state_of bytes n) _ stored w.asks in
    let turn =
    object-asks bytes owner w.image mid new stop.Asks w.here n call more state step rpc [] w.names refl refl refl c.requires.can.pending.memory w.at refl asks
    (came-over (state_of bytes n) call owner.uuid owner.key more.range range more.objects old.objects more.answers state step here stands)
    in
    let done = ran-answered bytes mid new w.image (Some stop.Asks) phase.Asks next refl w.runs refl calm turn in
    let goes_on = λ (t : Advance). IsAnswered bytes (in_phase new phase.Asks) t in
    subst (λ (k : Cont _). IsSomeAnd (advance_on_answer answer job) (λ t. IsAnswered bytes (in_phase k phase.Asks) t)) (sym c.ask_next.ensures)
    (holds_as _ _ goes_on (w.given answer)
    (object-served bytes owner w.image plain w.here m n (Some w.asked) call more state now goes_on w.names stored stands done))

pub returns-clause-size : goal.returns-clause-size
returns-clause-size g c =
    let bytes = g.M.TaMemory.bytes in
    let old = c.args.self.now in
    let m = c.unwrap-machine.result in
    let s = state_of bytes m in
    let span = object_span c.args.call in
    let is : old.machine ≡ Some m = cc in
    let wants = holds_there old.machine _ m is c.requires.asked in
    let asks = (holds_there m.asked _ (request.Object c.args.call) wants (holds_there old.machine _ m is c.requires.can.pending.machine)).0 in
    let stored = c.into_machine.ensures s span.0 span.1 asks.in_range (c.read_on-rpc.ensures.rest ∙ c.of-span.ensures.rest) in
    let kept = store-same_but s span.0 _ in
    ap (λ (k : Cont _). memory_size bytes k) c.ask_next.ensures
    ∙ ap (λ (t : State). length t.memory) stored
    ∙ kept.memory
    ∙ ap (λ (o : Option (AnyMachine _)). length (memory_of bytes o old.memory)) (sym is)
