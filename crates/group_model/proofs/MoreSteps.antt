-- A machine that is given more steps to a job's stop than it takes answers the same.
use Rattle.std.proofs.Common.{◌≡◌, ℕ, ◌≤◌, true, false, List, [], ◌∷◌, Option, Some, ap, ◌∙◌, arith}
use Rattle.std.specs.Option.{option_map, option_and_then}
use Rattle.std.proofs.lemmas.Option.{option_and_then_some}
use Rattle.base.specs.NumberMap.{get}
use Rattle.job_model.specs.Job.{Job}
use Rattle.job_model.specs.Steps.{Grant, Left, Stopped, grant_of}
use Rattle.job_model.proofs.JobSteps.{granted-IsGrant, stop-granted}
use Rattle.kernel_model.specs.Application.{Application}
use Rattle.kernel_model.specs.Kernel.{Asks, CallPhase, Ends, Runs, Waits}
use Rattle.kernel_model.proofs.Parts.{option_map_some}
use Rattle.group_model.specs.Machine.{MoreStepsAgree}
use Rattle.group_model.specs.Group.{Answered, Going, Group, GroupCall, and_reply, going_in, goes_out, goes_out_in, run, step}
use Rattle.group_model.specs.Group.{taken_on}
use Rattle.group_model.specs.declared.group_event.GroupEvent.{GroupEvent}
use Rattle.group_model.specs.declared.group_event.GroupEvent.TheVariants.{Open, Invoke, Close, Cancel, Seen, Room, Back, Out}
use Rattle.group_model.specs.declared.group_reply.GroupReply.{GroupReply}

at_most : (used most more : ℕ) → used ≤ most → most ≤ more → used ≤ more
at_most used most more le more_le = omega arith

-- ---- one event

-- a job that has come to its stop
taken_more : (most more : ℕ) (g : Group) (call : GroupCall) (job : Job) (grant : Grant) (going : Going) → most ≤ more
    → grant_of most job ≡ Some grant
    → taken_on g call grant ≡ Some going → option_and_then (taken_on g call) (grant_of more job) ≡ Some going
taken_more most more g call job (Left left) going le granted taken = absurd cc
taken_more most more g call job (Stopped used why) going le granted taken =
    let stops = granted-IsGrant job most (Stopped used why) granted in
    ap (λ (o : Option Grant). option_and_then (taken_on g call) o)
    (stop-granted job more used why (at_most used most more stops.0 le) stops.1) ∙ taken

going_more : (most more : ℕ) (g : Group) (call : GroupCall) (phase : CallPhase) (going : Going) → most ≤ more
    → going_in most g call phase ≡ Some going → going_in more g call phase ≡ Some going
going_more most more g call (Runs job) going le e =
    option_and_then_some (taken_on g call) (grant_of most job) going e
    (λ grant granted onward. taken_more most more g call job grant going le granted onward)
going_more most more g call (Asks job wanted payload) going le e = e
going_more most more g call (Waits params) going le e = e
going_more most more g call (Ends result params true wakes) going le e = e
going_more most more g call (Ends result params false wakes) going le e = e

out_more : (most more : ℕ) (g : Group) (number : ℕ) (call : GroupCall) (answered : Answered) → most ≤ more
    → goes_out most g number call ≡ Some answered → goes_out more g number call ≡ Some answered
out_more most more g number call answered le e =
    let on : Going → Option Answered = λ (going : Going). goes_out_in going.group number going.call going.call.phase in
    option_and_then_some on (going_in most g call call.phase) answered e
    (λ going comes onward. ap (λ (o : Option Going). option_and_then on o)
    (going_more most more g call call.phase going le comes) ∙ onward)

step_more : (most more : ℕ) (app : Application) (g : Group) (came : GroupEvent) (answered : Answered) → most ≤ more
    → step most app g came ≡ Some answered → step more app g came ≡ Some answered
step_more most more app g (Open input login limited area) answered le e = e
step_more most more app g (Invoke session func input area) answered le e = e
step_more most more app g (Close session area) answered le e = e
step_more most more app g (Cancel session) answered le e = e
step_more most more app g (Seen number done_by_now) answered le e = e
step_more most more app g (Room number enough) answered le e = e
step_more most more app g (Back number input) answered le e = e
step_more most more app g (Out number) answered le e =
    option_and_then_some (goes_out most g number) (get g.calls number) answered e
    (λ call there onward. ap (λ (o : Option GroupCall). option_and_then (goes_out more g number) o) there
    ∙ out_more most more g number call answered le onward)

-- ---- events in a row

abbrev pub Ended : Type 0
Ended = Group × List GroupReply

-- what the machine comes to behind an event that was answered so
abbrev pub behind : ℕ → Application → List GroupEvent → Answered → Option Ended
behind most app events answered =
    option_map (λ (rest : Ended). (rest.0, and_reply answered.1 rest.1)) (run most app answered.0 events)

-- at one event
pub one_step : (most : ℕ) (app : Application) (g next : Group) (came : GroupEvent) (told : Option GroupReply)
    → step most app g came ≡ Some (next, told) → run most app g (came ∷ []) ≡ Some (next, and_reply told [])
one_step most app g next came told is = ap (λ (o : Option Answered). option_and_then (behind most app []) o) is

pub more_steps_agree : MoreStepsAgree
more_steps_agree app most more g then [] replies le e = e
more_steps_agree app most more g then (came ∷ events) replies le e =
    option_and_then_some (behind most app events) (step most app g came) (then, replies) e
    (λ answered steps onward.
    let rest = option_map_some (λ (rest : Ended). (rest.0, and_reply answered.1 rest.1))
    (run most app answered.0 events) (then, replies) onward in
    ap (λ (o : Option Answered). option_and_then (behind more app events) o)
    (step_more most more app g came answered le steps)
    ∙ ap (λ (o : Option Ended). option_map (λ (r : Ended). (r.0, and_reply answered.1 r.1)) o)
    (more_steps_agree app most more answered.0 rest.0.0 events rest.0.1 le rest.1)
    ∙ ap (λ (end : Ended). Some end) rest.2)
