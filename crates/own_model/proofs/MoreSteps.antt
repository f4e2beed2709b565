-- A machine that is given more steps to a job's stop than it takes answers the same.
use Rattle.std.proofs.Common.{◌≡◌, ℕ, ◌≤◌, true, false, List, [], ◌∷◌, Option, Some, ap, ◌∙◌, arith}
use Rattle.std.specs.Option.{option_map, option_and_then}
use Rattle.std.proofs.lemmas.Option.{option_and_then_some}
use Rattle.base.specs.NumberMap.{get}
use Rattle.job_model.specs.Job.{Job}
use Rattle.job_model.specs.Steps.{Grant, Left, Stopped, grant_of}
use Rattle.job_model.proofs.JobSteps.{granted-IsGrant, stop-granted}
use Rattle.kernel_model.specs.Application.{Application}
use Rattle.kernel_model.specs.Kernel.{Asks, CallPhase, Ends, Runs, Waits}
use Rattle.kernel_model.proofs.Parts.{option_map_some}
use Rattle.own_model.specs.Laws.{MoreStepsAgree}
use Rattle.own_model.specs.Solo.{Answered, Going, OwnCall, Solo, and_reply, going_in, goes_out, goes_out_in, run, step}
use Rattle.own_model.specs.Solo.{taken_on}
use Rattle.own_model.specs.declared.own_event.OwnEvent.{OwnEvent}
use Rattle.own_model.specs.declared.own_event.OwnEvent.TheVariants.{Open, Invoke, Close, Cancel, Seen, Back, Out}
use Rattle.own_model.specs.declared.own_event.OwnEvent.TheVariants.{Limited}
use Rattle.own_model.specs.declared.own_reply.OwnReply.{OwnReply}

at_most : (used most more : ℕ) → used ≤ most → most ≤ more → used ≤ more
at_most used most more le more_le = omega arith

-- ---- one event

-- a job that has come to its stop
taken_more : (most more : ℕ) (z : Solo) (call : OwnCall) (job : Job) (grant : Grant) (going : Going) → most ≤ more
    → grant_of most job ≡ Some grant
    → taken_on z call grant ≡ Some going → option_and_then (taken_on z call) (grant_of more job) ≡ Some going
taken_more most more z call job (Left left) going le granted taken = absurd cc
taken_more most more z call job (Stopped used why) going le granted taken =
    let stops = granted-IsGrant job most (Stopped used why) granted in
    ap (λ (o : Option Grant). option_and_then (taken_on z call) o)
    (stop-granted job more used why (at_most used most more stops.0 le) stops.1) ∙ taken

going_more : (most more : ℕ) (z : Solo) (call : OwnCall) (phase : CallPhase) (going : Going) → most ≤ more
    → going_in most z call phase ≡ Some going → going_in more z call phase ≡ Some going
going_more most more z call (Runs job) going le e =
    option_and_then_some (taken_on z call) (grant_of most job) going e
    (λ grant granted onward. taken_more most more z call job grant going le granted onward)
going_more most more z call (Asks job wanted payload) going le e = e
going_more most more z call (Waits params) going le e = e
going_more most more z call (Ends result params true wakes) going le e = e
going_more most more z call (Ends result params false wakes) going le e = e

out_more : (most more : ℕ) (z : Solo) (number : ℕ) (call : OwnCall) (answered : Answered) → most ≤ more
    → goes_out most z number call ≡ Some answered → goes_out more z number call ≡ Some answered
out_more most more z number call answered le e =
    let on : Going → Option Answered = λ (going : Going). goes_out_in going.solo number going.call going.call.phase in
    option_and_then_some on (going_in most z call call.phase) answered e
    (λ going comes onward. ap (λ (o : Option Going). option_and_then on o)
    (going_more most more z call call.phase going le comes) ∙ onward)

step_more : (most more : ℕ) (app : Application) (z : Solo) (came : OwnEvent) (answered : Answered) → most ≤ more
    → step most app z came ≡ Some answered → step more app z came ≡ Some answered
step_more most more app z (Open params login area) answered le e = e
step_more most more app z (Invoke func input area) answered le e = e
step_more most more app z (Close area) answered le e = e
step_more most more app z Cancel answered le e = e
step_more most more app z (Seen number done_by_now) answered le e = e
step_more most more app z (Back number input) answered le e = e
step_more most more app z (Out number) answered le e =
    option_and_then_some (goes_out most z number) (get z.calls number) answered e
    (λ call there onward. ap (λ (o : Option OwnCall). option_and_then (goes_out more z number) o) there
    ∙ out_more most more z number call answered le onward)
step_more most more app z Limited answered le e = e

-- ---- events in a row

abbrev pub Ended : Type 0
Ended = Solo × List OwnReply

-- what the machine comes to behind an event that was answered so
abbrev pub behind : ℕ → Application → List OwnEvent → Answered → Option Ended
behind most app events answered =
    option_map (λ (rest : Ended). (rest.0, and_reply answered.1 rest.1)) (run most app answered.0 events)

pub more_steps_agree : MoreStepsAgree
more_steps_agree app most more solo then [] replies le e = e
more_steps_agree app most more solo then (came ∷ events) replies le e =
    option_and_then_some (behind most app events) (step most app solo came) (then, replies) e
    (λ answered steps onward.
    let rest = option_map_some (λ (rest : Ended). (rest.0, and_reply answered.1 rest.1))
    (run most app answered.0 events) (then, replies) onward in
    ap (λ (o : Option Answered). option_and_then (behind more app events) o)
    (step_more most more app solo came answered le steps)
    ∙ ap (λ (o : Option Ended). option_map (λ (r : Ended). (r.0, and_reply answered.1 r.1)) o)
    (more_steps_agree app most more answered.0 rest.0.0 events rest.0.1 le rest.1)
    ∙ ap (λ (end : Ended). Some end) rest.2)
