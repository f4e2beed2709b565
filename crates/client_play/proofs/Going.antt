-- A run of SMCs that a core has served is a call on the core, or comes to where it stops.
use Rattle.std.proofs.Common.{◌≡◌, ℕ, zero, suc, ◌+◌, ◌-◌, ◌≤◌, ◌^◌, List, [], ◌∷◌, ◌++◌, length, Option, Some, None, refl, sym, ap, subst, ◌∙◌, arith, inl, inr, append_assoc, append-nil}
use Rattle.std.specs.List.{flat_map}
use Rattle.std.specs.Option.{option_and_then, option_map_or}
use Rattle.std.proofs.lemmas.List.Sums.{sum_by-append}
use Rattle.event_journal.specs.Event.{copied_by}
use Rattle.event_journal.specs.Journal.{copied_bytes}
use Rattle.event_journal.specs.declared.event.Event.{Event}
use Rattle.kernel_model.specs.Application.{Booted}
use Rattle.kernel_model.specs.Kernel.{Kernel}
use Rattle.ns_ram.specs.Reads.{total_bytes}
use Rattle.play_model.specs.Play.{Play}
use Rattle.smc_abi.specs.declared.regs.Regs.{Regs}
use Rattle.smc_port.specs.Smc.{Changes, Smc}
use Rattle.teec.specs.Rounds.{Calls, Cancels, Ended, Failed, Resumes, Stage, regs_at}
use Rattle.teec.specs.Runs.{Scene, Turns}
use Rattle.teec.specs.declared.fault.TeecFault.{TeecFault}
use Rattle.client_play.specs.Served.{CallOn, HasNoRoom, IsRun, IsServed, Point, RunsAreCalls, RunsFail, RunsStop, comes_from, events_of, point_of, scene_of}
use Rattle.client_play.specs.Standing.{Came, Fails, Returned, Standing, Stopped, after_smc, answer_of, next_stage, play_of, prepared, standing_after, unless_ended, unless_full}
use Rattle.client_play.proofs.Preparing.{prepares_alike}
use Rattle.client_play.proofs.Smcs.{one_smc}

-- ---- a step

-- at a stage that has a next SMC, this is made
pub next_smc : (room : ℕ) (stage : Stage) (standing : Standing) (makes : Regs → Option Came) (regs : Regs)
    → regs_at stage ≡ Some regs → unless_ended room stage standing makes ≡ makes regs
next_smc room (Calls refused) standing makes regs is = ap (λ (o : Option Regs). option_and_then makes o) is
next_smc room (Cancels returns rpc) standing makes regs is = ap (λ (o : Option Regs). option_and_then makes o) is
next_smc room (Resumes returns rpc) standing makes regs is = ap (λ (o : Option Regs). option_and_then makes o) is
next_smc room Ended standing makes regs is = let none : None ≡ Some regs = is in absurd cc
next_smc room (Failed fault) standing makes regs is = let none : None ≡ Some regs = is in absurd cc

-- what stands after an SMC
behind : Standing → Smc → Kernel → Scene → Standing
behind old smc next between = record {
  kernel = next;
  history = old.history ++ events_of smc;
  ram = between.ram;
  storage = between.storage;
}

-- and how far the call has come
abbrev point_behind : CallOn → Point → Smc → Kernel → Scene → Point
point_behind on from smc next between =
    point_of (next_stage on.cancel_after from.stage smc.answer) (behind from.standing smc next between)

goes_on : (on : CallOn) (from : Point) (room : ℕ) (smc : Smc) (next : Kernel) (between : Scene)
    → Turns on.call from.stage (scene_of from.standing) smc between → IsServed on.boot from.standing.kernel smc next
    → copied_bytes from.standing.history + total_bytes smc.reads ≤ 2 ^ 28
    → comes_from on from (suc room) ≡ comes_from on (point_behind on from smc next between) room
unfolding behind
goes_on on from room smc next between turns served few =
    let asked = prepared on.call from.stage from.standing in
    let ready : turns.asked ≡ scene_of asked = (prepares_alike on.call from.stage (scene_of from.standing) turns.asked).0 turns.prepared in
    let changes = subst (λ (scene : Scene). Changes scene.ram smc between.ram) ready turns.changed in
    let stored : asked.storage ≡ between.storage = sym (turns.storage ∙ ap (λ (scene : Scene). scene.storage) ready) in
    let to = one_smc on.boot asked smc next between.ram served changes few in
    let onward = λ (play : Play).
    comes_from on (point_of (next_stage on.cancel_after from.stage (answer_of play)) (standing_after play asked.storage)) room in
    next_smc (suc room) from.stage from.standing (λ regs. option_and_then (unless_full onward) (after_smc on.boot regs asked)) smc.regs turns.regs
    ∙ ap (λ (o : Option Play). option_and_then (unless_full onward) o) to.comes
    ∙ ap (λ (o : Option ℕ). option_map_or (λ more. Some (Stopped more to.play.history)) o (onward to.play)) to.going
    ∙ (λ i. comes_from on (point_of (next_stage on.cancel_after from.stage (to.answer i))
    (record { kernel = to.kernel i; history = to.history i; ram = to.lane i; storage = stored i })) room)

-- ---- how many bytes were read

few_at_first : (old : List Event) (smc : Smc) (smcs : List Smc) (new : List Event)
    → new ≡ old ++ flat_map events_of (smc ∷ smcs) → copied_bytes new ≤ 2 ^ 28
    → copied_bytes old + total_bytes smc.reads ≤ 2 ^ 28
few_at_first old smc smcs new is few =
    let sum : copied_bytes new ≡ copied_bytes old + copied_bytes (flat_map events_of (smc ∷ smcs)) =
    ap copied_bytes is ∙ sum_by-append copied_by old (flat_map events_of (smc ∷ smcs)) in
    let parts : copied_bytes (flat_map events_of (smc ∷ smcs)) ≡ copied_bytes (events_of smc) + copied_bytes (flat_map events_of smcs) =
    sum_by-append copied_by (events_of smc) (flat_map events_of smcs) in
    let one : copied_bytes (events_of smc) ≡ total_bytes smc.reads = omega arith in
    omega (arith, sum, parts, one, few)

-- ---- the rest of a run

-- where its first SMC has led
abbrev behind_first : (on : CallOn) (from to : Point) (smc : Smc) (smcs : List Smc) → IsRun on from (smc ∷ smcs) to → Point
behind_first on from to smc smcs run = point_behind on from smc run.served.0 run.runs.0

rest_of : (on : CallOn) (from to : Point) (smc : Smc) (smcs : List Smc) (run : IsRun on from (smc ∷ smcs) to)
    → IsRun on (behind_first on from to smc smcs run) smcs to
unfolding behind
rest_of on from to smc smcs run = record {
  served = run.served.2;
  history = run.history ∙ sym (append_assoc from.standing.history (events_of smc) (flat_map events_of smcs));
  few_bytes = run.few_bytes;
  runs = run.runs.2;
}

-- a run steps on as the call does
steps : (on : CallOn) (from to : Point) (smc : Smc) (smcs : List Smc) (room : ℕ) (run : IsRun on from (smc ∷ smcs) to)
    → comes_from on from (suc room) ≡ comes_from on (behind_first on from to smc smcs run) room
steps on from to smc smcs room run =
    goes_on on from room smc run.served.0 run.runs.0 run.runs.1 run.served.1
    (few_at_first from.standing.history smc smcs to.standing.history run.history run.few_bytes)

-- one of no SMCs
stays : (on : CallOn) (from to : Point) → IsRun on from [] to → (to.stage ≡ from.stage) × (to.standing ≡ from.standing)
stays on from to run = (
  run.runs.0,
  λ i. record {
    kernel = run.served i;
    history = (run.history ∙ append-nil from.standing.history) i;
    ram = (run.runs.1 i).ram;
    storage = (run.runs.1 i).storage;
  },
)

-- ---- one that ends

ended : (on : CallOn) (standing : Standing) (room : ℕ) → comes_from on (point_of Ended standing) room ≡ Some (Returned room standing)
ended on standing zero = refl
ended on standing (suc room) = refl

pub runs_are_calls : RunsAreCalls
runs_are_calls on from [] new room run few =
    let same = stays on from (point_of Ended new) run in
    let all : room ≡ room - 0 = omega arith in
    subst (λ (at : Stage). comes_from on (point_of at from.standing) room ≡ Some (Returned (room - 0) new)) same.0
    (ended on from.standing room ∙ (λ i. Some (Returned (all i) (sym same.1 i))))
runs_are_calls on from (smc ∷ smcs) new zero run few = absurd (omega (arith, few))
runs_are_calls on from (smc ∷ smcs) new (suc room) run few =
    let to = point_of Ended new in
    let fewer : length smcs ≤ room = omega (arith, few) in
    let left : room - length smcs ≡ suc room - suc (length smcs) = omega arith in
    steps on from to smc smcs room run
    ∙ runs_are_calls on (behind_first on from to smc smcs run) smcs new room (rest_of on from to smc smcs run) fewer
    ∙ ap (λ (n : ℕ). Some (Returned n new)) left

-- ---- one that fails

failed : (on : CallOn) (standing : Standing) (room : ℕ) (fault : TeecFault)
    → comes_from on (point_of (Failed fault) standing) room ≡ Some (Fails fault)
failed on standing zero fault = refl
failed on standing (suc room) fault = refl

pub runs_fail : RunsFail
runs_fail on from to [] room fault run is few =
    subst (λ (at : Stage). comes_from on (point_of at from.standing) room ≡ Some (Fails fault)) (sym is ∙ (stays on from to run).0)
    (failed on from.standing room fault)
runs_fail on from to (smc ∷ smcs) zero fault run is few = absurd (omega (arith, few))
runs_fail on from to (smc ∷ smcs) (suc room) fault run is few =
    let fewer : length smcs ≤ room = omega (arith, few) in
    steps on from to smc smcs room run
    ∙ runs_fail on (behind_first on from to smc smcs run) to smcs room fault (rest_of on from to smc smcs run) is fewer

-- ---- one that stops

refused_by : (boot : Booted) (asked : Standing) (regs : Regs) (more : ℕ) (onward : Play → Option Came)
    → after_smc boot regs asked ≡ Some (record (play_of asked) { refused = Some more })
    → option_and_then (unless_full onward) (after_smc boot regs asked) ≡ Some (Stopped more asked.history)
refused_by boot asked regs more onward refused = ap (λ (o : Option Play). option_and_then (unless_full onward) o) refused

stops_here : (on : CallOn) (stage : Stage) (standing : Standing) (room more : ℕ) (regs : Regs) → regs_at stage ≡ Some regs
    → HasNoRoom on.boot room regs (prepared on.call stage standing) more
    → comes_from on (point_of stage standing) room ≡ Some (Stopped more standing.history)
stops_here on stage standing zero more regs is none =
    elim none [
      | inl spent ↦
          next_smc 0 stage standing (λ regs. Some (Stopped 0 standing.history)) regs is
          ∙ ap (λ (n : ℕ). Some (Stopped n standing.history)) (sym spent.1)
      | inr full ↦ absurd (omega (arith, full.0))
    ]
stops_here on stage standing (suc room) more regs is none =
    elim none [
      | inl spent ↦ absurd (omega (arith, spent.0))
      | inr full ↦
          let asked = prepared on.call stage standing in
          let onward = λ (play : Play).
          comes_from on (point_of (next_stage on.cancel_after stage (answer_of play)) (standing_after play asked.storage)) room in
          next_smc (suc room) stage standing (λ regs. option_and_then (unless_full onward) (after_smc on.boot regs asked)) regs is
          ∙ refused_by on.boot asked regs more onward full.1
    ]

pub runs_stop : RunsStop
runs_stop on from to [] room more regs run few is none =
    let same = stays on from to run in
    let all : room - 0 ≡ room = omega arith in
    let here : HasNoRoom on.boot room regs (prepared on.call to.stage to.standing) more =
    subst (λ (n : ℕ). HasNoRoom on.boot n regs (prepared on.call to.stage to.standing) more) all none in
    subst (λ (at : Stage). comes_from on (point_of at from.standing) room ≡ Some (Stopped more to.standing.history)) same.0
    (subst (λ (standing : Standing). comes_from on (point_of to.stage standing) room ≡ Some (Stopped more to.standing.history)) same.1
    (stops_here on to.stage to.standing room more regs is here))
runs_stop on from to (smc ∷ smcs) zero more regs run few is none = absurd (omega (arith, few))
runs_stop on from to (smc ∷ smcs) (suc room) more regs run few is none =
    let fewer : length smcs ≤ room = omega (arith, few) in
    let left : suc room - suc (length smcs) ≡ room - length smcs = omega arith in
    let later : HasNoRoom on.boot (room - length smcs) regs (prepared on.call to.stage to.standing) more =
    subst (λ (n : ℕ). HasNoRoom on.boot n regs (prepared on.call to.stage to.standing) more) left none in
    steps on from to smc smcs room run
    ∙ runs_stop on (behind_first on from to smc smcs run) to smcs room more regs (rest_of on from to smc smcs run) fewer is later
