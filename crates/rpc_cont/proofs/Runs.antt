-- A call taken on by one run of its machine after the other.
use Rattle.std.proofs.Common.{◌≡◌, ℕ, ◌+◌, ◌-◌, List, Option, Some, None, refl, ap, sym, subst, ◌∙◌, add_assoc}
use Rattle.std.specs.Prelude.{option_and_then, IsSomeAnd}
use Rattle.std.specs.Option.{option_map}
use Rattle.job_model.specs.Owner.{Owner}
use Rattle.job_model.proofs.MachineRuns.{run_for-machine}
use Rattle.job_model.specs.Job.{Job, Machine, Nothing}
use Rattle.job_model.specs.Steps.{Advance, Goes, Stops, Grant, Left, Stopped, after_run, grant_after, later, run_for}
use Rattle.rpc_cont.specs.Advancing.{after_ran, turn_of}
use Rattle.rpc_cont.specs.Conts.{body_at, job_at, job_with}
use Rattle.rpc_cont.specs.Running.{HasReady, IsRun, IsRunning, IsStop, IsTurn}
use Rattle.rpc_cont.specs.declared.cont.Cont.{Cont}
use Rattle.job_model.specs.declared.entry_point.EntryPoint.{EntryPoint}
use Rattle.rpc_cont.specs.declared.stop.ContStop.{ContStop}
use Rattle.ta_isa.specs.declared.image.Image.{Image}
use Rattle.ta_step.specs.Machine.{state_of}
use Rattle.ta_step.specs.Runs.{Ran, runs}
use Rattle.ta_step.specs.State.{State}
use Rattle.ta_step.specs.declared.machine.Machine.{Machine as AnyMachine}

-- ---- one turn of a job

turn_after : (job : Job) (image : Image) (here : EntryPoint) (n : ℕ) (ran : Ran) (grant : Option Grant) (turn : ℕ × Advance) (o : Option Advance)
    → grant ≡ option_and_then (grant_after ran.steps (n - ran.steps)) o
    → option_map (λ (a : Advance). (ran.steps, a)) o ≡ Some turn
    → grant ≡ grant_after turn.0 (n - turn.0) turn.1
turn_after job image here n ran grant turn None grants e = absurd cc
turn_after job image here n ran grant turn (Some a) grants e =
    let same : (ran.steps, a) ≡ turn = cc in
    subst (λ (t : ℕ × Advance). grant ≡ grant_after t.0 (n - t.0) t.1) same grants

turn_ran : (job : Job) (image : Image) (here : EntryPoint) (machine : State) (n : ℕ) (turn : ℕ × Advance) (o : Option Ran) → runs image.code n machine ≡ o
    → option_and_then (after_ran job image here) o ≡ Some turn
    → run_for n (record job { body = Machine image here machine }) ≡ grant_after turn.0 (n - turn.0) turn.1
turn_ran job image here machine n turn None is e = absurd cc
turn_ran job image here machine n turn (Some ran) is e =
    turn_after job image here n ran (run_for n (record job { body = Machine image here machine })) turn (after_run job image here ran.state ran.stop)
    (run_for-machine job image here machine n ran is) e

turn_grants : (job : Job) (image : Image) (here : EntryPoint) (machine : State) (n : ℕ) (turn : ℕ × Advance) → turn_of job image here machine n ≡ Some turn
    → run_for n (record job { body = Machine image here machine }) ≡ grant_after turn.0 (n - turn.0) turn.1
turn_grants job image here machine n turn e = turn_ran job image here machine n turn (runs image.code n machine) refl e

ran_at : (used : ℕ) (o : Option Advance) (P : Advance → Type 0) → IsSomeAnd o P
    → IsSomeAnd {T = ℕ × Advance} (option_map (λ (turn : Advance). (used, turn)) o) (λ (turn : ℕ × Advance). (turn.0 ≡ used) × P turn.1)
ran_at used None P holds = absurd holds
ran_at used (Some turn) P holds = (refl, holds)

-- a turn by its run
pub ran_turn : (job : Job) (image : Image) (here : EntryPoint) (machine : State) (n : ℕ) (ran : Ran) (P : Advance → Type 0)
    → runs image.code n machine ≡ Some ran → IsSomeAnd (after_run job image here ran.state ran.stop) P
    → IsSomeAnd (turn_of job image here machine n) (λ (turn : ℕ × Advance). (turn.0 ≡ ran.steps) × P turn.1)
ran_turn job image here machine n ran P is holds =
    subst (λ (o : Option Ran). IsSomeAnd (option_and_then (after_ran job image here) o) (λ (turn : ℕ × Advance). (turn.0 ≡ ran.steps) × P turn.1)) (sym is)
    (ran_at ran.steps (after_run job image here ran.state ran.stop) P holds)

-- ---- one turn of a call

-- the stop of a grant by this step, which the call stopped with
abbrev pub IsStopped : {M : Type 0} → (M → List ℕ) → Owner → Image → ℕ → Cont M → ContStop → Grant → Type 0
IsStopped bytes owner image used new answer (Left job) = ⊥
IsStopped bytes owner image used new answer (Stopped n why) = (n ≡ used) × IsStop bytes owner new (job_at bytes owner image new) why answer

-- what a call that answers so has made of a grant, by so many of its steps
abbrev pub IsTaken : {M : Type 0} → (M → List ℕ) → Owner → Image → Option Grant → ℕ → ℕ → Cont M → Option ContStop → Type 0
IsTaken bytes owner image grant n used new None =
    (grant ≡ option_map (later used) (run_for (n - used) (job_at bytes owner image new))) × IsRunning bytes new
IsTaken bytes owner image grant n used new (Some answer) = IsSomeAnd grant (IsStopped bytes owner image used new answer)

taken : {M : Type 0} (bytes : M → List ℕ) (owner : Owner) (image : Image) (grant : Option Grant) (n used : ℕ) (new : Cont M) (answer : Option ContStop) (turn : Advance)
    → grant ≡ grant_after used (n - used) turn → IsTurn bytes owner image new turn answer → IsTaken bytes owner image grant n used new answer
taken bytes owner image grant n used new None (Goes job) grants is =
    (grants ∙ ap (λ (j : Job). option_map (later used) (run_for (n - used) j)) is.1, is.2)
taken bytes owner image grant n used new (Some answer) (Goes job) grants is = let e = is.0 in absurd cc
taken bytes owner image grant n used new None (Stops why) grants is = absurd is
taken bytes owner image grant n used new (Some answer) (Stops why) grants is =
    subst (λ (g : Option Grant). IsSomeAnd g (IsStopped bytes owner image used new answer)) (sym grants) (refl, is)

-- the clause of a turn, for a call whose machine is at this entry point
abbrev Turns : {M : Type 0} → (M → List ℕ) → Owner → Image → Cont M → Cont M → ℕ → ℕ → Option ContStop → Option EntryPoint → Option (AnyMachine M) → Type 0
Turns bytes owner image old new n used answer point machine =
    IsSomeAnd machine (λ m. (here : EntryPoint) → point ≡ Some here
    → IsSomeAnd (turn_of (job_with Nothing owner old) image here (state_of bytes m) n)
    (λ turn. (turn.0 ≡ used) × IsTurn bytes owner image new turn.1 answer))

turn_found : {M : Type 0} (bytes : M → List ℕ) (owner : Owner) (image : Image) (job : Job) (here : EntryPoint) (machine : State) (n used : ℕ) (new : Cont M) (answer : Option ContStop)
    (o : Option (ℕ × Advance)) → turn_of job image here machine n ≡ o → IsSomeAnd o (λ turn. (turn.0 ≡ used) × IsTurn bytes owner image new turn.1 answer)
    → IsTaken bytes owner image (run_for n (record job { body = Machine image here machine })) n used new answer
turn_found bytes owner image job here machine n used new answer None e is = absurd is
turn_found bytes owner image job here machine n used new answer (Some turn) e is =
    let grants = turn_grants job image here machine n turn e in
    let by_used = ap (λ (k : ℕ). grant_after k (n - k) turn.1) is.0 in
    taken bytes owner image (run_for n (record job { body = Machine image here machine })) n used new answer turn.1 (grants ∙ by_used) is.1

turns_at : {M : Type 0} (bytes : M → List ℕ) (owner : Owner) (image : Image) (old new : Cont M) (n used : ℕ) (answer : Option ContStop)
    (point : Option EntryPoint) (machine : Option (AnyMachine M)) → HasReady bytes old.cancelled point machine
    → Turns bytes owner image old new n used answer point machine
    → IsTaken bytes owner image (run_for n (job_with (body_at bytes image point machine) owner old)) n used new answer
turns_at bytes owner image old new n used answer None machine ready turns = absurd ready
turns_at bytes owner image old new n used answer (Some here) None ready turns = absurd turns
turns_at bytes owner image old new n used answer (Some here) (Some m) ready turns =
    let job = job_with Nothing owner old in
    turn_found bytes owner image job here (state_of bytes m) n used new answer _ refl (turns here refl)

-- a turn of a call that runs
pub turn_taken : {M : Type 0} (bytes : M → List ℕ) (owner : Owner) (image : Image) (old new : Cont M) (n used : ℕ) (answer : Option ContStop)
    → IsRunning bytes old → Turns bytes owner image old new n used answer old.point old.machine
    → IsTaken bytes owner image (run_for n (job_at bytes owner image old)) n used new answer
turn_taken bytes owner image old new n used answer running turns =
    turns_at bytes owner image old new n used answer old.point old.machine running.machine turns

-- ---- one turn after the other

later-later : (m n : ℕ) (grant : Option Grant) → option_map (later m) (option_map (later n) grant) ≡ option_map (later (m + n)) grant
later-later m n None = refl
later-later m n (Some (Left job)) = refl
later-later m n (Some (Stopped k why)) = ap (λ (i : ℕ). Some (Stopped i why)) (sym (add_assoc m n k))

-- so many steps of a grant are used, and this is the rest
abbrev pub Rests : Option Grant → ℕ → Option Grant → Type 0
Rests all used rest = all ≡ option_map (later used) rest

pub rests-more : (all middle rest : Option Grant) (m n : ℕ) → Rests all m middle → Rests middle n rest → Rests all (m + n) rest
rests-more all middle rest m n first second = first ∙ ap (option_map (later m)) second ∙ later-later m n rest

stopped_later : {M : Type 0} (bytes : M → List ℕ) (owner : Owner) (image : Image) (cont : Cont M) (before steps m used : ℕ) (answer : ContStop) (rest : Option Grant)
    → IsSomeAnd rest (IsStopped bytes owner image used cont answer) → cont.steps ≡ before + (m + used)
    → IsSomeAnd (option_map (later m) rest) (λ grant. IsRun bytes owner image cont before steps grant answer)
stopped_later bytes owner image cont before steps m used answer None is count = absurd is
stopped_later bytes owner image cont before steps m used answer (Some (Left job)) is count = absurd is
stopped_later bytes owner image cont before steps m used answer (Some (Stopped n why)) is count =
    (is.1, count ∙ ap (λ (k : ℕ). before + (m + k)) (sym is.0))

-- a grant that stops behind so many steps
pub run_stops : {M : Type 0} (bytes : M → List ℕ) (owner : Owner) (image : Image) (cont : Cont M) (before steps m used : ℕ) (answer : ContStop) (all rest : Option Grant)
    → Rests all m rest → IsSomeAnd rest (IsStopped bytes owner image used cont answer) → cont.steps ≡ before + (m + used)
    → IsSomeAnd all (λ grant. IsRun bytes owner image cont before steps grant answer)
run_stops bytes owner image cont before steps m used answer all rest rests is count =
    subst (λ (g : Option Grant). IsSomeAnd g (λ grant. IsRun bytes owner image cont before steps grant answer)) (sym rests)
    (stopped_later bytes owner image cont before steps m used answer rest is count)
