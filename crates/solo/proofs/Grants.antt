-- A job that is taken on by one grant after the other.
use Rattle.std.proofs.Common.{◌≡◌, ℕ, zero, suc, ◌+◌, ◌-◌, ◌<◌, ◌≤◌, ◌^◌, List, Option, Some, None, refl, ap, sym, subst, ◌∙◌, arith, ⊎_elim}
use Rattle.std.proofs.lemmas.Bool.{cases_lt}
use Rattle.std.specs.Prelude.{IsSomeAnd}
use Rattle.std.specs.Option.{option_and_then, option_map, option_or}
use Rattle.job_model.proofs.JobSteps.{after-sum, granted-IsGrant, one_stop, stop_at-sum}
use Rattle.job_model.specs.Job.{Body, Job, Machine, Native, Nothing}
use Rattle.job_model.specs.Steps.{Advance, After, Goes, Grant, IsGrant, JobStop, Left, Stop, Stopped, Stops, advance, advance_of, after, grant_behind, grant_of, one_later, run_for, stop_at, stop_at_once, where_it_goes}
use Rattle.job_model.specs.Steps as steps
use Rattle.kernel_state.specs.Calls.{bytes_of}
use Rattle.rpc_cont.specs.Advancing.{CanAdvance, IsAdvance, phase_after}
use Rattle.rpc_cont.specs.Conts.{call_owner, job_of}
use Rattle.rpc_cont.specs.Running.{IsStop, worked}
use Rattle.rpc_cont.specs.declared.cont.Cont.{Cont}
use Rattle.rpc_cont.specs.declared.phase.Phase.TheVariants as phase
use Rattle.rpc_cont.specs.declared.stop.ContStop.{ContStop}
use Rattle.rpc_cont.specs.declared.stop.ContStop.TheVariants as stop

-- ---- some of the steps

split_at : (r : ℕ) (final : Job) (o : Option Job) → option_and_then (after r) o ≡ Some final → (mid : Job) × ((o ≡ Some mid) × After mid r final)
split_at r final None e = absurd cc
split_at r final (Some mid) e = (mid, (refl, e))

-- the job after so many steps, and the rest of them
pub after_split : (job final : Job) (g r : ℕ) → After job (g + r) final → (mid : Job) × (After job g mid × After mid r final)
after_split job final g r e = split_at r final (after g job) (sym (after-sum job g r) ∙ e)

run_advanced : (n : ℕ) (final : Job) (o : Option Advance) → ((next : Job) → After next n final → run_for n next ≡ Some (Left final)) →
    option_and_then (where_it_goes (after n)) o ≡ Some final → option_and_then (grant_behind (run_for n)) o ≡ Some (Left final)
run_advanced n final None rest e = absurd cc
run_advanced n final (Some (Goes next)) rest e = ap (λ (g : Option Grant). option_map one_later g) (rest next e)
run_advanced n final (Some (Stops why)) rest e = absurd cc

run_after : (n : ℕ) (job final : Job) → After job n final → run_for n job ≡ Some (Left final)
run_after zero job final e = let same : job ≡ final = cc in ap (λ (j : Job). Some (Left j)) same
run_after (suc n) job final e = run_advanced n final (advance job) (λ next is. run_after n next final is) e

at_body : (n : ℕ) (job final : Job) (body : Body) (run : Option Grant) → option_and_then (where_it_goes (after n)) (advance_of job body) ≡ Some final →
    run ≡ Some (Left final) → option_or (option_map (Stopped 0) (stop_at_once job body)) run ≡ Some (Left final)
at_body n job final (Machine image point machine) run goes e = e
at_body n job final (Native relation func) run goes e = e
at_body n job final Nothing run goes e = absurd cc

-- a grant of some steps that don't stop a job leaves it after them
pub after_granted : (n : ℕ) (job final : Job) → 0 < n → After job n final → grant_of n job ≡ Some (Left final)
after_granted zero job final some e = absurd (omega (arith, some))
after_granted (suc n) job final some e = at_body n job final job.body (run_for (suc n) job) e (run_after (suc n) job final e)

-- ---- a call

-- what `advance` says of a call
abbrev pub Advances : ℕ → ℕ → Job → Cont (List ℕ) → ContStop → Type 0
Advances before g job new answer = IsSomeAnd (grant_of g job) (λ grant. IsAdvance bytes_of new.app new before g grant answer)

-- behind a grant of some of the steps the call is still to do the rest
pub goes_on : (before g r : ℕ) (job final : Job) (new : Cont (List ℕ)) (answer : ContStop) → 0 < g → After job (g + r) final →
    Advances before g job new answer → new.phase ≡ phase_after answer → After (job_of bytes_of new) r final × CanAdvance bytes_of new
goes_on before g r job final new answer some e advances at =
    let split = after_split job final g r e in
    let left : IsAdvance bytes_of new.app new before g (Left split.0) answer =
    subst (λ (o : Option Grant). IsSomeAnd o (λ grant. IsAdvance bytes_of new.app new before g grant answer))
    (after_granted g job split.0 some split.1.0) advances in
    let runs : phase_after answer ≡ phase_after stop.Interrupted = ap phase_after left.0 in
    (subst (λ (j : Job). After j r final) left.1 split.1.1, record { phase = at ∙ runs; runs = left.2 })

-- what a call comes to whose job stops so at this step
abbrev pub StopsSo : ℕ → ℕ → JobStop → ℕ → Cont (List ℕ) → ContStop → Type 0
StopsSo before used why g new stop.Interrupted = (g < used) × Stop (job_of bytes_of new) (used - g) why
StopsSo before used why g new answer = IsStop bytes_of (call_owner new) new (job_of bytes_of new) why answer × (new.steps ≡ before + used)

not_none : (why : JobStop) (o : Option JobStop) → o ≡ Some why → o ≡ None → ⊥
not_none why o some none = absurd cc

still_to_stop : (g used : ℕ) (job left : Job) (why : JobStop) (new : Cont (List ℕ)) → left ≡ job_of bytes_of new → Stop job used why →
    IsGrant job g (Left left) → (g < used) × Stop (job_of bytes_of new) (used - g) why
still_to_stop g used job left why new same stops granted =
    ⊎_elim
    (λ (more : g < used).
    let count : used ≡ g + (used - g) = omega (arith, more) in
    let later : stop_at (used - g) left ≡ Some why =
    sym (stop_at-sum job left g (used - g) granted.0) ∙ ap (λ (n : ℕ). stop_at n job) (sym count) ∙ stops in
    (more, subst (λ (j : Job). Stop j (used - g) why) same later))
    (λ (less : used ≤ g). absurd (not_none why (stop_at used job) stops (granted.1 used less)))
    (cases_lt g used)

-- an answer is that of a stop, and so no interrupt
stop_so : (before used : ℕ) (why : JobStop) (g : ℕ) (new : Cont (List ℕ)) (answer : ContStop) →
    IsStop bytes_of (call_owner new) new (job_of bytes_of new) why answer → new.steps ≡ before + used → StopsSo before used why g new answer
stop_so before used (steps.Ends end) g new stop.Interrupted is did = let e = is.0 in absurd cc
stop_so before used (steps.Panics code) g new stop.Interrupted is did = let e = is.0 in absurd cc
stop_so before used (steps.Asks wanted payload left) g new stop.Interrupted is did = let e = is.0 in absurd cc
stop_so before used why g new stop.Asks is did = (is, did)
stop_so before used why g new (stop.Ended result) is did = (is, did)
stop_so before used why g new (stop.Panicked code) is did = (is, did)

granted_so : (before used g : ℕ) (job : Job) (why : JobStop) (new : Cont (List ℕ)) (answer : ContStop) (grant : Grant) → Stop job used why →
    IsGrant job g grant → IsAdvance bytes_of new.app new before g grant answer → StopsSo before used why g new answer
granted_so before used g job why new answer (Left left) stops granted is =
    subst (StopsSo before used why g new) (sym is.0) (still_to_stop g used job left why new is.1 stops granted)
granted_so before used g job why new answer (Stopped n other) stops granted is =
    let same : (n ≡ used) × (other ≡ why) = one_stop job n used other why granted.1 stops in
    stop_so before used why g new answer
    (subst (λ (w : JobStop). IsStop bytes_of (call_owner new) new (job_of bytes_of new) w answer) same.1 is.0)
    (is.1 ∙ ap (λ (n : ℕ). before + n) same.0)

grant_found : (before used g : ℕ) (job : Job) (why : JobStop) (new : Cont (List ℕ)) (answer : ContStop) (o : Option Grant) → grant_of g job ≡ o →
    Stop job used why → IsSomeAnd o (λ grant. IsAdvance bytes_of new.app new before g grant answer) → StopsSo before used why g new answer
grant_found before used g job why new answer None e stops is = absurd is
grant_found before used g job why new answer (Some grant) e stops is =
    granted_so before used g job why new answer grant stops (granted-IsGrant job g grant e) is

-- by a grant a job comes to its stop, or nearer to it
pub nearer : (before used g : ℕ) (job : Job) (why : JobStop) (new : Cont (List ℕ)) (answer : ContStop) → Stop job used why →
    Advances before g job new answer → StopsSo before used why g new answer
nearer before used g job why new answer stops advances =
    grant_found before used g job why new answer (grant_of g job) refl stops advances

-- a call that was interrupted can run on
left_so : (before g : ℕ) (new : Cont (List ℕ)) (grant : Grant) → IsAdvance bytes_of new.app new before g grant stop.Interrupted →
    new.phase ≡ phase_after stop.Interrupted → CanAdvance bytes_of new × (new.steps ≡ before + g)
left_so before g new (Left left) is at = (record { phase = at; runs = is.2 }, is.3)
left_so before g new (Stopped n (steps.Ends end)) is at = let e = is.0.0 in absurd cc
left_so before g new (Stopped n (steps.Panics code)) is at = let e = is.0.0 in absurd cc
left_so before g new (Stopped n (steps.Asks wanted payload left)) is at = let e = is.0.0 in absurd cc

found_left : (before g : ℕ) (new : Cont (List ℕ)) (o : Option Grant) →
    IsSomeAnd o (λ grant. IsAdvance bytes_of new.app new before g grant stop.Interrupted) →
    new.phase ≡ phase_after stop.Interrupted → CanAdvance bytes_of new × (new.steps ≡ before + g)
found_left before g new None is at = absurd is
found_left before g new (Some grant) is at = left_so before g new grant is at

pub interrupted : (before g : ℕ) (job : Job) (new : Cont (List ℕ)) (answer : ContStop) → Advances before g job new answer → answer ≡ stop.Interrupted →
    new.phase ≡ phase_after answer → CanAdvance bytes_of new × (new.steps ≡ before + g)
interrupted before g job new answer advances is at =
    found_left before g new (grant_of g job) (subst (Advances before g job new) is advances) (at ∙ ap phase_after is)

-- ---- its steps and its phase

most_of : (before g : ℕ) (job : Job) (new : Cont (List ℕ)) (answer : ContStop) (grant : Grant) → IsGrant job g grant →
    IsAdvance bytes_of new.app new before g grant answer → new.steps ≤ before + g
most_of before g job new answer (Left left) granted is = omega (arith, is.3)
most_of before g job new answer (Stopped n why) granted is = omega (arith, is.1, granted.0)

most_found : (before g : ℕ) (job : Job) (new : Cont (List ℕ)) (answer : ContStop) (o : Option Grant) → grant_of g job ≡ o →
    IsSomeAnd o (λ grant. IsAdvance bytes_of new.app new before g grant answer) → new.steps ≤ before + g
most_found before g job new answer None e is = absurd is
most_found before g job new answer (Some grant) e is = most_of before g job new answer grant (granted-IsGrant job g grant e) is

-- it does no more steps than were granted
pub at_most : (before g : ℕ) (job : Job) (new : Cont (List ℕ)) (answer : ContStop) → Advances before g job new answer → new.steps ≤ before + g
at_most before g job new answer advances = most_found before g job new answer (grant_of g job) refl advances

-- a call that runs on was interrupted
pub runs_on_only : (answer : ContStop) → phase_after answer ≡ phase.Runs → answer ≡ stop.Interrupted
runs_on_only stop.Interrupted e = refl
runs_on_only stop.Asks e = absurd cc
runs_on_only (stop.Ended result) e = absurd cc
runs_on_only (stop.Panicked code) e = absurd cc

pub can_still : (before g : ℕ) (job : Job) (new : Cont (List ℕ)) (answer : ContStop) → Advances before g job new answer → new.phase ≡ phase_after answer →
    new.phase ≡ phase.Runs → CanAdvance bytes_of new
can_still before g job new answer advances at runs =
    (interrupted before g job new answer advances (runs_on_only answer (sym at ∙ runs)) at).0

-- the job after no steps
pub after_none : (job final : Job) → After job 0 final → final ≡ job
after_none job final e = cc

-- ---- on the way to a number of steps

-- a call that began so is on its way: so many of its steps are left
pub record IsOnTheWay (initial cont : Cont (List ℕ)) (more remaining : ℕ) : Type 0 where
  pub within : remaining ≤ more
  pub can : cont.phase ≡ phase.Runs → CanAdvance bytes_of cont
  pub room : cont.steps + remaining < 2 ^ 128
  pub runs : (final : Job) → initial.phase ≡ phase.Runs → After (job_of bytes_of initial) more final →
      After (job_of bytes_of cont) remaining final × CanAdvance bytes_of cont
  pub rests : (initial.phase ≡ phase.Runs → ⊥) → cont ≡ initial
  pub stays : cont ≡ record (worked initial cont) { steps = cont.steps; phase = cont.phase }

pub sets_out : (cont : Cont (List ℕ)) (more : ℕ) → (cont.phase ≡ phase.Runs → CanAdvance bytes_of cont) → cont.steps + more < 2 ^ 128 →
    IsOnTheWay cont cont more more
sets_out cont more can room = record {
  within = omega arith;
  can = can;
  room = room;
  runs = λ final runs after. (after, can runs);
  rests = λ apart. refl;
  stays = refl;
}

-- all but what runs change stays by both
worked_on : (initial old new : Cont (List ℕ)) → old ≡ record (worked initial old) { steps = old.steps; phase = old.phase } →
    new ≡ record (worked old new) { steps = new.steps; phase = new.phase } → new ≡ record (worked initial new) { steps = new.steps; phase = new.phase }
worked_on initial old new first second = second ∙ ap (λ (c : Cont (List ℕ)). record (worked c new) { steps = new.steps; phase = new.phase }) first

pub on_the_way : (initial old new : Cont (List ℕ)) (more remaining g : ℕ) (answer : ContStop) → IsOnTheWay initial old more remaining →
    old.phase ≡ phase.Runs → 0 < g → g ≤ remaining → Advances old.steps g (job_of bytes_of old) new answer → new.phase ≡ phase_after answer →
    new ≡ record (worked old new) { steps = new.steps; phase = new.phase } → IsOnTheWay initial new more (remaining - g)
on_the_way initial old new more remaining g answer way here some most advances at stays = record {
  within = omega (arith, way.within);
  can = can_still old.steps g (job_of bytes_of old) new answer advances at;
  room = (let did = at_most old.steps g (job_of bytes_of old) new answer advances in omega (arith, did, most, way.room));
  runs = λ final began after.
      let count : remaining ≡ g + (remaining - g) = omega (arith, most) in
      goes_on old.steps g (remaining - g) (job_of bytes_of old) final new answer some
      (subst (λ (n : ℕ). After (job_of bytes_of old) n final) count (way.runs final began after).0) advances at;
  rests = λ apart. absurd (apart (ap (λ (c : Cont (List ℕ)). c.phase) (sym (way.rests apart)) ∙ here));
  stays = worked_on initial old new way.stays stays;
}

-- where it goes no further it has come there
pub arrives : (initial cont : Cont (List ℕ)) (more remaining : ℕ) (final : Job) → IsOnTheWay initial cont more remaining →
    ((0 < remaining) → cont.phase ≡ phase.Runs → ⊥) → initial.phase ≡ phase.Runs → After (job_of bytes_of initial) more final →
    (final ≡ job_of bytes_of cont) × CanAdvance bytes_of cont
arrives initial cont more remaining final way done began after =
    let there = way.runs final began after in
    (by remaining refl there.0, there.1)
  where
    by : (n : ℕ) → n ≡ remaining → After (job_of bytes_of cont) n final → final ≡ job_of bytes_of cont
    by zero e is = after_none (job_of bytes_of cont) final is
    by (suc n) e is = absurd (done (omega (arith, e)) (way.runs final began after).1.phase)

-- ---- on the way to the stop

-- a call that began so comes nearer to its stop: so many steps are left up to 2^128
pub record IsNearing (initial cont : Cont (List ℕ)) (remaining : ℕ) : Type 0 where
  pub can : CanAdvance bytes_of cont
  pub room : cont.steps + remaining + 1 ≡ 2 ^ 128
  pub stops : (used : ℕ) (why : JobStop) → Stop (job_of bytes_of initial) used why →
      (cont.steps ≤ initial.steps + used) × Stop (job_of bytes_of cont) (initial.steps + used - cont.steps) why
  pub stays : cont ≡ record (worked initial cont) { steps = cont.steps; phase = cont.phase }

same_steps : (n used : ℕ) → n + used - n ≡ used
same_steps n used = omega arith

pub begins_nearing : (cont : Cont (List ℕ)) (remaining : ℕ) → CanAdvance bytes_of cont → cont.steps + remaining + 1 ≡ 2 ^ 128 → IsNearing cont cont remaining
begins_nearing cont remaining can room = record {
  can = can;
  room = room;
  stops = λ used why its.
      (omega arith, subst (λ (n : ℕ). Stop (job_of bytes_of cont) n why) (sym (same_steps cont.steps used)) its);
  stays = refl;
}

-- a stop that is so far away is met so
pub nears : (initial old new : Cont (List ℕ)) (remaining g used : ℕ) (why : JobStop) (answer : ContStop) → IsNearing initial old remaining →
    Stop (job_of bytes_of initial) used why → Advances old.steps g (job_of bytes_of old) new answer →
    StopsSo old.steps (initial.steps + used - old.steps) why g new answer
nears initial old new remaining g used why answer near its advances =
    let there = near.stops used why its in
    nearer old.steps (initial.steps + used - old.steps) g (job_of bytes_of old) why new answer there.1 advances

-- interrupted, it is nearer
pub comes_nearer : (initial old new : Cont (List ℕ)) (remaining g : ℕ) (answer : ContStop) → IsNearing initial old remaining → g ≤ remaining →
    Advances old.steps g (job_of bytes_of old) new answer → answer ≡ stop.Interrupted → new.phase ≡ phase_after answer →
    new ≡ record (worked old new) { steps = new.steps; phase = new.phase } → IsNearing initial new (remaining - g)
comes_nearer initial old new remaining g answer near most advances is at stays =
    let goes = interrupted old.steps g (job_of bytes_of old) new answer advances is at in record {
      can = goes.0;
      room = omega (arith, goes.1, near.room, most);
      stops = λ used why its.
          let there = near.stops used why its in
          let met = subst (StopsSo old.steps (initial.steps + used - old.steps) why g new) is (nears initial old new remaining g used why answer near its advances) in
          let count : initial.steps + used - old.steps - g ≡ initial.steps + used - new.steps = omega (arith, goes.1) in
          (omega (arith, goes.1, met.0, there.0), subst (λ (n : ℕ). Stop (job_of bytes_of new) n why) count met.1);
      stays = worked_on initial old new near.stays stays;
    }

stops_with : (before used : ℕ) (why : JobStop) (g : ℕ) (new : Cont (List ℕ)) (answer : ContStop) → (answer ≡ stop.Interrupted → ⊥) → StopsSo before used why g new answer →
    IsStop bytes_of (call_owner new) new (job_of bytes_of new) why answer × (new.steps ≡ before + used)
stops_with before used why g new stop.Interrupted apart is = absurd (apart refl)
stops_with before used why g new stop.Asks apart is = is
stops_with before used why g new (stop.Ended result) apart is = is
stops_with before used why g new (stop.Panicked code) apart is = is

-- not interrupted, it has come to its stop
pub comes_to_stop : (initial old new : Cont (List ℕ)) (remaining g used : ℕ) (why : JobStop) (answer : ContStop) → IsNearing initial old remaining →
    Advances old.steps g (job_of bytes_of old) new answer → (answer ≡ stop.Interrupted → ⊥) → Stop (job_of bytes_of initial) used why →
    IsStop bytes_of (call_owner new) new (job_of bytes_of new) why answer × (new.steps ≡ initial.steps + used)
comes_to_stop initial old new remaining g used why answer near advances apart its =
    let there = near.stops used why its in
    let so = stops_with old.steps (initial.steps + used - old.steps) why g new answer apart (nears initial old new remaining g used why answer near its advances) in
    (so.0, omega (arith, so.1, there.0))

-- where no step was left and it was interrupted, its stop is further than 2^128 steps
pub too_far : (initial old new : Cont (List ℕ)) (remaining used : ℕ) (why : JobStop) (answer : ContStop) → IsNearing initial old remaining → remaining ≡ 0 →
    Advances old.steps 0 (job_of bytes_of old) new answer → answer ≡ stop.Interrupted → Stop (job_of bytes_of initial) used why →
    initial.steps + used < 2 ^ 128 → ⊥
too_far initial old new remaining used why answer near none advances is its room =
    let met = subst (StopsSo old.steps (initial.steps + used - old.steps) why 0 new) is (nears initial old new remaining 0 used why answer near its advances) in
    omega (arith, met.0, near.room, none, room)

-- where no step is granted none was left
pub none_left : (remaining g : ℕ) → (0 < remaining → 0 < g) → g ≡ 0 → remaining ≡ 0
none_left zero g some none = refl
none_left (suc n) g some none = absurd (let more = some (omega arith) in omega (arith, more, none))
