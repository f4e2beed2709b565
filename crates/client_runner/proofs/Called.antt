-- A call of a client over a port on a core is its call in the play, from where the port stands.
use Rattle.std.proofs.Common.{◌≡◌, ◌⊎◌, inl, inr, ℕ, zero, suc, ◌+◌, ◌-◌, ◌≤◌, List, [], ◌∷◌, ◌++◌, length, Option, Some, None, Err, refl, sym, ap, subst, ◌∙◌, arith, length-append}
use Rattle.std.specs.Prelude.{◌≢◌, IsSome}
use Rattle.std.specs.List.{flat_map}
use Rattle.std.proofs.lemmas.Grind.{flat_map-append}
use Rattle.client_play.proofs.Following.{smcs_are_served}
use Rattle.client_play.proofs.Going.{runs_are_calls, runs_fail, runs_stop}
use Rattle.client_play.proofs.Preparing.{prepares_alike}
use Rattle.client_play.specs.Calls.{Sessions, call_of, cancelled_after, params_after, sessions_after}
use Rattle.client_play.specs.Laws.{scene_after}
use Rattle.client_play.specs.Making.{prepared_at}
use Rattle.client_play.specs.Played.{Client, call_made}
use Rattle.client_play.specs.Printed.{call_text, outputs_text}
use Rattle.client_play.specs.Served.{AreServed, CallOn, HasNoRoom, HaveTheirWrites, IsRun, Point, events_of, point_of}
use Rattle.client_play.specs.Standing.{Fails, Returned, Standing, Stopped, called, play_of, prepared}
use Rattle.client_text.specs.declared.script.ScriptCall.{ScriptCall}
use Rattle.core_port.proofs.OfPlay.{no_room}
use Rattle.core_port.specs.CorePort.{CoreView, IsRefusedIn, StandsAt, has_room, smcs_made}
use Rattle.core_port.specs.Smcs.{events_of_smc, history_of, smcs_in}
use Rattle.event_journal.specs.declared.event.Event.{Event}
use Rattle.kernel_model.specs.Application.{Booted}
use Rattle.kernel_model.specs.History.{kernel_after}
use Rattle.kernel_model.specs.Kernel.{Kernel}
use Rattle.play_model.specs.Line.{register_text}
use Rattle.smc_abi.specs.declared.regs.Regs.{Regs}
use Rattle.smc_port.specs.Smc.{Smc}
use Rattle.teec.specs.Calls.{Call}
use Rattle.teec.specs.Client.{Calling, limits_of}
use Rattle.teec.specs.Rounds.{Calls, Ended, Failed}
use Rattle.teec.specs.Runs.{Moment, Runs, Scene, Went, moment, scene_of}
use Rattle.teec.specs.Runs as over_port
use Rattle.teec.specs.declared.fault.TeecFault.{TeecFault}
use Rattle.teec.specs.declared.fault.TeecFault.TheVariants as fault
use Rattle.teec.specs.Results.{result_in}
use Rattle.word_parts.specs.declared.stop.Stop.{Stop}
use Rattle.word_parts.specs.declared.stop.Stop.TheVariants.{Full, Failed as SinkFailed, Memory}
use Rattle.client_runner.proofs.PortServed.{have_their_writes}
use Rattle.client_runner.specs.Playing.{CanStop, IsAt, IsOver, Makes, PlayerView, Plays, PrintsLine, Returns, player_of, standing_of, stop_for}
use Rattle.client_runner.specs.declared.outcome.Outcome.{Outcome}

-- ---- the SMCs that were made

there_is : (found : Option Kernel) → IsSome found → (kernel : Kernel) × (found ≡ Some kernel)
there_is (Some kernel) some = (kernel, refl)
there_is None some = absurd cc

-- a port has just the SMCs of its history
just_these : (boot : Booted) (port : CoreView) → IsOver boot port → smcs_in boot (history_of (smcs_made port)) ≡ smcs_made port
just_these boot port over =
    ap (λ (history : List Event). smcs_in boot history) (sym over.kernels.just_these)
    ∙ ap (λ (on : Booted). smcs_in on port.history) (sym over.boots)

-- a port that has made these SMCs since: the core has served them
record Behind (boot : Booted) (kernel : Kernel) (old now : CoreView) (smcs : List Smc) : Type 0 where
  last : Kernel
  there : kernel_after boot now.history ≡ Some last
  history : now.history ≡ old.history ++ flat_map events_of smcs
  served : AreServed boot kernel smcs last

behind : (boot : Booted) (kernel : Kernel) (old now : CoreView) (smcs : List Smc) → IsOver boot old → IsOver boot now
    → kernel_after boot old.history ≡ Some kernel → smcs_made now ≡ smcs_made old ++ smcs → Behind boot kernel old now smcs
behind boot kernel old now smcs before after there grown =
    let made = smcs_made old in
    let was = just_these boot old before in
    let is = subst (λ (all : List Smc). smcs_in boot (history_of all) ≡ all) grown (just_these boot now after) in
    let writes = subst (λ (history : List Event). HaveTheirWrites boot history smcs) (sym before.kernels.just_these)
    (have_their_writes boot made smcs was is) in
    let history : now.history ≡ old.history ++ flat_map events_of smcs =
    after.kernels.just_these ∙ ap history_of grown ∙ flat_map-append events_of_smc made smcs
    ∙ ap (λ (events : List Event). events ++ flat_map events_of smcs) (sym before.kernels.just_these) in
    let last = there_is (kernel_after boot now.history)
    (subst (λ (on : Booted). IsSome (kernel_after on now.history)) after.boots after.kernels.legal.follows) in
    record {
      last = last.0;
      there = last.1;
      history = history;
      served = smcs_are_served boot old.history kernel last.0 smcs there
          (ap (λ (events : List Event). kernel_after boot events) (sym history) ∙ last.1) writes;
    }

-- ---- a run

-- where it begins, and where it has come with this kernel
abbrev first_of : Calling CoreView → Moment
first_of old = moment old.world.ram (smcs_made old.world) old.storage (Calls 0)

abbrev come_to : Calling CoreView → Kernel → Scene → Standing
come_to now kernel scene = record { kernel = kernel; history = now.world.history; ram = scene.ram; storage = scene.storage }

-- it has stopped with this fault
abbrev StoppedBy : Calling CoreView → Calling CoreView → Option ℕ → Call → TeecFault → Type 0
StoppedBy old now cancel_after call reason =
    over_port.Stopped (limits_of old cancel_after) call (first_of old) (scene_of now.world.ram now.storage) (smcs_made now.world)
    (λ regs. has_room now.world regs) reason

-- the call returns in the play
pub record ComesBack (boot : Booted) (place : Client) (now : Calling CoreView) (cancel_after : Option ℕ) (call : Call) : Type 0 where
  pub room : ℕ
  pub kernel : Kernel
  pub there : kernel_after boot now.world.history ≡ Some kernel
  pub counted : length (smcs_made now.world) + room ≡ 32768
  pub comes : called boot cancel_after call place.room place.standing ≡ Some (Returned room (standing_of kernel now))

module _ (boot : Booted) (place : Client) (names : Sessions) (old now : Calling CoreView) (cancel_after : Option ℕ) (call : Call)
    (at : IsAt boot place (player_of old names)) (over : IsOver boot now.world) where
  -- the call on this core, and where it begins
  abbrev on : CallOn
  on = record { boot = boot; call = call; cancel_after = cancel_after }

  abbrev start : Point
  start = point_of (Calls 0) place.standing

  -- what the core has of a run that has made all SMCs of the port
  since : (last : Moment) (went : Went (limits_of old cancel_after) call (first_of old) last) → last.made ≡ smcs_made now.world
      → Behind boot place.standing.kernel old.world now.world went.smcs
  since last went all = behind boot place.standing.kernel old.world now.world went.smcs at.over over at.kernel (sym all ∙ went.made)

  run_of : (last : Moment) (went : Went (limits_of old cancel_after) call (first_of old) last) → (all : last.made ≡ smcs_made now.world)
      → IsRun on start went.smcs (point_of last.stage (come_to now (since last went all).last last.scene))
  run_of last went all =
      let core = since last went all in
      subst (λ (standing : Standing).
      IsRun on (point_of (Calls 0) standing) went.smcs (point_of last.stage (come_to now core.last last.scene)))
      (sym at.standing)
      (record {
        served = core.served;
        history = core.history;
        few_bytes = over.few;
        runs = subst (λ limits. Runs limits call (Calls 0) (first_of old).scene went.smcs last.stage last.scene)
            (λ i. record { retries = at.alive.tries i; rounds = at.alive.answers i; cancel_after = cancel_after }) went.runs;
      })

  -- the SMCs that can still be made
  few_made : (last : Moment) (went : Went (limits_of old cancel_after) call (first_of old) last) → last.made ≡ smcs_made now.world
      → (length went.smcs ≤ place.room) × (length (smcs_made now.world) + (place.room - length went.smcs) ≡ 32768)
  few_made last went all =
      let counted : length (smcs_made now.world) ≡ length (smcs_made old.world) + length went.smcs =
      ap length (sym all ∙ went.made) ∙ length-append (smcs_made old.world) went.smcs in
      let most = over.kernels.few in
      let before = at.room in
      let few : length went.smcs ≤ place.room = omega (arith, counted, most, before) in
      (few, omega (arith, counted, before, few))

  -- ---- one that ended

  pub came_back : Went (limits_of old cancel_after) call (first_of old) (moment now.world.ram (smcs_made now.world) now.storage Ended)
      → ComesBack boot place now cancel_after call
  came_back went =
      let last = moment now.world.ram (smcs_made now.world) now.storage Ended in
      let few = few_made last went refl in
      let core = since last went refl in
      record {
        room = place.room - length went.smcs;
        kernel = core.last;
        there = core.there;
        counted = few.1;
        comes = runs_are_calls on start went.smcs (standing_of core.last now) place.room (run_of last went refl) few.0;
      }

  -- ---- one that stopped

  -- by its answers: it fails in the play
  failed_so : (reason : TeecFault) (stopped : StoppedBy old now cancel_after call reason) → stopped.last.stage ≡ Failed reason
      → called boot cancel_after call place.room place.standing ≡ Some (Fails reason)
  failed_so reason stopped is =
      let core = since stopped.last stopped.went stopped.all_made in
      let few = few_made stopped.last stopped.went stopped.all_made in
      runs_fail on start (point_of stopped.last.stage (come_to now core.last stopped.last.scene)) stopped.went.smcs place.room reason
      (run_of stopped.last stopped.went stopped.all_made) is few.0

  -- which none does that can be made
  pub can_stop : (reason : TeecFault) → StoppedBy old now cancel_after call reason
      → ((other : TeecFault) → called boot cancel_after call place.room place.standing ≢ Some (Fails other)) → CanStop reason
  can_stop (fault.Retried number) stopped never = never (fault.Retried number) (failed_so (fault.Retried number) stopped stopped.stop)
  can_stop (fault.Rounds number) stopped never = never (fault.Rounds number) (failed_so (fault.Rounds number) stopped stopped.stop)
  can_stop (fault.Strange answer) stopped never = never (fault.Strange answer) (failed_so (fault.Strange answer) stopped stopped.stop)
  can_stop fault.Spent stopped never = tt
  can_stop fault.Memory stopped never = tt

  -- where all SMCs were made, none is refused
  without_room : (room : ℕ) (regs : Regs) (asked : Standing) → ((room ≡ 0) ⊎ IsRefusedIn boot (play_of asked) regs)
      → (more : ℕ) × HasNoRoom boot room regs asked more
  without_room zero regs asked none = (0, inl (refl, refl))
  without_room (suc room) regs asked none =
      elim none [
        | inl spent ↦ absurd (omega (arith, spent))
        | inr full ↦ (full.0, inr (omega arith, full.1))
      ]

  -- for want of room: it does in the play
  pub stopped_so : StoppedBy old now cancel_after call fault.Spent
      → (more : ℕ) × (history : List Event) × (called boot cancel_after call place.room place.standing ≡ Some (Stopped more history))
  stopped_so stopped =
      let last = stopped.last in
      let core = since last stopped.went stopped.all_made in
      let few = few_made last stopped.went stopped.all_made in
      let new = come_to now core.last last.scene in
      let asked = prepared call last.stage new in
      let regs = stopped.stop.regs in
      let ready : scene_of now.world.ram now.storage ≡ scene_after last.scene (prepared_at call last.stage last.scene.ram last.scene.storage) =
      (prepares_alike call last.stage last.scene (scene_of now.world.ram now.storage)).0 (stopped.prepared refl) in
      let stands : StandsAt now.world (play_of asked) = record {
        kernel = ap (λ (on : Booted). kernel_after on now.world.history) over.boots ∙ core.there;
        history = refl;
        ram = ap (λ (scene : Scene). Some scene.ram) (sym ready);
        limit = refl;
        goes_on = refl;
      } in
      let left = place.room - length stopped.went.smcs in
      let counted = few.1 in
      let none : (left ≡ 0) ⊎ IsRefusedIn boot (play_of asked) regs =
      elim (no_room now.world (play_of asked) regs stands stopped.stop.is_room) [
        | inl all ↦ inl (omega (arith, all, counted))
        | inr refused ↦ inr (subst (λ (on : Booted). IsRefusedIn on (play_of asked) regs) over.boots refused)
      ] in
      let without = without_room left regs asked none in (
        without.0,
        now.world.history,
        runs_stop on start (point_of last.stage new) stopped.went.smcs place.room without.0 regs
            (run_of last stopped.went stopped.all_made) few.0 stopped.stop.next without.1,
      )

-- ---- a call of the script

module _ (boot : Booted) (place : Client) (names : Sessions) (old now : Calling CoreView) (script_call : ScriptCall)
    (cancel_after : Option ℕ) (call : Call) (at : IsAt boot place (player_of old names)) (over : IsOver boot now.world)
    (is_call : call ≡ call_of place.sessions script_call) (is_cancel : cancel_after ≡ cancelled_after script_call) where
  -- it is the call that was made
  is_made : call_made boot place script_call ≡ called boot cancel_after call place.room place.standing
  is_made = λ i. called boot (sym is_cancel i) (sym is_call i) place.room place.standing

  -- a call that returns does in the play
  pub returns_so : Went (limits_of old cancel_after) call (first_of old) (moment now.world.ram (smcs_made now.world) now.storage Ended)
      → now.retries ≡ old.retries → now.rounds ≡ old.rounds → now.failed ≡ None
      → (kept : Sessions) → kept ≡ sessions_after place.sessions script_call now.world.ram → (outcome : Outcome)
      → outcome.told ≡ result_in now.world.ram → outcome.params ≡ params_after script_call now.world.ram
      → Returns boot place script_call outcome (player_of now kept)
  returns_so went tries answers alive kept named outcome told params =
      let back = came_back boot place names old now cancel_after call at over went in
      record {
        room = back.room;
        after = standing_of back.kernel now;
        made = is_made ∙ back.comes;
        stands = record {
          over = over;
          kernel = back.there;
          standing = refl;
          room = back.counted;
          alive = record { tries = tries ∙ at.alive.tries; answers = answers ∙ at.alive.answers; alive = alive };
          names = named;
        };
        result = told;
        params = params;
      }

  -- one that can be made comes to a fault for want of room or memory alone
  pub can_stop_so : (reason : TeecFault) → StoppedBy old now cancel_after call reason
      → ((other : TeecFault) → call_made boot place script_call ≢ Some (Fails other)) → CanStop reason
  can_stop_so reason stopped never =
      can_stop boot place names old now cancel_after call at over reason stopped (λ other fails. never other (is_made ∙ fails))

  by_reason : (reason : TeecFault) → StoppedBy old now cancel_after call reason → CanStop reason
      → (kept : Sessions) → Makes boot place script_call (Err (stop_for reason)) (player_of now kept)
  by_reason (fault.Retried number) stopped can kept = absurd can
  by_reason (fault.Rounds number) stopped can kept = absurd can
  by_reason (fault.Strange answer) stopped can kept = absurd can
  by_reason fault.Spent stopped can kept =
      let so = stopped_so boot place names old now cancel_after call at over stopped in (so.0, so.1, is_made ∙ so.2)
  by_reason fault.Memory stopped can kept = tt

  -- and for want of room, the play does
  pub stops_so : (reason : TeecFault) → StoppedBy old now cancel_after call reason → CanStop reason → (kept : Sessions) (stop : Stop)
      → stop ≡ stop_for reason → Makes boot place script_call (Err stop) (player_of now kept)
  stops_so reason stopped can kept stop named =
      subst (λ (s : Stop). Makes boot place script_call (Err s) (player_of now kept)) (sym named) (by_reason reason stopped can kept)

-- ---- its line

-- a call that stopped prints none
pub stopped_plays : (boot : Booted) (place : Client) (script_call : ScriptCall) (stop : Stop) (player : PlayerView) (lines : List ℕ)
    → Makes boot place script_call (Err stop) player → Plays boot place script_call (Err stop) player lines lines
stopped_plays boot place script_call Full player lines stops = (stops, refl)
stopped_plays boot place script_call SinkFailed player lines stops = stops
stopped_plays boot place script_call Memory player lines stops = tt

pub never_failed : (boot : Booted) (place : Client) (script_call : ScriptCall) (stop : Stop) (player : PlayerView)
    → Makes boot place script_call (Err stop) player → stop ≡ SinkFailed → ⊥
never_failed boot place script_call stop player makes is =
    subst (λ (s : Stop). Makes boot place script_call (Err s) player) is makes

pub returned_plays : (boot : Booted) (place : Client) (script_call : ScriptCall) (outcome : Outcome) (player : PlayerView) (old new : List ℕ)
    → Returns boot place script_call outcome player
    → new ≡ old ++ (call_text script_call ++ register_text outcome.told.result ++ register_text outcome.told.origin
    ++ outputs_text outcome.told outcome.params ++ 10 ∷ []) → PrintsLine boot place script_call player old new
returned_plays boot place script_call outcome player old new returns put = record {
  room = returns.room;
  after = returns.after;
  made = returns.made;
  stands = returns.stands;
  line = put ∙ (λ i. old ++ (call_text script_call ++ register_text (returns.result i).result ++ register_text (returns.result i).origin
      ++ outputs_text (returns.result i) (returns.params i) ++ 10 ∷ []));
}
