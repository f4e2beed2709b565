-- The parameters of a group's calls stay short, whatever happens to its machine that brings no longer ones.
use Rattle.std.proofs.Common.{◌≡◌, ◌≤◌, ℕ, ◌+◌, ◌-◌, true, false, not, [], ◌∷◌, Bool, List, Option, Some, None, refl, ap, subst, sym}
use Rattle.std.specs.Prelude.{◌&&◌, ◌||◌}
use Rattle.std.specs.Option.{option_and_then, option_map, option_map_or}
use Rattle.base.specs.NumberMap.{NumberMap, get, insert, remove}
use Rattle.group_model.specs.Group.{Answered, Begun, Coming, Going, Group, GroupCall, GroupSession, Home, Opener, Start, Waiting, about_home, awaited_number, begins_again, closes, closing_points, comes_back, comes_back_in, destroy_after, finds_it_gone, finds_room, fresh_call, gives_up, goes_on, goes_out, goes_out_in, going_in, home, instance_at, invokes, invokes_with, is_dead, is_taken, job_on, made, open_begins, open_waits, opens, opens_again, opens_kept, opens_made, opens_new, opens_tested, opens_there, opens_with, retests, sees, settles, silent, start_again, start_at, start_of_open, step, stopped, taken_on, tested_again, waits, waits_on, with_call, works_or_waits}
use Rattle.group_model.specs.declared.group_event.GroupEvent.{GroupEvent}
use Rattle.group_model.specs.declared.group_event.GroupEvent.TheVariants.{Open, Invoke, Close, Cancel, Seen, Room, Back, Out}
use Rattle.group_model.specs.declared.group_reply.GroupReply.{GroupReply}
use Rattle.job_model.specs.Job.{Job}
use Rattle.job_model.specs.Point.{no_params}
use Rattle.job_model.specs.Steps.{Grant, JobStop, Left, Stopped, grant_of}
use Rattle.job_model.specs.Steps as steps
use Rattle.job_model.specs.declared.call_kind.CallKind.{CallKind}
use Rattle.job_model.specs.declared.call_kind.CallKind.TheVariants as kind
use Rattle.job_model.specs.declared.entry_point.EntryPoint.{EntryPoint}
use Rattle.job_model.specs.declared.entry_point.EntryPoint.TheVariants as point
use Rattle.kernel_model.proofs.Parts.{if-both, map_or-both}
use Rattle.kernel_model.specs.Application.{Application}
use Rattle.kernel_model.specs.Codes.{bad_parameters, busy, out_of_memory, success, target_dead}
use Rattle.kernel_model.specs.Instances.{is_held}
use Rattle.kernel_model.specs.Kernel.{Asks, CallPhase, Ends, Instance, Runs, Waits}
use Rattle.kernel_model.specs.Resume.{is_close, phase_seen}
use Rattle.own_model.proofs.InOrder.{IfAny, if_any_map, if_any_of, if_any_then}
use Rattle.own_model.proofs.Maps.{get-insert-same, get-inserted, get-removed}
use Rattle.own_model.specs.Solo.{OwnCall, Solo, is_buffer, is_no_buffer, phase_at, phase_back, unopened}
use Rattle.own_model.specs.Solo as own
use Rattle.own_model.specs.declared.own_event.BackInput.{BackInput}
use Rattle.own_model.specs.declared.own_event.OwnEvent.TheVariants as own_event
use Rattle.own_model.specs.declared.own_event.OwnInput.{OwnInput}
use Rattle.own_model.specs.declared.own_event.OwnInput.TheVariants.{Copied, Faulty, Unread}
use Rattle.rpc_msgs.specs.declared.rpc.Rpc.{Rpc}
use Rattle.solo.proofs.ShortJobs.{IsShortGrant, IsShortStop, begun_short, granted_short, none_short}
use Rattle.solo.proofs.ShortSolo.{more_solo, short_then}
use Rattle.solo.specs.Short.{AreShort, IsShortInput, IsShortJob, IsShortPhase, IsShortSolo}
use Rattle.ta_params.specs.declared.copied_params.CopiedParams.{CopiedParams}
use Rattle.group_solo.specs.Calls.{alone}
use Rattle.group_solo.specs.Standing.{IsShortGroup}
use Rattle.group_solo.specs.Stepping.{IsShortEvent}

-- ---- a call alone in a session's machine

abbrev one_call : OwnCall → Solo
one_call call = own.with_call (unopened []) 0 call

one_short : (longest : ℕ) (call : OwnCall) → IsShortPhase longest call.phase → IsShortSolo longest (one_call call)
one_short longest call short other own there =
    get-inserted [] 0 call other own there (λ at same. subst (λ (c : OwnCall). IsShortPhase longest c.phase) same short) (λ none. absurd cc)

abbrev in_phase : CallPhase → OwnCall
in_phase phase = record { kind = kind.Open; seen = false; steps = 0; area = false; buffer = false; phase = phase }

-- what is short is short by a larger number too
more_phase : (longest more : ℕ) → longest ≤ more → (phase : CallPhase) → IsShortPhase longest phase → IsShortPhase more phase
more_phase longest more le phase short =
    more_solo longest more le (one_call (in_phase phase)) (one_short longest (in_phase phase) short) 0 (in_phase phase)
    (get-insert-same [] 0 (in_phase phase))

pub more_group : (longest more : ℕ) → longest ≤ more → (g : Group) → IsShortGroup longest g → IsShortGroup more g
more_group longest more le g short number call there = more_phase longest more le call.phase (short number call there)

-- it sees that it was cancelled
seen_alone : (longest : ℕ) (app : Application) (done_by_now : ℕ) (call : OwnCall) (at : CallPhase) → phase_at (done_by_now - call.steps) call.phase ≡ Some at →
    IsShortPhase longest call.phase → IsShortPhase longest (phase_seen at)
seen_alone longest app done_by_now call at e short =
    let seen : CallPhase → OwnCall = λ phase. record call { seen = true; steps = done_by_now; phase = phase_seen phase } in
    short_then longest 0 app (one_call call) (own.with_call (one_call call) 0 (seen at)) (own_event.Seen 0 done_by_now) None (one_short longest call short) tt
    (ap (λ (o : Option CallPhase). option_map own.silent (option_map (λ (phase : CallPhase). own.with_call (one_call call) 0 (seen phase)) o)) e)
    0 (seen at) (get-insert-same (one_call call).calls 0 (seen at))

-- it is given what it asked for
back_alone : (longest : ℕ) (app : Application) (job : Job) (wanted : Rpc) (payload : List ℕ) (input : BackInput) → IsShortJob longest job →
    IsShortPhase longest (phase_back (Asks job wanted payload) job input)
back_alone longest app job wanted payload input short =
    let call : OwnCall = in_phase (Asks job wanted payload) in
    let later : OwnCall = record call { buffer = is_buffer input || false; phase = phase_back (Asks job wanted payload) job input } in
    short_then longest 0 app (one_call call) (own.with_call (one_call call) 0 later) (own_event.Back 0 input) None (one_short longest call short) tt refl
    0 later (get-insert-same (one_call call).calls 0 later)

module _ (longest : ℕ) where
  -- ---- calls by their numbers

  abbrev AllShort : NumberMap GroupCall → Type 0
  AllShort calls = (number : ℕ) (call : GroupCall) → get calls number ≡ Some call → IsShortPhase longest call.phase

  with_one : (calls : NumberMap GroupCall) (number : ℕ) (call : GroupCall) → AllShort calls → IsShortPhase longest call.phase → AllShort (insert calls number call)
  with_one calls number call all short other own there =
      get-inserted calls number call other own there (λ at same. subst (λ (c : GroupCall). IsShortPhase longest c.phase) same short) (all other own)

  without_one : (calls : NumberMap GroupCall) (number : ℕ) → AllShort calls → AllShort (remove calls number)
  without_one calls number all other own there = all other own (get-removed calls number other own there)

  -- ---- calls that come in

  job_short : (app : Application) (start : Start) (instance : Instance) (points : List EntryPoint) → AreShort longest start.params → IsShortJob longest (job_on app start instance points)
  job_short app start instance points short = begun_short longest _ _ points (record { params = short; body = tt })

  settles_short : (g : Group) (area : Bool) (code : ℕ) → IsShortGroup longest g → IsShortGroup longest (settles g area code)
  settles_short g area code all = with_one g.calls g.entered _ all (none_short longest)

  works_short : (app : Application) (g : Group) (coming : Coming) (at : Home) (params : CopiedParams) (points : List EntryPoint) → IsShortGroup longest g →
      AreShort longest params → IsShortGroup longest (works_or_waits app g coming at params points)
  works_short app g coming at params points all short =
      let start : Start = start_at g g.entered at.session params false in
      if-both (IsShortGroup longest) (is_held at.instance) (waits g (about_home coming at) params) _ (with_one g.calls g.entered _ all short)
      (with_one g.calls g.entered (fresh_call (about_home coming at) (Runs (job_on app start at.instance points))) all (job_short app start at.instance points short))

  -- an open on a new instance of this number
  new_short : (app : Application) (g : Group) (params : CopiedParams) (opener : Opener) (number : ℕ) → IsShortGroup longest g → AreShort longest params →
      IsShortGroup longest (open_begins g opener (opens_new app g (start_of_open g params opener.login) number))
  new_short app g params opener number all short = with_one g.calls g.entered _ all (job_short app (start_of_open g params opener.login) (made app) (point.Create ∷ point.Open ∷ destroy_after app g.sessions number) short)

  made_short : (app : Application) (g : Group) (params : CopiedParams) (opener : Opener) → IsShortGroup longest g → AreShort longest params →
      IsShortGroup longest (open_begins g opener (opens_made app g (start_of_open g params opener.login)))
  made_short app g params opener all short =
      let start : Start = start_of_open g params opener.login in
      let next = g.next_instance in
      map_or-both (λ (begun : Begun). IsShortGroup longest (open_begins g opener begun)) (opens_new app g start) (awaited_number g)
      (opens_new app (record g { next_instance = next + 1 }) start next) (λ number. new_short app g params opener number all short)
      (with_one g.calls g.entered _ all (job_short app start (made app) (point.Create ∷ point.Open ∷ destroy_after app g.sessions next) short))

  opens_short : (app : Application) (g : Group) (params : CopiedParams) (opener : Opener) → IsShortGroup longest g → AreShort longest params →
      IsShortGroup longest (opens app g params opener)
  opens_short app g params opener all short =
      let start : Start = start_of_open g params opener.login in
      map_or-both (IsShortGroup longest) (opens_there app g params opener) g.instance (open_begins g opener (opens_made app g start))
      (λ there.
      if-both (IsShortGroup longest) (is_held there.1) (open_waits g params opener there.0) (open_begins g opener (opens_kept app g start there))
      (with_one g.calls g.entered _ all short)
      (with_one g.calls g.entered _ all (job_short app start there.1 (point.Open ∷ destroy_after app g.sessions there.0) short)))
      (made_short app g params opener all short)

  opens_with_short : (app : Application) (g : Group) (input : OwnInput) (opener : Opener) → IsShortGroup longest g → IsShortInput longest input →
      IfAny (IsShortGroup longest) (opens_with app g input opener)
  opens_with_short app g (Copied params) opener all short = opens_short app g params opener all short
  opens_with_short app g Faulty opener all short = settles_short g opener.area bad_parameters all
  opens_with_short app g Unread opener all short = tt

  tested_short : (app : Application) (g : Group) (input : OwnInput) (opener : Opener) (limited : Bool) → IsShortGroup longest g → IsShortInput longest input →
      IfAny (IsShortGroup longest) (opens_tested app g input opener limited)
  tested_short app g input opener limited all short =
      if-both (IfAny (IsShortGroup longest)) (is_dead g) (Some (settles g opener.area target_dead)) _ (settles_short g opener.area target_dead all)
      (if-both (IfAny (IsShortGroup longest)) (is_taken app g) (Some (settles g opener.area busy)) _ (settles_short g opener.area busy all)
      (if-both (IfAny (IsShortGroup longest)) limited (Some (settles g opener.area out_of_memory)) (opens_with app g input opener)
      (settles_short g opener.area out_of_memory all) (opens_with_short app g input opener all short)))

  invokes_with_short : (app : Application) (g : Group) (func : ℕ) (input : OwnInput) (area : Bool) (at : Home) → IsShortGroup longest g → IsShortInput longest input →
      IfAny (IsShortGroup longest) (invokes_with app g func input area at)
  invokes_with_short app g func (Copied params) area at all short =
      works_short app g (record { kind = kind.Invoke func; area = area }) at params (point.Invoke func ∷ []) all short
  invokes_with_short app g func Faulty area at all short = settles_short g area bad_parameters all
  invokes_with_short app g func Unread area at all short = tt

  invokes_short : (app : Application) (g : Group) (func : ℕ) (input : OwnInput) (area : Bool) (at : Home) → IsShortGroup longest g → IsShortInput longest input →
      IfAny (IsShortGroup longest) (invokes app g func input area at)
  invokes_short app g func input area at all short =
      if-both (IfAny (IsShortGroup longest)) at.instance.dead (Some (settles g area target_dead)) (invokes_with app g func input area at)
      (settles_short g area target_dead all) (invokes_with_short app g func input area at all short)

  closes_short : (app : Application) (g : Group) (area : Bool) (at : Home) → IsShortGroup longest g → IsShortGroup longest (closes app g area at)
  closes_short app g area at all =
      works_short app g (record { kind = kind.Close; area = area }) at no_params (closing_points app g at.number at.session.instance) all (none_short longest)

  -- ---- calls that come back

  sees_short : (app : Application) (g : Group) (number done_by_now : ℕ) (call : GroupCall) → IsShortGroup longest g → IsShortPhase longest call.phase →
      IfAny (IsShortGroup longest) (sees g number done_by_now call)
  sees_short app g number done_by_now call all short =
      if_any_map (IsShortGroup longest) _ (phase_at (done_by_now - call.steps) call.phase)
      (λ phase there. with_one g.calls number _ all (seen_alone longest app done_by_now (alone call) phase there short))

  room_short : (g : Group) (number : ℕ) (enough : Bool) (call : GroupCall) → IsShortGroup longest g → IsShortPhase longest call.phase →
      IfAny (IsShortGroup longest) (finds_room g number enough call)
  room_short g number enough call all short =
      if-both (IfAny (IsShortGroup longest)) (finds_it_gone g call call.kind call.phase) (Some (with_call g number (record call { room = Some enough }))) None
      (with_one g.calls number _ all short) tt

  gives_up_short : (g : Group) (w : Waiting) (code : ℕ) → IsShortGroup longest g → IsShortGroup longest (gives_up g w code)
  gives_up_short g w code all = with_one g.calls w.number _ all (none_short longest)

  again_short : (app : Application) (g : Group) (w : Waiting) (session : GroupSession) (call_kind : CallKind) (found : Option Instance) → IsShortGroup longest g →
      AreShort longest w.params → IfAny (IsShortGroup longest) (begins_again app g w session call_kind found)
  again_short app g w session kind.Open (Some instance) all short =
      with_one g.calls w.number _ all (job_short app (start_again g w session) instance (point.Open ∷ destroy_after app g.sessions w.call.instance) short)
  again_short app g w session kind.Open None all short =
      if_any_map (IsShortGroup longest) (opens_again app g w session) w.call.room
      (λ enough is.
      if-both (IsShortGroup longest) enough (goes_on w (opens_new app g (start_again g w session) w.call.instance)) (gives_up g w out_of_memory)
      (with_one g.calls w.number _ all
      (job_short app (start_again g w session) (made app) (point.Create ∷ point.Open ∷ destroy_after app g.sessions w.call.instance) short)) (gives_up_short g w out_of_memory all))
  again_short app g w session (kind.Invoke func) (Some instance) all short =
      with_one g.calls w.number _ all (job_short app (start_again g w session) instance (point.Invoke func ∷ []) short)
  again_short app g w session (kind.Invoke func) None all short = gives_up_short g w bad_parameters all
  again_short app g w session kind.Close (Some instance) all short =
      with_one g.calls w.number _ all (job_short app (start_again g w session) instance (closing_points app g w.call.session w.call.instance) short)
  again_short app g w session kind.Close None all short = gives_up_short g w bad_parameters all
  again_short app g w session kind.Settled found all short = gives_up_short g w bad_parameters all

  waits_on_short : (g : Group) (w : Waiting) → IsShortGroup longest g → IsShortPhase longest w.call.phase → IsShortGroup longest (waits_on g w)
  waits_on_short g w all short =
      if-both (IsShortGroup longest) (is_no_buffer w.input) (gives_up g w out_of_memory) (with_call g w.number w.call) (gives_up_short g w out_of_memory all)
      (with_one g.calls w.number w.call all short)

  tested_again_short : (app : Application) (g : Group) (w : Waiting) (session : GroupSession) (found : Option Instance) → IsShortGroup longest g →
      IsShortPhase longest w.call.phase → AreShort longest w.params → IfAny (IsShortGroup longest) (tested_again app g w session found)
  tested_again_short app g w session found all is short =
      if-both (IfAny (IsShortGroup longest)) (option_map_or (λ (instance : Instance). instance.dead) found false && not (is_close w.call.kind))
      (Some (gives_up g w target_dead)) _ (gives_up_short g w target_dead all)
      (if-both (IfAny (IsShortGroup longest)) (option_map_or is_held found false) (Some (waits_on g w)) (begins_again app g w session w.call.kind found)
      (waits_on_short g w all is) (again_short app g w session w.call.kind found all short))

  retests_short : (app : Application) (g : Group) (w : Waiting) → IsShortGroup longest g → IsShortPhase longest w.call.phase → AreShort longest w.params →
      IfAny (IsShortGroup longest) (retests app g w)
  retests_short app g w all is short =
      map_or-both (IfAny (IsShortGroup longest)) (λ (session : GroupSession). tested_again app g w session (instance_at g w.call.instance))
      (get g.sessions w.call.session) (Some (gives_up g w bad_parameters))
      (λ session. tested_again_short app g w session (instance_at g w.call.instance) all is short) (gives_up_short g w bad_parameters all)

  back_in_short : (app : Application) (g : Group) (number : ℕ) (call : GroupCall) (input : BackInput) (phase : CallPhase) → IsShortGroup longest g → call.phase ≡ phase →
      IsShortPhase longest phase → IfAny (IsShortGroup longest) (comes_back_in app g number call input phase)
  back_in_short app g number call input (Runs job) all same short = tt
  back_in_short app g number call input (Asks job wanted payload) all same short =
      with_one g.calls number _ all
      (subst (λ (before : CallPhase). IsShortPhase longest (phase_back before job input)) (sym same) (back_alone longest app job wanted payload input short))
  back_in_short app g number call input (Waits params) all same short =
      retests_short app g (record { number = number; call = call; params = params; input = input }) all (subst (IsShortPhase longest) (sym same) short) short
  back_in_short app g number call input (Ends result params told wakes) all same short = with_one g.calls number _ all short

  back_short : (app : Application) (g : Group) (number : ℕ) (input : BackInput) (call : GroupCall) → IsShortGroup longest g → IsShortPhase longest call.phase →
      IfAny (IsShortGroup longest) (comes_back app g number input call)
  back_short app g number input call all short = back_in_short app g number _ input call.phase all refl short

  -- ---- calls that go out

  -- the call and the others, before it goes out
  pub record IsShortGoing (going : Going) : Type 0 where
    pub others : IsShortGroup longest going.group
    pub call : IsShortPhase longest going.call.phase

  stopped_short : (g : Group) (call : GroupCall) (why : JobStop) → IsShortGroup longest g → IsShortStop longest why → IsShortGoing (stopped g call why)
  stopped_short g call (steps.Ends end) all short = record { others = all; call = short }
  stopped_short g call (steps.Panics code) all short = record { others = all; call = none_short longest }
  stopped_short g call (steps.Asks wanted payload left) all short = record { others = all; call = short }

  taken_short : (g : Group) (call : GroupCall) (grant : Grant) → IsShortGroup longest g → IsShortGrant longest grant → IfAny IsShortGoing (taken_on g call grant)
  taken_short g call (Left job) all short = tt
  taken_short g call (Stopped used why) all short = stopped_short g (record call { steps = call.steps + used }) why all short

  going_short : (most : ℕ) (g : Group) (call : GroupCall) (phase : CallPhase) → IsShortGroup longest g → call.phase ≡ phase → IsShortPhase longest phase →
      IfAny IsShortGoing (going_in most g call phase)
  going_short most g call (Runs job) all same short =
      if_any_then IsShortGoing (taken_on g call) (grant_of most job) (λ grant granted. taken_short g call grant all (granted_short longest most job grant granted short))
  going_short most g call (Asks job wanted payload) all same short = record { others = all; call = subst (IsShortPhase longest) (sym same) short }
  going_short most g call (Waits params) all same short = record { others = all; call = subst (IsShortPhase longest) (sym same) short }
  going_short most g call (Ends result params true wakes) all same short = record { others = all; call = subst (IsShortPhase longest) (sym same) short }
  going_short most g call (Ends result params false wakes) all same short = record { others = all; call = short }

  -- the call of a number, as it goes out
  pub goes_short : (most : ℕ) (g : Group) (number : ℕ) (call : GroupCall) (going : Going) → IsShortGroup longest g → get g.calls number ≡ Some call →
      going_in most g call call.phase ≡ Some going → IsShortPhase longest going.call.phase
  goes_short most g number call going all found e =
      (if_any_of IsShortGoing (going_in most g call call.phase) going (going_short most g call call.phase all refl (all number call found)) e).call

  abbrev IsShortThen : Answered → Type 0
  IsShortThen answered = IsShortGroup longest answered.0

  out_short : (g : Group) (number : ℕ) (call : GroupCall) (phase : CallPhase) → IsShortGroup longest g → call.phase ≡ phase → IsShortPhase longest phase →
      IfAny IsShortThen (goes_out_in g number call phase)
  out_short g number call (Runs job) all same short = tt
  out_short g number call (Asks job wanted payload) all same short = with_one g.calls number call all (subst (IsShortPhase longest) (sym same) short)
  out_short g number call (Waits params) all same short = with_one g.calls number call all (subst (IsShortPhase longest) (sym same) short)
  out_short g number call (Ends result params told (Some woken)) all same short = with_one g.calls number call all (subst (IsShortPhase longest) (sym same) short)
  out_short g number call (Ends result params told None) all same short =
      if-both IsShortThen call.buffer (with_call g number (record call { buffer = false }), _) (record g { calls = remove g.calls number }, _)
      (with_one g.calls number _ all (subst (IsShortPhase longest) (sym same) short)) (without_one g.calls number all)

  goes_out_short : (most : ℕ) (g : Group) (number : ℕ) (call : GroupCall) → IsShortGroup longest g → IsShortPhase longest call.phase →
      IfAny IsShortThen (goes_out most g number call)
  goes_out_short most g number call all short =
      if_any_then IsShortThen (λ (going : Going). goes_out_in going.group number going.call going.call.phase) (going_in most g call call.phase)
      (λ going comes.
      let is = if_any_of IsShortGoing (going_in most g call call.phase) going (going_short most g call call.phase all refl short) comes in
      out_short going.group number going.call going.call.phase is.others refl is.call)

  -- ---- events

  silent_short : (o : Option Group) → IfAny (IsShortGroup longest) o → IfAny IsShortThen (option_map silent o)
  silent_short None all = tt
  silent_short (Some g) all = all

  step_short : (most : ℕ) (app : Application) (g : Group) (came : GroupEvent) → IsShortGroup longest g → IsShortEvent longest came → IfAny IsShortThen (step most app g came)
  step_short most app g (Open input login limited area) all short =
      let opener : Opener = record { login = login; area = area } in
      silent_short (opens_tested app g input opener limited) (tested_short app g input opener limited all short)
  step_short most app g (Invoke session func input area) all short =
      silent_short (option_and_then (invokes app g func input area) (home g session))
      (if_any_then (IsShortGroup longest) (invokes app g func input area) (home g session) (λ at there. invokes_short app g func input area at all short))
  step_short most app g (Close session area) all short =
      if_any_map IsShortThen (λ (at : Home). silent (closes app g area at)) (home g session) (λ at there. closes_short app g area at all)
  step_short most app g (Cancel session) all short =
      if_any_map IsShortThen (λ (at : Home). silent (settles g false success)) (home g session) (λ at there. settles_short g false success all)
  step_short most app g (Seen number done_by_now) all short =
      silent_short (option_and_then (sees g number done_by_now) (get g.calls number))
      (if_any_then (IsShortGroup longest) (sees g number done_by_now) (get g.calls number)
      (λ call found. sees_short app g number done_by_now call all (all number call found)))
  step_short most app g (Room number enough) all short =
      silent_short (option_and_then (finds_room g number enough) (get g.calls number))
      (if_any_then (IsShortGroup longest) (finds_room g number enough) (get g.calls number)
      (λ call found. room_short g number enough call all (all number call found)))
  step_short most app g (Back number input) all short =
      silent_short (option_and_then (comes_back app g number input) (get g.calls number))
      (if_any_then (IsShortGroup longest) (comes_back app g number input) (get g.calls number)
      (λ call found. back_short app g number input call all (all number call found)))
  step_short most app g (Out number) all short =
      if_any_then IsShortThen (goes_out most g number) (get g.calls number)
      (λ call found. goes_out_short most g number call all (all number call found))

  -- they are short after each event that brings none that are longer
  pub short_after : (most : ℕ) (app : Application) (g next : Group) (came : GroupEvent) (told : Option GroupReply) → IsShortGroup longest g → IsShortEvent longest came →
      step most app g came ≡ Some (next, told) → IsShortGroup longest next
  short_after most app g next came told all short e =
      if_any_of IsShortThen (step most app g came) (next, told) (step_short most app g came all short) e

-- ---- it keeps its session

-- the call has the session of this number
abbrev HasSession : ℕ → Going → Type 0
HasSession session going = going.call.session ≡ session

stopped_same : (g : Group) (call : GroupCall) (why : JobStop) → HasSession call.session (stopped g call why)
stopped_same g call (steps.Ends end) = refl
stopped_same g call (steps.Panics code) = refl
stopped_same g call (steps.Asks wanted payload left) = refl

taken_same : (g : Group) (call : GroupCall) (grant : Grant) → IfAny (HasSession call.session) (taken_on g call grant)
taken_same g call (Left job) = tt
taken_same g call (Stopped used why) = stopped_same g (record call { steps = call.steps + used }) why

going_same : (most : ℕ) (g : Group) (call : GroupCall) (phase : CallPhase) → IfAny (HasSession call.session) (going_in most g call phase)
going_same most g call (Runs job) = if_any_then (HasSession call.session) (taken_on g call) (grant_of most job) (λ grant granted. taken_same g call grant)
going_same most g call (Asks job wanted payload) = refl
going_same most g call (Waits params) = refl
going_same most g call (Ends result params true wakes) = refl
going_same most g call (Ends result params false wakes) = refl

pub goes_same : (most : ℕ) (g : Group) (call : GroupCall) (going : Going) → going_in most g call call.phase ≡ Some going → going.call.session ≡ call.session
goes_same most g call going e = if_any_of (HasSession call.session) (going_in most g call call.phase) going (going_same most g call call.phase) e
