-- No open of a machine waits, where each came when no instance was there.
use Rattle.std.proofs.Common.{◌≡◌, ℕ, ◌+◌, ◌-◌, Bool, true, false, List, [], ◌∷◌, ◌++◌, Option, Some, None, refl, ap, subst, sym, ◌∙◌}
use Rattle.std.specs.Prelude.{◌&&◌, if◌then◌else◌, not}
use Rattle.std.specs.Option.{option_and_then, option_map, option_map_or}
use Rattle.base.specs.NumberMap.{NumberMap, get, insert, remove}
use Rattle.job_model.specs.declared.call_kind.CallKind.{CallKind}
use Rattle.job_model.specs.declared.call_kind.CallKind.TheVariants as kind
use Rattle.job_model.specs.Job.{Job, with_cancel_seen}
use Rattle.job_model.specs.Steps.{Grant, JobStop, Left, Stopped, after, grant_of}
use Rattle.job_model.specs.Steps as steps
use Rattle.ta_params.specs.declared.copied_params.CopiedParams.{CopiedParams}
use Rattle.kernel_model.specs.Application.{Application}
use Rattle.kernel_model.specs.Codes.{bad_parameters, success, target_dead}
use Rattle.kernel_model.specs.Kernel.{Asks, CallPhase, Ends, Instance, Runs, Waits}
use Rattle.kernel_model.specs.Resume.{is_close, phase_seen}
use Rattle.kernel_model.proofs.Parts.{if-both, map_or-both, option_map_some}
use Rattle.own_model.proofs.InOrder.{IfAny, back_works, if_any_map, if_any_of, if_any_then}
use Rattle.own_model.proofs.Maps.{get-inserted, get-removed}
use Rattle.own_model.specs.InOrder.{IsAtWork}
use Rattle.own_model.specs.Solo.{is_no_buffer, phase_at}
use Rattle.kernel_model.specs.Instances.{is_held}
use Rattle.own_model.specs.declared.own_event.BackInput.{BackInput}
use Rattle.own_model.specs.declared.own_event.OwnInput.{OwnInput}
use Rattle.own_model.specs.declared.own_event.OwnInput.TheVariants.{Copied, Faulty, Unread}
use Rattle.group_model.specs.Group.{Answered, Coming, Going, Group, GroupCall, GroupSession, Home, Opener, Start, Waiting}
use Rattle.group_model.specs.Group.{begins_again, closes, comes_back, comes_back_in, finds_room, gives_up, goes_on, goes_out}
use Rattle.group_model.specs.Group.{goes_out_in, going_in, home, instance_at, invokes, invokes_with, open_begins, opens_again}
use Rattle.group_model.specs.Group.{opens_new, opens_tested, opens_there, opens_with, retests, sees, settles, silent}
use Rattle.group_model.specs.Group.{start_of_open, step, taken_on, tested_again, waits_on, works_or_waits}
use Rattle.group_model.specs.Group as machine
use Rattle.group_model.specs.declared.group_event.GroupEvent.{GroupEvent}
use Rattle.group_model.specs.declared.group_event.GroupEvent.TheVariants.{Back, Cancel, Close, Invoke, Open, Out, Room, Seen}
use Rattle.job_model.specs.declared.entry_point.EntryPoint.{EntryPoint}
use Rattle.realm_model.specs.Laws.{About, OpensRun}
use Rattle.realm_model.proofs.Silent.{Silently}

-- ---- the calls

-- it is no open that waits
abbrev pub RunsSo : GroupCall → Type 0
RunsSo call = (params : CopiedParams) → call.kind ≡ kind.Open → call.phase ≡ Waits params → ⊥

pub put : (calls : NumberMap GroupCall) (number : ℕ) (call : GroupCall) → OpensRun calls → RunsSo call
    → OpensRun (insert calls number call)
put calls number call run so = λ at own params there kinds waits.
    get-inserted calls number call at own there
    (λ same is. so params (ap (λ (c : GroupCall). c.kind) is ∙ kinds) (ap (λ (c : GroupCall). c.phase) is ∙ waits))
    (λ was. run at own params was kinds waits)

taken : (calls : NumberMap GroupCall) (number : ℕ) → OpensRun calls → OpensRun (remove calls number)
taken calls number run = λ at own params there kinds waits.
    run at own params (get-removed calls number at own there) kinds waits

abbrev R : Group → Type 0
R g = OpensRun g.calls

abbrev RThen : Answered → Type 0
RThen answered = R answered.0

-- ---- calls that come in

settles_so : (g : Group) (area : Bool) (code : ℕ) → R g → R (settles g area code)
settles_so g area code run = put g.calls g.entered _ run (λ params kinds waits. cc)

works_so : (app : Application) (g : Group) (coming : Coming) (at : Home) (params : CopiedParams) (points : List EntryPoint)
    → R g → (coming.kind ≡ kind.Open → ⊥) → R (works_or_waits app g coming at params points)
works_so app g coming at params points run other =
    if-both R (is_held at.instance) _ _
    (put g.calls g.entered _ run (λ copied kinds waits. other kinds))
    (put g.calls g.entered _ run (λ copied kinds waits. other kinds))

invokes_with_so : (app : Application) (g : Group) (func : ℕ) (input : OwnInput) (area : Bool) (at : Home) → R g
    → IfAny R (invokes_with app g func input area at)
invokes_with_so app g func (Copied params) area at run = works_so app g _ at params (EntryPoint.Invoke func ∷ []) run (λ kinds. cc)
invokes_with_so app g func Faulty area at run = settles_so g area bad_parameters run
invokes_with_so app g func Unread area at run = tt

invokes_so : (app : Application) (g : Group) (func : ℕ) (input : OwnInput) (area : Bool) (at : Home) → R g
    → IfAny R (invokes app g func input area at)
invokes_so app g func input area at run =
    if-both (IfAny R) at.instance.dead _ (invokes_with app g func input area at) (settles_so g area _ run)
    (invokes_with_so app g func input area at run)

made_so : (app : Application) (g : Group) (opener : Opener) (start : Start) (awaited : Option ℕ) → R g
    → R (open_begins g opener (option_map_or (opens_new app g start) awaited
    (opens_new app (record g { next_instance = g.next_instance + 1 }) start g.next_instance)))
made_so app g opener start None run = put g.calls g.entered _ run (λ params kinds waits. cc)
made_so app g opener start (Some number) run = put g.calls g.entered _ run (λ params kinds waits. cc)

opens_with_so : (app : Application) (g : Group) (input : OwnInput) (opener : Opener) → R g → g.instance ≡ None
    → IfAny R (opens_with app g input opener)
opens_with_so app g (Copied params) opener run none =
    subst (λ (o : Option (ℕ × Instance)). R (option_map_or (opens_there app g params opener) o
    (open_begins g opener (machine.opens_made app g (start_of_open g params opener.login))))) (sym none)
    (made_so app g opener (start_of_open g params opener.login) (machine.awaited_number g) run)
opens_with_so app g Faulty opener run none = settles_so g opener.area bad_parameters run
opens_with_so app g Unread opener run none = tt

opens_so : (app : Application) (g : Group) (input : OwnInput) (opener : Opener) (limited : Bool) → R g → g.instance ≡ None
    → IfAny R (opens_tested app g input opener limited)
opens_so app g input opener limited run none =
    if-both (IfAny R) (machine.is_dead g) _ _ (settles_so g opener.area _ run)
    (if-both (IfAny R) (machine.is_taken app g) _ _ (settles_so g opener.area _ run)
    (if-both (IfAny R) limited _ (opens_with app g input opener) (settles_so g opener.area _ run)
    (opens_with_so app g input opener run none)))

-- ---- calls that come back

waits_back : (before : CallPhase) (more : ℕ) (phase : CallPhase) (params : CopiedParams) → phase_at more before ≡ Some phase
    → phase_seen phase ≡ Waits params → before ≡ Waits params
waits_back (Runs job) more phase params there waits =
    let left = option_map_some (λ (j : Job). Runs j) (after more job) phase there in
    let no : CallPhase.Runs (with_cancel_seen left.0) ≡ Waits params = ap phase_seen left.2 ∙ waits in absurd cc
waits_back (Asks job wanted payload) more phase params there waits =
    let same : Asks job wanted payload ≡ phase = cc in
    let no : CallPhase.Asks (with_cancel_seen job) wanted payload ≡ Waits params = ap phase_seen same ∙ waits in absurd cc
waits_back (Waits copied) more phase params there waits =
    let same : CallPhase.Waits copied ≡ phase = cc in ap phase_seen same ∙ waits
waits_back (Ends result left told wakes) more phase params there waits =
    let same : Ends result left told wakes ≡ phase = cc in
    let no : CallPhase.Ends result left told wakes ≡ Waits params = ap phase_seen same ∙ waits in absurd cc

sees_so : (g : Group) (number done_by_now : ℕ) (call : GroupCall) → R g → get g.calls number ≡ Some call
    → IfAny R (sees g number done_by_now call)
sees_so g number done_by_now call run found =
    if_any_map R _ (phase_at (done_by_now - call.steps) call.phase)
    (λ phase there. put g.calls number _ run
    (λ params kinds waits.
    run number call params found kinds (waits_back call.phase (done_by_now - call.steps) phase params there waits)))

room_so : (g : Group) (number : ℕ) (enough : Bool) (call : GroupCall) → R g → get g.calls number ≡ Some call
    → IfAny R (finds_room g number enough call)
room_so g number enough call run found =
    if-both (IfAny R) (machine.finds_it_gone g call call.kind call.phase) _ None
    (put g.calls number _ run (λ params kinds waits. run number call params found kinds waits)) tt

gives_up_so : (g : Group) (w : Waiting) (code : ℕ) → R g → R (gives_up g w code)
gives_up_so g w code run = put g.calls w.number _ run (λ params kinds waits. cc)

again_so : (app : Application) (g : Group) (w : Waiting) (session : GroupSession) (call_kind : CallKind)
    (found : Option Instance) → R g → IfAny R (begins_again app g w session call_kind found)
again_so app g w session kind.Open (Some instance) run = put g.calls w.number _ run (λ params kinds waits. cc)
again_so app g w session kind.Open None run =
    if_any_map R (opens_again app g w session) w.call.room
    (λ enough is.
    if-both R enough (goes_on w (opens_new app g (machine.start_again g w session) w.call.instance)) _
    (put g.calls w.number _ run (λ params kinds waits. cc)) (gives_up_so g w _ run))
again_so app g w session (kind.Invoke func) (Some instance) run = put g.calls w.number _ run (λ params kinds waits. cc)
again_so app g w session (kind.Invoke func) None run = gives_up_so g w bad_parameters run
again_so app g w session kind.Close (Some instance) run = put g.calls w.number _ run (λ params kinds waits. cc)
again_so app g w session kind.Close None run = gives_up_so g w bad_parameters run
again_so app g w session kind.Settled found run = gives_up_so g w bad_parameters run

retests_so : (app : Application) (g : Group) (w : Waiting) → R g → RunsSo w.call → IfAny R (retests app g w)
retests_so app g w run so =
    map_or-both (IfAny R) (λ (session : GroupSession). tested_again app g w session (instance_at g w.call.instance))
    (get g.sessions w.call.session) (Some (gives_up g w bad_parameters))
    (λ session.
    let found = instance_at g w.call.instance in
    let held : Bool = option_map_or is_held found false in
    if-both (IfAny R) (option_map_or (λ (instance : Instance). instance.dead) found false && not (is_close w.call.kind))
    (Some (gives_up g w target_dead))
    (if held then Some (waits_on g w) else begins_again app g w session w.call.kind found)
    (gives_up_so g w target_dead run)
    (if-both (IfAny R) held (Some (waits_on g w)) (begins_again app g w session w.call.kind found)
    (if-both R (is_no_buffer w.input) (gives_up g w _) (machine.with_call g w.number w.call)
    (gives_up_so g w _ run) (put g.calls w.number w.call run so))
    (again_so app g w session w.call.kind found run)))
    (gives_up_so g w bad_parameters run)

back_in_so : (app : Application) (g : Group) (number : ℕ) (call : GroupCall) (input : BackInput) (phase : CallPhase) → R g
    → RunsSo call → call.phase ≡ phase → IfAny R (comes_back_in app g number call input phase)
back_in_so app g number call input (Runs job) run so is = tt
back_in_so app g number call input (Asks job wanted payload) run so is =
    put g.calls number _ run
    (λ params kinds waits. subst IsAtWork waits (back_works call.phase job input (subst IsAtWork (sym is) tt)))
back_in_so app g number call input (Waits params) run so is =
    retests_so app g (record { number = number; call = call; params = params; input = input }) run so
back_in_so app g number call input (Ends result params told wakes) run so is =
    put g.calls number _ run (λ copied kinds waits. cc)

back_so : (app : Application) (g : Group) (number : ℕ) (input : BackInput) (call : GroupCall) → R g
    → get g.calls number ≡ Some call → IfAny R (comes_back app g number input call)
back_so app g number input call run found =
    back_in_so app g number _ input call.phase run (λ params kinds waits. run number call params found kinds waits) refl

-- ---- calls that go out

abbrev GoingSo : Going → Type 0
GoingSo going = R going.group × RunsSo going.call

stopped_so : (g : Group) (call : GroupCall) (why : JobStop) → R g → GoingSo (machine.stopped g call why)
stopped_so g call (steps.Ends end) run = (run, λ params kinds waits. cc)
stopped_so g call (steps.Panics code) run = (run, λ params kinds waits. cc)
stopped_so g call (steps.Asks wanted payload left) run = (run, λ params kinds waits. cc)

granted_so : (g : Group) (call : GroupCall) (grant : Grant) → R g → IfAny GoingSo (taken_on g call grant)
granted_so g call (Left job) run = tt
granted_so g call (Stopped used why) run = stopped_so g (record call { steps = call.steps + used }) why run

going_so : (most : ℕ) (g : Group) (number : ℕ) (call : GroupCall) (phase : CallPhase) → R g
    → get g.calls number ≡ Some call → IfAny GoingSo (going_in most g call phase)
going_so most g number call (Runs job) run found =
    if_any_then GoingSo (taken_on g call) (grant_of most job) (λ grant is. granted_so g call grant run)
going_so most g number call (Asks job wanted payload) run found =
    (run, λ params kinds waits. run number call params found kinds waits)
going_so most g number call (Waits params) run found =
    (run, λ copied kinds waits. run number call copied found kinds waits)
going_so most g number call (Ends result params true wakes) run found =
    (run, λ copied kinds waits. run number call copied found kinds waits)
going_so most g number call (Ends result params false wakes) run found = (run, λ copied kinds waits. cc)

out_so : (g : Group) (number : ℕ) (call : GroupCall) (phase : CallPhase) → R g → RunsSo call
    → IfAny RThen (goes_out_in g number call phase)
out_so g number call (Runs job) run so = tt
out_so g number call (Asks job wanted payload) run so = put g.calls number call run so
out_so g number call (Waits params) run so = put g.calls number call run so
out_so g number call (Ends result params told (Some woken)) run so = put g.calls number call run so
out_so g number call (Ends result params told None) run so =
    if-both RThen call.buffer _ _ (put g.calls number _ run so) (taken g.calls number run)

goes_out_so : (most : ℕ) (g : Group) (number : ℕ) (call : GroupCall) → R g → get g.calls number ≡ Some call
    → IfAny RThen (goes_out most g number call)
goes_out_so most g number call run found =
    if_any_then RThen (λ (going : Going). goes_out_in going.group number going.call going.call.phase)
    (going_in most g call call.phase)
    (λ going comes.
    let so = if_any_of GoingSo (going_in most g call call.phase) going (going_so most g number call call.phase run found)
    comes in
    out_so going.group number going.call going.call.phase so.0 so.1)

-- ---- events

-- an open comes when no instance is there
abbrev pub AtOpen : GroupEvent → Group → Type 0
AtOpen (Open input login limited area) g = g.instance ≡ None
AtOpen _ g = Unit {0}

silent_so : (o : Option Group) → IfAny R o → IfAny RThen (option_map silent o)
silent_so None run = tt
silent_so (Some g) run = run

step_so : (most : ℕ) (app : Application) (g : Group) (came : GroupEvent) → R g → AtOpen came g
    → IfAny RThen (step most app g came)
step_so most app g (Open input login limited area) run at =
    let opener : Opener = record { login = login; area = area } in
    silent_so (opens_tested app g input opener limited) (opens_so app g input opener limited run at)
step_so most app g (Invoke session func input area) run at =
    silent_so (option_and_then (invokes app g func input area) (home g session))
    (if_any_then R (invokes app g func input area) (home g session)
    (λ it is. invokes_so app g func input area it run))
step_so most app g (Close session area) run at =
    if_any_map RThen (λ (it : Home). silent (closes app g area it)) (home g session)
    (λ it is. works_so app g _ it _ (machine.closing_points app g it.number it.session.instance) run (λ kinds. cc))
step_so most app g (Cancel session) run at =
    if_any_map RThen (λ (it : Home). silent (settles g false success)) (home g session)
    (λ it is. settles_so g false success run)
step_so most app g (Seen number done_by_now) run at =
    silent_so (option_and_then (sees g number done_by_now) (get g.calls number))
    (if_any_then R (sees g number done_by_now) (get g.calls number)
    (λ call found. sees_so g number done_by_now call run found))
step_so most app g (Room number enough) run at =
    silent_so (option_and_then (finds_room g number enough) (get g.calls number))
    (if_any_then R (finds_room g number enough) (get g.calls number)
    (λ call found. room_so g number enough call run found))
step_so most app g (Back number input) run at =
    silent_so (option_and_then (comes_back app g number input) (get g.calls number))
    (if_any_then R (comes_back app g number input) (get g.calls number)
    (λ call found. back_so app g number input call run found))
step_so most app g (Out number) run at =
    if_any_then RThen (goes_out most g number) (get g.calls number)
    (λ call found. goes_out_so most g number call run found)

-- so none waits after a step
pub opens_after : (most : ℕ) (app : Application) (g : Group) (came : GroupEvent) (answered : Answered) → AtOpen came g
    → OpensRun g.calls → step most app g came ≡ Some answered → OpensRun answered.0.calls
opens_after most app g came answered at run is =
    if_any_of RThen (step most app g came) answered (step_so most app g came run at) is

-- nor after events in a row that are no opens
abbrev pub NoOpens : List GroupEvent → Type 0
NoOpens [] = Unit {0}
NoOpens (Open input login limited area ∷ events) = ⊥
NoOpens (came ∷ events) = NoOpens events

pub no_opens : (first second : List GroupEvent) → NoOpens first → NoOpens second → NoOpens (first ++ second)
no_opens [] second none more = more
no_opens (Open input login limited area ∷ events) second none more = absurd none
no_opens (Invoke session func input area ∷ events) second none more = no_opens events second none more
no_opens (Close session area ∷ events) second none more = no_opens events second none more
no_opens (Cancel session ∷ events) second none more = no_opens events second none more
no_opens (Seen number done_by_now ∷ events) second none more = no_opens events second none more
no_opens (Room number enough ∷ events) second none more = no_opens events second none more
no_opens (Back number input ∷ events) second none more = no_opens events second none more
no_opens (Out number ∷ events) second none more = no_opens events second none more

no_open : (came : GroupEvent) (events : List GroupEvent) (g : Group) → NoOpens (came ∷ events)
    → AtOpen came g × NoOpens events
no_open (Open input login limited area) events g none = absurd none
no_open (Invoke session func input area) events g none = (tt, none)
no_open (Close session area) events g none = (tt, none)
no_open (Cancel session) events g none = (tt, none)
no_open (Seen number done_by_now) events g none = (tt, none)
no_open (Room number enough) events g none = (tt, none)
no_open (Back number input) events g none = (tt, none)
no_open (Out number) events g none = (tt, none)

pub opens_behind : (about : About) (g next : Group) (events : List GroupEvent) → NoOpens events → OpensRun g.calls
    → Silently about g events next → OpensRun next.calls
opens_behind about g next [] none run on = subst (λ (x : Group). OpensRun x.calls) on run
opens_behind about g next (came ∷ events) none run on =
    let at = no_open came events g none in
    opens_behind about on.0 next events at.1
    (opens_after about.most about.members.app g came (silent on.0) at.0 run on.1) on.2
