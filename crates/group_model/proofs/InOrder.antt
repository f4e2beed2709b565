-- The machine of a group stays in order, whatever happens to it.
use Rattle.std.proofs.Common.{◌≡◌, ℕ, ◌+◌, ◌-◌, Bool, true, false, not, cond, List, [], ◌∷◌, Option, Some, None}
use Rattle.std.proofs.Common.{refl, ap, subst, sym, ◌∙◌}
use Rattle.std.specs.Prelude.{All, ◌==◌, ◌||◌, ◌&&◌, filter, if◌then◌else◌}
use Rattle.std.specs.Option.{option_map, option_map_or, option_and_then}
use Rattle.std.proofs.lemmas.List.Elements.{All-cons, All-filter, All-head, All-nil, All-tail}
use Rattle.std.proofs.lemmas.Option.{option_and_then_some}
use Rattle.base.specs.NumberMap.{NumberMap, get, remove}
use Rattle.job_model.specs.declared.call_kind.CallKind.{CallKind}
use Rattle.job_model.specs.declared.call_kind.CallKind.TheVariants as kind
use Rattle.job_model.specs.Job.{Job, of_tee}
use Rattle.job_model.specs.Point.{no_params}
use Rattle.job_model.specs.Steps.{Grant, JobStop, Left, Stopped, grant_of}
use Rattle.job_model.specs.Steps as steps
use Rattle.kernel_model.specs.Application.{Application}
use Rattle.kernel_model.specs.Codes.{bad_parameters, out_of_memory, success, target_dead}
use Rattle.kernel_model.specs.Instances.{given_back, held_by, is_held, killed}
use Rattle.kernel_model.specs.Kernel.{Asks, CallPhase, Ends, Instance, Runs, Waits}
use Rattle.kernel_model.specs.Resume.{is_close, phase_seen}
use Rattle.kernel_model.proofs.Parts.{if-both, map_or-both, option_map_some}
use Rattle.own_model.proofs.InOrder.{IfAny, back_works, by_numbers, if_any_map, if_any_of, if_any_then}
use Rattle.own_model.proofs.Maps.{get-insert-same, get-remove-other, get-removed}
use Rattle.own_model.proofs.Maps.{insert-again, remove-inserted}
use Rattle.own_model.specs.InOrder.{IsAtWork, IsWaiting}
use Rattle.own_model.specs.Solo.{is_no_buffer, phase_at, phase_back, wake_left}
use Rattle.own_model.specs.declared.own_event.BackInput.{BackInput}
use Rattle.group_model.specs.Group.{Answered, Going, Group, GroupCall, GroupSession, GroupWaiter}
use Rattle.group_model.specs.Group.{Home, Opener, Waiting, and_reply}
use Rattle.group_model.specs.Group.{begins_again, closes, comes_back, comes_back_in}
use Rattle.group_model.specs.Group.{finds_it_gone, finds_room, gives_back, gives_up, goes_on}
use Rattle.group_model.specs.Group.{goes_out, goes_out_in, going_in, home, instance_at, instance_back, invokes}
use Rattle.group_model.specs.Group.{made}
use Rattle.group_model.specs.Group.{opens_again, opens_new}
use Rattle.group_model.specs.Group.{opens_tested, retests, run, sees, sessions_ended}
use Rattle.group_model.specs.Group.{sessions_panicked, sessions_unrun, settles, shows, silent, start_again}
use Rattle.group_model.specs.Group.{step, stopped, taken_on, tested_again, waits_on, with_call}
use Rattle.group_model.specs.Group.{with_instance, without_waiter, woken_by}
use Rattle.group_model.specs.declared.group_event.GroupEvent.{GroupEvent}
use Rattle.group_model.specs.declared.group_event.GroupEvent.TheVariants.{Open, Invoke, Close, Cancel, Seen, Room, Back}
use Rattle.group_model.specs.declared.group_event.GroupEvent.TheVariants.{Out}
use Rattle.group_model.specs.declared.group_reply.GroupReply.{GroupReply}
use Rattle.group_model.specs.InOrder.{Fits, IsIn, IsInOrder}
use Rattle.group_model.specs.Machine.{StaysInOrder}
use Rattle.group_model.proofs.MoreSteps.{Ended, behind}
use Rattle.group_model.proofs.OrderedChanges.{AreFresh, HolderWorks, InLine, IsOn, MayFollow}
use Rattle.group_model.proofs.OrderedChanges.{OfNumber, back_fits, begins_so, both_follow, closes_so}
use Rattle.group_model.proofs.OrderedChanges.{end_follows, fits_running, follows, fresh_ended}
use Rattle.group_model.proofs.OrderedChanges.{fresh_panicked, fresh_unrun, has_call, invokes_so}
use Rattle.group_model.proofs.OrderedChanges.{is_itself, is_on, itself, line_holds, none_holds}
use Rattle.group_model.proofs.OrderedChanges.{not_both, other_number, phase_at_follows, quiet_fits}
use Rattle.group_model.proofs.OrderedChanges.{same_pair, seen_follows, settles_so, shown_fits}
use Rattle.group_model.proofs.OrderedChanges.{tested_so, there_is, with_tables, works_on}

-- ---- calls that come back

sees_so : (g : Group) (number done_by_now : ℕ) (call : GroupCall) → IsInOrder g → get g.calls number ≡ Some call
    → IfAny IsInOrder (sees g number done_by_now call)
sees_so g number done_by_now call order found =
    if_any_map IsInOrder _ (phase_at (done_by_now - call.steps) call.phase)
    (λ phase there. follows g number call (record call { seen = true; steps = done_by_now; phase = phase_seen phase })
    order found refl refl
    (both_follow call.kind call.phase phase (phase_seen phase)
    (phase_at_follows call.kind (done_by_now - call.steps) call.phase phase there) (seen_follows call.kind phase)))

finds_room_so : (g : Group) (number : ℕ) (enough : Bool) (call : GroupCall) → IsInOrder g
    → get g.calls number ≡ Some call → IfAny IsInOrder (finds_room g number enough call)
finds_room_so g number enough call order found =
    let now : GroupCall = record call { room = Some enough } in
    if-both (IfAny IsInOrder) (finds_it_gone g call call.kind call.phase) (Some (with_call g number now)) None
    (follows g number call now order found refl refl (itself call.kind call.phase)) tt

-- the line without a call
left_apart : (P : GroupWaiter → Type 0) (number : ℕ) (waiters : List GroupWaiter)
    → All (OfNumber number P) (filter (λ (waiter : GroupWaiter). not (waiter.call == number)) waiters)
left_apart P number [] = All-nil (OfNumber number P)
left_apart P number (first ∷ rest) = by_test (first.call == number) refl (left_apart P number rest)
  where
    behind_it : List GroupWaiter
    behind_it = filter (λ (waiter : GroupWaiter). not (waiter.call == number)) rest

    by_test : (test : Bool) → (first.call == number) ≡ test → All (OfNumber number P) behind_it
        → All (OfNumber number P) (cond (not test) (first ∷ behind_it) behind_it)
    by_test true is all = all
    by_test false is all =
        All-cons (OfNumber number P) first behind_it (λ same. absurd (other_number first.call number is same)) all

leaves_line : (g : Group) (number : ℕ) → IsInOrder g → IsInOrder (without_waiter g number)
leaves_line g number order = record {
  fits = order.fits;
  holder = order.holder;
  waiting = All-filter (λ (waiter : GroupWaiter). not (waiter.call == number)) (InLine g.calls) g.waiting order.waiting;
  numbered = order.numbered;
  fresh = order.fresh;
}

-- a call of the machine that waits, as it is but for what it was given
record WaitsThere (g : Group) (number : ℕ) (call : GroupCall) : Type 0 where
  own : GroupCall
  there : get g.calls number ≡ Some own
  kinds : call.kind ≡ own.kind
  instances : call.instance ≡ own.instance
  phases : call.phase ≡ own.phase
  waits : IsWaiting own.phase

gives_up_so : (g : Group) (w : Waiting) (code : ℕ) → IsInOrder g → WaitsThere g w.number w.call
    → IsInOrder (gives_up g w code)
gives_up_so g w code order there =
    let now : GroupCall = record w.call { phase = Ends (of_tee code) no_params false None } in
    has_call (without_waiter g w.number) w.number now (leaves_line g w.number order) (record {
      numbered = order.numbered w.number there.own there.there;
      fits = quiet_fits w.call.kind (of_tee code) no_params false;
      holder = λ at instance is holds.
          absurd (not_both there.own.phase
          (is_on IsAtWork g.calls w.number at there.own (order.holder at w.number instance is holds) there.there).is_in
          there.waits);
      waiting = left_apart (λ (waiter : GroupWaiter). IsOn IsWaiting now waiter.instance) w.number g.waiting;
    })

goes_on_so : (g : Group) (w : Waiting) (instance : Instance) (job : Job) → IsInOrder g → WaitsThere g w.number w.call
    → IsInOrder (goes_on w (record {
      group = with_instance g w.call.instance (held_by w.number instance);
      instance = w.call.instance;
      job = job;
    }))
goes_on_so g w instance job order there =
    begins_so (without_waiter g w.number) w.number (record w.call { phase = Runs job }) instance
    (leaves_line g w.number order) (order.numbered w.number there.own there.there)
    (fits_running w.call.kind there.own.phase job there.waits
    (subst (λ k. Fits k there.own.phase) (sym there.kinds) (order.fits w.number there.own there.there)))
    tt (λ P. left_apart P w.number g.waiting)

again_so : (app : Application) (g : Group) (w : Waiting) (session : GroupSession) (call_kind : CallKind)
    (found : Option Instance) → IsInOrder g → WaitsThere g w.number w.call
    → IfAny IsInOrder (begins_again app g w session call_kind found)
again_so app g w session kind.Open (Some instance) order there = goes_on_so g w instance _ order there
again_so app g w session kind.Open None order there =
    if_any_map IsInOrder (opens_again app g w session) w.call.room
    (λ enough is.
    if-both IsInOrder enough (goes_on w (opens_new app g (start_again g w session) w.call.instance))
    (gives_up g w out_of_memory)
    (goes_on_so g w (made app) _ order there) (gives_up_so g w out_of_memory order there))
again_so app g w session (kind.Invoke func) (Some instance) order there = goes_on_so g w instance _ order there
again_so app g w session (kind.Invoke func) None order there = gives_up_so g w bad_parameters order there
again_so app g w session kind.Close (Some instance) order there = goes_on_so g w instance _ order there
again_so app g w session kind.Close None order there = gives_up_so g w bad_parameters order there
again_so app g w session kind.Settled found order there = gives_up_so g w bad_parameters order there

waits_on_so : (g : Group) (w : Waiting) → IsInOrder g → WaitsThere g w.number w.call → IsInOrder (waits_on g w)
waits_on_so g w order there =
    if-both IsInOrder (is_no_buffer w.input) (gives_up g w out_of_memory) (with_call g w.number w.call)
    (gives_up_so g w out_of_memory order there)
    (follows g w.number there.own w.call order there.there there.kinds there.instances
    (subst (λ (p : CallPhase). MayFollow there.own.kind there.own.phase p) (sym there.phases)
    (itself there.own.kind there.own.phase)))

tested_again_so : (app : Application) (g : Group) (w : Waiting) (session : GroupSession) (found : Option Instance)
    → IsInOrder g → WaitsThere g w.number w.call → IfAny IsInOrder (tested_again app g w session found)
tested_again_so app g w session found order there =
    if-both (IfAny IsInOrder)
    (option_map_or (λ (instance : Instance). instance.dead) found false && not (is_close w.call.kind))
    (Some (gives_up g w target_dead))
    (if option_map_or is_held found false then Some (waits_on g w) else begins_again app g w session w.call.kind found)
    (gives_up_so g w target_dead order there)
    (if-both (IfAny IsInOrder) (option_map_or is_held found false) (Some (waits_on g w))
    (begins_again app g w session w.call.kind found) (waits_on_so g w order there)
    (again_so app g w session w.call.kind found order there))

retests_so : (app : Application) (g : Group) (w : Waiting) → IsInOrder g → WaitsThere g w.number w.call
    → IfAny IsInOrder (retests app g w)
retests_so app g w order there =
    map_or-both (IfAny IsInOrder)
    (λ (session : GroupSession). tested_again app g w session (instance_at g w.call.instance))
    (get g.sessions w.call.session) (Some (gives_up g w bad_parameters))
    (λ session. tested_again_so app g w session (instance_at g w.call.instance) order there)
    (gives_up_so g w bad_parameters order there)

back_in_so : (app : Application) (g : Group) (number : ℕ) (own call : GroupCall) (input : BackInput) (phase : CallPhase)
    → IsInOrder g → get g.calls number ≡ Some own
    → call.kind ≡ own.kind → call.instance ≡ own.instance → call.phase ≡ own.phase → call.phase ≡ phase
    → IfAny IsInOrder (comes_back_in app g number call input phase)
back_in_so app g number own call input (Runs job) order found kinds instances phases is = tt
back_in_so app g number own call input (Asks job wanted payload) order found kinds instances phases is =
    let works : IsAtWork call.phase = subst IsAtWork (sym is) tt in
    follows g number own (record call { phase = phase_back call.phase job input }) order found kinds instances
    (works_on own.kind own.phase (phase_back call.phase job input) (subst IsAtWork phases works)
    (back_works call.phase job input works))
back_in_so app g number own call input (Waits params) order found kinds instances phases is =
    retests_so app g (record { number = number; call = call; params = params; input = input }) order (record {
      own = own;
      there = found;
      kinds = kinds;
      instances = instances;
      phases = phases;
      waits = subst IsWaiting (sym is ∙ phases) tt;
    })
back_in_so app g number own call input (Ends result params told wakes) order found kinds instances phases is =
    follows g number own (record call { phase = Ends result params told (wake_left wakes input) }) order found kinds
    instances
    (subst (λ (p : CallPhase). MayFollow own.kind p (Ends result params told (wake_left wakes input))) (sym is ∙ phases)
    (end_follows own.kind result params told told wakes (wake_left wakes input)
    (back_fits own.kind result params told wakes input)))

back_so : (app : Application) (g : Group) (number : ℕ) (input : BackInput) (call : GroupCall) → IsInOrder g
    → get g.calls number ≡ Some call → IfAny IsInOrder (comes_back app g number input call)
back_so app g number input call order found =
    back_in_so app g number call _ input call.phase order found refl refl refl refl

-- ---- calls that go out

-- the machine with its call, before the call goes out
abbrev pub InOrderGoing : ℕ → Going → Type 0
InOrderGoing number going = IsInOrder (with_call going.group number going.call)

-- who may hold the instance that is there: not this call
record HeldByOthers (calls : NumberMap GroupCall) (number : ℕ) (found : Option (ℕ × Instance)) : Type 0 where
  works : HolderWorks calls found
  another : (at : ℕ) (instance : Instance) → found ≡ Some (at, instance) → instance.holder ≡ Some number → ⊥

-- of an instance that nobody holds
held_by_none : (calls : NumberMap GroupCall) (number at : ℕ) (instance : Instance) → instance.holder ≡ None
    → HeldByOthers calls number (Some (at, instance))
held_by_none calls number at instance none = record {
  works = λ other holder kept is holds. absurd (nobody other kept holder is holds);
  another = λ other kept is holds. nobody other kept number is holds;
}
  where
    nobody : (other : ℕ) (kept : Instance) (holder : ℕ) → there_is at instance ≡ there_is other kept
        → kept.holder ≡ Some holder → ⊥
    nobody other kept holder is holds =
        none_holds kept.holder holder
        (sym (ap (λ (p : ℕ × Instance). p.1.holder) (same_pair (at, instance) (other, kept) is)) ∙ none) holds

none_there : (calls : NumberMap GroupCall) (number : ℕ) → HeldByOthers calls number None
none_there calls number = record {
  works = λ other holder kept is holds. absurd cc;
  another = λ other kept is holds. absurd cc;
}

-- the instance as the call gives it back, where it finds that
back_held : (g : Group) (number : ℕ) (own : GroupCall) (sessions : NumberMap GroupSession) (is_last : Bool)
    (change : Instance → Instance) (found : Option Instance) → IsInOrder g → get g.calls number ≡ Some own
    → ((instance : Instance) → (change instance).holder ≡ None) → instance_at g own.instance ≡ found
    → HeldByOthers g.calls number
    (option_map_or (λ instance. instance_back sessions is_last own.instance (change instance)) found g.instance)
back_held g number own sessions is_last change (Some instance) order there frees found =
    if-both (HeldByOthers g.calls number) (is_last || ((change instance).dead && _)) None
    (Some (own.instance, change instance)) (none_there g.calls number)
    (held_by_none g.calls number own.instance (change instance) (frees instance))
back_held g number own sessions is_last change None order there frees found = record {
  works = order.holder;
  another = λ at instance is holds.
      let on = is_on IsAtWork g.calls number at own (order.holder at number instance is holds) there in
      no_instance at instance is on.on_instance;
}
  where
    no_instance : (at : ℕ) (instance : Instance) → g.instance ≡ Some (at, instance) → own.instance ≡ at → ⊥
    no_instance at instance is same =
        let here : instance_at g own.instance ≡ Some instance =
        ap (λ (o : Option (ℕ × Instance)). option_and_then
        (λ (one : ℕ × Instance). if one.0 == own.instance then Some one.1 else None) o) is
        ∙ ap (λ n. if at == n then Some instance else None) same
        ∙ ap (λ b. if b then Some instance else None) (is_itself at) in
        let no : Some instance ≡ None = sym here ∙ found in absurd cc

-- a call that has ended gives its instance back
gives_back_so : (g : Group) (number : ℕ) (own now : GroupCall) (sessions : NumberMap GroupSession) (is_last : Bool)
    (change : Instance → Instance) → IsInOrder g → get g.calls number ≡ Some own → IsAtWork own.phase
    → AreFresh sessions → Fits now.kind now.phase → ((instance : Instance) → (change instance).holder ≡ None)
    → IsInOrder (with_call (gives_back g own sessions is_last change) number now)
gives_back_so g number own now sessions is_last change order found works fresh fits frees =
    let back : Group = gives_back g own sessions is_last change in
    let held = back_held g number own sessions is_last change (instance_at g own.instance) order found frees refl in
    has_call back number now
    (with_tables g sessions back.instance g.next_session g.next_instance order fresh held.works) (record {
      numbered = order.numbered number own found;
      fits = fits;
      holder = λ at instance is holds. absurd (held.another at instance is holds);
      waiting = line_holds (λ (waiter : GroupWaiter). IsOn IsWaiting now waiter.instance) g.calls number own g.waiting
          order.waiting found
          (λ waiter on. absurd (not_both own.phase works on.is_in));
    })

abbrev with_steps : GroupCall → ℕ → GroupCall
with_steps own done = record own { steps = done }

stopped_so : (g : Group) (number : ℕ) (own : GroupCall) (done : ℕ) (why : JobStop) → IsInOrder g
    → get g.calls number ≡ Some own → IsAtWork own.phase → InOrderGoing number (stopped g (with_steps own done) why)
stopped_so g number own done (steps.Ends end) order found works =
    let sessions = sessions_ended own.kind g.sessions own.session end in
    gives_back_so g number own _ sessions end.is_last (given_back end.memory end.objects) order found works
    (fresh_ended own.kind g.sessions own.session end order.fresh)
    (shown_fits (gives_back g own sessions end.is_last (given_back end.memory end.objects)) (with_steps own done) own.kind end.result end.params true) (λ instance. refl)
stopped_so g number own done (steps.Panics code) order found works =
    let sessions = sessions_panicked own.kind g.sessions own.session in
    gives_back_so g number own _ sessions false killed order found works
    (fresh_panicked own.kind g.sessions own.session order.fresh)
    (shown_fits (gives_back g own sessions false killed) (with_steps own done) own.kind (of_tee target_dead) no_params true) (λ instance. refl)
stopped_so g number own done (steps.Asks wanted payload left) order found works =
    follows g number own (record (with_steps own done) { phase = Asks left wanted payload }) order found refl refl
    (works_on own.kind own.phase (Asks left wanted payload) works tt)

still_so : (g : Group) (number : ℕ) (call : GroupCall) → IsInOrder g → get g.calls number ≡ Some call
    → IsInOrder (with_call g number call)
still_so g number call order found = follows g number call call order found refl refl (itself call.kind call.phase)

granted_so : (g : Group) (number : ℕ) (call : GroupCall) (grant : Grant) → IsInOrder g → get g.calls number ≡ Some call
    → IsAtWork call.phase → IfAny (InOrderGoing number) (taken_on g call grant)
granted_so g number call (Left left) order found works = tt
granted_so g number call (Stopped used why) order found works =
    stopped_so g number call (call.steps + used) why order found works

pub going_so : (most : ℕ) (g : Group) (number : ℕ) (call : GroupCall) (phase : CallPhase) → IsInOrder g
    → get g.calls number ≡ Some call → call.phase ≡ phase
    → IfAny (InOrderGoing number) (going_in most g call phase)
going_so most g number call (Runs job) order found is =
    if_any_then (InOrderGoing number) (taken_on g call) (grant_of most job)
    (λ grant granted. granted_so g number call grant order found (subst IsAtWork (sym is) tt))
going_so most g number call (Asks job wanted payload) order found is = still_so g number call order found
going_so most g number call (Waits params) order found is = still_so g number call order found
going_so most g number call (Ends result params true wakes) order found is = still_so g number call order found
going_so most g number call (Ends result params false wakes) order found is =
    let sessions = sessions_unrun call.kind g.sessions call.session in
    let without : Group = record g { sessions = sessions } in
    let shown : Going = shows without call result params in
    follows without number call shown.call
    (with_tables g sessions g.instance g.next_session g.next_instance order
    (fresh_unrun call.kind g.sessions call.session order.fresh) order.holder) found refl refl
    (subst (λ (p : CallPhase). MayFollow call.kind p shown.call.phase) (sym is)
    (end_follows call.kind result params false true wakes (woken_by without call call.kind)
    (λ fits. shown_fits without call call.kind result params true)))

-- a call that has ended is there no more
gone_so : (g : Group) (number : ℕ) (call : GroupCall) → IsInOrder g → get g.calls number ≡ Some call
    → (IsAtWork call.phase → ⊥) → (IsWaiting call.phase → ⊥)
    → IsInOrder (record g { calls = remove g.calls number })
gone_so g number call order found idle unlined = record {
  fits = λ other own there. order.fits other own (get-removed g.calls number other own there);
  holder = λ at other instance is holds. in_rest IsAtWork idle other at (order.holder at other instance is holds);
  waiting = rest_of g.waiting order.waiting;
  numbered = λ other own there. order.numbered other own (get-removed g.calls number other own there);
  fresh = order.fresh;
}
  where
    in_rest : (P : CallPhase → Type 0) → (P call.phase → ⊥) → (other instance : ℕ) → IsIn P g.calls other instance
        → IsIn P (remove g.calls number) other instance
    in_rest P none other instance there =
        by_numbers number other
        (λ same. absurd (none (is_on P g.calls other instance call there
        (ap (λ n. get g.calls n) (sym same) ∙ found)).is_in))
        (λ apart. record {
          own = there.own;
          there = get-remove-other g.calls number other apart ∙ there.there;
          on_instance = there.on_instance;
          is_in = there.is_in;
        })

    rest_of : (waiters : List GroupWaiter) → All (InLine g.calls) waiters → All (InLine (remove g.calls number)) waiters
    rest_of [] all = All-nil (InLine (remove g.calls number))
    rest_of (first ∷ rest) all =
        All-cons (InLine (remove g.calls number)) first rest
        (in_rest IsWaiting unlined first.call first.instance (All-head (InLine g.calls) first rest all))
        (rest_of rest (All-tail (InLine g.calls) first rest all))

-- the call changes once more
again : (g : Group) (number : ℕ) (call now : GroupCall) → IsInOrder (with_call g number call) → now.kind ≡ call.kind
    → now.instance ≡ call.instance → now.phase ≡ call.phase → IsInOrder (with_call g number now)
again g number call now order kinds instances phases =
    subst (λ (calls : NumberMap GroupCall). IsInOrder (record g { calls = calls })) (insert-again g.calls number call now)
    (follows (with_call g number call) number call now order (get-insert-same g.calls number call) kinds instances
    (subst (MayFollow call.kind call.phase) (sym phases) (itself call.kind call.phase)))

-- the machine after an answer
abbrev pub InOrderThen : Answered → Type 0
InOrderThen answered = IsInOrder answered.0

out_so : (g : Group) (number : ℕ) (call : GroupCall) (phase : CallPhase) → IsInOrder (with_call g number call)
    → call.phase ≡ phase → IfAny InOrderThen (goes_out_in g number call phase)
out_so g number call (Runs job) order is = tt
out_so g number call (Asks job wanted payload) order is = order
out_so g number call (Waits params) order is = order
out_so g number call (Ends result params told (Some woken)) order is = order
out_so g number call (Ends result params told None) order is =
    if-both InOrderThen call.buffer (with_call g number (record call { buffer = false }), _)
    (record g { calls = remove g.calls number }, _)
    (again g number call (record call { buffer = false }) order refl refl refl)
    (subst (λ (calls : NumberMap GroupCall). IsInOrder (record g { calls = calls })) (remove-inserted g.calls number call)
    (gone_so (with_call g number call) number call order (get-insert-same g.calls number call)
    (λ works. subst IsAtWork is works) (λ waits. subst IsWaiting is waits)))

goes_out_so : (most : ℕ) (g : Group) (number : ℕ) (call : GroupCall) → IsInOrder g → get g.calls number ≡ Some call
    → IfAny InOrderThen (goes_out most g number call)
goes_out_so most g number call order found =
    if_any_then InOrderThen (λ (going : Going). goes_out_in going.group number going.call going.call.phase)
    (going_in most g call call.phase)
    (λ going comes. out_so going.group number going.call going.call.phase
    (if_any_of (InOrderGoing number) (going_in most g call call.phase) going
    (going_so most g number call call.phase order found refl) comes) refl)

-- ---- events

silent_so : (o : Option Group) → IfAny IsInOrder o → IfAny InOrderThen (option_map silent o)
silent_so None order = tt
silent_so (Some g) order = order

pub step_so : (most : ℕ) (app : Application) (g : Group) (came : GroupEvent) → IsInOrder g
    → IfAny InOrderThen (step most app g came)
step_so most app g (Open input login limited area) order =
    let opener : Opener = record { login = login; area = area } in
    silent_so (opens_tested app g input opener limited) (tested_so app g input opener limited order)
step_so most app g (Invoke session func input area) order =
    silent_so (option_and_then (invokes app g func input area) (home g session))
    (if_any_then IsInOrder (invokes app g func input area) (home g session)
    (λ at _. invokes_so app g func input area at order))
step_so most app g (Close session area) order =
    if_any_map InOrderThen (λ (at : Home). silent (closes app g area at)) (home g session)
    (λ at _. closes_so app g area at order)
step_so most app g (Cancel session) order =
    if_any_map InOrderThen (λ (at : Home). silent (settles g false success)) (home g session)
    (λ at _. settles_so g false success order)
step_so most app g (Seen number done_by_now) order =
    silent_so (option_and_then (sees g number done_by_now) (get g.calls number))
    (if_any_then IsInOrder (sees g number done_by_now) (get g.calls number)
    (λ call found. sees_so g number done_by_now call order found))
step_so most app g (Room number enough) order =
    silent_so (option_and_then (finds_room g number enough) (get g.calls number))
    (if_any_then IsInOrder (finds_room g number enough) (get g.calls number)
    (λ call found. finds_room_so g number enough call order found))
step_so most app g (Back number input) order =
    silent_so (option_and_then (comes_back app g number input) (get g.calls number))
    (if_any_then IsInOrder (comes_back app g number input) (get g.calls number)
    (λ call found. back_so app g number input call order found))
step_so most app g (Out number) order =
    if_any_then InOrderThen (goes_out most g number) (get g.calls number)
    (λ call found. goes_out_so most g number call order found)

ended_at : (first second : Ended) → Some first ≡ Some second → first.0 ≡ second.0
ended_at first second e = let same : first ≡ second = cc in ap (λ (end : Ended). end.0) same

runs_so : (most : ℕ) (app : Application) (g final : Group) (events : List GroupEvent) (replies : List GroupReply)
    → IsInOrder g → run most app g events ≡ Some (final, replies) → IsInOrder final
runs_so most app g final [] replies order e = subst IsInOrder (ended_at (g, []) (final, replies) e) order
runs_so most app g final (came ∷ events) replies order e =
    option_and_then_some (behind most app events) (step most app g came) (final, replies) e
    (λ answered steps onward.
    let rest = option_map_some (λ (rest : Ended). (rest.0, and_reply answered.1 rest.1))
    (run most app answered.0 events) (final, replies) onward in
    let next = if_any_of InOrderThen (step most app g came) answered (step_so most app g came order) steps in
    subst IsInOrder (ap (λ (end : Ended). end.0) rest.2)
    (runs_so most app answered.0 rest.0.0 events rest.0.1 next rest.1))

pub stays_in_order : StaysInOrder
stays_in_order = record {
  first = λ key. record {
    fits = λ number own found. absurd cc;
    holder = λ number holder instance is holds. absurd cc;
    waiting = All-nil (InLine []);
    numbered = λ number own found. absurd cc;
    fresh = λ number session found unopened. absurd cc;
  };
  runs = runs_so;
}
