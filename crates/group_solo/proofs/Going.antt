-- A call that goes out as plain code stands for the machine's that does.
use Rattle.std.proofs.Common.{◌≡◌, ℕ, ◌+◌, Bool, true, List, [], Option, None, refl, sym, ap, subst, add-zero, ◌∙◌}
use Rattle.std.specs.Prelude.{is_some}
use Rattle.std.specs.Option.{option_and_then}
use Rattle.base.specs.NumberMap.{NumberMap}
use Rattle.group_model.specs.Group.{Group, GroupCall, GroupSession, sessions_ended, shows, stopped, woken_by}
use Rattle.job_model.specs.declared.call_kind.CallKind.{CallKind}
use Rattle.job_model.specs.declared.call_kind.CallKind.TheVariants as kind
use Rattle.job_model.specs.Job.{of_tee}
use Rattle.job_model.specs.Point.{no_params}
use Rattle.job_model.specs.Steps.{End}
use Rattle.job_model.specs.Steps as steps
use Rattle.kernel_model.specs.Codes.{target_dead}
use Rattle.kernel_model.specs.Instances.{given_back}
use Rattle.kernel_state.specs.Calls.{bytes_of, woken_slot}
use Rattle.rpc_cont.specs.Conts.{end_left, kept_params}
use Rattle.rpc_cont.specs.declared.cont.Asked.{Asked}
use Rattle.rpc_cont.specs.declared.phase.Phase.TheVariants as phase
use Rattle.rpc_msgs.specs.declared.rpc_buffer.RpcBuffer.{RpcBuffer}
use Rattle.solo.proofs.Going.{Keeps}
use Rattle.group_solo.specs.Calls.{IsGroupCall}
use Rattle.group_solo.specs.Ending.{Whose, after_end, after_panic, after_unrun, home_of, is_woken, with_instance_back}
use Rattle.group_solo.specs.GoingOut.{IsGoing}
use Rattle.group_solo.specs.Standing.{IsBeside, sessions_of, without_calls}
use Rattle.group_solo.specs.declared.group.GroupSolo.{GroupSolo}
use Rattle.group_solo.specs.declared.kept_call.KeptCall.{KeptCall}
use Rattle.ta_params.specs.declared.call_result.CallResult.{CallResult}
use Rattle.ta_params.specs.declared.copied_params.CopiedParams.{CopiedParams}
use Rattle.tee_storage.specs.declared.handle.Handle.{Handle}

-- ---- whom it wakes

woken_of : (g : Group) (call : GroupCall) (kind : CallKind) → is_woken g call.instance kind ≡ woken_by g call kind
woken_of g call kind.Open = refl
woken_of g call (kind.Invoke func) = refl
woken_of g call kind.Close = refl
woken_of g call kind.Settled = refl

-- the calls make no difference to that
woken_same : (g : Group) (instance : ℕ) (kind : CallKind) → is_woken (record g { calls = [] }) instance kind ≡ is_woken g instance kind
woken_same g instance kind.Open = refl
woken_same g instance (kind.Invoke func) = refl
woken_same g instance kind.Close = refl
woken_same g instance kind.Settled = refl

woken_beside : (s : GroupSolo) (g : Group) (call : GroupCall) (kind : CallKind) → IsBeside s g →
    is_woken (without_calls s) call.instance kind ≡ woken_by g call kind
woken_beside s g call kind beside =
    ap (λ (base : Group). is_woken base call.instance kind) (sym beside) ∙ woken_same g call.instance kind ∙ woken_of g call kind

-- ---- a call that shows its result

-- by its run a call has come to this, and has done so many steps
pub record HasRun (old ran : KeptCall) (call : GroupCall) (used : ℕ) : Type 0 where
  pub is : IsGroupCall old call
  pub same : ran ≡ record old { cont = ran.cont }
  pub keeps : Keeps old.cont ran.cont
  pub did : ran.cont.steps ≡ call.steps + used
  pub at : ran.cont.phase ≡ phase.Ends

-- what it shows then
pub record Shows (now : GroupSolo) (ran new : KeptCall) : Type 0 where
  pub same : new ≡ record ran { cont = new.cont }
  pub keeps : Keeps ran.cont new.cont
  pub did : new.cont.steps ≡ ran.cont.steps
  pub at : new.cont.phase ≡ ran.cont.phase
  pub told : new.cont.done ≡ true
  pub result : new.cont.result ≡ ran.cont.result
  pub wakes : option_and_then (λ (asked : Asked). woken_slot asked.rpc) new.cont.request ≡ is_woken (without_calls now) ran.instance ran.cont.kind

-- the machine by then, where all of it but the calls is this
shows_so : (now : GroupSolo) (old ran new : KeptCall) (before rest : Group) (call : GroupCall) (used : ℕ) (result : CallResult) (params : CopiedParams) →
    HasRun old ran call used → Shows now ran new → IsBeside now rest → rest.calls ≡ before.calls → ran.cont.result ≡ result → kept_params new.cont.params ≡ params →
    IsGoing now new before (shows rest (record call { steps = call.steps + used }) result params)
shows_so now old ran new before rest call used result params run shows beside calls outcome left = record {
  beside = beside;
  is = record {
    alone = record {
      kind = shows.keeps.kind ∙ run.keeps.kind ∙ run.is.alone.kind;
      seen = shows.keeps.seen ∙ run.keeps.seen ∙ run.is.alone.seen;
      steps = shows.did ∙ run.did;
      area = ap (λ (a : Option ℕ). is_some a) (shows.keeps.area ∙ run.keeps.area) ∙ run.is.alone.area;
      buffer = ap (λ (b : Option RpcBuffer). is_some b) (shows.keeps.buffer ∙ run.keeps.buffer) ∙ run.is.alone.buffer;
      phase = record {
        phase = shows.at ∙ run.at;
        result = shows.result ∙ outcome;
        params = left;
        told = shows.told;
        wakes = shows.wakes
            ∙ ap (λ (i : ℕ). is_woken (without_calls now) i ran.cont.kind) (ap (λ (k : KeptCall). k.instance) run.same ∙ run.is.instance)
            ∙ ap (is_woken (without_calls now) call.instance) (run.keeps.kind ∙ run.is.alone.kind)
            ∙ woken_beside now rest (record call { steps = call.steps + used }) call.kind beside;
      };
    };
    session = ap (λ (k : KeptCall). k.session) shows.same ∙ ap (λ (k : KeptCall). k.session) run.same ∙ run.is.session;
    instance = ap (λ (k : KeptCall). k.instance) shows.same ∙ ap (λ (k : KeptCall). k.instance) run.same ∙ run.is.instance;
    room = ap (λ (k : KeptCall). k.room) shows.same ∙ ap (λ (k : KeptCall). k.room) run.same ∙ run.is.room;
  };
  calls = calls;
}

same_home : (old ran : KeptCall) (call : GroupCall) (used : ℕ) → HasRun old ran call used →
    home_of ran ≡ record { kind = call.kind; session = call.session; instance = call.instance }
same_home old ran call used run =
    ap (λ (k : CallKind). record { kind = k; session = ran.session; instance = ran.instance }) (run.keeps.kind ∙ run.is.alone.kind)
    ∙ ap (λ (n : ℕ). record { kind = call.kind; session = n; instance = ran.instance }) (ap (λ (k : KeptCall). k.session) run.same ∙ run.is.session)
    ∙ ap (λ (n : ℕ). record { kind = call.kind; session = call.session; instance = n }) (ap (λ (k : KeptCall). k.instance) run.same ∙ run.is.instance)

-- ---- a call that ends

-- what is left beside the calls once its session was changed and its instance given back
pub left_beside : (s one two : GroupSolo) (at : Whose) (end : End) (is_last : Bool) (memory : List ℕ) (objects : NumberMap Handle) →
    one ≡ record s { sessions = one.sessions } →
    sessions_of one.sessions.items ≡ sessions_ended at.kind (sessions_of s.sessions.items) at.session end →
    without_calls two ≡ with_instance_back (without_calls one) at.instance is_last (given_back memory objects) →
    is_last ≡ end.is_last → memory ≡ end.memory → objects ≡ end.objects → without_calls two ≡ after_end (without_calls s) at end
left_beside s one two at end is_last memory objects stays after back last left same =
    let rest : Group = record (without_calls s) { sessions = sessions_ended at.kind (sessions_of s.sessions.items) at.session end } in
    back
    ∙ ap (λ (base : Group). with_instance_back base at.instance is_last (given_back memory objects))
    (ap without_calls stays ∙ ap (λ (sessions : NumberMap GroupSession). record (without_calls s) { sessions = sessions }) after)
    ∙ ap (λ (b : Bool). with_instance_back rest at.instance b (given_back memory objects)) last
    ∙ ap (λ (m : List ℕ). with_instance_back rest at.instance end.is_last (given_back m objects)) left
    ∙ ap (λ (o : NumberMap Handle). with_instance_back rest at.instance end.is_last (given_back end.memory o)) same

pub ended_so : (s now : GroupSolo) (old ran new : KeptCall) (before : Group) (call : GroupCall) (used : ℕ) (end : End) → HasRun old ran call used →
    Shows now ran new → IsBeside s before → end ≡ end_left bytes_of ran.cont → kept_params new.cont.params ≡ kept_params ran.cont.params →
    without_calls now ≡ after_end (without_calls s) (home_of ran) (end_left bytes_of ran.cont) →
    IsGoing now new before (stopped before (record call { steps = call.steps + used }) (steps.Ends end))
ended_so s now old ran new before call used end run shows beside same left after =
    let at : Whose = record { kind = call.kind; session = call.session; instance = call.instance } in
    shows_so now old ran new before (after_end before at end) call used end.result end.params run shows
    (ap (λ (base : Group). after_end base at end) beside
    ∙ ap (after_end (without_calls s) at) same
    ∙ ap (λ (at : Whose). after_end (without_calls s) at (end_left bytes_of ran.cont)) (sym (same_home old ran call used run))
    ∙ sym after)
    refl (ap (λ (end : End). end.result) (sym same)) (left ∙ ap (λ (end : End). end.params) (sym same))

pub panicked_so : (s now : GroupSolo) (old ran new : KeptCall) (before : Group) (call : GroupCall) (used code : ℕ) → HasRun old ran call used →
    Shows now ran new → IsBeside s before → ran.cont.result ≡ of_tee target_dead → new.cont.params ≡ None →
    without_calls now ≡ after_panic (without_calls s) (home_of ran) →
    IsGoing now new before (stopped before (record call { steps = call.steps + used }) (steps.Panics code))
panicked_so s now old ran new before call used code run shows beside dead none after =
    let at : Whose = record { kind = call.kind; session = call.session; instance = call.instance } in
    shows_so now old ran new before (after_panic before at) call used (of_tee target_dead) no_params run shows
    (ap (λ (base : Group). after_panic base at) beside
    ∙ ap (after_panic (without_calls s)) (sym (same_home old ran call used run))
    ∙ sym after)
    refl dead (ap kept_params none)

-- one that ended without having run
pub unrun_so : (s now : GroupSolo) (old new : KeptCall) (before : Group) (call : GroupCall) (result : CallResult) (params : CopiedParams) →
    HasRun old old call 0 → Shows now old new → IsBeside s before → old.cont.result ≡ result → kept_params new.cont.params ≡ params →
    without_calls now ≡ after_unrun (without_calls s) (home_of old) →
    IsGoing now new before (shows (after_unrun before (record { kind = call.kind; session = call.session; instance = call.instance })) call result params)
unrun_so s now old new before call result params run told beside outcome left after =
    let at : Whose = record { kind = call.kind; session = call.session; instance = call.instance } in
    subst (λ (n : ℕ). IsGoing now new before (shows (after_unrun before at) (record call { steps = n }) result params)) (add-zero call.steps)
    (shows_so now old old new before (after_unrun before at) call 0 result params run told
    (ap (λ (base : Group). after_unrun base at) beside
    ∙ ap (after_unrun (without_calls s)) (sym (same_home old old call 0 run))
    ∙ sym after)
    refl outcome left)
