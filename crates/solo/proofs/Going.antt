-- A call that goes out as plain code stands for the machine's that does.
use Rattle.std.proofs.Common.{◌≡◌, ℕ, ◌+◌, true, false, List, [], Option, None, refl, sym, ap, ◌∙◌}
use Rattle.std.specs.Prelude.{is_some}
use Rattle.std.specs.Option.{option_and_then}
use Rattle.job_model.specs.declared.call_kind.CallKind.{CallKind}
use Rattle.job_model.specs.declared.call_kind.CallKind.TheVariants as kind
use Rattle.job_model.specs.Job.{of_tee}
use Rattle.job_model.specs.Point.{no_params}
use Rattle.job_model.specs.Steps.{End}
use Rattle.job_model.specs.Steps as steps
use Rattle.kernel_model.specs.Codes.{target_dead}
use Rattle.kernel_model.specs.Instances.{given_back, killed}
use Rattle.kernel_state.specs.Calls.{bytes_of, woken_slot}
use Rattle.own_model.specs.Solo.{OwnCall, Solo, gives_back, session_ended, session_panicked, session_unrun, shows, stopped, woken_by}
use Rattle.rpc_cont.specs.Conts.{end_left, kept_params}
use Rattle.rpc_cont.specs.declared.cont.Asked.{Asked}
use Rattle.rpc_cont.specs.declared.cont.Cont.{Cont}
use Rattle.rpc_cont.specs.declared.phase.Phase.TheVariants as phase
use Rattle.rpc_msgs.specs.declared.rpc_buffer.RpcBuffer.{RpcBuffer}
use Rattle.solo.specs.Calls.{IsCall}
use Rattle.solo.specs.GoingOut.{IsGoing}
use Rattle.solo.specs.Standing.{IsBeside, without_calls}
use Rattle.solo.specs.declared.solo_session.SoloSession.{SoloSession}
use Rattle.ta_params.specs.declared.call_result.CallResult.{CallResult}
use Rattle.ta_params.specs.declared.copied_params.CopiedParams.{CopiedParams}

-- what stays of a call while its end is worked out
pub record Keeps (old new : Cont (List ℕ)) : Type 0 where
  pub kind : new.kind ≡ old.kind
  pub seen : new.cancelled ≡ old.cancelled
  pub area : new.area ≡ old.area
  pub buffer : new.buffer ≡ old.buffer

-- the call, which has done so many steps, as it shows its result
shown : (old new : Cont (List ℕ)) (rest : Solo) (call : OwnCall) (used : ℕ) (result : CallResult) (params : CopiedParams) → Keeps old new →
    IsCall old call → new.steps ≡ call.steps + used → new.phase ≡ phase.Ends → new.result ≡ result → kept_params new.params ≡ params → new.done ≡ true →
    option_and_then (λ (asked : Asked). woken_slot asked.rpc) new.request ≡ woken_by rest call.kind →
    IsCall new (shows rest (record call { steps = call.steps + used }) result params).call
shown old new rest call used result params keeps is did at outcome left told wakes = record {
  kind = keeps.kind ∙ is.kind;
  seen = keeps.seen ∙ is.seen;
  steps = did;
  area = ap (λ (a : Option ℕ). is_some a) keeps.area ∙ is.area;
  buffer = ap (λ (b : Option RpcBuffer). is_some b) keeps.buffer ∙ is.buffer;
  phase = record { phase = at; result = outcome; params = left; told = told; wakes = wakes };
}

-- ---- whom it wakes

-- the calls make no difference to that
woken_same : (solo : Solo) (kind : CallKind) → woken_by (record solo { calls = [] }) kind ≡ woken_by solo kind
woken_same solo kind.Open = refl
woken_same solo (kind.Invoke func) = refl
woken_same solo kind.Close = refl
woken_same solo kind.Settled = refl

woken_beside : (s : SoloSession) (solo : Solo) (kind : CallKind) → IsBeside s solo → woken_by (without_calls s) kind ≡ woken_by solo kind
woken_beside s solo kind beside = ap (λ (base : Solo). woken_by base kind) (sym beside) ∙ woken_same solo kind

-- ---- a call that ends

-- by its run a call has come to this, and has done so many steps
pub record HasRun (old ran : Cont (List ℕ)) (call : OwnCall) (used : ℕ) : Type 0 where
  pub is : IsCall old call
  pub keeps : Keeps old ran
  pub did : ran.steps ≡ call.steps + used
  pub at : ran.phase ≡ phase.Ends

-- what it shows then
pub record Shows (now : SoloSession) (ran new : Cont (List ℕ)) : Type 0 where
  pub keeps : Keeps ran new
  pub did : new.steps ≡ ran.steps
  pub at : new.phase ≡ ran.phase
  pub told : new.done ≡ true
  pub result : new.result ≡ ran.result
  pub wakes : option_and_then (λ (asked : Asked). woken_slot asked.rpc) new.request ≡ woken_by (without_calls now) ran.kind

both : (one two three : Cont (List ℕ)) → Keeps one two → Keeps two three → Keeps one three
both one two three first second = record {
  kind = second.kind ∙ first.kind;
  seen = second.seen ∙ first.seen;
  area = second.area ∙ first.area;
  buffer = second.buffer ∙ first.buffer;
}

-- the machine by then, where all of it but the calls is this
shows_so : (now : SoloSession) (old ran new : Cont (List ℕ)) (before rest : Solo) (call : OwnCall) (used : ℕ) (result : CallResult) (params : CopiedParams) →
    HasRun old ran call used → Shows now ran new → IsBeside now rest → rest.calls ≡ before.calls → ran.result ≡ result → kept_params new.params ≡ params →
    IsGoing now new before (shows rest (record call { steps = call.steps + used }) result params)
shows_so now old ran new before rest call used result params run shows beside calls outcome left = record {
  beside = beside;
  is = shown old new rest call used result params (both old ran new run.keeps shows.keeps) run.is (shows.did ∙ run.did) (shows.at ∙ run.at)
      (shows.result ∙ outcome) left shows.told
      (shows.wakes ∙ ap (woken_by (without_calls now)) (run.keeps.kind ∙ run.is.kind) ∙ woken_beside now rest call.kind beside);
  calls = calls;
}

-- all of it but the calls, after the job of a call has ended so
abbrev pub after_end : Solo → CallKind → End → Solo
after_end solo kind end =
    let session = option_and_then (session_ended kind end) solo.session in gives_back solo session end.is_last (given_back end.memory end.objects)

pub ended_so : (s now : SoloSession) (old ran new : Cont (List ℕ)) (before : Solo) (call : OwnCall) (used : ℕ) (end : End) → HasRun old ran call used →
    Shows now ran new → IsBeside s before → end ≡ end_left bytes_of ran → kept_params new.params ≡ kept_params ran.params →
    without_calls now ≡ after_end (without_calls s) ran.kind (end_left bytes_of ran) →
    IsGoing now new before (stopped before (record call { steps = call.steps + used }) (steps.Ends end))
ended_so s now old ran new before call used end run shows beside same left after =
    let kinds : ran.kind ≡ call.kind = run.keeps.kind ∙ run.is.kind in
    let rest : Solo = after_end before call.kind end in
    shows_so now old ran new before rest call used end.result end.params run shows
    (ap (λ (base : Solo). after_end base call.kind end) beside
    ∙ ap (after_end (without_calls s) call.kind) same
    ∙ ap (λ (kind : CallKind). after_end (without_calls s) kind (end_left bytes_of ran)) (sym kinds)
    ∙ sym after)
    refl (ap (λ (end : End). end.result) (sym same)) (left ∙ ap (λ (end : End). end.params) (sym same))

-- all of it but the calls, after a call has panicked
abbrev pub after_panic : Solo → CallKind → Solo
after_panic solo kind =
    let session = option_and_then (session_panicked kind) solo.session in gives_back solo session false killed

pub panicked_so : (s now : SoloSession) (old ran new : Cont (List ℕ)) (before : Solo) (call : OwnCall) (used code : ℕ) → HasRun old ran call used →
    Shows now ran new → IsBeside s before → ran.result ≡ of_tee target_dead → new.params ≡ None →
    without_calls now ≡ after_panic (without_calls s) ran.kind →
    IsGoing now new before (stopped before (record call { steps = call.steps + used }) (steps.Panics code))
panicked_so s now old ran new before call used code run shows beside dead none after =
    let kinds : ran.kind ≡ call.kind = run.keeps.kind ∙ run.is.kind in
    let rest : Solo = after_panic before call.kind in
    shows_so now old ran new before rest call used (of_tee target_dead) no_params run shows
    (ap (λ (base : Solo). after_panic base call.kind) beside
    ∙ ap (λ (kind : CallKind). after_panic (without_calls s) kind) (sym kinds)
    ∙ sym after)
    refl dead (ap kept_params none)

-- ---- a call that ended without having run

pub unrun_so : (s now : SoloSession) (old new : Cont (List ℕ)) (before : Solo) (call : OwnCall) (result : CallResult) (params : CopiedParams) →
    IsCall old call → Keeps old new → old.phase ≡ phase.Ends → new.steps ≡ old.steps → new.phase ≡ old.phase → new.result ≡ old.result → new.params ≡ old.params →
    new.done ≡ true → old.result ≡ result → kept_params old.params ≡ params → IsBeside s before →
    without_calls now ≡ record (without_calls s) { session = option_and_then (session_unrun old.kind) (without_calls s).session } →
    option_and_then (λ (asked : Asked). woken_slot asked.rpc) new.request ≡ woken_by (without_calls now) old.kind →
    IsGoing now new before (shows (record before { session = option_and_then (session_unrun call.kind) before.session }) call result params)
unrun_so s now old new before call result params is keeps at did still outcome left told was had beside after wakes =
    let rest : Solo = record before { session = option_and_then (session_unrun call.kind) before.session } in
    let rests : IsBeside now rest =
    ap (λ (base : Solo). record base { session = option_and_then (session_unrun call.kind) base.session }) beside
    ∙ ap (λ (kind : CallKind). record (without_calls s) { session = option_and_then (session_unrun kind) (without_calls s).session }) (sym is.kind)
    ∙ sym after in record {
      beside = rests;
      is = record {
        kind = keeps.kind ∙ is.kind;
        seen = keeps.seen ∙ is.seen;
        steps = did ∙ is.steps;
        area = ap (λ (a : Option ℕ). is_some a) keeps.area ∙ is.area;
        buffer = ap (λ (b : Option RpcBuffer). is_some b) keeps.buffer ∙ is.buffer;
        phase = record {
          phase = still ∙ at;
          result = outcome ∙ was;
          params = ap kept_params left ∙ had;
          told = told;
          wakes = wakes ∙ ap (woken_by (without_calls now)) is.kind ∙ woken_beside now rest call.kind rests;
        };
      };
      calls = refl;
    }
