-- A call after one more answer.
use Rattle.std.proofs.Common.{◌≡◌, ℕ, List, [], ◌∷◌, ◌++◌, Option, Some, None, refl, ap, ◌∙◌}
use Rattle.std.specs.Option.{option_map}
use Rattle.base.specs.NumberMap.{NumberMap}
use Rattle.rpc_msgs.specs.Answer.{RpcAnswer}
use Rattle.ta_params.specs.declared.object_call.ObjectCall.{ObjectCall}
use Rattle.tee_storage.specs.declared.handle.Handle.{Handle}
use Rattle.tee_storage.specs.declared.step.StorageStep.{StorageStep}
use Rattle.tee_storage.specs.declared.step.StorageStep.TheVariants.{Ask, Done, Panic}
use Rattle.tee_storage.specs.declared.turn.Turn.{Turn}
use Rattle.tee_storage.specs.declared.waits.Waits.{Waits}
use Rattle.tee_storage.specs.ObjectCalls.{left_of, shown, program_of}
use Rattle.tee_storage.specs.Program.{Now, now_at, Program, after, after_one}
use Rattle.tee_storage.specs.States.{IsLeft, IsReady, StandsFor, Taken, left_in}

after-none : (answers : List RpcAnswer) → after None answers ≡ None
after-none [] = refl
after-none (answer ∷ answers) = refl

after-append : (left : Option Program) (first second : List RpcAnswer) → after left (first ++ second) ≡ after (after left first) second
after-append left [] second = refl
after-append None (answer ∷ first) second = rw (after-none second) refl
after-append (Some program) (answer ∷ first) second = after-append (after_one program answer) first second

-- what is left after one answer more
pub one_answer_more : (call : ObjectCall) (uuid key range : List ℕ) (objects : NumberMap Handle) (answers : List RpcAnswer) (answer : RpcAnswer) (program : Program) →
    left_of call uuid key range objects answers ≡ Some program → left_of call uuid key range objects (answers ++ answer ∷ []) ≡ after_one program answer
one_answer_more call uuid key range objects answers answer program left =
    after-append (Some (program_of call uuid key (now_at range objects))) answers (answer ∷ [])
    ∙ ap (λ (before : Option Program). after before (answer ∷ [])) left

-- the step of what is left in a state
pub shown_left : (waits : Waits) (taken : Taken) (step : StorageStep) (range : List ℕ) (objects : NumberMap Handle) →
    shown (left_in waits taken step (now_at range objects)) ≡ record { step = step; range = range; objects = objects }
shown_left waits taken (Ask rpc payload) range objects = refl
shown_left waits taken (Done result value) range objects = refl
shown_left waits taken (Panic code) range objects = refl

-- a state that has what is left stands for the call
pub stands : (turn : Turn) (call : ObjectCall) (uuid key range : List ℕ) (objects : NumberMap Handle) (answers : List RpcAnswer) (program : Program) (now : Now) →
    left_of call uuid key range objects answers ≡ Some program → IsLeft program turn key now → IsReady turn.waits now.range →
    StandsFor (record { waits = turn.waits }) call uuid key range objects answers (record { step = turn.step; range = now.range; objects = now.objects })
stands turn call uuid key range objects answers program now left is_left ready =
    let there = left ∙ ap Some is_left.is in
    record {
      serves = ap (option_map shown) there ∙ ap Some (shown_left turn.waits (record { key = key; content = is_left.content }) turn.step now.range now.objects);
      content = is_left.content;
      left = there;
      hashes = is_left.hashes;
      ready = ready;
    }
