-- A session's code is fed with one event after the other.
use Rattle.std.proofs.Common.{◌≡◌, ℕ, List, ◌∷◌, Option, Some, sym, subst}
use Rattle.std.specs.Prelude.{IfOk, Result}
use Rattle.std.proofs.lemmas.Result.{IfOk-weaker}
use Rattle.base.specs.declared.no_memory.NoMemory.{NoMemory}
use Rattle.kernel_model.specs.Application.{Application}
use Rattle.own_model.specs.Solo.{Answered, Solo, step}
use Rattle.own_model.specs.declared.own_event.OwnEvent.{OwnEvent}
use Rattle.own_model.specs.declared.own_reply.OwnReply.{OwnReply}
use Rattle.rpc_cont.proofs.Asking.{from_there}
use Rattle.solo.specs.Feeding.{CanBeFed, IsFed}
use Rattle.solo.specs.Standing.{IsSolo, app_in}
use Rattle.solo.specs.Stepping.{HasRoom, HasStepped}
use Rattle.solo.specs.declared.solo_session.SoloSession.{SoloSession}

-- what is said of a step
abbrev pub Steps : SoloSession → SoloSession → OwnEvent → Result (Option OwnReply) NoMemory → Type 0
Steps s new event result = (most : ℕ) (solo next : Solo) (told : Option OwnReply) → IsSolo s solo → HasRoom most solo event
    → step most (app_in s) solo event ≡ Some (next, told)
    → IfOk result (λ answer. HasStepped new answer next told)

-- after it the rest can be fed
pub fed_on : (s new : SoloSession) (event : OwnEvent) (events : List OwnEvent) (result : Result (Option OwnReply) NoMemory)
    → IsFed s (event ∷ events) → app_in new ≡ app_in s → Steps s new event result → IfOk result (λ _. IsFed new events)
fed_on s new event events result fed same steps =
    from_there (step fed.most (app_in s) fed.solo event) (λ (answered : Answered). CanBeFed fed.most (app_in s) answered.0 events) fed.can.1
    (λ answered does can.
    IfOk-weaker result (λ answer. HasStepped new answer answered.0 answered.1) (λ _. IsFed new events)
    (λ answer so. record {
      solo = answered.0;
      is = so.1;
      most = fed.most;
      can = subst (λ (app : Application). CanBeFed fed.most app answered.0 events) (sym same) can;
    })
    (steps fed.most fed.solo answered.0 answered.1 fed.is fed.can.0.room does))
