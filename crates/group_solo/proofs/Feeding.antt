-- A group's code is fed with one event after the other.
use Rattle.std.proofs.Common.{◌≡◌, ℕ, List, ◌∷◌, Option, Some, sym, subst}
use Rattle.std.specs.Prelude.{IfOk, Result}
use Rattle.std.proofs.lemmas.Result.{IfOk-weaker}
use Rattle.base.specs.declared.no_memory.NoMemory.{NoMemory}
use Rattle.group_model.specs.Group.{Answered, Group, step}
use Rattle.group_model.specs.declared.group_event.GroupEvent.{GroupEvent}
use Rattle.group_model.specs.declared.group_reply.GroupReply.{GroupReply}
use Rattle.group_solo.specs.Feeding.{CanBeFed, IsFed}
use Rattle.group_solo.specs.Standing.{IsGroup, app_in}
use Rattle.group_solo.specs.Stepping.{HasRoom, HasStepped}
use Rattle.group_solo.specs.declared.group.GroupSolo.{GroupSolo}
use Rattle.kernel_model.specs.Application.{Application}
use Rattle.rpc_cont.proofs.Asking.{from_there}

-- what is said of a step
abbrev pub Steps : GroupSolo → GroupSolo → GroupEvent → Result (Option GroupReply) NoMemory → Type 0
Steps s new event result = (most : ℕ) (g next : Group) (told : Option GroupReply) → IsGroup s g → HasRoom most g event
    → step most (app_in s) g event ≡ Some (next, told)
    → IfOk result (λ answer. HasStepped new answer next told)

-- after it the rest can be fed
pub fed_on : (s new : GroupSolo) (event : GroupEvent) (events : List GroupEvent) (result : Result (Option GroupReply) NoMemory)
    → IsFed s (event ∷ events) → app_in new ≡ app_in s → Steps s new event result → IfOk result (λ _. IsFed new events)
fed_on s new event events result fed same steps =
    from_there (step fed.most (app_in s) fed.group event) (λ (answered : Answered). CanBeFed fed.most (app_in s) answered.0 events) fed.can.1
    (λ answered does can.
    IfOk-weaker result (λ answer. HasStepped new answer answered.0 answered.1) (λ _. IsFed new events)
    (λ answer so. record {
      group = answered.0;
      is = so.1;
      most = fed.most;
      can = subst (λ (app : Application). CanBeFed fed.most app answered.0 events) (sym same) can;
    })
    (steps fed.most fed.group answered.0 answered.1 fed.is fed.can.0.room does))
