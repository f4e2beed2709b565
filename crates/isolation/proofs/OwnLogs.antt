-- What is told of a session by its log.
use Rattle.std.proofs.Common.{◌≡◌, ℕ, List, Some, ap, sym, ◌∙◌}
use Rattle.std.specs.Prelude.{IfOk, Result, Ok, Err}
use Rattle.base.specs.declared.no_memory.NoMemory.{NoMemory}
use Rattle.event_journal.specs.declared.event.Event.{Event}
use Rattle.kernel_model.specs.Application.{Application, Booted}
use Rattle.own_model.specs.Isolation.{IsSessionOf, steps_in}
use Rattle.own_model.specs.Own as own
use Rattle.own_model.specs.Solo.{solo_replies}
use Rattle.own_model.specs.declared.own_reply.OwnReply.{OwnReply}
use Rattle.realm_model.proofs.AloneAnswered.{alone_answered}

-- the replies are those of the machine of one session
pub alone_so : {T : Type 0} (result : Result T NoMemory) (items : T → List OwnReply) (log : List own.Logged) (boot : Booted)
    (history : List Event) (session : ℕ) (app : Application) → log ≡ (own.noted boot history session).log
    → IsSessionOf boot history session app → IfOk result (λ x. items x ≡ own.replies_in log)
    → IfOk result (λ x. solo_replies (steps_in history) app boot.key (own.own_events boot history session) ≡ Some (items x))
alone_so (Ok x) items log boot history session app same is e =
    alone_answered boot history session app is
    ∙ ap (λ (rs : List OwnReply). Some rs) (sym (e ∙ ap own.replies_in same))
alone_so (Err error) items log boot history session app same is e = tt
