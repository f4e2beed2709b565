-- What is read off a journal of one session.
use Rattle.std.specs.Prelude.{◌≡◌, ℕ, List, ◌∷◌, ◌++◌, Some, None}
use Rattle.std.specs.Option.{option_map}
use Rattle.event_journal.specs.declared.event.Event.{Event}
use Rattle.isolation.specs.declared.session_log.OwnLog.{OwnLog}
use Rattle.kernel_model.specs.Application.{Application, Booted}
use Rattle.kernel_model.specs.Kernel.{PendingCall}
use Rattle.kernel_state.specs.Setup.{application_of}
use Rattle.own_model.specs.Isolation.{BringsCall, IsSessionOf}
use Rattle.own_model.specs.Own.{Logged, event_of, noted, own_app}
use Rattle.own_model.specs.declared.own_event.OwnEvent.{OwnEvent}

-- the session's application, and its events with their replies
pub record IsLogOf (boot : Booted) (history : List Event) (session : ℕ) (log : OwnLog) : Type 0 where
  pub app : own_app boot history session ≡ option_map application_of log.app
  pub entries : log.entries.items ≡ (noted boot history session).log

-- the log has the call as an event, behind what was noted of its session before it came in
pub record HasCall (boot : Booted) (before : List Event) (call : PendingCall) (log : OwnLog) : Type 0 where
  pub came : OwnEvent
  pub is : event_of call.session call ≡ Some came
  pub later : List Logged
  pub entries : log.entries.items ≡ (noted boot before call.session).log ++ (came, None) ∷ later

-- so the log of a session has each new call that has got a slot in it while the kernel kept the session, wherever that came in
abbrev pub LogsHaveTheirCalls : Type 0
LogsHaveTheirCalls =
    (boot : Booted) (before behind : List Event) (happened : Event) (call : PendingCall) (app : Application) (log : OwnLog) →
    BringsCall boot before happened call → IsSessionOf boot (before ++ happened ∷ behind) call.session app →
    IsLogOf boot (before ++ happened ∷ behind) call.session log → HasCall boot before call log
