-- What holds of the plays of scripts.
use Rattle.std.specs.Prelude.{◌≡◌, ℕ, ◌+◌, List, [], ◌∷◌, ◌++◌, take, false, Some, All, IsSome}
use Rattle.client_text.specs.Sound.{IsSoundScript}
use Rattle.client_text.specs.declared.script.Script.{Script}
use Rattle.client_text.specs.declared.script.ScriptCall.{ScriptCall}
use Rattle.client_text.specs.declared.script.ScriptCall.TheVariants.{Close, Invoke, Open}
use Rattle.event_journal.specs.declared.event.Event.{Event}
use Rattle.event_journal.specs.declared.event.Event.TheVariants.{Exit}
use Rattle.kernel_model.specs.Application.{Application, Booted, IsBooted, Native, booted}
use Rattle.kernel_model.specs.History.{kernel_after}
use Rattle.kernel_model.specs.Instances.{is_single}
use Rattle.kernel_model.specs.Kernel.{Kernel}
use Rattle.kernel_model.specs.Sessions.{opened_by}
use Rattle.own_model.specs.Isolation.{IsKeptFor, steps_in}
use Rattle.own_model.specs.Own.{own_app, own_events, own_replies}
use Rattle.own_model.specs.Solo.{solo_replies}
use Rattle.own_model.specs.declared.own_reply.OwnReply.{OwnReply}
use Rattle.own_model.specs.declared.own_reply.OwnReply.TheVariants as reply
use Rattle.play_model.specs.Play.{Play}
use Rattle.play_model.specs.TrueToKernel.{IsTrueToKernel}
use Rattle.smc_abi.specs.declared.regs.Regs.{Regs}
use Rattle.ta_isa.specs.declared.boot.Boot.{Boot}
use Rattle.ta_params.specs.declared.call_result.CallResult.{CallResult}
use Rattle.ta_params.specs.declared.copied_params.CopiedParams.{CopiedParams}
use Rattle.trace_text.specs.declared.item.Item.{Item}
use Rattle.trace_text.specs.declared.item.Item.TheVariants as item
use Rattle.trace_text.specs.declared.trace.Trace.{Trace}
use Rattle.client_play.specs.Outputs.{TellsOutputs, in_word}
use Rattle.client_play.specs.Played.{ClientPlay, played}
use Rattle.client_play.specs.Printed.{CallLine}
use Rattle.client_play.specs.Standing.{steps_granted}

-- ---- one legal history

-- a write to processor 0's RAM, or an SMC of it
abbrev pub IsOfClient : Item → Type 0
IsOfClient (item.Smc cpu steps regs) = (cpu ≡ 0) × (steps ≡ steps_granted)
IsOfClient (item.Enter cpu steps regs) = ⊥
IsOfClient (item.Leave cpu) = ⊥
IsOfClient (item.Write cpu addr bytes) = cpu ≡ 0
IsOfClient (item.Show cpu addr len) = ⊥

-- the trace of a script with these items
abbrev pub trace_with : Boot → Script → List Item → Trace
trace_with boot script items = record { boot = Some boot; fills = script.fills; items = items }

-- the history of a script is that of a trace whose items are the client's, the play of which is true to the written kernel: it
-- is legal from the script's boot
pub record IsOfTrace (natives : List Native) (boot : Boot) (script : Script) (history : List Event) : Type 0 where
  pub items : List Item
  pub of_client : All IsOfClient items
  pub play : Play
  pub true_to_kernel : IsTrueToKernel natives boot (trace_with boot script items) play
  pub same : play.history ≡ history

abbrev pub PlaysAreOfTraces : Type 0
PlaysAreOfTraces = (natives : List Native) (boot : Boot) (script : Script) (play : ClientPlay) →
    IsBooted (booted boot natives) → played natives boot script ≡ Some play → IsOfTrace natives boot script play.history

-- ---- each script has a play

-- none of its calls fails on a core. Each finds a thread, has at most as many RPC returns as there can be SMCs, and is answered
-- nothing strange
abbrev pub ScriptsHavePlays : Type 0
ScriptsHavePlays = (natives : List Native) (uuids : List (List ℕ)) (boot : Boot) (script : Script) →
    IsBooted (booted boot natives) → IsSoundScript uuids script → script.boot ≡ Some boot →
    IsSome (played natives boot script)

-- ---- results are told alone

-- before a call that begins behind so many events, the client has opened the session, which the kernel keeps for this application;
-- its sessions share no instance
pub record IsInSession (boot : Booted) (history : List Event) (from session : ℕ) (app : Application) : Type 0 where
  pub kernel : Kernel
  pub begins : kernel_after boot (take from history) ≡ Some kernel
  pub kept : IsKeptFor boot kernel session app
  pub opened : opened_by kernel.tables.sessions session 0 ≡ Some kept.kept

-- the first event behind so many, which is the entry of an open, gives the session its number, for this application; its sessions
-- share no instance
pub record OpensSession (boot : Booted) (history : List Event) (from session : ℕ) (app : Application) : Type 0 where
  pub kernel : Kernel
  pub begins : kernel_after boot (take from history) ≡ Some kernel
  pub next : session ≡ kernel.tables.next_session
  pub of_app : own_app boot (take (from + 1) history) session ≡ Some app
  pub shares_none : is_single app ≡ false

-- the call of this line is one of the session: of an open, the one that it opens, also where that comes to nothing; of others, the
-- one for which their name stands
abbrev pub IsCallIn : Booted → List Event → CallLine → ℕ → Application → ScriptCall → Type 0
IsCallIn boot history line session app (Open name uuid params) = OpensSession boot history line.from session app
IsCallIn boot history line session app (Invoke name func cancel_after params) =
    (session ≡ line.session) × IsInSession boot history line.from session app
IsCallIn boot history line session app (Close name) = (session ≡ line.session) × IsInSession boot history line.from session app

-- what a line has of the end of its call: the result, and the parameters as they came back
pub record CallEnd : Type 0 where
  pub result : CallResult
  pub params : CopiedParams

abbrev pub end_of : CallLine → CallEnd
end_of line = record { result = line.result; params = line.params }

-- the session's last reply comes with the last event, an exit of the client's processor: that a call has ended with this result and these
-- outputs. Its own machine replies the same
pub record IsToldAlone (boot : Booted) (history : List Event) (session : ℕ) (app : Application) (end : CallEnd) : Type 0
  where
    pub of_app : own_app boot history session ≡ Some app
    pub earlier : List Event
    pub went : Regs
    pub last_exit : history ≡ earlier ++ Exit 0 went ∷ []
    pub before : List OwnReply
    pub had : own_replies boot earlier session ≡ before
    pub told : CallResult
    pub outputs : CopiedParams
    pub replies : own_replies boot history session ≡ before ++ reply.Ended told.result told.origin outputs ∷ []
    pub alone : solo_replies (steps_in history) app boot.key (own_events boot history session)
        ≡ Some (own_replies boot history session)
    pub printed : end.result ≡ record { result = in_word told.result; origin = in_word told.origin }
    -- where the application returned the result, the outputs, of memory where its size is below 2^32
    pub printed_outputs : told.origin ≡ 4 → TellsOutputs end.params outputs

-- so it is behind the last event of the line's call, and the reply is one of this very call
pub record IsToldInCall (boot : Booted) (history : List Event) (line : CallLine) (session : ℕ) (app : Application) : Type 0 where
  pub told : IsToldAlone boot (take line.to history) session app (end_of line)
  -- it is none of those that the session had before the call's first event: they stand before it
  pub since : List OwnReply
  pub began : told.before ≡ own_replies boot (take line.from history) session ++ since

-- whichever session the call is one of
abbrev pub TellsAlone : Booted → List Event → CallLine → Type 0
TellsAlone boot history line = (session : ℕ) (app : Application) →
    IsCallIn boot history line session app line.call → IsToldInCall boot history line session app

-- each printed result of a session whose application's sessions share no instance is that of the `Ended` reply to this call, and so are
-- the printed outputs, of memory where its size is below 2^32. The reply is its own machine's: others make no difference to it
abbrev pub ResultsAreToldAlone : Type 0
ResultsAreToldAlone = (natives : List Native) (uuids : List (List ℕ)) (boot : Boot) (script : Script) (play : ClientPlay) →
    IsBooted (booted boot natives) → IsSoundScript uuids script → script.boot ≡ Some boot →
    played natives boot script ≡ Some play → All (TellsAlone (booted boot natives) play.history) play.lines
