-- What the play of a script comes to in the code, call by call. This project's own.
use Rattle.std.specs.Prelude.{◌≡◌, ◌≢◌, ℕ, ◌+◌, ◌≤◌, ◌^◌, List, ◌++◌, length, None, Some, Result, Ok, Err}
use Rattle.base.specs.Zeros.{zeros}
use Rattle.client_play.specs.Calls.{Sessions, params_after}
use Rattle.client_play.specs.Played.{Client, after_call, call_made, first_client, first_standing, line_of}
use Rattle.client_play.specs.Printed.{text_of_line}
use Rattle.client_play.specs.Standing.{Fails, Returned, Standing, Stopped}
use Rattle.client_text.specs.Sound.{IsSoundCall, IsSoundScript}
use Rattle.client_text.specs.declared.script.Script.{Script}
use Rattle.client_text.specs.declared.script.ScriptCall.{ScriptCall}
use Rattle.core_port.specs.CorePort.{CoreView, IsKernels, smcs_made}
use Rattle.event_journal.specs.Journal.{copied_bytes}
use Rattle.event_journal.specs.declared.event.Event.{Event}
use Rattle.kernel_model.specs.Application.{Booted, Native, booted}
use Rattle.kernel_model.specs.History.{kernel_after}
use Rattle.kernel_model.specs.Kernel.{Kernel}
use Rattle.ta_isa.specs.declared.boot.Boot.{Boot}
use Rattle.teec.specs.Client.{Calling}
use Rattle.teec.specs.declared.fault.TeecFault.{TeecFault}
use Rattle.teec.specs.declared.fault.TeecFault.TheVariants as fault
use Rattle.teec.specs.Results.{result_in}
use Rattle.trace_player.specs.Starting.{uuids_of}
use Rattle.trace_text.specs.declared.trace.Fill.{Fill}
use Rattle.word_parts.specs.declared.stop.Stop.{Stop}
use Rattle.word_parts.specs.declared.stop.Stop.TheVariants.{Full, Failed, Memory}
use Rattle.client_runner.specs.declared.outcome.Outcome.{Outcome}

-- ---- where a player stands

-- what contracts see of a player: its client over a core, and the sessions of the names that were opened
pub record PlayerView : Type 0 where
  pub client : Calling CoreView
  pub names : Sessions

abbrev pub player_of : Calling CoreView → Sessions → PlayerView
player_of calling names = record { client = calling; names = names }

-- a port over a core of this boot: its history is legal, and is that of its SMCs
pub record IsOver (boot : Booted) (port : CoreView) : Type 0 where
  pub boots : port.boot ≡ boot
  pub kernels : IsKernels port
  pub few : copied_bytes port.history ≤ 2 ^ 28

-- what stands over its port, where the core has this kernel
abbrev pub standing_of : Kernel → Calling CoreView → Standing
standing_of kernel calling = record {
  kernel = kernel;
  history = calling.world.history;
  ram = calling.world.ram;
  storage = calling.storage;
}

-- it hasn't failed, tries once, and answers 65,536 RPC returns of a call
pub record GoesOn (calling : Calling CoreView) : Type 0 where
  pub tries : calling.retries ≡ 1
  pub answers : calling.rounds ≡ 65536
  pub alive : calling.failed ≡ None

-- the player is at this place of a script's play: what stands over its port, the SMCs that can still be made, and the names
pub record IsAt (boot : Booted) (place : Client) (player : PlayerView) : Type 0 where
  pub over : IsOver boot player.client.world
  pub kernel : kernel_after boot player.client.world.history ≡ Some place.standing.kernel
  pub standing : place.standing ≡ standing_of place.standing.kernel player.client
  pub room : length (smcs_made player.client.world) + place.room ≡ 32768
  pub alive : GoesOn player.client
  pub names : player.names ≡ place.sessions

-- ---- one call

-- the call can be made, and doesn't fail there
pub record CanMake (boot : Booted) (call : ScriptCall) (player : PlayerView) : Type 0 where
  pub place : Client
  pub stands : IsAt boot place player
  pub sound : IsSoundCall call
  pub goes_on : (reason : TeecFault) → call_made boot place call ≢ Some (Fails reason)

-- faults that a client over a core can come to
abbrev pub CanStop : TeecFault → Type 0
CanStop (fault.Retried number) = ⊥
CanStop (fault.Rounds number) = ⊥
CanStop (fault.Strange answer) = ⊥
CanStop fault.Spent = Unit {0}
CanStop fault.Memory = Unit {0}

-- why the play stops then
abbrev pub stop_for : TeecFault → Stop
stop_for (fault.Retried number) = Full
stop_for (fault.Rounds number) = Full
stop_for (fault.Strange answer) = Full
stop_for fault.Spent = Full
stop_for fault.Memory = Memory

-- a call has ended, with its result and its parameters as they came back
pub record Returns (boot : Booted) (place : Client) (call : ScriptCall) (outcome : Outcome) (player : PlayerView) : Type 0 where
  pub room : ℕ
  pub after : Standing
  pub made : call_made boot place call ≡ Some (Returned room after)
  pub stands : IsAt boot (after_call place call room after) player
  pub result : outcome.told ≡ result_in after.ram
  pub params : outcome.params ≡ params_after call after.ram

-- the call stops for want of room in the play, too
abbrev pub Stops : Booted → Client → ScriptCall → Type 0
Stops boot place call = (more : ℕ) × (history : List Event) × (call_made boot place call ≡ Some (Stopped more history))

-- what a call comes to
abbrev pub Makes : Booted → Client → ScriptCall → Result Outcome Stop → PlayerView → Type 0
Makes boot place call (Ok outcome) player = Returns boot place call outcome player
Makes boot place call (Err Full) player = Stops boot place call
Makes boot place call (Err Failed) player = ⊥
Makes boot place call (Err Memory) player = Unit {0}

-- the same with its line, which stands behind the lines; without room it prints nothing
pub record PrintsLine (boot : Booted) (place : Client) (call : ScriptCall) (player : PlayerView) (old new : List ℕ) : Type 0 where
  pub room : ℕ
  pub after : Standing
  pub made : call_made boot place call ≡ Some (Returned room after)
  pub stands : IsAt boot (after_call place call room after) player
  pub line : new ≡ old ++ text_of_line (line_of place call after)

abbrev pub Plays : Booted → Client → ScriptCall → Result (Unit {0}) Stop → PlayerView → List ℕ → List ℕ → Type 0
Plays boot place call (Ok done) player old new = PrintsLine boot place call player old new
Plays boot place call (Err Full) player old new = Stops boot place call × (new ≡ old)
Plays boot place call (Err Failed) player old new = ⊥
Plays boot place call (Err Memory) player old new = Unit {0}

-- ---- all calls

abbrev pub script_of : Boot → List Fill → List ScriptCall → Script
script_of boot fills calls = record { boot = Some boot; fills = fills; calls = calls }

-- the player stands before the first of these calls, which are those of a sound script
pub record IsAtStart (on : Booted) (natives : List Native) (script : Script) (calls : List ScriptCall) (player : PlayerView) : Type 0
  where
    pub sound : IsSoundScript (uuids_of natives) script
    pub same : calls ≡ script.calls
    pub boot : Boot
    pub has_boot : script.boot ≡ Some boot
    pub of_boot : booted boot natives ≡ on
    pub stands : IsAt on (first_client (first_standing (zeros 0x400000) on script)) player
