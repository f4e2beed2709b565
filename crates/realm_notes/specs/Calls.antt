-- What a new call is, whoever's it is, by its plan.
use Rattle.std.specs.Prelude.{ℕ, ◌==◌, Bool, true, false, if◌then◌else◌, Option, Some, None, is_some}
use Rattle.realm_notes.specs.declared.calls.ArrivingCall.{ArrivingCall}
use Rattle.realm_notes.specs.declared.calls.ArrivingCall.TheVariants.{Opens, InSession}
use Rattle.realm_notes.specs.declared.calls.NewOpen.{NewOpen}
use Rattle.realm_notes.specs.declared.calls.SessionCall.TheVariants as in_session
use Rattle.kernel_entry.specs.declared.deciding.PlannedCall.{PlannedCall}
use Rattle.kernel_model.specs.Application.{Application, uuid_of}
use Rattle.kernel_model.specs.Codes.{bad_parameters, out_of_memory, target_dead}
use Rattle.kernel_state.specs.Setup.{application_of}
use Rattle.new_calls.specs.declared.halt.Settled.TheVariants as settled
use Rattle.new_calls.specs.declared.plan.Plan.{Plan}
use Rattle.new_calls.specs.declared.plan.Plan.TheVariants as plan
use Rattle.own_model.specs.declared.own_event.OwnInput.{OwnInput}
use Rattle.own_model.specs.declared.own_event.OwnInput.TheVariants as input
use Rattle.ta_params.specs.declared.login.Login.{Login}

-- what came of the parameters of an invoke that was settled with this code, and of an open
abbrev pub invoke_input : ℕ → OwnInput
invoke_input code = if code == target_dead then input.Unread else input.Faulty

abbrev pub open_input : ℕ → OwnInput
open_input code = if code == bad_parameters then input.Faulty else input.Unread

-- an open of this application that a test has settled with this code
abbrev pub settled_open : Application → Login → ℕ → Bool → NewOpen
settled_open app login code area = record {
  uuid = uuid_of app;
  input = open_input code;
  login = login;
  limited = code == out_of_memory;
  area = area;
  reserves = false;
}

-- one that gets a session, with these parameters
abbrev pub reserving_open : Application → OwnInput → Login → Bool → NewOpen
reserving_open app brought login area = record {
  uuid = uuid_of app;
  input = brought;
  login = login;
  limited = false;
  area = area;
  reserves = true;
}

-- what a new call of this function is, with an area or without one
abbrev pub call_by : ℕ → Bool → Plan → Option ArrivingCall
call_by func area (plan.Settles (settled.Call code)) = None
call_by func area (plan.Settles (settled.Open app login code)) = Some (Opens (settled_open (application_of app) login code area))
call_by func area (plan.Settles (settled.Invoke code)) = Some (InSession (in_session.Invoke func (invoke_input code) area))
call_by func area (plan.Opens app login copies) =
    Some (Opens (reserving_open (application_of app) (input.Copied copies.value.params) login area))
call_by func area (plan.Invokes session app copies) =
    Some (InSession (in_session.Invoke func (input.Copied copies.value.params) area))
call_by func area (plan.Closes session app) = Some (InSession (in_session.Close area))
call_by func area plan.Cancels = Some (InSession in_session.Cancel)
call_by func area (plan.KeepsBuffer cookie buffer) = None
call_by func area (plan.DropsBuffer cookie) = None

-- what one is that is planned
abbrev pub planned_call : PlannedCall → Option ArrivingCall
planned_call planned = call_by planned.entered.head.func (is_some planned.entered.area) planned.plan
