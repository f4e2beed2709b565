-- What a call that a group's code keeps can do, by its phase.
use Rattle.std.proofs.Common.{◌≡◌, ℕ, Option, Some, None, sym, ap, subst}
use Rattle.std.proofs.Math.Logic.{∥∥₁_elim}
use Rattle.std.specs.Prelude.{slice_get}
use Rattle.std.specs.Global.{Box}
use Rattle.std.specs.Option.{option_and_then}
use Rattle.base.specs.NumberMap.{get}
use Rattle.begin_call.specs.Begins.{CanBegin, IsValidApp}
use Rattle.kernel_state.specs.Calls.{bytes_of}
use Rattle.group_model.specs.Group.{GroupCall}
use Rattle.rpc_cont.specs.Advancing.{CanAdvance}
use Rattle.rpc_cont.specs.Answering.{CanBeAnswered}
use Rattle.rpc_cont.specs.declared.phase.Phase.TheVariants as phase
use Rattle.begin_call.proofs.Facts.{can_begin_prop}
use Rattle.kernel_state.proofs.CallFacts.{can_advance_prop, can_be_answered_prop}
use Rattle.solo.proofs.Facts.{asks_by, begins_by, runs_by, valid_app_prop}
use Rattle.group_solo.proofs.Putting.{was_there}
use Rattle.group_solo.specs.Calls.{IsGroupCall}
use Rattle.group_solo.specs.Standing.{IsCallAt, IsSomeGroup, app_in}
use Rattle.group_solo.specs.declared.group.GroupSolo.{GroupSolo}
use Rattle.group_solo.specs.declared.kept_call.KeptCall.{KeptCall}

-- a call that may be there
abbrev Kept : Type 0
Kept = Option (Box KeptCall)

-- the call that was taken out of the code
abbrev IsTaken : GroupSolo → ℕ → Box KeptCall → Type 0
IsTaken s number call = Some call ≡ option_and_then (λ (call : Kept). call) (slice_get s.calls.items number)

is_some_call : (call : Box KeptCall) (there : Option GroupCall) → IsCallAt (Some (Some call)) there → (own : GroupCall) × IsGroupCall call.value own
is_some_call call None stands = absurd stands
is_some_call call (Some own) stands = (own, stands)

-- it is some call of the machine
kept_is : (s : GroupSolo) (number : ℕ) (call : Box KeptCall) → IsSomeGroup s → IsTaken s number call → (own : GroupCall) × IsGroupCall call.value own
kept_is s number call some found =
    is_some_call call (get some.group.calls number)
    (subst (λ (f : Option Kept). IsCallAt f (get some.group.calls number)) (was_there (slice_get s.calls.items number) call (sym found))
    (some.is.stands.calls number))

pub runs_when_kept : (s : GroupSolo) (number : ℕ) (call : Box KeptCall) → ∥ IsSomeGroup s ∥₁ → IsTaken s number call →
    call.value.cont.phase ≡ phase.Runs → CanAdvance bytes_of call.value.cont
runs_when_kept s number call fact found runs =
    ∥∥₁_elim fact (can_advance_prop call.value.cont)
    (λ (some : IsSomeGroup s). let own = kept_is s number call some found in runs_by call.value.cont own.0.phase own.1.alone.phase runs)

pub asks_when_kept : (s : GroupSolo) (number : ℕ) (call : Box KeptCall) → ∥ IsSomeGroup s ∥₁ → IsTaken s number call →
    call.value.cont.phase ≡ phase.Asks → CanBeAnswered bytes_of call.value.cont
asks_when_kept s number call fact found asks =
    ∥∥₁_elim fact (can_be_answered_prop call.value.cont)
    (λ (some : IsSomeGroup s). let own = kept_is s number call some found in asks_by call.value.cont own.0.phase own.1.alone.phase asks)

pub begins_when_kept : (s : GroupSolo) (number : ℕ) (call : Box KeptCall) → ∥ IsSomeGroup s ∥₁ → IsTaken s number call →
    call.value.cont.phase ≡ phase.Waits → CanBegin call.value.cont
begins_when_kept s number call fact found waits =
    ∥∥₁_elim fact (can_begin_prop call.value.cont)
    (λ (some : IsSomeGroup s). let own = kept_is s number call some found in begins_by call.value.cont own.0.phase own.1.alone.phase waits)

pub valid_when_kept : (s : GroupSolo) → ∥ IsSomeGroup s ∥₁ → IsValidApp (app_in s)
valid_when_kept s fact = ∥∥₁_elim fact (valid_app_prop (app_in s)) (λ (some : IsSomeGroup s). some.is.valid)

-- it was told of room what the code says of its number
pub room_kept : (s : GroupSolo) (number : ℕ) (call : Box KeptCall) → IsTaken s number call →
    option_and_then (λ (kept : Kept). option_and_then (λ (k : Box KeptCall). k.value.room) kept) (slice_get s.calls.items number) ≡ call.value.room
room_kept s number call found =
    ap (option_and_then (λ (kept : Kept). option_and_then (λ (k : Box KeptCall). k.value.room) kept))
    (was_there (slice_get s.calls.items number) call (sym found))
