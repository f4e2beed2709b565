-- What a call that a session's code keeps can do, by its phase.
use Rattle.std.proofs.Common.{◌≡◌, ℕ, List, Option, Some, None, sym, ap, subst, ◌∙◌}
use Rattle.std.proofs.Math.Logic.{∥∥₁_elim}
use Rattle.std.specs.Prelude.{slice_get}
use Rattle.std.specs.Global.{Box}
use Rattle.std.specs.Option.{option_and_then}
use Rattle.base.specs.NumberMap.{get}
use Rattle.begin_call.specs.Begins.{CanBegin, IsValidApp}
use Rattle.kernel_state.specs.Calls.{bytes_of}
use Rattle.own_model.specs.Solo.{OwnCall}
use Rattle.rpc_cont.specs.Advancing.{CanAdvance}
use Rattle.rpc_cont.specs.Answering.{CanBeAnswered}
use Rattle.rpc_cont.specs.declared.cont.Cont.{Cont}
use Rattle.rpc_cont.specs.declared.phase.Phase.TheVariants as phase
use Rattle.begin_call.proofs.Facts.{can_begin_prop}
use Rattle.kernel_state.proofs.CallFacts.{can_advance_prop, can_be_answered_prop}
use Rattle.kernel_state.proofs.CallPhases.{answered_so, fresh_so}
use Rattle.solo.proofs.Facts.{asks_by, begins_by, runs_by, valid_app_prop}
use Rattle.solo.proofs.Putting.{was_there}
use Rattle.solo.specs.Calls.{IsCall}
use Rattle.solo.specs.Standing.{IsCallAt, IsSomeSolo, app_in}
use Rattle.solo.specs.declared.solo_session.SoloSession.{SoloSession}

-- a call that may be there
abbrev Kept : Type 0
Kept = Option (Box (Cont (List ℕ)))

is_some_call : (cont : Box (Cont (List ℕ))) (there : Option OwnCall) → IsCallAt (Some (Some cont)) there → (own : OwnCall) × IsCall cont.value own
is_some_call cont None stands = absurd stands
is_some_call cont (Some own) stands = (own, stands)

-- it is some call of the machine
kept_is : (s : SoloSession) (number : ℕ) (cont : Box (Cont (List ℕ))) → IsSomeSolo s →
    Some cont ≡ option_and_then (λ (call : Kept). call) (slice_get s.calls.items number) → (own : OwnCall) × IsCall cont.value own
kept_is s number cont some found =
    is_some_call cont (get some.solo.calls number)
    (subst (λ (f : Option Kept). IsCallAt f (get some.solo.calls number)) (was_there (slice_get s.calls.items number) cont (sym found))
    (some.is.stands.calls number))

pub runs_when_kept : (s : SoloSession) (number : ℕ) (cont : Box (Cont (List ℕ))) → ∥ IsSomeSolo s ∥₁ →
    Some cont ≡ option_and_then (λ (call : Kept). call) (slice_get s.calls.items number) → cont.value.phase ≡ phase.Runs → CanAdvance bytes_of cont.value
runs_when_kept s number cont fact found runs =
    ∥∥₁_elim fact (can_advance_prop cont.value)
    (λ (some : IsSomeSolo s). let own = kept_is s number cont some found in runs_by cont.value own.0.phase own.1.phase runs)

pub asks_when_kept : (s : SoloSession) (number : ℕ) (cont : Box (Cont (List ℕ))) → ∥ IsSomeSolo s ∥₁ →
    Some cont ≡ option_and_then (λ (call : Kept). call) (slice_get s.calls.items number) → cont.value.phase ≡ phase.Asks → CanBeAnswered bytes_of cont.value
asks_when_kept s number cont fact found asks =
    ∥∥₁_elim fact (can_be_answered_prop cont.value)
    (λ (some : IsSomeSolo s). let own = kept_is s number cont some found in asks_by cont.value own.0.phase own.1.phase asks)

pub begins_when_kept : (s : SoloSession) (number : ℕ) (cont : Box (Cont (List ℕ))) → ∥ IsSomeSolo s ∥₁ →
    Some cont ≡ option_and_then (λ (call : Kept). call) (slice_get s.calls.items number) → cont.value.phase ≡ phase.Waits → CanBegin cont.value
begins_when_kept s number cont fact found waits =
    ∥∥₁_elim fact (can_begin_prop cont.value)
    (λ (some : IsSomeSolo s). let own = kept_is s number cont some found in begins_by cont.value own.0.phase own.1.phase waits)

pub valid_when_kept : (s : SoloSession) → ∥ IsSomeSolo s ∥₁ → IsValidApp (app_in s)
valid_when_kept s fact = ∥∥₁_elim fact (valid_app_prop (app_in s)) (λ (some : IsSomeSolo s). some.is.valid)

-- ---- with another buffer

-- the call with another buffer
abbrev Rebuffered : Cont (List ℕ) → Cont (List ℕ) → Type 0
Rebuffered old new = new ≡ record old { buffer = new.buffer }

pub begins_rebuffered : (old new : Cont (List ℕ)) → Rebuffered old new → (old.phase ≡ phase.Waits → CanBegin old) → new.phase ≡ phase.Waits → CanBegin new
begins_rebuffered old new stays can waits =
    let was = can (sym (ap (λ (c : Cont (List ℕ)). c.phase) stays) ∙ waits) in
    subst CanBegin (sym stays)
    (record { fresh = fresh_so old (record { steps = old.steps; buffer = new.buffer }) was.fresh; result = was.result })

pub asks_rebuffered : (old new : Cont (List ℕ)) → Rebuffered old new → (old.phase ≡ phase.Asks → CanBeAnswered bytes_of old) → new.phase ≡ phase.Asks →
    CanBeAnswered bytes_of new
asks_rebuffered old new stays can asks =
    let was = can (sym (ap (λ (c : Cont (List ℕ)). c.phase) stays) ∙ asks) in
    subst (CanBeAnswered bytes_of) (sym stays) (answered_so old (record { steps = old.steps; buffer = new.buffer }) was)
