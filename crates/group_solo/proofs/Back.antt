-- A call that comes back, and doesn't wait.
use Rattle.std.proofs.Common.{◌⊎◌, inl, inr, ◌≡◌, ℕ, List, [], Some, refl, sym, ap, subst, ◌∙◌}
use Rattle.std.specs.Prelude.{◌||◌}
use Rattle.base.specs.NumberMap.{get}
use Rattle.group_model.specs.Group.{Group, GroupCall, comes_back_in, with_call}
use Rattle.kernel_model.specs.Application.{Application}
use Rattle.kernel_model.specs.Kernel.{Asks, CallPhase, Ends, Runs, Waits}
use Rattle.kernel_state.specs.Calls.{IsInPhase}
use Rattle.own_model.proofs.Maps.{get-insert-same}
use Rattle.own_model.specs.Solo.{OwnCall, Solo, is_buffer, phase_back, unopened, wake_left}
use Rattle.own_model.specs.Solo as own
use Rattle.own_model.specs.declared.own_event.BackInput.{BackInput}
use Rattle.rpc_cont.specs.declared.cont.Cont.{Cont}
use Rattle.rpc_cont.specs.declared.phase.Phase.{Phase}
use Rattle.rpc_cont.specs.declared.phase.Phase.TheVariants as phase
use Rattle.solo.specs.Calls.{IsCall}
use Rattle.solo.specs.Standing as alone_standing
use Rattle.group_solo.specs.Calls.{IsGroupCall, alone}
use Rattle.group_solo.specs.Standing.{HasCall}
use Rattle.group_solo.specs.declared.kept_call.KeptCall.{KeptCall}

-- with a buffer where it was given one
pub buffered : (old new : KeptCall) (call : GroupCall) (input : BackInput) → new ≡ record old { cont = new.cont } → IsGroupCall old call →
    (IsCall old.cont (alone call) → IsCall new.cont (record (alone call) { buffer = is_buffer input || call.buffer })) →
    IsGroupCall new (record call { buffer = is_buffer input || call.buffer })
buffered old new call input same is takes = record {
  alone = takes is.alone;
  session = ap (λ (k : KeptCall). k.session) same ∙ is.session;
  instance = ap (λ (k : KeptCall). k.instance) same ∙ is.instance;
  room = ap (λ (k : KeptCall). k.room) same ∙ is.room;
}

-- what a session's machine makes of a call is this call
is_this : (cont : Cont (List ℕ)) (number : ℕ) (z : Solo) (call : OwnCall) → alone_standing.HasCall cont number z (own.with_call z number call) → IsCall cont call
is_this cont number z call has =
    let same : Some has.call ≡ Some call =
    sym (get-insert-same z.calls number has.call) ∙ ap (λ (s : Solo). get s.calls number) (sym has.has) ∙ get-insert-same z.calls number call in
    subst (IsCall cont) (cc) has.is

-- what it does in a session's machine that is this call alone
abbrev Takes : Application → ℕ → BackInput → KeptCall → GroupCall → CallPhase → Type 0
Takes app number input new call at =
    (z next : Solo) → own.comes_back_in app z number (alone call) input at ≡ Some next → alone_standing.HasCall new.cont number z next

with_phase : (old new : KeptCall) (call : GroupCall) (then : CallPhase) → new ≡ record old { cont = new.cont } → IsGroupCall old call →
    IsCall new.cont (record (alone call) { phase = then }) → IsGroupCall new (record call { phase = then })
with_phase old new call then same is now = record {
  alone = now;
  session = ap (λ (k : KeptCall). k.session) same ∙ is.session;
  instance = ap (λ (k : KeptCall). k.instance) same ∙ is.instance;
  room = ap (λ (k : KeptCall). k.room) same ∙ is.room;
}

answered_in : (app : Application) (g next : Group) (number : ℕ) (input : BackInput) (old new : KeptCall) (call : GroupCall) (at : CallPhase) →
    new ≡ record old { cont = new.cont } → IsGroupCall old call → (old.cont.phase ≡ phase.Waits → ⊥) → IsInPhase old.cont at →
    comes_back_in app g number call input at ≡ Some next → Takes app number input new call at → HasCall new number g next
answered_in app g next number input old new call (Runs job) same is works here e takes = absurd cc
answered_in app g next number input old new call (Asks job wanted payload) same is works here e takes =
    let then = phase_back call.phase job input in
    let so : with_call g number (record call { phase = then }) ≡ next = cc in
    record {
      call = record call { phase = then };
      is = with_phase old new call then same is
          (is_this new.cont number (unopened []) (record (alone call) { phase = then }) (takes (unopened []) _ refl));
      has = sym so;
    }
answered_in app g next number input old new call (Waits params) same is works here e takes = absurd (works here.phase)
answered_in app g next number input old new call (Ends result params told wakes) same is works here e takes =
    let then : CallPhase = Ends result params told (wake_left wakes input) in
    let so : with_call g number (record call { phase = then }) ≡ next = cc in
    record {
      call = record call { phase = then };
      is = with_phase old new call then same is
          (is_this new.cont number (unopened []) (record (alone call) { phase = then }) (takes (unopened []) _ refl));
      has = sym so;
    }

pub answered : (app : Application) (g next : Group) (number : ℕ) (input : BackInput) (old new : KeptCall) (call : GroupCall) →
    new ≡ record old { cont = new.cont } → IsGroupCall old call → (old.cont.phase ≡ phase.Waits → ⊥) →
    comes_back_in app g number call input call.phase ≡ Some next → Takes app number input new call call.phase → HasCall new number g next
answered app g next number input old new call same is works e takes =
    answered_in app g next number input old new call call.phase same is works is.alone.phase e takes

-- one that is in another phase doesn't wait
pub not_waiting : (at : Phase) → (at ≡ phase.Runs) ⊎ ((at ≡ phase.Asks) ⊎ (at ≡ phase.Ends)) → at ≡ phase.Waits → ⊥
not_waiting at (inl runs) waits = absurd cc
not_waiting at (inr (inl asks)) waits = absurd cc
not_waiting at (inr (inr ends)) waits = absurd cc
