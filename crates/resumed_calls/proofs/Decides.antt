-- What is decided for the call that is found is what the kernel's call is given.
use Rattle.std.proofs.Common.{◌≡◌, ℕ, List, Option, Some, None, refl, sym, ◌∙◌, ap, subst}
use Rattle.std.specs.Prelude.{IsSome, IsSomeAnd}
use Rattle.std.proofs.Math.Logic.{∥∥₁_map}
use Rattle.std.specs.Global.{Box}
use Rattle.std.specs.Option.{option_map}
use Rattle.kernel_model.specs.Application.{Booted}
use Rattle.kernel_model.specs.Argument.{thread_in}
use Rattle.kernel_model.specs.Given.{given_to}
use Rattle.kernel_model.specs.Instances.{app_of}
use Rattle.kernel_model.specs.Kernel.{PendingCall, ThreadSlot}
use Rattle.kernel_model.specs.Resume.{call_resumed_by}
use Rattle.kernel_state.specs.Calls.{IsCall}
use Rattle.kernel_state.specs.Setup.{application_of}
use Rattle.kernel_state.specs.StandsFor.{AreSlots}
use Rattle.kernel_state.specs.declared.cancellation.Cancellation.{Cancellation}
use Rattle.kernel_state.specs.declared.setup.Application.{Application}
use Rattle.ns_ram.specs.Reader.{over_lane}
use Rattle.ns_ram.specs.declared.read.Read.{Read}
use Rattle.rpc_cont.specs.Conts.{uuid_of}
use Rattle.rpc_cont.specs.declared.app.ContApp.{ContApp}
use Rattle.rpc_cont.specs.declared.cont.Cont.{Cont}
use Rattle.rpc_cont.specs.declared.phase.Phase.TheVariants as phase
use Rattle.thread_slots.specs.declared.slot.Slot.{Slot}
use Rattle.resumed_calls.specs.Deciding.{CanDecide, IsDecided, IsDecidedFor}
use Rattle.resumed_calls.specs.Finding.{IsCallOf}
use Rattle.resumed_calls.specs.Giving.{CanBeGiven, given_as}
use Rattle.resumed_calls.specs.Waiting.{IsAppFor}
use Rattle.resumed_calls.specs.declared.deciding.Decided.{Decided}

-- ---- the call

of_some : (cont : Cont (List ℕ)) (call : Option PendingCall) → IsCallOf (Some cont) call → (one : PendingCall) × (call ≡ Some one) × IsCall cont one
of_some cont None is = absurd is
of_some cont (Some call) is = (call, refl, is)

of_none : (none : Option (Cont (List ℕ))) (call : Option PendingCall) → none ≡ None → IsCallOf none call → call ≡ None
of_none None None is of = refl
of_none None (Some call) is of = absurd of
of_none (Some cont) call is of = absurd cc

-- it was found as that of whatever slots these stand for
abbrev pub IsFound : List (Slot (Box (Cont (List ℕ)))) → List ℕ → Option (Cont (List ℕ)) → Type 0
IsFound slots regs cont = (beside : List Cancellation) (held : List ThreadSlot) → AreSlots slots beside held → IsCallOf cont (call_resumed_by held regs)

given_by : (slots : List (Slot (Box (Cont (List ℕ))))) (regs : List ℕ) (cont : Cont (List ℕ)) → IsFound slots regs (Some cont) → CanDecide slots regs → CanBeGiven cont
given_by slots regs cont finds can =
    let call : (one : PendingCall) × (call_resumed_by can.held regs ≡ Some one) × IsCall cont one = of_some cont (call_resumed_by can.held regs) (finds can.beside can.held can.stand) in
    record { call = call.0; is = call.2; area = λ area is. can.area call.0 area call.1 is; placed = λ buffer is. can.placed call.0 buffer call.1 is }

pub can_be_given : (slots : List (Slot (Box (Cont (List ℕ))))) (regs : List ℕ) (cont : Cont (List ℕ)) →
    ∥ CanDecide slots regs ∥₁ → IsFound slots regs (Some cont) → ∥ CanBeGiven cont ∥₁
can_be_given slots regs cont fact finds = ∥∥₁_map fact (given_by slots regs cont finds)

pub is_decided : (slots : List (Slot (Box (Cont (List ℕ))))) (regs lane : List ℕ) (slot : ℕ) (cont : Cont (List ℕ)) (decided : Decided) (before after : List Read) →
    slot ≡ thread_in regs → IsFound slots regs (Some cont) →
    ((call : PendingCall) → IsCall cont call → over_lane (given_to regs slot call) lane before ≡ Some (given_as decided.given, after)) →
    (beside : List Cancellation) (held : List ThreadSlot) → AreSlots slots beside held → IsDecided held regs lane before (Some decided) after
is_decided slots regs lane slot cont decided before after is finds gives beside held are =
    let call : (one : PendingCall) × (call_resumed_by held regs ≡ Some one) × IsCall cont one = of_some cont (call_resumed_by held regs) (finds beside held are) in
    let given : over_lane (given_to regs (thread_in regs) call.0) lane before ≡ Some (given_as decided.given, after) =
    ap (λ (at : ℕ). over_lane (given_to regs at call.0) lane before) (sym is) ∙ gives call.0 call.2 in
    subst (λ (one : Option PendingCall). IsSomeAnd one (IsDecidedFor regs lane before decided after)) (sym call.1) given

pub is_refused : (slots : List (Slot (Box (Cont (List ℕ))))) (regs lane : List ℕ) (none : Option (Cont (List ℕ))) (reads : List Read) →
    none ≡ None → IsFound slots regs none →
    (beside : List Cancellation) (held : List ThreadSlot) → AreSlots slots beside held → IsDecided held regs lane reads None reads
is_refused slots regs lane none reads is finds beside held are = (of_none none (call_resumed_by held regs) is (finds beside held are), refl)

-- ---- its application

pub app_waited : (boot : Booted) (cont : Cont (List ℕ)) (own : ContApp) (app : Option (Application)) → cont.app ≡ Some own →
    app_of boot (uuid_of (Some own)) ≡ option_map application_of app → IsAppFor boot cont app
app_waited boot cont own app is found waits some = ap (λ (one : Option (ContApp)). app_of boot (uuid_of one)) is ∙ found

pub app_unasked : (boot : Booted) (cont : Cont (List ℕ)) (app : Option (Application)) → (cont.phase ≡ phase.Waits → ⊥) → IsAppFor boot cont app
app_unasked boot cont app works waits some = absurd (works waits)

none_there : {A : Type 0} (o : Option A) → o ≡ None → IsSome o → ⊥
none_there None is some = absurd cc
none_there (Some a) is some = absurd cc

pub app_missing : (boot : Booted) (cont : Cont (List ℕ)) (app : Option (Application)) → cont.app ≡ None → IsAppFor boot cont app
app_missing boot cont app none waits some = absurd (none_there cont.app none some)

-- the call that is handed out is the one that was found
pub app_handed_out : (boot : Booted) (cont found : Cont (List ℕ)) (app : Option (Application)) → Some found ≡ Some cont → IsAppFor boot found app → IsAppFor boot cont app
app_handed_out boot cont found app same its = let is : found ≡ cont = cc in subst (λ (one : Cont (List ℕ)). IsAppFor boot one app) is its
