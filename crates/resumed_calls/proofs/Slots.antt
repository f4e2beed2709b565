-- The call that is found in the slots is the kernel's.
use Rattle.std.proofs.Common.{◌≡◌, ℕ, List, Option, Some, None, sym, ◌∙◌, ap₂, subst, ◌==◌, Bool, true, false, ap}
use Rattle.std.specs.Prelude.{slice_get, Ok, Err, if◌then◌else◌, Result}
use Rattle.std.specs.Global.{Box}
use Rattle.std.specs.Result.{IsOk, is_ok}
use Rattle.kernel_model.specs.Argument.{client_in, thread_in}
use Rattle.kernel_model.specs.Kernel.{PendingCall, ThreadSlot}
use Rattle.kernel_model.specs.Kernel as model
use Rattle.kernel_model.specs.Resume.{call_resumed_by, suspended_for}
use Rattle.kernel_state.specs.Calls.{IsCall}
use Rattle.kernel_state.specs.StandsFor.{AreSlots, IsSlotAt}
use Rattle.kernel_state.specs.declared.cancellation.Cancellation.{Cancellation}
use Rattle.rpc_cont.specs.declared.cont.Cont.{Cont}
use Rattle.thread_slots.specs.Slot.{resumed_from}
use Rattle.thread_slots.specs.Slots.{resumed}
use Rattle.thread_slots.specs.declared.bad_resume.BadResume.{BadResume}
use Rattle.thread_slots.specs.declared.bad_resume.BadResume.TheVariants.{OtherClient}
use Rattle.thread_slots.specs.declared.slot.Slot.{Slot}
use Rattle.thread_slots.specs.declared.slot.Slot.TheVariants.{Free, Active, Suspended}
use Rattle.resumed_calls.specs.Deciding.{IsHandedOut}
use Rattle.resumed_calls.specs.Finding.{IsCallOf}

-- what a resume is told of a slot, as an option
abbrev found : Result (Box (Cont (List ℕ))) BadResume → Option (Cont (List ℕ))
found (Ok cont) = Some cont.value
found (Err refusal) = None

-- of a suspended call
suspended_found : (mine : Bool) (owner : ℕ) (cont : Box (Cont (List ℕ))) (call : PendingCall) (refusal : BadResume) → IsCall cont.value call →
    IsCallOf (found (if mine then Ok cont else Err refusal)) (if mine then Some call else None)
suspended_found true owner cont call refusal is = is
suspended_found false owner cont call refusal is = tt

-- of a slot, which may not be there
slot_found : (client : ℕ) (slot : Option (Slot (Box (Cont (List ℕ))))) (beside : Option Cancellation) (held : Option ThreadSlot) →
    IsSlotAt slot beside held → IsCallOf (found (resumed_from slot client)) (suspended_for client held)
slot_found client None None None is = tt
slot_found client None None (Some held) is = absurd is
slot_found client None (Some beside) held is = absurd is
slot_found client (Some slot) None held is = absurd is
slot_found client (Some slot) (Some beside) None is = absurd is
slot_found client (Some Free) (Some beside) (Some model.Free) is = tt
slot_found client (Some Free) (Some beside) (Some (model.Active cpu call)) is = absurd is
slot_found client (Some Free) (Some beside) (Some (model.Suspended owner call)) is = absurd is
slot_found client (Some (Active cpu)) (Some beside) (Some model.Free) is = absurd is
slot_found client (Some (Active cpu)) (Some beside) (Some (model.Active worker call)) is = tt
slot_found client (Some (Active cpu)) (Some beside) (Some (model.Suspended owner call)) is = absurd is
slot_found client (Some (Suspended kept cont)) (Some beside) (Some model.Free) is = absurd is
slot_found client (Some (Suspended kept cont)) (Some beside) (Some (model.Active worker call)) is = absurd is
slot_found client (Some (Suspended kept cont)) (Some beside) (Some (model.Suspended owner call)) is =
    subst (λ (one : ℕ). IsCallOf (found (resumed_from (Some (Suspended kept cont)) client)) (if one == client then Some call else None)) is.0
    (suspended_found (kept == client) kept cont call (OtherClient kept) is.2)

call_found : (slots : List (Slot (Box (Cont (List ℕ))))) (regs : List ℕ) (beside : List Cancellation) (held : List ThreadSlot) → AreSlots slots beside held →
    IsCallOf (found (resumed_from (slice_get slots (thread_in regs)) (client_in regs))) (call_resumed_by held regs)
call_found slots regs beside held are =
    slot_found (client_in regs) (slice_get slots (thread_in regs)) (slice_get beside (thread_in regs)) (slice_get held (thread_in regs)) (are (thread_in regs))

pub resumed_told : (slots : List (Slot (Box (Cont (List ℕ))))) (regs : List ℕ) (slot client : ℕ) (cont : Box (Cont (List ℕ))) →
    slot ≡ thread_in regs → client ≡ client_in regs → resumed_from (slice_get slots slot) client ≡ Ok cont →
    (beside : List Cancellation) (held : List ThreadSlot) → AreSlots slots beside held → IsCallOf (Some cont.value) (call_resumed_by held regs)
resumed_told slots regs slot client cont is_slot is_client is beside held are =
    subst (λ (answer : Result _ BadResume). IsCallOf (found answer) (call_resumed_by held regs))
    (ap₂ (λ (at by : ℕ). resumed_from (slice_get slots at) by) (sym is_slot) (sym is_client) ∙ is) (call_found slots regs beside held are)

pub refused_told : (slots : List (Slot (Box (Cont (List ℕ))))) (regs : List ℕ) (slot client : ℕ) (refusal : BadResume) →
    slot ≡ thread_in regs → client ≡ client_in regs → resumed_from (slice_get slots slot) client ≡ Err refusal →
    (beside : List Cancellation) (held : List ThreadSlot) → AreSlots slots beside held → IsCallOf None (call_resumed_by held regs)
refused_told slots regs slot client refusal is_slot is_client is beside held are =
    subst (λ (answer : Result _ BadResume). IsCallOf (found answer) (call_resumed_by held regs))
    (ap₂ (λ (at by : ℕ). resumed_from (slice_get slots at) by) (sym is_slot) (sym is_client) ∙ is) (call_found slots regs beside held are)

-- ---- what is handed out

pub handed_out : (slots : List (Slot (Box (Cont (List ℕ))))) (regs : List ℕ) (slot client : ℕ) (found : Box (Cont (List ℕ))) →
    slot ≡ thread_in regs → client ≡ client_in regs → resumed_from (slice_get slots slot) client ≡ Ok found →
    (cont : Box (Cont (List ℕ))) → IsHandedOut slots regs cont → Some found.value ≡ Some cont.value
handed_out slots regs slot client found is_slot is_client is cont handed =
    let both : Ok found ≡ Ok cont = sym is ∙ ap₂ (λ (at by : ℕ). resumed_from (slice_get slots at) by) is_slot is_client ∙ handed in
    let same : found ≡ cont = cc in
    ap (λ (one : Box (Cont (List ℕ))). Some one.value) same

pub not_handed_out : (slots : List (Slot (Box (Cont (List ℕ))))) (regs : List ℕ) (slot client : ℕ) (refusal : BadResume) →
    slot ≡ thread_in regs → client ≡ client_in regs → resumed_from (slice_get slots slot) client ≡ Err refusal →
    (cont : Box (Cont (List ℕ))) → IsHandedOut slots regs cont → None ≡ Some cont.value
not_handed_out slots regs slot client refusal is_slot is_client is cont handed =
    let both : Err refusal ≡ Ok cont = sym is ∙ ap₂ (λ (at by : ℕ). resumed_from (slice_get slots at) by) is_slot is_client ∙ handed in
    absurd cc

-- one is, where its slot was found
pub is_suspended : (slots : List (Slot (Box (Cont (List ℕ))))) (regs : List ℕ) (slot client : ℕ) (found : Box (Cont (List ℕ))) →
    slot ≡ thread_in regs → client ≡ client_in regs → resumed_from (slice_get slots slot) client ≡ Ok found →
    IsOk (resumed slots (thread_in regs) (client_in regs))
is_suspended slots regs slot client found is_slot is_client is =
    ap is_ok (ap₂ (λ (at by : ℕ). resumed_from (slice_get slots at) by) (sym is_slot) (sym is_client) ∙ is)
