-- What is decided over the parts of a core is what the kernel decides for which they stand.
use Rattle.std.proofs.Common.{◌≡◌, ℕ, ◌+◌, suc, Bool, cond, not, List, [], ◌∷◌, length, Option, Some, None, refl, sym, ap, ap₂, ◌∙◌, subst}
use Rattle.std.proofs.Math.Logic.{∥∥₁_elim}
use Rattle.std.proofs.Props.{props}
use Rattle.std.specs.Prelude.{IfOk, Result, Ok, Err, nat_lt}
use Rattle.std.specs.Global.{Box}
use Rattle.std.specs.List.{position_or_len}
use Rattle.std.specs.Option.{option_map_or}
use Rattle.std.specs.Result.{is_ok}
use Rattle.std.specs.Prelude.{IsSomeAnd}
use Rattle.kernel_model.specs.Argument.{reg, thread_in}
use Rattle.kernel_model.specs.Codes.{eresume}
use Rattle.kernel_model.specs.Decision as model
use Rattle.kernel_model.specs.Decision.{decided_by, works_on}
use Rattle.kernel_model.specs.Entry.{decision_of}
use Rattle.kernel_model.specs.Kernel as kernel
use Rattle.kernel_model.specs.Kernel.{Kernel, PendingCall, ThreadSlot}
use Rattle.kernel_model.specs.NewCall.{new_call, new_call_with}
use Rattle.kernel_model.specs.Resume.{call_resumed_by, onward_of, resume, resumed_call}
use Rattle.kernel_state.specs.Setup.{booted_of_setup}
use Rattle.kernel_state.specs.StandsFor.{AreSlots, IsSlot, StandsFor}
use Rattle.kernel_state.specs.Tables.{tables_of}
use Rattle.kernel_state.specs.declared.cancellation.Cancellation.{Cancellation}
use Rattle.kernel_state.specs.declared.parts.Parts.{Parts}
use Rattle.new_calls.specs.Commands as new_calls
use Rattle.new_calls.specs.declared.decided.Decided.{Decided as NewDecided}
use Rattle.ns_ram.specs.Reader.{over_lane}
use Rattle.ns_ram.specs.declared.read.Read.{Read}
use Rattle.resumed_calls.proofs.Taking.{decision_refused, decision_taken, slot_resumed}
use Rattle.resumed_calls.specs.Deciding.{CanDecide, IsAppIn, IsDecided, IsDecidedFor, IsInSlot}
use Rattle.resumed_calls.specs.Giving.{given_as}
use Rattle.resumed_calls.specs.declared.deciding.Decided.{Decided}
use Rattle.rpc_cont.specs.declared.cont.Cont.{Cont}
use Rattle.smc_abi.specs.Call.{call_of}
use Rattle.smc_abi.specs.declared.answer.Answer.{Answer}
use Rattle.smc_abi.specs.declared.call.Call.{Call}
use Rattle.thread_slots.specs.Slot.{is_free}
use Rattle.thread_slots.specs.Slots.{lowest_free}
use Rattle.thread_slots.specs.declared.slot.Slot.{Slot}
use Rattle.thread_slots.specs.declared.slot.Slot.TheVariants.{Free, Active, Suspended}
use Rattle.kernel_entry.specs.Deciding.{ComesTo, HasFound, IsDecided as IsDecidedSo, IsGiven, goes_on_in, resumes_as}
use Rattle.kernel_entry.specs.Resuming.{IsSuspended}
use Rattle.kernel_entry.specs.declared.deciding.EntryDecision.{EntryDecision}

-- ---- the lowest free slot

one_free : (slot : Slot (Box (Cont (List ℕ)))) (beside : Cancellation) (held : ThreadSlot) → IsSlot slot beside held → kernel.is_free held ≡ is_free slot
one_free Free beside kernel.Free is = refl
one_free Free beside (kernel.Active worker call) is = absurd is
one_free Free beside (kernel.Suspended owner call) is = absurd is
one_free (Active cpu) beside kernel.Free is = absurd is
one_free (Active cpu) beside (kernel.Active worker call) is = refl
one_free (Active cpu) beside (kernel.Suspended owner call) is = absurd is
one_free (Suspended client cont) beside kernel.Free is = absurd is
one_free (Suspended client cont) beside (kernel.Active worker call) is = absurd is
one_free (Suspended client cont) beside (kernel.Suspended owner call) is = refl

as_many : (slots : List (Slot (Box (Cont (List ℕ))))) (beside : List Cancellation) (held : List ThreadSlot) → AreSlots slots beside held → length held ≡ length slots
as_many [] [] [] are = refl
as_many [] (b ∷ bs) held are = absurd (are 0)
as_many [] [] (h ∷ hs) are = absurd (are 0)
as_many (s ∷ ss) [] held are = absurd (are 0)
as_many (s ∷ ss) (b ∷ bs) [] are = absurd (are 0)
as_many (s ∷ ss) (b ∷ bs) (h ∷ hs) are = ap suc (as_many ss bs hs (λ slot. are (suc slot)))

same_place : (slots : List (Slot (Box (Cont (List ℕ))))) (beside : List Cancellation) (held : List ThreadSlot) → AreSlots slots beside held →
    position_or_len kernel.is_free held ≡ position_or_len is_free slots
same_place [] [] [] are = refl
same_place [] (b ∷ bs) held are = absurd (are 0)
same_place [] [] (h ∷ hs) are = absurd (are 0)
same_place (s ∷ ss) [] held are = absurd (are 0)
same_place (s ∷ ss) (b ∷ bs) [] are = absurd (are 0)
same_place (s ∷ ss) (b ∷ bs) (h ∷ hs) are =
    ap₂ (λ (free : Bool) (n : ℕ). cond (not free) (1 + n) 0) (one_free s b h (are 0)) (same_place ss bs hs (λ slot. are (suc slot)))

-- that of the parts is the kernel's
pub same_lowest : (slots : List (Slot (Box (Cont (List ℕ))))) (beside : List Cancellation) (held : List ThreadSlot) → AreSlots slots beside held →
    kernel.lowest_free held ≡ lowest_free slots
same_lowest slots beside held are =
    ap₂ (λ (at len : ℕ). cond (nat_lt at len) (Some at) None) (same_place slots beside held are) (as_many slots beside held are)

-- ---- a new call

pub new_decides : (parts : Parts) (k : Kernel) (regs lane : List ℕ) (before after : List Read) (decided : NewDecided) → StandsFor parts k →
    over_lane (decided_by (new_call_with (booted_of_setup parts.setup) (tables_of parts.tables) regs (lowest_free parts.slots))) lane before
    ≡ Some (new_calls.decision_of (booted_of_setup parts.setup) (tables_of parts.tables) decided, after) →
    over_lane (new_call (booted_of_setup parts.setup) k regs) lane before
    ≡ Some (new_calls.decision_of (booted_of_setup parts.setup) (tables_of parts.tables) decided, after)
new_decides parts k regs lane before after decided stands is =
    ap₂ (λ (tables : kernel.Tables) (free : Option ℕ). over_lane (decided_by (new_call_with (booted_of_setup parts.setup) tables regs free)) lane before)
    (sym stands.tables) (same_lowest parts.slots parts.cancellations.items k.slots stands.slots)
    ∙ is

pub new_so : (parts : Parts) (k : Kernel) (regs lane : List ℕ) (before after : List Read) (decided : NewDecided) (free : Option ℕ) (came : model.Decision) →
    free ≡ lowest_free parts.slots → new_calls.decision_of (booted_of_setup parts.setup) (tables_of parts.tables) decided ≡ came → StandsFor parts k →
    over_lane (decided_by (new_call_with (booted_of_setup parts.setup) (tables_of parts.tables) regs free)) lane before
    ≡ Some (new_calls.decision_of (booted_of_setup parts.setup) (tables_of parts.tables) decided, after) →
    over_lane (new_call (booted_of_setup parts.setup) k regs) lane before ≡ Some (came, after)
new_so parts k regs lane before after decided free came lowest same stands is =
    new_decides parts k regs lane before after decided stands
    (ap (λ (free : Option ℕ). over_lane (decided_by (new_call_with (booted_of_setup parts.setup) (tables_of parts.tables) regs free)) lane before) (sym lowest) ∙ is)
    ∙ ap (λ (came : model.Decision). Some (came, after)) same

-- ---- a resume

pub resume_decides : (parts : Parts) (k : Kernel) (regs lane : List ℕ) (before after : List Read) (decided : Decided) → StandsFor parts k →
    IsDecided k.slots regs lane before (Some decided) after →
    over_lane (resume (booted_of_setup parts.setup) k regs) lane before
    ≡ Some (option_map_or (goes_on_in parts regs decided) (call_resumed_by k.slots regs) (model.Answers eresume), after)
resume_decides parts k regs lane before after decided stands is =
    let boot = booted_of_setup parts.setup in
    let its = decision_taken boot k regs lane before decided after is in
    its.takes
    ∙ ap (λ (tables : kernel.Tables). Some (model.Takes (thread_in regs) (works_on (onward_of (resumed_call boot tables (thread_in regs) its.call (given_as decided.given)))), after))
    (sym stands.tables)
    ∙ ap (λ (found : Option PendingCall). Some (option_map_or (goes_on_in parts regs decided) found (model.Answers eresume), after)) (sym its.found)

pub resume_refused : (parts : Parts) (k : Kernel) (regs lane : List ℕ) (before after : List Read) →
    IsDecided k.slots regs lane before None after → over_lane (resume (booted_of_setup parts.setup) k regs) lane before ≡ Some (model.Answers eresume, after)
resume_refused parts k regs lane before after is = decision_refused (booted_of_setup parts.setup) k regs lane before after is

-- a call is handed out
pub suspended_so : (slots : List (Slot (Box (Cont (List ℕ))))) (regs lane : List ℕ) (before after : List Read) (decided : Decided) → ∥ CanDecide slots regs ∥₁ →
    ((beside : List Cancellation) (held : List ThreadSlot) → AreSlots slots beside held → IsDecided held regs lane before (Some decided) after) →
    IsSuspended slots regs
suspended_so slots regs lane before after decided can decides = ∥∥₁_elim can (Prim.hlevel props) (λ (so : CanDecide slots regs).
    by so (call_resumed_by so.held regs) refl (decides so.beside so.held so.stand))
  where
    by : (so : CanDecide slots regs) (found : Option PendingCall) → call_resumed_by so.held regs ≡ found →
        IsSomeAnd found (IsDecidedFor regs lane before decided after) → IsSuspended slots regs
    by so None is decided = absurd decided
    by so (Some call) is decided = ap is_ok (slot_resumed slots so.beside so.held regs call so.stand is).resumes

-- ---- the call that a resume is for, if there is one

pub call_decided : {E : Type 0} (parts : Parts) (k : Kernel) (regs lane : List ℕ) (before after : List Read) (result : Result (Option Decided) E) → StandsFor parts k →
    IfOk result (λ call. IsDecided k.slots regs lane before call after) →
    IfOk result (λ call. ComesTo parts k regs (resume (booted_of_setup parts.setup) k regs) lane before after (resumes_as call))
call_decided parts k regs lane before after (Ok None) stands is = resume_refused parts k regs lane before after is
call_decided parts k regs lane before after (Ok (Some decided)) stands is = resume_decides parts k regs lane before after decided stands is
call_decided parts k regs lane before after (Err error) stands is = tt

pub call_given : {E : Type 0} (parts : Parts) (regs lane : List ℕ) (before after : List Read) (result : Result (Option Decided) E) →
    ((k : Kernel) → StandsFor parts k → IfOk result (λ call. IsDecided k.slots regs lane before call after)) →
    IfOk result (λ call. IsGiven parts regs lane before after (resumes_as call))
call_given parts regs lane before after (Ok None) each = tt
call_given parts regs lane before after (Ok (Some decided)) each = λ k stands. each k stands
call_given parts regs lane before after (Err error) each = tt

pub call_suspended : {E : Type 0} (parts : Parts) (regs lane : List ℕ) (before after : List Read) (result : Result (Option Decided) E) → ∥ CanDecide parts.slots regs ∥₁ →
    ((beside : List Cancellation) (held : List ThreadSlot) → AreSlots parts.slots beside held → IfOk result (λ call. IsDecided held regs lane before call after)) →
    IfOk result (IsInSlot regs) → IfOk result (IsAppIn (booted_of_setup parts.setup) parts.slots regs) → IfOk result (λ call. HasFound parts regs (resumes_as call))
call_suspended parts regs lane before after (Ok None) can each slot app = tt
call_suspended parts regs lane before after (Ok (Some decided)) can each slot app = record {
  suspended = suspended_so parts.slots regs lane before after decided can each;
  slot = slot;
  app = app;
}
call_suspended parts regs lane before after (Err error) can each slot app = tt

-- ---- by the call that the registers name

pub decided_as : {E : Type 0} (parts : Parts) (k : Kernel) (regs lane : List ℕ) (before after : List Read) (found : Result EntryDecision E) (named : Call) →
    call_of (reg regs 0) ≡ named → IfOk found (ComesTo parts k regs (decision_of (booted_of_setup parts.setup) k regs named) lane before after) →
    IfOk found (IsDecidedSo parts k regs lane before after)
decided_as parts k regs lane before after found named is decides =
    subst (λ (call : Call). IfOk found (ComesTo parts k regs (decision_of (booted_of_setup parts.setup) k regs call) lane before after)) (sym is) decides

pub answered_as : (parts : Parts) (k : Kernel) (regs lane : List ℕ) (before after : List Read) (decided : EntryDecision) (named : Call) →
    call_of (reg regs 0) ≡ named → ComesTo parts k regs (decision_of (booted_of_setup parts.setup) k regs named) lane before after decided →
    IsDecidedSo parts k regs lane before after decided
answered_as parts k regs lane before after decided named is decides =
    subst (λ (call : Call). ComesTo parts k regs (decision_of (booted_of_setup parts.setup) k regs call) lane before after decided) (sym is) decides

-- an answer, as it is
pub same_answer : (reads : List Read) (one other : Answer) → one ≡ other →
    ◌≡◌ {A = Option (model.Decision × List Read)} (Some (model.Answers one, reads)) (Some (model.Answers other, reads))
same_answer reads one other same =
    let told : Answer → Option (model.Decision × List Read) = λ (answer : Answer). Some (model.Answers answer, reads) in
    ap told same
