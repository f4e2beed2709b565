-- What was found for what was decided lets it be done, by what holds of each core.
use Rattle.std.proofs.Common.{◌≡◌, ℕ, ◌+◌, ◌<◌, ◌≤◌, Bool, true, false, List, length, Option, Some, None, refl, sym, ap, ◌∙◌, subst, arith}
use Rattle.std.proofs.Math.Logic.{∥∥₁_elim, ∥∥₁_map}
use Rattle.std.proofs.Props.{props}
use Rattle.std.proofs.lemmas.Option.{slice_get_within}
use Rattle.std.specs.Prelude.{IsSomeAnd, slice_get, Ok, Err, if◌then◌else◌, ◌==◌}
use Rattle.std.specs.Global.{Box}
use Rattle.std.specs.Option.{option_and_then}
use Rattle.std.specs.Result.{is_ok}
use Rattle.base.specs.NumberMap.{get}
use Rattle.begin_call.specs.Begins.{IsValidApp}
use Rattle.kernel_model.specs.Application.{Application, OfImage, BuiltIn}
use Rattle.kernel_model.specs.Argument.{client_in, thread_in}
use Rattle.kernel_model.specs.Kernel as kernel
use Rattle.kernel_model.specs.Kernel.{Instance, PendingCall, ThreadSlot}
use Rattle.kernel_model.specs.Resume.{call_resumed_by, suspended_for}
use Rattle.kernel_model.specs.Sound.{unmarked_at, unmarked_in, unmarked}
use Rattle.kernel_model.specs.SoundCalls.{Fits, HasSession, is_told}
use Rattle.kernel_state.specs.Calls.{IsCall}
use Rattle.kernel_state.specs.Replay.{Replays}
use Rattle.kernel_state.specs.Setup.{application_of, boot_of, booted_of_setup}
use Rattle.kernel_state.specs.StandsFor.{AreSlots, IsBeside, IsSlotAt}
use Rattle.kernel_state.specs.Tables.{tables_of}
use Rattle.kernel_state.specs.declared.cancellation.Cancellation.{Cancellation}
use Rattle.kernel_state.specs.declared.parts.Parts.{Parts}
use Rattle.kernel_state.specs.declared.tables.Tables.{Tables}
use Rattle.new_calls.specs.declared.entered.Entered.{Entered}
use Rattle.new_calls.specs.declared.plan.Plan.{Plan}
use Rattle.new_calls.specs.declared.plan.Plan.TheVariants as plan
use Rattle.resumed_calls.proofs.Taking.{waits_in_line}
use Rattle.resumed_calls.specs.Deciding.{IsHandedOut}
use Rattle.resumed_calls.specs.Resuming.{CanResume}
use Rattle.resumed_calls.specs.declared.deciding.Decided.{Decided}
use Rattle.rpc_cont.specs.declared.cont.Cont.{Cont}
use Rattle.session_table.specs.declared.session.Session.{Session}
use Rattle.ta_isa.specs.Boots.{IsBoot}
use Rattle.ta_isa.specs.Spelling.{IsValid}
use Rattle.ta_isa.specs.declared.boot.Boot.{Boot}
use Rattle.ta_isa.specs.declared.image.Image.{Image}
use Rattle.thread_slots.proofs.FreeSlots.{free_at_lowest}
use Rattle.thread_slots.specs.Slot.{resumed_from}
use Rattle.thread_slots.specs.declared.bad_resume.BadResume.TheVariants.{OtherClient}
use Rattle.thread_slots.specs.declared.slot.Slot.{Slot}
use Rattle.thread_slots.specs.declared.slot.Slot.TheVariants.{Free, Active, Suspended}
use Rattle.kernel_entry.specs.Applying.{CanComeIn, CanMake, CanShare, FitsOpen, FitsPlan, FitsSession, MayCome}
use Rattle.kernel_entry.specs.Deciding.{CanBegin, CanContinue, HasFound}
use Rattle.kernel_entry.specs.Entering.{CanFollow, CanTakeSlot, HasBox}
use Rattle.kernel_entry.specs.Resuming.{CanGoOn, resumed_as}
use Rattle.kernel_entry.specs.declared.deciding.EntryDecision.{EntryDecision}
use Rattle.kernel_entry.specs.declared.deciding.EntryDecision.TheVariants as decision
use Rattle.kernel_entry.proofs.Entered.{has_pages, sound_so}
use Rattle.kernel_entry.proofs.Legal.{fits_plan}

-- ---- one way at most

valid_prop : (image : Image) → IsProp (IsValid image)
valid_prop image = Prim.hlevel props

boot_prop : (boot : Boot) → IsProp (IsBoot boot)
boot_prop boot = Prim.hlevel (props, valid_prop)

app_prop : (app : Application) → IsProp (IsValidApp app)
app_prop (OfImage app) = valid_prop app.image
app_prop (BuiltIn uuid relation) = Prim.hlevel props

come_prop : (tables : Tables) (slot : ℕ) (app : Application) → IsProp (MayCome tables slot app)
come_prop tables slot app = Prim.hlevel (props, app_prop)

make_prop : (tables : Tables) (app : Application) → IsProp (CanMake tables app)
make_prop tables app = Prim.hlevel props

share_prop : (tables : Tables) (app : Application) (shared : Option (ℕ × Instance)) → IsProp (CanShare tables app shared)
share_prop tables app None = make_prop tables app
share_prop tables app (Some kept) = Prim.hlevel props

open_prop : (tables : Tables) (slot : ℕ) (app : Application) → IsProp (FitsOpen tables slot app)
open_prop tables slot app = Prim.hlevel (props, come_prop, share_prop)

works_prop : (app : Application) (found : Option Instance) → IsProp (IsSomeAnd found (CanComeIn app))
works_prop app None = Prim.hlevel props
works_prop app (Some instance) = Prim.hlevel props

session_prop : (tables : Tables) (slot : ℕ) (app : Application) (session : Session) → IsProp (FitsSession tables slot app session)
session_prop tables slot app session = Prim.hlevel (props, come_prop, works_prop)

plan_prop : (tables : Tables) (slot : ℕ) (of : Plan) → IsProp (FitsPlan tables slot of)
plan_prop tables slot (plan.Settles settled) = Prim.hlevel props
plan_prop tables slot (plan.Opens app login copies) = open_prop tables slot (application_of app)
plan_prop tables slot (plan.Invokes session app copies) = session_prop tables slot (application_of app) session
plan_prop tables slot (plan.Closes session app) = session_prop tables slot (application_of app) session
plan_prop tables slot plan.Cancels = Prim.hlevel props
plan_prop tables slot (plan.KeepsBuffer cookie buffer) = Prim.hlevel props
plan_prop tables slot (plan.DropsBuffer cookie) = Prim.hlevel props

-- ---- a slot

-- something stands beside each slot
beside_some : (slot : Option (Slot (Box (Cont (List ℕ))))) (beside : Option Cancellation) (held : Option ThreadSlot) (one : Slot (Box (Cont (List ℕ)))) →
    slot ≡ Some one → IsSlotAt slot beside held → (found : Cancellation) × (beside ≡ Some found)
beside_some None beside held one there is = absurd cc
beside_some (Some slot) None held one there is = absurd is
beside_some (Some slot) (Some beside) held one there is = (beside, refl)

-- no call is in one that is free
free_held : (beside : Option Cancellation) (held : Option ThreadSlot) → IsSlotAt (Some Free) beside held → option_and_then unmarked_in held ≡ None
free_held None held is = absurd is
free_held (Some beside) None is = absurd is
free_held (Some beside) (Some kernel.Free) is = refl
free_held (Some beside) (Some (kernel.Active worker call)) is = absurd is
free_held (Some beside) (Some (kernel.Suspended owner call)) is = absurd is

beside_there : (parts : Parts) (at : ℕ) (one : Slot (Box (Cont (List ℕ)))) → ∥ Replays parts ∥₁ → slice_get parts.slots at ≡ Some one →
    at < length parts.cancellations.items
beside_there parts at one fact there = ∥∥₁_elim fact (Prim.hlevel props) (λ (so : Replays parts).
    let found = beside_some (slice_get parts.slots at) (slice_get parts.cancellations.items at) (slice_get so.kernel.slots at) one there (so.stands.slots at) in
    slice_get_within parts.cancellations.items at found.0 found.1)

-- ---- a new call

fits_so : (parts : Parts) (entered : Entered) (of : Plan) → ∥ Replays parts ∥₁ → CanBegin parts entered of → FitsPlan parts.tables entered.slot of
fits_so parts entered of fact begins = ∥∥₁_elim fact (plan_prop parts.tables entered.slot of) (λ (so : Replays parts).
    let free : slice_get parts.slots entered.slot ≡ Some Free = free_at_lowest parts.slots entered.slot begins.lowest in
    let none = free_held (slice_get parts.cancellations.items entered.slot) (slice_get so.kernel.slots entered.slot)
    (subst (λ (slot : Option (Slot (Box (Cont (List ℕ))))). IsSlotAt slot (slice_get parts.cancellations.items entered.slot) (slice_get so.kernel.slots entered.slot)) free
    (so.stands.slots entered.slot)) in
    fits_plan parts.setup (unmarked_at so.kernel.slots) parts.tables entered of so.is_boot (sound_so parts so) none entered.is_slot so.stands.pages begins.applies)

can_take_slot : (parts : Parts) (entered : Entered) (of : Plan) → ∥ Replays parts ∥₁ → 0 < parts.blanks.kept → CanBegin parts entered of → CanTakeSlot parts entered of
can_take_slot parts entered of fact blank begins = record {
  begins = begins;
  beside = beside_there parts entered.slot Free fact (free_at_lowest parts.slots entered.slot begins.lowest);
  takes = record {
    pins = begins.pins;
    boot = booted_of_setup parts.setup;
    applies = begins.applies;
    fits = fits_so parts entered of fact begins;
  };
  blank = blank;
}

-- ---- a call that is resumed

some_ok : (slot : Option (Slot (Box (Cont (List ℕ))))) (client : ℕ) → is_ok (resumed_from slot client) ≡ true → (one : Slot (Box (Cont (List ℕ)))) × (slot ≡ Some one)
some_ok None client ok = absurd cc
some_ok (Some slot) client ok = (slot, refl)

-- the kernel's call for which one is handed out
record HeldOut (beside : Cancellation) (held : Option ThreadSlot) (cont : Box (Cont (List ℕ))) : Type 0 where
  call : PendingCall
  owner : ℕ
  suspended : held ≡ Some (kernel.Suspended owner call)
  fits : IsBeside beside call
  is : IsCall cont.value call

same_out : (kept : ℕ) (one cont : Box (Cont (List ℕ))) (mine : Bool) → (if mine then Ok one else Err (OtherClient kept)) ≡ Ok cont → one ≡ cont
same_out kept one cont true out = cc
same_out kept one cont false out = absurd cc

handed_out : (client : ℕ) (slot : Option (Slot (Box (Cont (List ℕ))))) (beside : Cancellation) (held : Option ThreadSlot) (cont : Box (Cont (List ℕ))) →
    IsSlotAt slot (Some beside) held → resumed_from slot client ≡ Ok cont → HeldOut beside held cont
handed_out client None beside None cont is out = absurd is
handed_out client None beside (Some held) cont is out = absurd is
handed_out client (Some slot) beside None cont is out = absurd is
handed_out client (Some Free) beside (Some held) cont is out = absurd cc
handed_out client (Some (Active cpu)) beside (Some held) cont is out = absurd cc
handed_out client (Some (Suspended kept one)) beside (Some kernel.Free) cont is out = absurd is
handed_out client (Some (Suspended kept one)) beside (Some (kernel.Active worker call)) cont is out = absurd is
handed_out client (Some (Suspended kept one)) beside (Some (kernel.Suspended owner call)) cont is out = record {
  call = call;
  owner = owner;
  suspended = refl;
  fits = is.1;
  is = subst (λ (box : Box (Cont (List ℕ))). IsCall box.value call) (same_out kept one cont (kept == client) out) is.2;
}

few_there : (instances sessions : ℕ) → instances < sessions + 16 → sessions ≤ 64 → instances < 80
few_there instances sessions room few = omega (arith, room, few)

can_resume : (parts : Parts) (regs : List ℕ) (decided : Decided) (cont : Box (Cont (List ℕ))) (beside : Cancellation) → Replays parts →
    IsHandedOut parts.slots regs cont → slice_get parts.cancellations.items (thread_in regs) ≡ Some beside →
    CanResume (booted_of_setup parts.setup) (tables_of parts.tables) (resumed_as regs beside decided) cont.value
can_resume parts regs decided cont beside so out there =
    let slot = thread_in regs in
    let tables = tables_of parts.tables in
    let calls = unmarked_at so.kernel.slots in
    let sound = sound_so parts so in
    let its = handed_out (client_in regs) (slice_get parts.slots slot) beside (slice_get so.kernel.slots slot) cont
    (subst (λ (beside : Option Cancellation). IsSlotAt (slice_get parts.slots slot) beside (slice_get so.kernel.slots slot)) there (so.stands.slots slot)) out in
    let in_slot : calls slot ≡ Some (unmarked its.call) = ap (option_and_then unmarked_in) its.suspended in
    record {
      call = its.call;
      is = its.is;
      marked = sym its.fits.marked;
      line = λ params waits.
          waits_in_line (booted_of_setup parts.setup) calls tables slot its.call params in_slot waits sound.before.waiters sound.order sound.before.joined sound.memory
          (λ opens none.
          let fits : Fits tables slot (unmarked its.call) = sound.before.joined.each slot (unmarked its.call) in_slot in
          let has : HasSession (get tables.sessions its.call.session) (unmarked its.call) false = fits.session.opening opens (ap is_told waits) in
          few_there (length tables.instances) (length tables.sessions)
          (sound.few.room its.call.session has.session has.kept (ap (λ (number : ℕ). get tables.instances number) has.instance ∙ none)) sound.order.sessions.few);
    }

can_go_on : (parts : Parts) (regs : List ℕ) (decided : Decided) → ∥ Replays parts ∥₁ → CanContinue parts regs decided → CanGoOn parts regs decided
can_go_on parts regs decided fact found =
    let slot = some_ok (slice_get parts.slots (thread_in regs)) (client_in regs) found.suspended in
    record {
      suspended = found.suspended;
      slot = found.slot;
      beside = beside_there parts (thread_in regs) slot.0 fact slot.1;
      resumable = λ cont beside out there. ∥∥₁_map fact (λ (so : Replays parts). can_resume parts regs decided cont beside so out there);
      app = found.app;
      is_boot = ∥∥₁_elim fact (boot_prop (boot_of parts.setup)) (λ (so : Replays parts). so.is_boot);
      pages = has_pages parts fact;
    }

-- the kernel has the call that is resumed
call_there : (client : ℕ) (slot : Option (Slot (Box (Cont (List ℕ))))) (beside : Option Cancellation) (held : Option ThreadSlot) → IsSlotAt slot beside held →
    is_ok (resumed_from slot client) ≡ true → (call : PendingCall) × (suspended_for client held ≡ Some call)
call_there client None beside held is ok = absurd cc
call_there client (Some slot) None held is ok = absurd is
call_there client (Some slot) (Some beside) None is ok = absurd is
call_there client (Some Free) (Some beside) (Some held) is ok = absurd cc
call_there client (Some (Active cpu)) (Some beside) (Some held) is ok = absurd cc
call_there client (Some (Suspended kept one)) (Some beside) (Some kernel.Free) is ok = absurd is
call_there client (Some (Suspended kept one)) (Some beside) (Some (kernel.Active worker call)) is ok = absurd is
call_there client (Some (Suspended kept one)) (Some beside) (Some (kernel.Suspended owner call)) is ok = by_test (kept == client) refl ok
  where
    by_test : (mine : Bool) → (kept == client) ≡ mine → is_ok (if mine then Ok one else Err (OtherClient kept)) ≡ true →
        (its : PendingCall) × ((if owner == client then Some call else None) ≡ Some its)
    by_test true same ok =
        (call, ap (λ (test : Bool). if test then Some call else None) (ap (λ (n : ℕ). n == client) (sym is.0) ∙ same))
    by_test false other ok = absurd cc

pub call_found : (slots : List (Slot (Box (Cont (List ℕ))))) (beside : List Cancellation) (held : List ThreadSlot) (regs : List ℕ) → AreSlots slots beside held →
    is_ok (resumed_from (slice_get slots (thread_in regs)) (client_in regs)) ≡ true → (call : PendingCall) × (call_resumed_by held regs ≡ Some call)
call_found slots beside held regs are ok =
    call_there (client_in regs) (slice_get slots (thread_in regs)) (slice_get beside (thread_in regs)) (slice_get held (thread_in regs)) (are (thread_in regs)) ok

-- ---- all of it

pub can_follow : (parts : Parts) (regs : List ℕ) (of : EntryDecision) → ∥ Replays parts ∥₁ → HasBox parts.blanks of → HasFound parts regs of → CanFollow parts regs of
can_follow parts regs (decision.Answers answer) fact blank found = tt
can_follow parts regs (decision.Begins call) fact blank found = can_take_slot parts call.value.entered call.value.plan fact blank found
can_follow parts regs (decision.GoesOn decided) fact blank found = can_go_on parts regs decided fact found
