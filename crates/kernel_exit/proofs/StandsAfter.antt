-- The parts of a core behind an exit stand for the kernel that it comes to.
use Rattle.std.proofs.Common.{◌≡◌, ℕ, zero, suc, ◌+◌, ◌-◌, ◌<◌, ◌≤◌, Bool, List, [], ◌∷◌, ◌++◌, length, Option, Some, None, refl, sym, ◌∙◌, ap, subst, arith}
use Rattle.std.proofs.lemmas.List.{length-set, map-set}
use Rattle.std.proofs.lemmas.List.Sums.{sum_by-cons}
use Rattle.std.proofs.lemmas.Slice.Eq.{bytes_eq-Decides}
use Rattle.std.specs.Prelude.{slice_get, slice_set, map, not, cond, count_by, if◌then◌else◌}
use Rattle.std.specs.List.{AllByRecursion}
use Rattle.std.specs.Option.{option_and_then}
use Rattle.std.specs.Global.{Box}
use Rattle.event_journal.specs.Event.{copied_by}
use Rattle.event_journal.specs.Journal.{copied_bytes}
use Rattle.event_journal.specs.declared.event.Event.{Event}
use Rattle.event_journal.specs.declared.event.Event.TheVariants.{Exit}
use Rattle.event_log.specs.Log.{Contents}
use Rattle.kernel_model.specs.Application.{Booted}
use Rattle.kernel_model.specs.Exit.{Exited, exit, kernel_left, slot_left}
use Rattle.kernel_model.specs.History.{after_events, exit_to, is_outside, kernel_after}
use Rattle.kernel_model.specs.Kernel.{first_kernel, without_visitor}
use Rattle.kernel_model.specs.Kernel as model
use Rattle.kernel_model.specs.Leaving.{leaving_of}
use Rattle.kernel_model.proofs.Parts.{set_found, set_other}
use Rattle.kernel_model.proofs.Past.{after_events-append}
use Rattle.kernel_model.proofs.SoundSlots.{by_number}
use Rattle.kernel_state.specs.Processors.{processor_of}
use Rattle.kernel_state.specs.Reads.{ReadsAgree}
use Rattle.kernel_state.specs.StandsFor.{AreSlots, IsBeside, IsSlot, IsSlotAt, StandsFor}
use Rattle.kernel_state.specs.Tables.{HasFreePages, tables_of}
use Rattle.kernel_state.specs.declared.cancellation.Cancellation.{Cancellation}
use Rattle.kernel_state.specs.declared.parts.Parts.{Parts}
use Rattle.kernel_state.specs.declared.setup.Setup.{Setup}
use Rattle.kernel_state.specs.declared.processor.Processor.TheVariants.{Outside}
use Rattle.rpc_cont.specs.declared.cont.Cont.{Cont}
use Rattle.smc_abi.specs.declared.answer.Answer.{Answer}
use Rattle.smc_abi.specs.declared.regs.Regs.{Regs}
use Rattle.thread_slots.specs.declared.slot.Slot.{Slot}
use Rattle.thread_slots.specs.declared.slot.Slot.TheVariants.{Free, Active, Suspended}
use Rattle.kernel_exit.specs.GoingOut.{HasGoneOut}
use Rattle.kernel_exit.specs.Telling.{HoldsNow}
use Rattle.kernel_exit.proofs.ByLaws.{Stays}

-- ---- the slots

-- beside an active slot stands what the kernel's call has
active_beside : (there : Option (Slot (Box (Cont (List ℕ))))) (beside : Option Cancellation) (cpu : ℕ) (call : model.PendingCall) →
    IsSlotAt there beside (Some (model.Active cpu call)) →
    (slot : Slot (Box (Cont (List ℕ)))) × (there ≡ Some slot) × ((its : Cancellation) × (beside ≡ Some its) × IsBeside its call)
active_beside None None cpu call is = absurd is
active_beside None (Some beside) cpu call is = absurd is
active_beside (Some slot) None cpu call is = absurd is
active_beside (Some Free) (Some beside) cpu call is = absurd is
active_beside (Some (Active worker)) (Some beside) cpu call is = (Active worker, refl, (beside, refl, is.1))
active_beside (Some (Suspended client cont)) (Some beside) cpu call is = absurd is

beside_still : (beside : Cancellation) (before after : model.PendingCall) → Stays before after → IsBeside beside before → IsBeside beside after
beside_still beside before after stays is = record {
  session = is.session ∙ sym stays.session;
  cancel_id = is.cancel_id ∙ sym stays.cancel_id;
  marked = is.marked ∙ sym stays.marked;
}

-- one slot is set
slots_set : (slots : List (Slot (Box (Cont (List ℕ))))) (beside : List Cancellation) (held : List model.ThreadSlot) (slot : ℕ)
    (was now : Slot (Box (Cont (List ℕ)))) (its : Cancellation) (before after : model.ThreadSlot) → AreSlots slots beside held →
    slice_get slots slot ≡ Some was → slice_get beside slot ≡ Some its → slice_get held slot ≡ Some before → IsSlot now its after →
    AreSlots (slice_set slots slot now) beside (slice_set held slot after)
slots_set slots beside held slot was now its before after are there by_it kept is other =
    by_number slot other here away
  where
    here : slot ≡ other → IsSlotAt (slice_get (slice_set slots slot now) other) (slice_get beside other) (slice_get (slice_set held slot after) other)
    here same = subst (λ (n : ℕ). IsSlotAt (slice_get (slice_set slots slot now) n) (slice_get beside n) (slice_get (slice_set held slot after) n)) same
        (subst (λ (one : Option (Slot (Box (Cont (List ℕ))))). IsSlotAt one (slice_get beside slot) (slice_get (slice_set held slot after) slot)) (sym (set_found slots slot now was there))
        (subst (λ (one : Option Cancellation). IsSlotAt (Some now) one (slice_get (slice_set held slot after) slot)) (sym by_it)
        (subst (λ (one : Option model.ThreadSlot). IsSlotAt (Some now) (Some its) one) (sym (set_found held slot after before kept)) is)))

    away : (slot ≡ other → ⊥) → IsSlotAt (slice_get (slice_set slots slot now) other) (slice_get beside other) (slice_get (slice_set held slot after) other)
    away apart =
        subst (λ (one : Option (Slot (Box (Cont (List ℕ))))). IsSlotAt one (slice_get beside other) (slice_get (slice_set held slot after) other)) (sym (set_other slots slot other now apart))
        (subst (λ (one : Option model.ThreadSlot). IsSlotAt (slice_get slots other) (slice_get beside other) one) (sym (set_other held slot other after apart)) (are other))

-- ---- behind the call

-- the parts with what its call has come to stand for the kernel with that
pub left_stands : (old new : Parts) (kernel : model.Kernel) (slot cpu : ℕ) (call : model.PendingCall) (progress : model.Progress)
    (lane now : List ℕ) (answer : Answer) → StandsFor old kernel → slice_get kernel.slots slot ≡ Some (model.Active cpu call) → Stays call progress.call →
    HasGoneOut old new slot lane now answer progress → HasFreePages old.setup new.tables →
    new ≡ record old { slots = new.slots; tables = new.tables; blanks = new.blanks } → StandsFor new (kernel_left kernel slot progress (leaving_of slot progress.call))
left_stands old new kernel slot cpu call progress lane now answer stands active stays gone pages same =
    let left : model.ThreadSlot = slot_left progress.call (leaving_of slot progress.call) in
    let was = active_beside (slice_get old.slots slot) (slice_get old.cancellations.items slot) cpu call
    (subst (λ (held : Option model.ThreadSlot). IsSlotAt (slice_get old.slots slot) (slice_get old.cancellations.items slot) held) active (stands.slots slot)) in
    let its : Cancellation = was.2.0 in
    let holds : HoldsNow old.slots new.slots slot its left = gone.slot_is its (beside_still its call progress.call stays was.2.2) in
    let besides : new.cancellations.items ≡ old.cancellations.items = ap (λ (p : Parts). p.cancellations.items) same in
    record {
      cpus = ap (λ (p : Parts). length p.processors.items) same ∙ stands.cpus ∙ sym (ap (λ (p : Parts). p.setup.cpus) same);
      threads = ap length holds.set ∙ length-set old.slots slot holds.now ∙ stands.threads ∙ sym (ap (λ (p : Parts). p.setup.threads) same);
      slots = subst (λ (slots : List (Slot (Box (Cont (List ℕ))))). AreSlots slots new.cancellations.items (slice_set kernel.slots slot left)) (sym holds.set)
          (subst (λ (beside : List Cancellation). AreSlots (slice_set old.slots slot holds.now) beside (slice_set kernel.slots slot left)) (sym besides)
          (slots_set old.slots old.cancellations.items kernel.slots slot was.0 holds.now its (model.Active cpu call) left stands.slots was.1 was.2.1 active holds.is));
      processors = ap (λ (p : Parts). map processor_of p.processors.items) same ∙ stands.processors;
      tables = gone.tables;
      pages = subst (λ (setup : Setup). HasFreePages setup new.tables) (sym (ap (λ (p : Parts). p.setup) same)) pages;
      room = subst (λ (spare : ℕ). count_by (λ processor. not (is_outside processor)) kernel.processors ≤ spare) (sym (ap (λ (p : Parts). p.journal.spare) same)) stands.room;
    }

-- ---- the processor goes

-- so many are inside
abbrev inside_in : List model.Processor → ℕ
inside_in processors = count_by (λ processor. not (is_outside processor)) processors

one_fewer : (processors : List model.Processor) (cpu : ℕ) (regs : List ℕ) (steps : ℕ) (errand : model.Errand) →
    slice_get processors cpu ≡ Some (model.Inside regs steps errand) → inside_in (slice_set processors cpu model.Outside) + 1 ≡ inside_in processors
one_fewer [] cpu regs steps errand there = absurd cc
one_fewer (p ∷ ps) zero regs steps errand there =
    let is : p ≡ model.Inside regs steps errand = cc in
    let first = sum_by-cons (λ (one : model.Processor). cond (not (is_outside one)) 1 0) p ps in
    let other = sum_by-cons (λ (one : model.Processor). cond (not (is_outside one)) 1 0) model.Outside ps in
    let counts : ◌≡◌ {A = ℕ} (cond (not (is_outside p)) 1 0) 1 = ap (λ (one : model.Processor). cond (not (is_outside one)) 1 0) is in
    omega (arith, first, other, counts)
one_fewer (p ∷ ps) (suc cpu) regs steps errand there =
    let first = sum_by-cons (λ (one : model.Processor). cond (not (is_outside one)) 1 0) p ps in
    let other = sum_by-cons (λ (one : model.Processor). cond (not (is_outside one)) 1 0) p (slice_set ps cpu model.Outside) in
    let rest = one_fewer ps cpu regs steps errand there in
    omega (arith, first, other, rest)

pub some_inside : (processors : List model.Processor) (cpu : ℕ) (regs : List ℕ) (steps spare : ℕ) (errand : model.Errand) →
    slice_get processors cpu ≡ Some (model.Inside regs steps errand) → inside_in processors ≤ spare → 0 < spare
some_inside processors cpu regs steps spare errand there room = let fewer = one_fewer processors cpu regs steps errand there in omega (arith, fewer, room)

-- the parts with a processor outside stand for the kernel with it outside
pub out_stands : (old new : Parts) (kernel : model.Kernel) (visit : model.Visit) (errand : model.Errand) (told : Regs) → StandsFor old kernel →
    slice_get kernel.processors visit.cpu ≡ Some (model.Inside visit.regs visit.steps errand) →
    new.processors.items ≡ slice_set old.processors.items visit.cpu Outside →
    new.journal ≡ record old.journal { events = old.journal.events ++ Exit visit.cpu told ∷ []; spare = old.journal.spare - 1 } →
    new ≡ record old { processors = new.processors; journal = new.journal } → StandsFor new (without_visitor kernel visit)
out_stands old new kernel visit errand told stands inside processors journal same =
    let spare : new.journal.spare ≡ old.journal.spare - 1 = ap (λ (j : Contents). j.spare) journal in
    let fewer = one_fewer kernel.processors visit.cpu visit.regs visit.steps errand inside in
    let room = stands.room in
    record {
      cpus = ap length processors ∙ length-set old.processors.items visit.cpu Outside ∙ stands.cpus ∙ sym (ap (λ (p : Parts). p.setup.cpus) same);
      threads = ap (λ (p : Parts). length p.slots) same ∙ stands.threads ∙ sym (ap (λ (p : Parts). p.setup.threads) same);
      slots = subst (λ (p : Parts). AreSlots p.slots p.cancellations.items kernel.slots) (sym same) stands.slots;
      processors = ap (map processor_of) processors ∙ map-set processor_of old.processors.items visit.cpu Outside
          ∙ ap (λ (all : List model.Processor). slice_set all visit.cpu model.Outside) stands.processors;
      tables = ap (λ (p : Parts). tables_of p.tables) same ∙ stands.tables;
      pages = subst (λ (p : Parts). HasFreePages p.setup p.tables) (sym same) stands.pages;
      room = subst (λ (n : ℕ). inside_in (slice_set kernel.processors visit.cpu model.Outside) ≤ n) (sym spare) (omega (arith, fewer, room));
    }

-- ---- the events

-- with an exit behind them they come to its kernel
pub comes_behind : (boot : Booted) (events : List Event) (kernel : model.Kernel) (cpu : ℕ) (told : Regs) (exited : Exited) →
    kernel_after boot events ≡ Some kernel → exit kernel cpu ≡ Some exited → told.a ≡ exited.regs →
    kernel_after boot (events ++ Exit cpu told ∷ []) ≡ Some exited.kernel
comes_behind boot events kernel cpu told exited comes is same =
    let onward : model.Kernel → Option model.Kernel = λ next. after_events boot next [] in
    after_events-append boot (first_kernel boot) events (Exit cpu told ∷ [])
    ∙ ap (λ (o : Option model.Kernel). option_and_then (λ k. after_events boot k (Exit cpu told ∷ [])) o) comes
    ∙ ap (λ (o : Option Exited). option_and_then onward (option_and_then (exit_to told.a) o)) is
    ∙ ap (λ (yes : Bool). option_and_then onward (if yes then Some exited.kernel else None)) ((bytes_eq-Decides exited.regs told.a).1 (sym same))

-- an exit copies nothing
pub few_behind : (events : List Event) (cpu : ℕ) (told : Regs) → copied_bytes (events ++ Exit cpu told ∷ []) ≡ copied_bytes events
few_behind [] cpu told = sum_by-cons copied_by (Exit cpu told) []
few_behind (first ∷ events) cpu told =
    sum_by-cons copied_by first (events ++ Exit cpu told ∷ []) ∙ ap (λ (n : ℕ). copied_by first + n) (few_behind events cpu told)
    ∙ sym (sum_by-cons copied_by first events)

-- and reads nothing
pub agree_behind : (events : List Event) (cpu : ℕ) (told : Regs) → AllByRecursion ReadsAgree events → AllByRecursion ReadsAgree (events ++ Exit cpu told ∷ [])
agree_behind [] cpu told all = (tt, tt)
agree_behind (first ∷ events) cpu told all = (all.0, agree_behind events cpu told all.1)
