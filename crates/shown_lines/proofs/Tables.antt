-- What is told of the tables of a core is told of its kernel.
use Rattle.std.proofs.Common.{◌≡◌, ℕ, ◌<◌, Bool, List, [], ◌∷◌, ◌++◌, length, get_or, map, Option, Some, Result, Ok, Err, refl, suc, sym, ap, subst, ◌∙◌, arith, inl, inr}
use Rattle.std.proofs.Math.Logic.{∥∥₁_elim}
use Rattle.std.proofs.Props.{props}
use Rattle.std.proofs.lemmas.Option.{get_or_from_slice_get, slice_get-map, slice_get_cases, slice_get_read}
use Rattle.std.specs.Prelude.{OnOk, slice_get}
use Rattle.std.specs.Global.{Box}
use Rattle.std.specs.Option.{option_map}
use Rattle.event_journal.specs.declared.event.Event.{Event}
use Rattle.kernel_model.specs.Application.{Booted}
use Rattle.kernel_model.specs.History.{kernel_after}
use Rattle.kernel_model.specs.Kernel.{Kernel, ThreadSlot}
use Rattle.kernel_state.specs.Processors.{processor_of}
use Rattle.kernel_state.specs.Replay.{Replays}
use Rattle.kernel_state.specs.Setup.{booted_of_setup}
use Rattle.kernel_state.specs.StandsFor.{AreSlots, IsSlotAt}
use Rattle.kernel_state.specs.declared.cancellation.Cancellation.{Cancellation}
use Rattle.kernel_state.specs.declared.processor.Processor.{Processor}
use Rattle.kernel_state.specs.declared.parts.Parts.{Parts}
use Rattle.live_play.specs.Showing.{answer_of_kernel}
use Rattle.live_play.specs.State.{count_lines, inside_lines, instance_lines, masked_lines, slot_lines, state_text, text_if, texts_below}
use Rattle.live_text.specs.declared.question.Question.{Question}
use Rattle.rpc_cont.specs.declared.cont.Cont.{Cont}
use Rattle.thread_slots.specs.declared.slot.Slot.{Slot}
use Rattle.shown_lines.specs.Asking.{CanTell}
use Rattle.shown_lines.proofs.Texts.{more}

-- ---- slots

abbrev HeldSlot : Type 0
HeldSlot = Slot (Box (Cont (List ℕ)))

-- the slot of this number
pub slot_there : (slots : List HeldSlot) (besides : List Cancellation) (held : List ThreadSlot) (number : ℕ)
    (slot : HeldSlot) → number < length slots → slot ≡ get_or slots number slot → AreSlots slots besides held
    → IsSlotAt (Some slot) (slice_get besides number) (slice_get held number)
slot_there slots besides held number slot below is are =
    let P : Option HeldSlot → Type 0 = λ o. IsSlotAt o (slice_get besides number) (slice_get held number) in
    subst P (slice_get_read slots (length slots) number slot refl below is) (are number)

as_long : (slots : List HeldSlot) (besides : List Cancellation) (held : List ThreadSlot) → AreSlots slots besides held
    → length held ≡ length slots
as_long [] [] [] are = refl
as_long [] (b ∷ bs) held are = absurd (are 0)
as_long [] [] (h ∷ hs) are = absurd (are 0)
as_long (s ∷ ss) [] held are = absurd (are 0)
as_long (s ∷ ss) (b ∷ bs) [] are = absurd (are 0)
as_long (s ∷ ss) (b ∷ bs) (h ∷ hs) are =
    let rest = as_long ss bs hs (λ slot. are (suc slot)) in cc

-- a line of each, or none
pub all_slots : (line : ℕ → ThreadSlot → List ℕ) (slots : List HeldSlot) (besides : List Cancellation) (held : List ThreadSlot)
    (number : ℕ) (start text : List ℕ) → number ≡ length slots → AreSlots slots besides held
    → text ≡ start ++ texts_below number (λ number. text_if (line number) (slice_get held number))
    → text ≡ start ++ texts_below (length held) (λ number. text_if (line number) (slice_get held number))
all_slots line slots besides held number start text all are so_far =
    so_far
    ∙ ap (λ n. start ++ texts_below n (λ number. text_if (line number) (slice_get held number)))
    (all ∙ sym (as_long slots besides held are))

-- ---- processors

got_there : (processors : List Processor) (cpu : ℕ) (none : Processor) → cpu < length processors
    → slice_get processors cpu ≡ Some (get_or processors cpu none)
got_there processors cpu none below = elim (slice_get_cases processors cpu).1 [
  | inl there ↦ there.2 ∙ ap Some (sym (get_or_from_slice_get processors cpu there.0 none there.2))
  | inr past ↦ absurd (omega (arith, past.0))
]

pub inside_there : (processors : List Processor) (cpu : ℕ) (none : Processor) → cpu < length processors
    → slice_get (map processor_of processors) cpu ≡ Some (processor_of (get_or processors cpu none))
inside_there processors cpu none below =
    slice_get-map processor_of processors cpu ∙ ap (option_map processor_of) (got_there processors cpu none below)

-- ---- all of it

pub state_told : {E : Type 0} (result : Result (Unit {0}) E) (boot : Booted) (kernel : Kernel) (events : List Event)
    (start slots masks insides instances all : List ℕ) → slots ≡ start ++ slot_lines kernel.slots
    → masks ≡ slots ++ masked_lines kernel.slots
    → insides ≡ masks ++ inside_lines kernel.processors → instances ≡ insides ++ instance_lines kernel.tables
    → OnOk result (all ≡ instances ++ count_lines boot kernel events)
    → OnOk result (all ≡ start ++ state_text boot kernel events)
state_told (Ok done) boot kernel events start slots masks insides instances all one two three four five =
    let a : List ℕ = slot_lines kernel.slots in
    let b : List ℕ = masked_lines kernel.slots in
    let d : List ℕ = inside_lines kernel.processors in
    let e : List ℕ = instance_lines kernel.tables in
    let f : List ℕ = count_lines boot kernel events in
    more start (a ++ b ++ d ++ e) instances f all
    (more start (a ++ b ++ d) insides e instances (more start (a ++ b) masks d insides (more start a slots b masks one two) three) four)
    five
state_told (Err fault) boot kernel events start slots masks insides instances all one two three four five = tt

-- each core has a kernel
pub kernel_told : {E : Type 0} (result : Result (Unit {0}) E) (parts : Parts) (question : Question) (old new : List ℕ)
    → ((so : Replays parts) → OnOk result (new ≡ old ++ answer_of_kernel (booted_of_setup parts.setup) so.kernel parts.journal.events question))
    → ∥ Replays parts ∥₁
    → OnOk result (option_map (λ (kernel : Kernel). old ++ answer_of_kernel (booted_of_setup parts.setup) kernel parts.journal.events question)
    (kernel_after (booted_of_setup parts.setup) parts.journal.events) ≡ Some new)
kernel_told (Ok done) parts question old new tells fact = ∥∥₁_elim fact (Prim.hlevel props) (λ (so : Replays parts).
    ap (option_map (λ (kernel : Kernel). old ++ answer_of_kernel (booted_of_setup parts.setup) kernel parts.journal.events question)) so.comes_to
    ∙ ap Some (sym (tells so)))
kernel_told (Err fault) parts question old new tells fact = tt

-- a log keeps its events where its core does
pub can_tell : (parts : Parts) (question : Question) → CanTell parts.setup.terms.keeps question → ∥ Replays parts ∥₁
    → CanTell parts.journal.keeps question
can_tell parts question can fact = subst (λ (b : Bool). CanTell b question) (sym (∥∥₁_elim fact (Prim.hlevel props) (λ (so : Replays parts). so.keeps))) can
