-- What a core tells of its kernel, by its parts.
use Rattle.std.proofs.Common.{◌≡◌, ℕ, ◌+◌, ◌^◌, ◌<◌, ◌≤◌, List, [], ◌∷◌, length, get_or, ap₂, Bool, false, Option, Some, None, refl, sym, ◌∙◌, ap, suc, arith}
use Rattle.std.proofs.Math.Logic.{∥∥₁_elim}
use Rattle.std.proofs.Props.{props}
use Rattle.std.proofs.lemmas.Option.{slice_get-map, slice_get_past, slice_get_read}
use Rattle.std.proofs.lemmas.List.Sums.{sum_by-cons}
use Rattle.std.specs.Prelude.{IsSome, not, slice_get, count_by, cond}
use Rattle.std.specs.List.{AllByRecursion, AllByRecursion-prop}
use Rattle.std.specs.Option.{option_map, option_map_or}
use Rattle.std.specs.Global.{Box}
use Rattle.event_journal.specs.Journal.{copied_bytes}
use Rattle.event_journal.specs.declared.event.Event.{Event}
use Rattle.event_journal.specs.declared.event.Event.TheVariants.{Entry, Exit}
use Rattle.kernel_model.specs.Application.{AreNatives, Booted, Native}
use Rattle.kernel_model.specs.History.{IsLegal, is_outside, kernel_after}
use Rattle.kernel_model.specs.Instances.{free_pages}
use Rattle.kernel_model.specs.Kernel.{Kernel}
use Rattle.kernel_model.specs.Kernel as model
use Rattle.kernel_model.specs.Turns.{ReadsRam}
use Rattle.kernel_model.proofs.ReadsOfRam.{histories_read_ram}
use Rattle.rpc_cont.specs.declared.cont.Cont.{Cont}
use Rattle.ta_isa.specs.Boots.{IsBoot}
use Rattle.ta_isa.specs.Spelling.{IsValid}
use Rattle.ta_isa.specs.declared.boot.Boot.{Boot}
use Rattle.ta_isa.specs.declared.image.Image.{Image}
use Rattle.thread_slots.specs.Slot.{is_free}
use Rattle.thread_slots.specs.declared.slot.Slot.{Slot}
use Rattle.thread_slots.specs.declared.slot.Slot.TheVariants.{Free, Active, Suspended}
use Rattle.kernel_state.specs.Meaning.{free_pages_in, free_slots_in, is_inside}
use Rattle.kernel_state.specs.Processors.{processor_of}
use Rattle.kernel_state.specs.Reads.{ReadsAgree}
use Rattle.kernel_state.specs.Replay.{Replays}
use Rattle.kernel_state.specs.StandsFor.{AreSlots, IsSlot, StandsFor}
use Rattle.kernel_state.specs.Setup.{boot_of, booted_of_setup, natives_of}
use Rattle.kernel_state.specs.declared.cancellation.Cancellation.{Cancellation}
use Rattle.kernel_state.specs.declared.parts.Parts.{Parts}
use Rattle.kernel_state.specs.declared.processor.Processor.{Processor}

-- ---- the journal

valid_prop : (image : Image) → IsProp (IsValid image)
valid_prop image = Prim.hlevel props

boot_prop : (boot : Boot) → IsProp (IsBoot boot)
boot_prop boot = Prim.hlevel (props, valid_prop)

natives_prop : (boot : Boot) (natives : List Native) → IsProp (AreNatives boot natives)
natives_prop boot natives = Prim.hlevel props

follows_prop : (boot : Booted) (events : List Event) → IsProp (IsSome (kernel_after boot events))
follows_prop boot events = Prim.hlevel props

pub is_legal : (parts : Parts) → ∥ Replays parts ∥₁ → IsLegal (booted_of_setup parts.setup) parts.journal.events
is_legal parts fact = record {
  boots = record {
    boot = boot_of parts.setup;
    natives = natives_of parts.setup;
    is_boot = ∥∥₁_elim fact (boot_prop (boot_of parts.setup)) (λ (so : Replays parts). so.is_boot);
    are_natives = ∥∥₁_elim fact (natives_prop (boot_of parts.setup) (natives_of parts.setup)) (λ (so : Replays parts). so.are_natives);
    same = refl;
  };
  follows = ∥∥₁_elim fact (follows_prop (booted_of_setup parts.setup) parts.journal.events) (λ (so : Replays parts). rw so.comes_to refl);
}

few_within : (copied most : ℕ) → copied ≤ most → most ≤ 2 ^ 63 → copied ≤ 2 ^ 63
few_within copied most few bounded = omega arith

-- a core that is to keep its events does
pub kept_so : (parts : Parts) → ∥ Replays parts ∥₁ → parts.journal.keeps ≡ parts.setup.terms.keeps
kept_so parts fact = ∥∥₁_elim fact (Prim.hlevel props) (λ (so : Replays parts). so.keeps)

pub few_bytes : (parts : Parts) → ∥ Replays parts ∥₁ → copied_bytes parts.journal.events ≤ parts.setup.terms.most
few_bytes parts fact = ∥∥₁_elim fact (Prim.hlevel props) (λ (so : Replays parts). so.few)

-- on any terms
pub few_events : (parts : Parts) → ∥ Replays parts ∥₁ → copied_bytes parts.journal.events ≤ 2 ^ 63
few_events parts fact = ∥∥₁_elim fact (Prim.hlevel props) (λ (so : Replays parts).
    few_within (copied_bytes parts.journal.events) parts.setup.terms.most so.few so.bounded)

agree_prop : (event : Event) → IsProp (ReadsAgree event)
agree_prop (Entry cpu regs steps reads) = Prim.hlevel props
agree_prop (Exit cpu regs) = Prim.hlevel props

pub reads_agree : (parts : Parts) → ∥ Replays parts ∥₁ → AllByRecursion ReadsAgree parts.journal.events
reads_agree parts fact = ∥∥₁_elim fact (AllByRecursion-prop ReadsAgree agree_prop parts.journal.events) (λ (so : Replays parts). so.agree)

pub reads_ram : (parts : Parts) → ∥ Replays parts ∥₁ → AllByRecursion ReadsRam parts.journal.events
reads_ram parts fact = histories_read_ram (booted_of_setup parts.setup) parts.journal.events (is_legal parts fact)

-- ---- what is asked of the kernel

-- what is asked of the kernel, where each that the parts stand for answers so
answer_told : {A : Type 0} → IsSet A → (parts : Parts) (ask : Kernel → A) (answer : A) →
    ((kernel : Kernel) → StandsFor parts kernel → ask kernel ≡ answer) → ∥ Replays parts ∥₁ →
    option_map ask (kernel_after (booted_of_setup parts.setup) parts.journal.events) ≡ Some answer
answer_told is_set parts ask answer tells fact = ∥∥₁_elim fact (Prim.hlevel (props, is_set)) (λ (so : Replays parts).
    ap (option_map ask) so.comes_to ∙ ap Some (tells so.kernel so.stands))

-- ---- slots

one_free : (slot : Slot (Box (Cont (List ℕ)))) (beside : Cancellation) (held : model.ThreadSlot) →
    IsSlot slot beside held → model.is_free held ≡ is_free slot
one_free Free beside model.Free is = refl
one_free Free beside (model.Active worker call) is = absurd is
one_free Free beside (model.Suspended owner call) is = absurd is
one_free (Active cpu) beside model.Free is = absurd is
one_free (Active cpu) beside (model.Active worker call) is = refl
one_free (Active cpu) beside (model.Suspended owner call) is = absurd is
one_free (Suspended client cont) beside model.Free is = absurd is
one_free (Suspended client cont) beside (model.Active worker call) is = absurd is
one_free (Suspended client cont) beside (model.Suspended owner call) is = refl

as_many_free : (slots : List (Slot (Box (Cont (List ℕ))))) (beside : List Cancellation) (held : List model.ThreadSlot) →
    AreSlots slots beside held → count_by model.is_free held ≡ count_by is_free slots
as_many_free [] [] [] are = refl
as_many_free [] (b ∷ bs) held are = absurd (are 0)
as_many_free [] [] (h ∷ hs) are = absurd (are 0)
as_many_free (s ∷ ss) [] held are = absurd (are 0)
as_many_free (s ∷ ss) (b ∷ bs) [] are = absurd (are 0)
as_many_free (s ∷ ss) (b ∷ bs) (h ∷ hs) are =
    let here : model.is_free h ≡ is_free s = one_free s b h (are 0) in
    let rest : count_by model.is_free hs ≡ count_by is_free ss = as_many_free ss bs hs (λ slot. are (suc slot)) in
    sum_by-cons (λ (held : model.ThreadSlot). cond (model.is_free held) 1 0) h hs
    ∙ ap₂ (λ (free : Bool) (n : ℕ). cond free 1 0 + n) here rest
    ∙ sym (sum_by-cons (λ slot. cond (is_free slot) 1 0) s ss)

pub free_slots_told : (parts : Parts) (free : ℕ) → free ≡ count_by is_free parts.slots → ∥ Replays parts ∥₁ →
    option_map free_slots_in (kernel_after (booted_of_setup parts.setup) parts.journal.events) ≡ Some free
free_slots_told parts free is = answer_told (Prim.hlevel props) parts free_slots_in free (λ kernel stands.
    as_many_free parts.slots parts.cancellations.items kernel.slots stands.slots ∙ sym is)

-- ---- pages

pub free_pages_told : (parts : Parts) (free : ℕ) → free ≡ parts.tables.pool.free → ∥ Replays parts ∥₁ →
    option_map (free_pages_in (booted_of_setup parts.setup)) (kernel_after (booted_of_setup parts.setup) parts.journal.events) ≡ Some free
free_pages_told parts free is = answer_told (Prim.hlevel props) parts (free_pages_in (booted_of_setup parts.setup)) free (λ kernel stands.
    sym (ap (λ (tables : model.Tables). free_pages (booted_of_setup parts.setup) tables.instances) stands.tables) ∙ sym stands.pages.free ∙ sym is)

-- ---- processors

-- that of this number is inside, or not, as what is found there
found_told : (parts : Parts) (cpu : ℕ) (found : Option Processor) (answer : Bool) →
    slice_get parts.processors.items cpu ≡ found →
    option_map_or (λ (processor : model.Processor). not (is_outside processor)) (option_map processor_of found) false ≡ answer →
    ∥ Replays parts ∥₁ →
    option_map (is_inside cpu) (kernel_after (booted_of_setup parts.setup) parts.journal.events) ≡ Some answer
found_told parts cpu found answer is so = answer_told (Prim.hlevel props) parts (is_inside cpu) answer (λ kernel stands.
    ap (λ (processors : List model.Processor). option_map_or (λ (processor : model.Processor). not (is_outside processor)) (slice_get processors cpu) false) (sym stands.processors)
    ∙ ap (λ (one : Option model.Processor). option_map_or (λ (processor : model.Processor). not (is_outside processor)) one false)
    (slice_get-map processor_of parts.processors.items cpu ∙ ap (option_map processor_of) is)
    ∙ so)

pub inside_told : (parts : Parts) (cpu : ℕ) (processor : Processor) (answer : Bool) →
    cpu < length parts.processors.items → processor ≡ get_or parts.processors.items cpu processor →
    answer ≡ not (is_outside (processor_of processor)) → ∥ Replays parts ∥₁ →
    option_map (is_inside cpu) (kernel_after (booted_of_setup parts.setup) parts.journal.events) ≡ Some answer
inside_told parts cpu processor answer below is so =
    found_told parts cpu (Some processor) answer (slice_get_read parts.processors.items (length parts.processors.items) cpu processor refl below is) (sym so)

pub absent_told : (parts : Parts) (cpu : ℕ) → length parts.processors.items ≤ cpu → ∥ Replays parts ∥₁ →
    option_map (is_inside cpu) (kernel_after (booted_of_setup parts.setup) parts.journal.events) ≡ Some false
absent_told parts cpu past = found_told parts cpu None false (slice_get_past parts.processors.items cpu past) refl
