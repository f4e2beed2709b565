-- The parts of a core where nothing has happened.
use Rattle.std.proofs.Common.{◌≡◌, ℕ, ◌≤◌, ◌^◌, List, [], ◌∷◌, length, Some, refl, sym, ◌∙◌, ap, subst, arith, zero, suc}
use Rattle.std.specs.Prelude.{map, replicate, slice_get, count_by, not, ◌-◌}
use Rattle.std.specs.Global.{Box}
use Rattle.std.proofs.Math.ListN.{length-replicate}
use Rattle.event_journal.specs.declared.event.Event.{Event}
use Rattle.ta_isa.specs.Boots.{IsBoot}
use Rattle.ta_isa.specs.declared.boot.Boot.{Boot}
use Rattle.kernel_model.specs.Application.{AreNatives, Native}
use Rattle.kernel_model.specs.History.{is_outside, kernel_after}
use Rattle.kernel_model.specs.Kernel.{first_kernel}
use Rattle.kernel_model.specs.Kernel as model
use Rattle.rpc_cont.specs.declared.cont.Cont.{Cont}
use Rattle.thread_slots.specs.declared.slot.Slot.{Slot}
use Rattle.thread_slots.specs.declared.slot.Slot.TheVariants.{Free}
use Rattle.kernel_state.specs.Setup.{boot_of, booted_of_setup, natives_of}
use Rattle.kernel_state.specs.Tables.{tables_of}
use Rattle.frame_pool.specs.Pool.{Frames}
use Rattle.kernel_model.specs.Instances.{free_pages}
use Rattle.kernel_state.specs.Processors.{processor_of}
use Rattle.kernel_state.specs.Replay.{Replays}
use Rattle.kernel_state.specs.StandsFor.{AreSlots, IsSlot, IsSlotAt, StandsFor}
use Rattle.kernel_state.specs.declared.cancellation.Cancellation.{Cancellation}
use Rattle.kernel_state.specs.declared.parts.Parts.{Parts}
use Rattle.kernel_state.specs.declared.processor.Processor.{Processor}
use Rattle.kernel_state.specs.declared.processor.Processor.TheVariants.{Outside}

free_slots : (beside : Cancellation) (none : Slot (Box (Cont (List ℕ)))) → none ≡ Free →
    (n slot : ℕ) → IsSlotAt (slice_get (replicate n none) slot) (slice_get (replicate n beside) slot) (slice_get (replicate n model.Free) slot)
free_slots beside none is zero slot = tt
free_slots beside none is (suc n) zero = subst (λ slot. IsSlot slot beside model.Free) (sym is) tt
free_slots beside none is (suc n) (suc slot) = free_slots beside none is n slot

outside : (n : ℕ) → map processor_of (replicate n Outside) ≡ replicate n model.Outside
outside zero = refl
outside (suc n) = ap (λ rest. model.Outside ∷ rest) (outside n)

none_inside : (n : ℕ) → count_by (λ processor. not (is_outside processor)) (replicate n model.Outside) ≡ 0
none_inside zero = refl
none_inside (suc n) = none_inside n

slots_first : (slots : List (Slot (Box (Cont (List ℕ))))) (cancellations : List Cancellation) (threads : ℕ) (beside : Cancellation) →
    slots ≡ replicate threads Free → cancellations ≡ replicate threads beside → AreSlots slots cancellations (replicate (length slots) model.Free)
slots_first slots cancellations threads beside free besides = rw (free, besides, length-replicate) (free_slots beside Free refl threads)

processors_first : (processors : List Processor) (cpus : ℕ) → processors ≡ replicate cpus Outside →
    map processor_of processors ≡ replicate (length processors) model.Outside
processors_first processors cpus all = rw (all, length-replicate) (outside cpus)

all_free : (n : ℕ) → n ≡ n - 0
all_free n = omega arith

none_is_few : (most : ℕ) → 0 ≤ most
none_is_few most = omega arith

-- parts made of tables where nothing is kept stand for the first kernel
pub first_stands : (parts : Parts) (beside : Cancellation) →
    parts.slots ≡ replicate parts.setup.threads Free →
    parts.cancellations.items ≡ replicate parts.setup.threads beside →
    parts.processors.items ≡ replicate parts.setup.cpus Outside →
    tables_of parts.tables ≡ model.first_tables →
    parts.tables.pool ≡ record { frames = parts.setup.frames; free = parts.setup.frames } →
    StandsFor parts (first_kernel (booted_of_setup parts.setup))
first_stands parts beside slots besides processors tables pool =
    let all_cpus : length parts.processors.items ≡ parts.setup.cpus = rw (processors, length-replicate) refl in
    let all_threads : length parts.slots ≡ parts.setup.threads = rw (slots, length-replicate) refl in
    record {
      cpus = all_cpus;
      threads = all_threads;
      slots = rw (sym all_threads) (slots_first parts.slots parts.cancellations.items parts.setup.threads beside slots besides);
      processors = rw (sym all_cpus) (processors_first parts.processors.items parts.setup.cpus processors);
      tables = tables;
      pages = record {
        frames = ap (λ (pool : Frames). pool.frames) pool;
        free = ap (λ (pool : Frames). pool.free) pool ∙ all_free parts.setup.frames
            ∙ sym (ap (λ (tables : model.Tables). free_pages (booted_of_setup parts.setup) tables.instances) tables);
      };
      room = omega (arith, none_inside parts.setup.cpus);
    }

-- where nothing has happened, they do
pub opened : (parts : Parts) (boot : Boot) (natives : List Native) →
    boot_of parts.setup ≡ boot → natives_of parts.setup ≡ natives → IsBoot boot → AreNatives boot natives →
    parts.journal.events ≡ [] → parts.journal.keeps ≡ parts.setup.terms.keeps → parts.setup.terms.most ≤ 2 ^ 63 → StandsFor parts (first_kernel (booted_of_setup parts.setup)) → ∥ Replays parts ∥₁
opened parts boot natives same_boot same_natives is_boot are_natives none keeps bounded stands =
    let comes : (events : List Event) → events ≡ [] → kernel_after (booted_of_setup parts.setup) events ≡ Some (first_kernel (booted_of_setup parts.setup)) = λ events is. ap (kernel_after (booted_of_setup parts.setup)) is in
    ∣ record {
      kernel = first_kernel (booted_of_setup parts.setup);
      is_boot = subst IsBoot (sym same_boot) is_boot;
      are_natives = subst (λ boot. AreNatives boot (natives_of parts.setup)) (sym same_boot) (subst (AreNatives boot) (sym same_natives) are_natives);
      comes_to = comes parts.journal.events none;
      stands = stands;
      keeps = keeps;
      few = rw none (none_is_few parts.setup.terms.most);
      bounded = bounded;
      agree = rw none tt;
    } ∣₁
