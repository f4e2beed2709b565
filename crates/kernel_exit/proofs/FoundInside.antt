-- What a processor that goes out is to the kernel, and what it carries.
use Rattle.std.proofs.Common.{◌≡◌, ℕ, List, Option, Some, None, refl, sym, ◌∙◌, ap, subst}
use Rattle.std.proofs.Math.Logic.{∥∥₁_elim, ∥∥₁_map}
use Rattle.std.proofs.Props.{props}
use Rattle.std.proofs.lemmas.Option.{same_Some, slice_get-map}
use Rattle.std.specs.Prelude.{IsSomeAnd, slice_get, map}
use Rattle.std.specs.Global.{Box}
use Rattle.job_model.specs.Job.{Job}
use Rattle.kernel_model.specs.History.{kernel_after}
use Rattle.kernel_model.specs.Kernel as model
use Rattle.kernel_model.proofs.Parts.{option_map_some}
use Rattle.kernel_state.specs.Calls.{IsCall}
use Rattle.kernel_state.specs.Processors.{errand_of, processor_of}
use Rattle.kernel_state.specs.Replay.{Replays}
use Rattle.kernel_state.specs.Setup.{booted_of_setup}
use Rattle.kernel_state.specs.StandsFor.{IsSlotAt, StandsFor}
use Rattle.kernel_state.specs.Tables.{HasFreePages, tables_of}
use Rattle.kernel_state.specs.Work.{IsCarriedAs, IsCarriedFor, IsCarriedIn, IsCarriedOn, IsRanFor, IsRanOf, IsWorkIn}
use Rattle.kernel_state.specs.declared.cancellation.Cancellation.{Cancellation}
use Rattle.kernel_state.specs.declared.carried.Carried.{Carried}
use Rattle.kernel_state.specs.declared.carried.Carried.TheVariants.{Nothing, Resting, Running}
use Rattle.kernel_state.specs.declared.parts.Parts.{Parts}
use Rattle.kernel_state.specs.declared.processor.Errand.{Errand}
use Rattle.kernel_state.specs.declared.processor.Processor.{Processor}
use Rattle.kernel_state.specs.declared.processor.Processor.TheVariants.{Outside, Inside}
use Rattle.kernel_state.specs.declared.work.Ran.{Ran}
use Rattle.kernel_state.specs.declared.work.Work.{Work}
use Rattle.rpc_cont.specs.declared.cont.Cont.{Cont}
use Rattle.rpc_cont.specs.declared.stop.ContStop.{ContStop}
use Rattle.smc_abi.specs.declared.regs.Regs.{Regs}
use Rattle.thread_slots.specs.Slot.{IsActive}
use Rattle.thread_slots.specs.declared.slot.Slot.{Slot}
use Rattle.thread_slots.specs.declared.slot.Slot.TheVariants.{Free, Active, Suspended}
use Rattle.kernel_exit.proofs.OneWay.{active_prop, inside_prop}
use Rattle.kernel_exit.specs.Ending.{IsAtRest}
use Rattle.kernel_exit.specs.GoingOut.{IsCarriedOut, IsInside, IsInsideFor, call_carried}

-- ---- the kernel

-- the kernel that the events come to, for which the processor went to work
pub record Found (parts : Parts) (ran : Ran) : Type 0 where
  pub kernel : model.Kernel
  pub comes : kernel_after (booted_of_setup parts.setup) parts.journal.events ≡ Some kernel
  pub is : IsRanFor kernel ran

pub found : (parts : Parts) (ran : Ran) →
    IsSomeAnd (kernel_after (booted_of_setup parts.setup) parts.journal.events) (λ kernel. IsRanFor kernel ran) → Found parts ran
found parts ran can = by (kernel_after (booted_of_setup parts.setup) parts.journal.events) refl can
  where
    by : (kernel : Option model.Kernel) → kernel_after (booted_of_setup parts.setup) parts.journal.events ≡ kernel →
        IsSomeAnd kernel (λ kernel. IsRanFor kernel ran) → Found parts ran
    by None e can = absurd can
    by (Some kernel) e can = record { kernel = kernel; comes = e; is = can }

-- the parts stand for it
pub stands_for : (parts : Parts) (kernel : model.Kernel) → ∥ Replays parts ∥₁ →
    kernel_after (booted_of_setup parts.setup) parts.journal.events ≡ Some kernel → ∥ StandsFor parts kernel ∥₁
stands_for parts kernel fact comes = ∥∥₁_map fact (λ (so : Replays parts).
    subst (λ (k : model.Kernel). StandsFor parts k) (same_Some so.kernel kernel (sym so.comes_to ∙ comes)) so.stands)

tables_set : IsSet model.Tables
tables_set = Prim.hlevel props

processor_set : IsSet model.Processor
processor_set = Prim.hlevel props

pub tables_are : (parts : Parts) (kernel : model.Kernel) → ∥ StandsFor parts kernel ∥₁ → tables_of parts.tables ≡ kernel.tables
tables_are parts kernel stands = ∥∥₁_elim stands (Prim.hlevel (props, tables_set)) (λ (so : StandsFor parts kernel). so.tables)

pub processors_are : (parts : Parts) (kernel : model.Kernel) → ∥ StandsFor parts kernel ∥₁ → map processor_of parts.processors.items ≡ kernel.processors
processors_are parts kernel stands = ∥∥₁_elim stands (Prim.hlevel (props, processor_set)) (λ (so : StandsFor parts kernel). so.processors)

pub pages_are : (parts : Parts) (kernel : model.Kernel) → ∥ StandsFor parts kernel ∥₁ → HasFreePages parts.setup parts.tables
pages_are parts kernel stands = ∥∥₁_elim stands (Prim.hlevel props) (λ (so : StandsFor parts kernel). so.pages)

-- ---- the processor

-- the kernel's processor is inside with these registers, and carries what it came for
pub record GoesOut (kernel : model.Kernel) (ran : Ran) (regs : List ℕ) (errand : model.Errand) : Type 0 where
  pub steps : ℕ
  pub inside : slice_get kernel.processors ran.cpu ≡ Some (model.Inside regs steps errand)
  pub work : Work
  pub granted : work.steps ≡ steps
  pub carried : IsCarriedIn kernel ran.cpu work.call errand
  pub has_run : IsRanOf work ran

pub record GoesOutSomehow (kernel : model.Kernel) (ran : Ran) : Type 0 where
  pub regs : List ℕ
  pub errand : model.Errand
  pub goes : GoesOut kernel ran regs errand

goes_out_so : (kernel : model.Kernel) (ran : Ran) → IsRanFor kernel ran → GoesOutSomehow kernel ran
goes_out_so kernel ran is = by (slice_get kernel.processors is.work.cpu) refl is.fits
  where
    by : (there : Option model.Processor) → slice_get kernel.processors is.work.cpu ≡ there → IsWorkIn kernel is.work there → GoesOutSomehow kernel ran
    by None e fits = absurd fits
    by (Some model.Outside) e fits = absurd fits
    by (Some (model.Inside regs steps errand)) e fits = record {
      regs = regs;
      errand = errand;
      goes = record {
        steps = steps;
        inside = ap (λ (cpu : ℕ). slice_get kernel.processors cpu) is.has_run.cpu ∙ e;
        work = is.work;
        granted = fits.0;
        carried = subst (λ (cpu : ℕ). IsCarriedIn kernel cpu is.work.call errand) (sym is.has_run.cpu) fits.1;
        has_run = is.has_run;
      };
    }

-- the core's processor, which is the kernel's
core_processor : (items : List Processor) (processors : List model.Processor) (cpu : ℕ) (is : model.Processor) →
    map processor_of items ≡ processors → slice_get processors cpu ≡ Some is →
    (processor : Processor) × (slice_get items cpu ≡ Some processor) × (processor_of processor ≡ is)
core_processor items processors cpu is same there =
    option_map_some processor_of (slice_get items cpu) is
    (sym (slice_get-map processor_of items cpu) ∙ ap (λ (all : List model.Processor). slice_get all cpu) same ∙ there)

inside_core : (processor : Processor) (regs : List ℕ) (steps : ℕ) (errand : model.Errand) → processor_of processor ≡ model.Inside regs steps errand → IsInside processor
inside_core Outside regs steps errand is = absurd cc
inside_core (Inside came granted its) regs steps errand is = tt

pub is_inside : (parts : Parts) (ran : Ran) → ∥ Replays parts ∥₁ →
    ∥ IsSomeAnd (kernel_after (booted_of_setup parts.setup) parts.journal.events) (λ kernel. IsRanFor kernel ran) ∥₁ →
    IsSomeAnd (slice_get parts.processors.items ran.cpu) IsInside
is_inside parts ran fact can = ∥∥₁_elim can (inside_prop (slice_get parts.processors.items ran.cpu))
    (λ (is : IsSomeAnd (kernel_after (booted_of_setup parts.setup) parts.journal.events) (λ kernel. IsRanFor kernel ran)).
    let f = found parts ran is in
    let so = goes_out_so f.kernel ran f.is in
    let core = core_processor parts.processors.items f.kernel.processors ran.cpu _
    (processors_are parts f.kernel (stands_for parts f.kernel fact f.comes)) so.goes.inside in
    subst (λ (there : Option Processor). IsSomeAnd there IsInside) (sym core.1) (inside_core core.0 so.regs so.goes.steps so.errand core.2))

-- with the registers and for what the core's processor has
same_inside : (processor : Processor) (regs : List ℕ) (steps : ℕ) (errand : model.Errand) (came : Regs) (its : Errand) →
    processor_of processor ≡ model.Inside regs steps errand → IsInsideFor came its processor → (regs ≡ came.a) × (errand ≡ errand_of its)
same_inside Outside regs steps errand came its is for = absurd for
same_inside (Inside all granted mine) regs steps errand came its is for =
    let registers : all.a ≡ regs = cc in
    let errands : errand_of mine ≡ errand = cc in
    (sym registers ∙ ap (λ (r : Regs). r.a) for.0, sym errands ∙ ap errand_of for.1)

pub goes_out_for : (parts : Parts) (ran : Ran) (kernel : model.Kernel) (came : Regs) (its : Errand) → ∥ StandsFor parts kernel ∥₁ →
    IsRanFor kernel ran → IsSomeAnd (slice_get parts.processors.items ran.cpu) (IsInsideFor came its) → GoesOut kernel ran came.a (errand_of its)
goes_out_for parts ran kernel came its stands is for =
    let so = goes_out_so kernel ran is in
    let core = core_processor parts.processors.items kernel.processors ran.cpu _ (processors_are parts kernel stands) so.goes.inside in
    let same = same_inside core.0 so.regs so.goes.steps so.errand came its core.2
    (subst (λ (there : Option Processor). IsSomeAnd there (IsInsideFor came its)) core.1 for) in
    subst (λ (e : model.Errand). GoesOut kernel ran came.a e) same.1
    (subst (λ (r : List ℕ). GoesOut kernel ran r so.errand) same.0 so.goes)

-- ---- the call

-- it carries the call of the slot
pub record CarriesIt (kernel : model.Kernel) (ran : Ran) (slot steps : ℕ) : Type 0 where
  pub call : model.PendingCall
  pub active : slice_get kernel.slots slot ≡ Some (model.Active ran.cpu call)
  pub cont : Box (Cont (List ℕ))
  pub there : call_carried ran.call ≡ Some cont
  pub is : IsCarriedOut cont.value ran.stop call steps

rested : (call : model.PendingCall) (steps : ℕ) (ran : Ran) (cont : Box (Cont (List ℕ))) → IsCall cont.value call → IsAtRest call.phase →
    (ran.call ≡ Resting cont) × (ran.stop ≡ None) →
    (out : Box (Cont (List ℕ))) × (call_carried ran.call ≡ Some out) × IsCarriedOut out.value ran.stop call steps
rested call steps ran cont is rest so =
    (cont, ap call_carried so.0, subst (λ (why : Option ContStop). IsCarriedOut cont.value why call steps) (sym so.1) (is, rest))

ran_out : (call : model.PendingCall) (job : Job) (steps : ℕ) (before : Box (Cont (List ℕ))) (after : Carried) (why : Option ContStop) →
    IsCall before.value call → call.phase ≡ model.Runs job → IsCarriedOn steps (Running before) after why →
    (out : Box (Cont (List ℕ))) × (call_carried after ≡ Some out) × IsCarriedOut out.value why call steps
ran_out call job steps before Nothing why is runs so = absurd so
ran_out call job steps before (Resting cont) why is runs so = absurd so
ran_out call job steps before (Running after) None is runs so = absurd so
ran_out call job steps before (Running after) (Some why) is runs so =
    (after, refl, record { before = before.value; job = job; is = is; runs = runs; ran = so })

carried_by : (ran : Ran) (work : Carried) (call : model.PendingCall) (phase : model.CallPhase) (steps : ℕ) → call.phase ≡ phase →
    IsCarriedAs work call phase → IsCarriedOn steps work ran.call ran.stop →
    (out : Box (Cont (List ℕ))) × (call_carried ran.call ≡ Some out) × IsCarriedOut out.value ran.stop call steps
carried_by ran Nothing call (model.Runs job) steps at is on = absurd is
carried_by ran Nothing call (model.Asks job wanted payload) steps at is on = absurd is
carried_by ran Nothing call (model.Waits params) steps at is on = absurd is
carried_by ran Nothing call (model.Ends result params told wakes) steps at is on = absurd is
carried_by ran (Resting cont) call (model.Runs job) steps at is on = absurd is
carried_by ran (Resting cont) call (model.Asks job wanted payload) steps at is on = rested call steps ran cont is (subst IsAtRest (sym at) tt) on
carried_by ran (Resting cont) call (model.Waits params) steps at is on = rested call steps ran cont is (subst IsAtRest (sym at) tt) on
carried_by ran (Resting cont) call (model.Ends result params told wakes) steps at is on = rested call steps ran cont is (subst IsAtRest (sym at) tt) on
carried_by ran (Running cont) call (model.Runs job) steps at is on = ran_out call job steps cont ran.call ran.stop is at on
carried_by ran (Running cont) call (model.Asks job wanted payload) steps at is on = absurd is
carried_by ran (Running cont) call (model.Waits params) steps at is on = absurd is
carried_by ran (Running cont) call (model.Ends result params told wakes) steps at is on = absurd is

pub carries_it : (kernel : model.Kernel) (ran : Ran) (regs : List ℕ) (slot : ℕ) (goes : GoesOut kernel ran regs (model.InSlot slot)) → CarriesIt kernel ran slot goes.steps
carries_it kernel ran regs slot goes = by (slice_get kernel.slots slot) refl goes.carried
  where
    by : (held : Option model.ThreadSlot) → slice_get kernel.slots slot ≡ held → IsCarriedFor ran.cpu goes.work.call held → CarriesIt kernel ran slot goes.steps
    by None e is = absurd is
    by (Some model.Free) e is = absurd is
    by (Some (model.Suspended client call)) e is = absurd is
    by (Some (model.Active worker call)) e is =
        let on : IsCarriedOn goes.steps goes.work.call ran.call ran.stop = subst (λ (n : ℕ). IsCarriedOn n goes.work.call ran.call ran.stop) goes.granted goes.has_run.call in
        let out = carried_by ran goes.work.call call call.phase goes.steps refl is.1 on in
        record {
          call = call;
          active = e ∙ ap (λ (cpu : ℕ). Some (model.Active cpu call)) (sym is.0);
          cont = out.0;
          there = out.1;
          is = out.2;
        }

-- ---- its slot

active_core : (there : Option (Slot (Box (Cont (List ℕ))))) (beside : Option Cancellation) (cpu : ℕ) (call : model.PendingCall) →
    IsSlotAt there beside (Some (model.Active cpu call)) → IsActive there
active_core None None cpu call is = absurd is
active_core None (Some beside) cpu call is = absurd is
active_core (Some slot) None cpu call is = absurd is
active_core (Some Free) (Some beside) cpu call is = absurd is
active_core (Some (Active worker)) (Some beside) cpu call is = tt
active_core (Some (Suspended client cont)) (Some beside) cpu call is = absurd is

pub is_active : (parts : Parts) (kernel : model.Kernel) (slot cpu : ℕ) (call : model.PendingCall) → ∥ StandsFor parts kernel ∥₁ →
    slice_get kernel.slots slot ≡ Some (model.Active cpu call) → IsActive (slice_get parts.slots slot)
is_active parts kernel slot cpu call stands active = ∥∥₁_elim stands (active_prop (slice_get parts.slots slot)) (λ (so : StandsFor parts kernel).
    active_core (slice_get parts.slots slot) (slice_get parts.cancellations.items slot) cpu call
    (subst (λ (held : Option model.ThreadSlot). IsSlotAt (slice_get parts.slots slot) (slice_get parts.cancellations.items slot) held) active (so.slots slot)))
