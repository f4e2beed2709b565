-- Parts that stood for a kernel stand for the one after an entry.
use Rattle.std.proofs.Common.{◌≡◌, ℕ, zero, suc, ◌-◌, ◌<◌, ◌≤◌, List, [], ◌∷◌, length, Option, Some, None, refl, sym, ap, ◌∙◌, subst, arith, ap₂, Bool, false}
use Rattle.std.proofs.lemmas.List.{length-set, map-set}
use Rattle.std.proofs.lemmas.List.Sums.{count_by-le-length}
use Rattle.std.specs.Prelude.{not, count_by, map, slice_set}
use Rattle.std.specs.Global.{Box}
use Rattle.kernel_model.specs.Decision.{Answers, Taken, Takes}
use Rattle.kernel_model.specs.Entry.{after_decision}
use Rattle.kernel_model.specs.History.{is_outside}
use Rattle.kernel_model.specs.Kernel as model
use Rattle.kernel_model.specs.Kernel.{Cancel, Kernel, ThreadSlot, cancelled_slots}
use Rattle.rpc_cont.specs.declared.cont.Cont.{Cont}
use Rattle.smc_abi.specs.declared.answer.Answer.{Answer}
use Rattle.thread_slots.specs.declared.slot.Slot.{Slot}
use Rattle.thread_slots.specs.declared.slot.Slot.TheVariants.{Active}
use Rattle.kernel_state.proofs.Cancelling.{are_slots_marked}
use Rattle.kernel_state.specs.Blanks.{Boxes}
use Rattle.kernel_state.specs.Entering.{visit_of}
use Rattle.kernel_state.specs.Processors.{errand_of, processor_of}
use Rattle.kernel_state.specs.StandsFor.{AreSlots, IsBeside, IsSlot, StandsFor}
use Rattle.kernel_state.specs.Tables.{HasFreePages, tables_of}
use Rattle.kernel_state.specs.declared.cancellation.Cancellation.{Cancellation}
use Rattle.kernel_state.specs.declared.parts.Parts.{Parts}
use Rattle.kernel_state.specs.declared.processor.Errand.{Errand}
use Rattle.kernel_state.specs.declared.processor.Errand.TheVariants.{Fixed, InSlot}
use Rattle.kernel_state.specs.declared.processor.Processor.{Processor}
use Rattle.kernel_state.specs.declared.processor.Processor.TheVariants.{Inside}
use Rattle.kernel_model.specs.NewCall.{NewCall}
use Rattle.new_calls.specs.Deciding.{call_with, taken_of}
use Rattle.new_calls.specs.declared.entered.Entered.{Entered}
use Rattle.new_calls.specs.declared.plan.Plan.{Plan}
use Rattle.new_calls.specs.declared.plan.Plan.TheVariants as plan
use Rattle.ns_ram.specs.declared.read.Read.{Read}
use Rattle.kernel_state.specs.Setup.{booted_of_setup}
use Rattle.kernel_state.specs.declared.tables.Tables.{Tables}
use Rattle.kernel_entry.specs.Applying.{IsTaken, is_cancel, meant_by}
use Rattle.kernel_entry.specs.Visiting.{HasTaken, IsInside, besides_cancelled, cancels_by, coming_of}
use Rattle.kernel_entry.specs.declared.visitor.Visitor.{Visitor}

abbrev pub CodeSlot : Type 0
CodeSlot = Slot (Box (Cont (List ℕ)))

-- ---- one slot changes

pub are_slots_set : (slots : List CodeSlot) (besides : List Cancellation) (held : List ThreadSlot) (at : ℕ)
    (slot : CodeSlot) (beside : Cancellation) (now : ThreadSlot) →
    AreSlots slots besides held → IsSlot slot beside now → AreSlots (slice_set slots at slot) (slice_set besides at beside) (slice_set held at now)
are_slots_set [] [] [] at slot beside now are is other = tt
are_slots_set [] [] (h ∷ hs) at slot beside now are is other = absurd (are 0)
are_slots_set [] (b ∷ bs) held at slot beside now are is other = absurd (are 0)
are_slots_set (s ∷ ss) [] held at slot beside now are is other = absurd (are 0)
are_slots_set (s ∷ ss) (b ∷ bs) [] at slot beside now are is other = absurd (are 0)
are_slots_set (s ∷ ss) (b ∷ bs) (h ∷ hs) zero slot beside now are is zero = is
are_slots_set (s ∷ ss) (b ∷ bs) (h ∷ hs) zero slot beside now are is (suc other) = are (suc other)
are_slots_set (s ∷ ss) (b ∷ bs) (h ∷ hs) (suc at) slot beside now are is zero = are 0
are_slots_set (s ∷ ss) (b ∷ bs) (h ∷ hs) (suc at) slot beside now are is (suc other) =
    are_slots_set ss bs hs at slot beside now (λ one. are (suc one)) is other

are_slots_cancelled : (slots : List CodeSlot) (besides : List Cancellation) (held : List ThreadSlot) (cancels : Option Cancel) →
    AreSlots slots besides held → AreSlots slots (besides_cancelled besides cancels) (cancelled_slots held cancels)
are_slots_cancelled slots besides held None are = are
are_slots_cancelled slots besides held (Some cancel) are = are_slots_marked cancel slots besides held are

-- ---- processors

pub processors_set : (processors now : List Processor) (held : List model.Processor) (visitor : Visitor) (errand : Errand) →
    now ≡ slice_set processors visitor.cpu (Inside visitor.regs visitor.steps errand) → map processor_of processors ≡ held →
    map processor_of now ≡ slice_set held visitor.cpu (model.Inside visitor.regs.a visitor.steps (errand_of errand))
processors_set processors now held visitor errand is seen =
    ap (map processor_of) is
    ∙ map-set processor_of processors visitor.cpu (Inside visitor.regs visitor.steps errand)
    ∙ ap (λ (held : List model.Processor). slice_set held visitor.cpu (model.Inside visitor.regs.a visitor.steps (errand_of errand))) seen

length_seen : (processors : List Processor) (held : List model.Processor) → map processor_of processors ≡ held → length held ≡ length processors
length_seen processors held seen = sym (ap (λ (held : List model.Processor). length held) seen) ∙ length_mapped processors
  where
    length_mapped : (processors : List Processor) → length (map processor_of processors) ≡ length processors
    length_mapped [] = refl
    length_mapped (first ∷ rest) = ap suc (length_mapped rest)

-- room for the exits of all is room for those that are inside
pub room_for_all : (processors : List Processor) (held : List model.Processor) (cpus spare : ℕ) → map processor_of processors ≡ held →
    length processors ≡ cpus → cpus ≤ spare → count_by (λ processor. not (is_outside processor)) held ≤ spare
room_for_all processors held cpus spare seen all room =
    let few : count_by (λ processor. not (is_outside processor)) held ≤ length held = count_by-le-length (λ processor. not (is_outside processor)) held in
    let long : length held ≡ cpus = length_seen processors held seen ∙ all in
    omega (arith, few, long, room)

length_now : (processors now : List Processor) (visitor : Visitor) (errand : Errand) (cpus : ℕ) →
    now ≡ slice_set processors visitor.cpu (Inside visitor.regs visitor.steps errand) → length processors ≡ cpus → length now ≡ cpus
length_now processors now visitor errand cpus is all =
    ap (λ (now : List Processor). length now) is ∙ length-set processors visitor.cpu (Inside visitor.regs visitor.steps errand) ∙ all

-- ---- a fixed answer

-- what an entry leaves as it was but for processors and journal
pub record Stays (old new : Parts) : Type 0 where
  pub setup : new.setup ≡ old.setup
  pub slots : new.slots ≡ old.slots
  pub cancellations : new.cancellations ≡ old.cancellations
  pub tables : new.tables ≡ old.tables

pub fixed_stands : (old new : Parts) (kernel : Kernel) (visitor : Visitor) (answer : Answer) → StandsFor old kernel → Stays old new →
    new.processors.items ≡ slice_set old.processors.items visitor.cpu (Inside visitor.regs visitor.steps (Fixed answer)) →
    old.setup.cpus ≤ new.journal.spare →
    StandsFor new (after_decision kernel (visit_of (coming_of visitor)) (Answers answer))
fixed_stands old new kernel visitor answer stands stays processors room =
    let now = processors_set old.processors.items new.processors.items kernel.processors visitor (Fixed answer) processors stands.processors in
    let long = length_now old.processors.items new.processors.items visitor (Fixed answer) old.setup.cpus processors stands.cpus in
    record {
      cpus = long ∙ sym (ap (λ setup. setup.cpus) stays.setup);
      threads = ap (λ (slots : List CodeSlot). length slots) stays.slots ∙ stands.threads ∙ sym (ap (λ setup. setup.threads) stays.setup);
      slots = subst (λ (besides : List Cancellation). AreSlots new.slots besides kernel.slots) (sym (ap (λ besides. besides.items) stays.cancellations))
          (subst (λ (slots : List CodeSlot). AreSlots slots old.cancellations.items kernel.slots) (sym stays.slots) stands.slots);
      processors = now;
      tables = ap tables_of stays.tables ∙ stands.tables;
      pages = subst (λ setup. HasFreePages setup new.tables) (sym stays.setup)
          (subst (λ tables. HasFreePages old.setup tables) (sym stays.tables) stands.pages);
      room = room_for_all new.processors.items _ old.setup.cpus new.journal.spare now long room;
    }

-- ---- a slot that is taken

-- what an entry for a slot makes of the parts
pub record TakesSlot (old new : Parts) (visitor : Visitor) (slot : ℕ) (beside : Cancellation) (taken : Taken) : Type 0 where
  pub setup : new.setup ≡ old.setup
  pub slots : new.slots ≡ slice_set old.slots slot (Active visitor.cpu)
  pub cancellations : new.cancellations.items ≡ slice_set (besides_cancelled old.cancellations.items taken.cancels) slot beside
  pub beside_is : IsBeside beside taken.call
  pub tables : tables_of new.tables ≡ taken.tables
  pub pages : HasFreePages old.setup new.tables

slots_taken : (slots now : List CodeSlot) (besides after : List Cancellation) (held : List ThreadSlot) (cpu slot : ℕ) (beside : Cancellation) (taken : Taken) →
    now ≡ slice_set slots slot (Active cpu) → after ≡ slice_set (besides_cancelled besides taken.cancels) slot beside →
    IsBeside beside taken.call → AreSlots slots besides held →
    AreSlots now after (slice_set (cancelled_slots held taken.cancels) slot (model.Active cpu taken.call))
slots_taken slots now besides after held cpu slot beside taken is beside_set is_beside are =
    subst (λ (now : List CodeSlot). AreSlots now after (slice_set (cancelled_slots held taken.cancels) slot (model.Active cpu taken.call))) (sym is)
    (subst (λ (after : List Cancellation). AreSlots (slice_set slots slot (Active cpu)) after (slice_set (cancelled_slots held taken.cancels) slot (model.Active cpu taken.call))) (sym beside_set)
    (are_slots_set slots (besides_cancelled besides taken.cancels) (cancelled_slots held taken.cancels) slot (Active cpu) beside (model.Active cpu taken.call)
    (are_slots_cancelled slots besides held taken.cancels are) (refl, is_beside)))

pub slot_stands : (old new : Parts) (kernel : Kernel) (visitor : Visitor) (slot : ℕ) (beside : Cancellation) (taken : Taken) →
    StandsFor old kernel → TakesSlot old new visitor slot beside taken →
    new.processors.items ≡ slice_set old.processors.items visitor.cpu (Inside visitor.regs visitor.steps (InSlot slot)) →
    old.setup.cpus ≤ new.journal.spare →
    StandsFor new (after_decision kernel (visit_of (coming_of visitor)) (Takes slot taken))
slot_stands old new kernel visitor slot beside taken stands takes processors room =
    let now = processors_set old.processors.items new.processors.items kernel.processors visitor (InSlot slot) processors stands.processors in
    let long = length_now old.processors.items new.processors.items visitor (InSlot slot) old.setup.cpus processors stands.cpus in
    record {
      cpus = long ∙ sym (ap (λ setup. setup.cpus) takes.setup);
      threads = ap (λ (slots : List CodeSlot). length slots) takes.slots ∙ length-set old.slots slot (Active visitor.cpu) ∙ stands.threads
          ∙ sym (ap (λ setup. setup.threads) takes.setup);
      slots = slots_taken old.slots new.slots old.cancellations.items new.cancellations.items kernel.slots visitor.cpu slot beside taken
          takes.slots takes.cancellations takes.beside_is stands.slots;
      processors = now;
      tables = takes.tables;
      pages = subst (λ setup. HasFreePages setup new.tables) (sym takes.setup) takes.pages;
      room = room_for_all new.processors.items _ old.setup.cpus new.journal.spare now long room;
    }

-- ---- room

-- what was reserved has room for all exits behind the entry
pub room_behind : (cpus before after : ℕ) → cpus < before → after ≡ before - 1 → cpus ≤ after
room_behind cpus before after room is = omega (arith, room, is)

-- ---- a new call

abbrev the_cancel : ℕ → ℕ → Cancel
the_cancel session cancel_id = record { session = session; cancel_id = cancel_id }

-- a cancel means the calls of its own session
meant_same : (c : NewCall) (entered : Entered) (of : Plan) (cancels : Bool) (beside : Cancellation) → cancels ≡ is_cancel of →
    c.head ≡ entered.head → beside.session ≡ (taken_of c of).call.session → beside.cancel_id ≡ entered.head.cancel_id →
    cancels_by cancels beside ≡ meant_by entered of
meant_same c entered (plan.Settles settled) cancels beside is head session number = ap (λ (cancels : Bool). cancels_by cancels beside) is
meant_same c entered (plan.Opens app login copies) cancels beside is head session number = ap (λ (cancels : Bool). cancels_by cancels beside) is
meant_same c entered (plan.Invokes named app copies) cancels beside is head session number = ap (λ (cancels : Bool). cancels_by cancels beside) is
meant_same c entered (plan.Closes named app) cancels beside is head session number = ap (λ (cancels : Bool). cancels_by cancels beside) is
meant_same c entered plan.Cancels cancels beside is head session number =
    let own : beside.session ≡ entered.head.session = session ∙ ap (λ head. head.session) head in
    ap (λ (cancels : Bool). cancels_by cancels beside) is
    ∙ ap₂ (λ (session cancel_id : ℕ). Some (the_cancel session cancel_id)) own number
meant_same c entered (plan.KeepsBuffer cookie buffer) cancels beside is head session number = ap (λ (cancels : Bool). cancels_by cancels beside) is
meant_same c entered (plan.DropsBuffer cookie) cancels beside is head session number = ap (λ (cancels : Bool). cancels_by cancels beside) is

-- a slot was taken for the plan
pub new_takes : (old mid new : Parts) (visitor : Visitor) (entered : Entered) (of : Plan) (cancels : Bool) (beside : Cancellation) (blanks : Boxes) (after : Tables)
    (cont : Cont (List ℕ)) (reads : List Read) → cancels ≡ is_cancel of →
    IsTaken (meant_by entered of) entered after cont (taken_of (call_with (booted_of_setup old.setup) (tables_of old.tables) entered) of) →
    HasFreePages old.setup after → beside ≡ record { session = cont.session; cancel_id = entered.head.cancel_id; marked = false } →
    HasTaken (record old { tables = after; blanks = blanks }) mid visitor.cpu entered.slot beside (cancels_by cancels beside) →
    IsInside mid new visitor (InSlot entered.slot) reads →
    TakesSlot old new visitor entered.slot beside (taken_of (call_with (booted_of_setup old.setup) (tables_of old.tables) entered) of)
new_takes old mid new visitor entered of cancels beside blanks after cont reads is taken pages beside_is has inside =
    let c = call_with (booted_of_setup old.setup) (tables_of old.tables) entered in
    let session : beside.session ≡ (taken_of c of).call.session = ap (λ (beside : Cancellation). beside.session) beside_is ∙ taken.call.session in
    let meant : cancels_by cancels beside ≡ (taken_of c of).cancels =
    meant_same c entered of cancels beside is refl session (ap (λ (beside : Cancellation). beside.cancel_id) beside_is) ∙ sym taken.cancels in
    let tables : new.tables ≡ after = ap (λ (parts : Parts). parts.tables) inside.stays ∙ ap (λ (parts : Parts). parts.tables) has.stays in
    record {
      setup = ap (λ (parts : Parts). parts.setup) inside.stays ∙ ap (λ (parts : Parts). parts.setup) has.stays;
      slots = ap (λ (parts : Parts). parts.slots) inside.stays ∙ has.slots;
      cancellations = ap (λ (parts : Parts). parts.cancellations.items) inside.stays ∙ has.cancellations
          ∙ ap (λ (meant : Option Cancel). slice_set (besides_cancelled old.cancellations.items meant) entered.slot beside) meant;
      beside_is = record {
        session = session;
        cancel_id = ap (λ (beside : Cancellation). beside.cancel_id) beside_is ∙ sym taken.cancel_id;
        marked = ap (λ (beside : Cancellation). beside.marked) beside_is ∙ sym taken.marked;
      };
      tables = ap tables_of tables ∙ taken.tables;
      pages = subst (λ (tables : Tables). HasFreePages old.setup tables) (sym tables) pages;
    }
