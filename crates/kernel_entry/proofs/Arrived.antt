-- A processor that was let in: the core replays one event more, and the work is that of its entry.
use Rattle.std.proofs.Common.{◌≡◌, ℕ, ◌+◌, ◌<◌, ◌≤◌, ◌^◌, List, [], ◌∷◌, ◌++◌, length, Option, Some, refl, sym, ap, ap₂, ◌∙◌, subst, arith}
use Rattle.std.proofs.Math.Logic.{∥∥₁_elim, ∥∥₁_map}
use Rattle.std.proofs.Props.{props}
use Rattle.std.proofs.lemmas.List.{length-append}
use Rattle.std.proofs.lemmas.Option.{slice_get-map, slice_get_within}
use Rattle.std.specs.Prelude.{Ok, Err, IsSomeAnd, Result, slice_get}
use Rattle.std.specs.List.{AllByRecursion-prop}
use Rattle.std.specs.Option.{option_and_then, option_map}
use Rattle.event_journal.specs.Journal.{copied_bytes}
use Rattle.event_journal.specs.declared.event.Event.{Event}
use Rattle.event_journal.specs.declared.event.Event.TheVariants.{Entry}
use Rattle.kernel_model.proofs.Parts.{option_map_some}
use Rattle.kernel_model.specs.Entry.{after_decision}
use Rattle.kernel_model.specs.History.{kernel_after}
use Rattle.kernel_model.specs.Kernel as kernel
use Rattle.kernel_model.specs.Kernel.{Kernel, Outside}
use Rattle.kernel_state.specs.Carried.{CanBeGranted}
use Rattle.kernel_state.specs.Entering.{CanEnter, Coming, Enters, HasEntered, IsAsBefore, IsTooMuch, bytes_read, visit_of}
use Rattle.kernel_state.specs.Processors.{processor_of}
use Rattle.kernel_state.specs.Replay.{Replays}
use Rattle.kernel_state.specs.Setup.{booted_of_setup}
use Rattle.kernel_state.specs.StandsFor.{StandsFor}
use Rattle.kernel_state.specs.Work.{IsWorkOf}
use Rattle.kernel_state.specs.declared.carried.Carried.{Carried}
use Rattle.kernel_state.specs.declared.enter_refusal.EnterRefusal.{EnterRefusal}
use Rattle.kernel_state.specs.declared.enter_refusal.EnterRefusal.TheVariants.{Full, Memory}
use Rattle.kernel_state.specs.declared.kernel_core.Core.{Core}
use Rattle.kernel_state.specs.declared.parts.Parts.{Parts}
use Rattle.kernel_state.specs.declared.work.Work.{Work}
use Rattle.ns_ram.specs.Reads.{HoldsRead, HoldsReads, total_bytes}
use Rattle.ns_ram.specs.declared.read.Read.{Read}
use Rattle.kernel_entry.specs.Deciding.{decision_as}
use Rattle.kernel_entry.specs.Entering.{HasMoreRoom, IsCarriedBy, IsDecidedBy, IsPrepared, IsTooMuchFor, Prepares, PreparesEntry}
use Rattle.kernel_entry.specs.Visiting.{HasComeIn, StandsAfter, coming_of}
use Rattle.kernel_entry.specs.declared.deciding.EntryDecision.{EntryDecision}
use Rattle.kernel_entry.specs.declared.preparing.Prepared.{Prepared}
use Rattle.kernel_entry.specs.declared.visitor.Visitor.{Visitor}
use Rattle.kernel_entry.proofs.Entered.{ready_after, work_after}
use Rattle.kernel_entry.proofs.Replaying.{MayEnter, comes_entered, entered, read_from_lane, replays_entered}

-- ---- the processor

-- it is outside, in the kernel that the events come to
abbrev pub IsOutside : Parts → ℕ → Type 0
IsOutside parts cpu =
    IsSomeAnd (kernel_after (booted_of_setup parts.setup) parts.journal.events) (λ (k : Kernel). slice_get k.processors cpu ≡ Some Outside)

outside_of : (parts : Parts) (cpu : ℕ) (so : Replays parts) → IsOutside parts cpu → slice_get so.kernel.processors cpu ≡ Some Outside
outside_of parts cpu so outside =
    subst (λ (found : Option Kernel). IsSomeAnd found (λ (k : Kernel). slice_get k.processors cpu ≡ Some Outside)) so.comes_to outside

pub cpu_there : (parts : Parts) (cpu : ℕ) → ∥ Replays parts ∥₁ → IsOutside parts cpu → cpu < length parts.processors.items
cpu_there parts cpu fact outside = ∥∥₁_elim fact (Prim.hlevel props) (λ (so : Replays parts).
    let found = option_map_some processor_of (slice_get parts.processors.items cpu) Outside
    (sym (slice_get-map processor_of parts.processors.items cpu) ∙ ap (λ (all : List kernel.Processor). slice_get all cpu) so.stands.processors
    ∙ outside_of parts cpu so outside) in
    slice_get_within parts.processors.items cpu found.0 found.1)

outside_still : (old new : Parts) (cpu : ℕ) → HasMoreRoom old new → IsOutside old cpu → IsOutside new cpu
outside_still old new cpu more outside =
    subst (λ (found : Option Kernel). IsSomeAnd found (λ (k : Kernel). slice_get k.processors cpu ≡ Some Outside))
    (sym (ap₂ (λ setup (events : List Event). kernel_after (booted_of_setup setup) events) (ap (λ (parts : Parts). parts.setup) more.stays) more.events)) outside

-- ---- as it comes in

-- what is known of a processor that was let in
pub record Arrives (old new : Parts) (visitor : Visitor) (lane : List ℕ) (decided : EntryDecision) (reads : List Read) (call : Carried) : Type 0 where
  pub outside : IsOutside old visitor.cpu
  pub some_steps : 1 ≤ visitor.steps
  pub few_steps : visitor.steps ≤ 1000000
  pub decides : IsDecidedBy old visitor.regs.a lane reads decided
  pub few : copied_bytes old.journal.events + total_bytes reads ≤ old.setup.terms.most
  pub come : HasComeIn old new visitor reads
  pub stands : (k : Kernel) → StandsAfter old new visitor k (decision_as old k visitor.regs.a decided)
  pub carries : (k : Kernel) → StandsFor old k → IsCarriedBy call (decision_as old k visitor.regs.a decided)

-- it can come in, was prepared and let in
pub arrives : (old : Core) (new : Parts) (visitor : Visitor) (lane : List ℕ) (prepared : Prepared) (call : Carried) → CanEnter old (coming_of visitor) →
    IsPrepared old.parts visitor.regs.a lane prepared → HasComeIn old.parts new visitor prepared.reads →
    ((k : Kernel) → StandsAfter old.parts new visitor k (decision_as old.parts k visitor.regs.a prepared.decision)) →
    ((k : Kernel) → StandsFor old.parts k → IsCarriedBy call (decision_as old.parts k visitor.regs.a prepared.decision)) →
    Arrives old.parts new visitor lane prepared.decision prepared.reads call
arrives old new visitor lane prepared call can is come stands carries = record {
  outside = can.outside;
  some_steps = can.some_steps;
  few_steps = can.few_steps;
  decides = is.decides;
  few = is.few;
  come = come;
  stands = stands;
  carries = carries;
}

module _ (old new : Parts) (visitor : Visitor) (lane : List ℕ) (decided : EntryDecision) (reads : List Read) (call : Carried)
    (came : Arrives old new visitor lane decided reads call) where
  may_enter : (so : Replays old) → MayEnter old so.kernel visitor reads
  may_enter so = record {
    outside = outside_of old visitor.cpu so came.outside;
    some_steps = came.some_steps;
    few_steps = came.few_steps;
    few_bytes = came.few;
  }

  comes_so : (so : Replays old) → kernel_after (booted_of_setup new.setup) new.journal.events
      ≡ Some (after_decision so.kernel (visit_of (coming_of visitor)) (decision_as old so.kernel visitor.regs.a decided))
  comes_so so = comes_entered old new visitor lane (decision_as old so.kernel visitor.regs.a decided) reads so (may_enter so) (came.decides so.kernel so.stands) came.come.setup came.come.events

  replays_so : Replays old → Replays new
  replays_so so = replays_entered old new visitor lane (decision_as old so.kernel visitor.regs.a decided) reads so (may_enter so) (came.decides so.kernel so.stands) came.come.setup came.come.events
      came.come.keeps (came.stands so.kernel so.stands)

  pub arrived_replays : ∥ Replays old ∥₁ → ∥ Replays new ∥₁
  arrived_replays fact = ∥∥₁_map fact replays_so

  pub arrived_reads : ∥ Replays old ∥₁ → HoldsReads lane reads
  arrived_reads fact = ∥∥₁_elim fact (AllByRecursion-prop (HoldsRead lane) (λ read. Prim.hlevel props) reads) (λ (so : Replays old).
      read_from_lane (booted_of_setup old.setup) so.kernel visitor lane (decision_as old so.kernel visitor.regs.a decided) reads (came.decides so.kernel so.stands))

  pub arrived_work : (work : Work) → work.cpu ≡ visitor.cpu → work.steps ≡ visitor.steps → work.call ≡ call → ∥ Replays old ∥₁ →
      ∥ IsSomeAnd (kernel_after (booted_of_setup new.setup) new.journal.events) (λ (k : Kernel). IsWorkOf k work) ∥₁
  arrived_work work cpu steps carried fact = ∥∥₁_map fact (λ (so : Replays old).
      let decision = decision_as old so.kernel visitor.regs.a decided in
      subst (λ (found : Option Kernel). IsSomeAnd found (λ (k : Kernel). IsWorkOf k work)) (sym (comes_so so))
      (work_after (booted_of_setup new.setup) new.journal.events so.kernel decision visitor work (comes_so so) (outside_of old visitor.cpu so came.outside) cpu steps
      (subst (λ (call : Carried). IsCarriedBy call decision) (sym carried) (came.carries so.kernel so.stands))))

  few_events : length old.journal.events < 2 ^ 64 → length new.journal.events ≤ 18446744073709551616
  few_events few =
      let under : length old.journal.events < 18446744073709551616 = few in
      let one : length new.journal.events ≡ length old.journal.events + 1 =
      ap (λ (events : List Event). length events) came.come.events
      ∙ length-append old.journal.events (Entry visitor.cpu visitor.regs visitor.steps reads ∷ []) in
      omega (arith, one, under)

  pub arrived_ready : length old.journal.events < 2 ^ 64 → ∥ Replays old ∥₁ → ∥ CanBeGranted visitor.steps call ∥₁
  arrived_ready few fact = ∥∥₁_map fact (λ (so : Replays old).
      ready_after (booted_of_setup new.setup) new.journal.events so.kernel (decision_as old so.kernel visitor.regs.a decided) visitor call (comes_so so)
      (outside_of old visitor.cpu so came.outside) came.few_steps (few_events few) (came.carries so.kernel so.stands))

-- ---- a refusal

-- the entry would read as many bytes as those that were listed
pub reads_too_much : (parts : Parts) (visitor : Visitor) (lane : List ℕ) (copied more : ℕ) → ∥ Replays parts ∥₁ → IsTooMuchFor parts visitor.regs.a lane copied more →
    option_and_then (bytes_read (booted_of_setup parts.setup) lane (visit_of (coming_of visitor))) (kernel_after (booted_of_setup parts.setup) parts.journal.events) ≡ Some more
reads_too_much parts visitor lane copied more fact too = ∥∥₁_elim fact (Prim.hlevel props) (λ (so : Replays parts).
    let boot = booted_of_setup parts.setup in
    let visit = visit_of (coming_of visitor) in
    let decision = decision_as parts so.kernel visitor.regs.a too.decision in
    ap (λ (found : Option Kernel). option_and_then (bytes_read boot lane visit) found) so.comes_to
    ∙ ap (λ (o : Option (Kernel × List Read)). option_map (λ (end : Kernel × List Read). total_bytes end.1) o)
    (entered boot so.kernel visitor lane decision too.reads (too.decides so.kernel so.stands))
    ∙ ap (λ (n : ℕ). Some n) (sym too.of_entry))

-- ---- the core

same_setup : (old new : Parts) → HasMoreRoom old new → new.setup ≡ old.setup
same_setup old new more = ap (λ (parts : Parts). parts.setup) more.stays

-- the work is that of one event more
pub has_entered : (old new : Core) (visitor : Visitor) (lane : List ℕ) (decided : EntryDecision) (reads : List Read) (work : Work) →
    Arrives old.parts new.parts visitor lane decided reads work.call → ∥ Replays old.parts ∥₁ → work.cpu ≡ visitor.cpu → work.steps ≡ visitor.steps →
    work.entry_at ≡ length old.parts.journal.events → HasEntered old new (coming_of visitor) lane work
has_entered old new visitor lane decided reads work came fact cpu steps at = record {
  boot = ap booted_of_setup came.come.setup;
  terms = ap (λ setup. setup.terms) came.come.setup;
  reads = reads;
  from_lane = arrived_reads old.parts new.parts visitor lane decided reads work.call came fact;
  events = came.come.events;
  cpu = cpu;
  entry_at = at;
  fits = arrived_work old.parts new.parts visitor lane decided reads work.call came work cpu steps refl fact;
}

-- and of one event more than before it had the room
pub has_entered_with_room : (old mid new : Core) (coming : Coming) (lane : List ℕ) (work : Work) → HasMoreRoom old.parts mid.parts →
    HasEntered mid new coming lane work → HasEntered old new coming lane work
has_entered_with_room old mid new coming lane work more has = record {
  boot = has.boot ∙ ap booted_of_setup (same_setup old.parts mid.parts more);
  terms = has.terms ∙ ap (λ setup. setup.terms) (same_setup old.parts mid.parts more);
  reads = has.reads;
  from_lane = has.from_lane;
  events = has.events ∙ ap (λ (events : List Event). events ++ Entry coming.cpu coming.regs coming.steps has.reads ∷ []) more.events;
  cpu = has.cpu;
  entry_at = has.entry_at ∙ ap (λ (events : List Event). length events) more.events;
  fits = has.fits;
}

-- a processor that could come in still can
pub can_enter_with_room : (old mid : Core) (coming : Coming) → HasMoreRoom old.parts mid.parts → CanEnter old coming → CanEnter mid coming
can_enter_with_room old mid coming more can = record {
  outside = outside_still old.parts mid.parts coming.cpu more can.outside;
  some_steps = can.some_steps;
  few_steps = can.few_steps;
}

as_before : (old new : Core) (mid : Parts) → HasMoreRoom old.parts mid → new.parts ≡ mid → IsAsBefore old new
as_before old new mid more same = record {
  boot = ap (λ (parts : Parts). booted_of_setup parts.setup) same ∙ ap booted_of_setup (same_setup old.parts mid more);
  terms = ap (λ (parts : Parts). parts.setup.terms) same ∙ ap (λ setup. setup.terms) (same_setup old.parts mid more);
  events = ap (λ (parts : Parts). parts.journal.events) same ∙ more.events;
}

too_much : (old : Core) (mid : Parts) (visitor : Visitor) (lane : List ℕ) (copied more : ℕ) → HasMoreRoom old.parts mid → ∥ Replays mid ∥₁ →
    IsTooMuchFor mid visitor.regs.a lane copied more → IsTooMuch old (coming_of visitor) lane copied more
too_much old mid visitor lane copied more room fact too = record {
  so_far = too.so_far ∙ ap copied_bytes room.events;
  of_entry = ap₂ (λ setup (events : List Event).
      option_and_then (bytes_read (booted_of_setup setup) lane (visit_of (coming_of visitor))) (kernel_after (booted_of_setup setup) events))
      (sym (same_setup old.parts mid room)) (sym room.events)
      ∙ reads_too_much mid visitor lane copied more fact too;
  above = subst (λ setup. setup.terms.most < copied + more) (same_setup old.parts mid room) too.above;
}

-- one that is refused leaves the core as it was
pub is_refused : (old new : Core) (mid : Parts) (visitor : Visitor) (lane : List ℕ) (refusal : EnterRefusal) → HasMoreRoom old.parts mid → ∥ Replays mid ∥₁ → new.parts ≡ mid →
    Prepares mid visitor.regs.a lane (Err refusal) → Enters old new (coming_of visitor) lane (Err refusal)
is_refused old new mid visitor lane (Full copied more) room fact same too =
    (as_before old new mid room same, too_much old mid visitor lane copied more room fact too)
is_refused old new mid visitor lane Memory room fact same too = as_before old new mid room same

-- an entry that is prepared over the parts of a core is over the core
pub prepares_entry : (old new : Core) (visitor : Visitor) (lane : List ℕ) (answer : Result Prepared EnterRefusal) → HasMoreRoom old.parts new.parts →
    ∥ Replays new.parts ∥₁ → Prepares new.parts visitor.regs.a lane answer → PreparesEntry old new (coming_of visitor) lane answer
prepares_entry old new visitor lane (Ok prepared) room fact prepares = prepares
prepares_entry old new visitor lane (Err refusal) room fact refused = is_refused old new new.parts visitor lane refusal room fact refl refused
