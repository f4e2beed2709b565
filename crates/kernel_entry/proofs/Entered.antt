-- A processor has come in: the core is that of one event more, and its work is that of this entry.
use Rattle.std.proofs.Common.{◌≡◌, ℕ, ◌+◌, ◌*◌, ◌<◌, ◌≤◌, ◌^◌, List, length, Some, refl, sym, ap, ap₂, ◌∙◌, subst, arith}
use Rattle.std.proofs.Math.Logic.{∥∥₁_elim, ∥∥₁_map}
use Rattle.std.proofs.Props.{props}
use Rattle.std.specs.Prelude.{slice_get}
use Rattle.std.specs.Global.{Box}
use Rattle.std.specs.List.{AllByRecursion}
use Rattle.std.specs.Option.{option_and_then}
use Rattle.base.proofs.MapLemmas.{All-get}
use Rattle.event_journal.specs.Journal.{copied_bytes}
use Rattle.event_journal.specs.declared.event.Event.{Event}
use Rattle.kernel_model.proofs.Parts.{set_found, set_then_read}
use Rattle.kernel_model.proofs.SoundPlaces.{calls_placed}
use Rattle.kernel_model.proofs.SoundSteps.{steps_granted}
use Rattle.kernel_model.proofs.SoundWork.{works}
use Rattle.kernel_model.proofs.Suspended.{suspended_there}
use Rattle.kernel_model.specs.Application.{AreNatives, Booted, IsBooted}
use Rattle.kernel_model.specs.Argument.{thread_in}
use Rattle.kernel_model.specs.Decision as model
use Rattle.kernel_model.specs.Decision.{Decision}
use Rattle.kernel_model.specs.Entry.{after_decision}
use Rattle.kernel_model.specs.History.{kernel_after}
use Rattle.kernel_model.specs.Kernel as kernel
use Rattle.kernel_model.specs.Kernel.{CallPhase, Runs, Asks, Waits, Ends, Instance, Kernel, PendingCall, ThreadSlot, Outside}
use Rattle.kernel_model.specs.Sound.{unmarked_at, unmarked_in, unmarked}
use Rattle.kernel_model.specs.SoundMemory.{IsInMemory}
use Rattle.kernel_state.specs.Calls.{IsCall, IsInPhase, bytes_of}
use Rattle.kernel_state.specs.Carried.{CanBeGranted}
use Rattle.kernel_state.specs.Entering.{visit_of}
use Rattle.kernel_state.specs.Reads.{ReadsAgree}
use Rattle.kernel_state.specs.Replay.{Replays}
use Rattle.kernel_state.specs.Setup.{boot_of, booted_of_setup, natives_of}
use Rattle.kernel_state.specs.StandsFor.{StandsFor}
use Rattle.kernel_state.specs.Tables.{HasFreePages, tables_of}
use Rattle.kernel_state.specs.Work.{IsCarriedAs, IsCarriedFor, IsWorkIn, IsWorkOf}
use Rattle.kernel_state.specs.declared.carried.Carried.{Carried}
use Rattle.kernel_state.specs.declared.carried.Carried.TheVariants.{Nothing, Resting, Running}
use Rattle.kernel_state.specs.declared.parts.Parts.{Parts}
use Rattle.kernel_state.specs.declared.work.Work.{Work}
use Rattle.new_calls.specs.Applying.{HaveApps}
use Rattle.resumed_calls.specs.Deciding.{CanDecide}
use Rattle.rpc_cont.specs.Advancing.{CanAdvance}
use Rattle.rpc_cont.specs.declared.cont.Cont.{Cont}
use Rattle.ta_isa.specs.Boots.{IsBoot}
use Rattle.kernel_entry.specs.Entering.{HasMoreRoom, IsCarriedBy}
use Rattle.kernel_entry.specs.Visiting.{coming_of}
use Rattle.kernel_entry.specs.declared.visitor.Visitor.{Visitor}
use Rattle.kernel_entry.proofs.Legal.{AreSound, sound_by_laws}

-- ---- what is known before

booted_so : (parts : Parts) → Replays parts → IsBooted (booted_of_setup parts.setup)
booted_so parts so = record {
  boot = boot_of parts.setup;
  natives = natives_of parts.setup;
  is_boot = so.is_boot;
  are_natives = so.are_natives;
  same = refl;
}

-- the laws of the tables
pub sound_so : (parts : Parts) (so : Replays parts) → AreSound (booted_of_setup parts.setup) (unmarked_at so.kernel.slots) (tables_of parts.tables)
sound_so parts so =
    subst (λ (tables : kernel.Tables). AreSound (booted_of_setup parts.setup) (unmarked_at so.kernel.slots) tables) (sym so.stands.tables)
    (sound_by_laws (booted_of_setup parts.setup) parts.journal.events so.kernel (booted_so parts so) so.comes_to)

-- a resume can be decided
pub can_decide : (parts : Parts) (regs : List ℕ) → ∥ Replays parts ∥₁ → ∥ CanDecide parts.slots regs ∥₁
can_decide parts regs fact = ∥∥₁_map fact (λ (so : Replays parts). record {
  beside = parts.cancellations.items;
  held = so.kernel.slots;
  stand = so.stands.slots;
  area = λ call area found has.
      (calls_placed (booted_of_setup parts.setup) parts.journal.events so.kernel (booted_so parts so) so.comes_to (thread_in regs) (unmarked call)
      (ap (option_and_then unmarked_in) (suspended_there so.kernel regs call found))).area area has;
  placed = λ call buffer found has.
      (calls_placed (booted_of_setup parts.setup) parts.journal.events so.kernel (booted_so parts so) so.comes_to (thread_in regs) (unmarked call)
      (ap (option_and_then unmarked_in) (suspended_there so.kernel regs call found))).buffer buffer has;
})

pub has_pages : (parts : Parts) → ∥ Replays parts ∥₁ → HasFreePages parts.setup parts.tables
has_pages parts fact = ∥∥₁_elim fact (Prim.hlevel props) (λ (so : Replays parts). so.stands.pages)

-- the bytes that may be read fit a counter
pub most_bounded : (parts : Parts) → ∥ Replays parts ∥₁ → parts.setup.terms.most ≤ 2 ^ 63
most_bounded parts fact = ∥∥₁_elim fact (Prim.hlevel props) (λ (so : Replays parts). so.bounded)

-- so far no more was read than may be
pub few_read : (parts : Parts) → ∥ Replays parts ∥₁ → copied_bytes parts.journal.events ≤ parts.setup.terms.most
few_read parts fact = ∥∥₁_elim fact (Prim.hlevel props) (λ (so : Replays parts). so.few)

-- each instance is of an application of the boot
pub have_apps : (parts : Parts) → ∥ Replays parts ∥₁ → HaveApps (booted_of_setup parts.setup) (tables_of parts.tables)
have_apps parts fact = ∥∥₁_elim fact (Prim.hlevel props) (λ (so : Replays parts). λ number instance there.
    (All-get (λ (kept : ℕ × Instance). IsInMemory (booted_of_setup parts.setup) kept.1) (tables_of parts.tables).instances number instance
    (sound_so parts so).memory.instances there).application)

-- ---- with more room

-- the parts with more room for events stand for the same kernel
pub roomier_stands : (old new : Parts) (k : Kernel) → HasMoreRoom old new → StandsFor old k → StandsFor new k
roomier_stands old new k more stands =
    let room = stands.room in
    let spare = more.spare in
    subst (λ (parts : Parts). StandsFor parts k) (sym more.stays) (record {
      cpus = stands.cpus;
      threads = stands.threads;
      slots = stands.slots;
      processors = stands.processors;
      tables = stands.tables;
      pages = stands.pages;
      room = omega (arith, room, spare);
    })

roomier : (old new : Parts) → HasMoreRoom old new → Replays old → Replays new
roomier old new more so =
    let setup : new.setup ≡ old.setup = ap (λ (parts : Parts). parts.setup) more.stays in
    record {
      kernel = so.kernel;
      is_boot = subst (λ s. IsBoot (boot_of s)) (sym setup) so.is_boot;
      are_natives = subst (λ s. AreNatives (boot_of s) (natives_of s)) (sym setup) so.are_natives;
      comes_to = ap₂ (λ s (events : List Event). kernel_after (booted_of_setup s) events) setup more.events ∙ so.comes_to;
      stands = roomier_stands old new so.kernel more so.stands;
      keeps = more.keeps ∙ so.keeps ∙ sym (ap (λ s. s.terms.keeps) setup);
      few = subst (λ s. copied_bytes new.journal.events ≤ s.terms.most) (sym setup)
          (subst (λ (events : List Event). copied_bytes events ≤ old.setup.terms.most) (sym more.events) so.few);
      bounded = subst (λ s. s.terms.most ≤ 2 ^ 63) (sym setup) so.bounded;
      agree = subst (λ (events : List Event). AllByRecursion ReadsAgree events) (sym more.events) so.agree;
    }

pub roomier_replays : (old new : Parts) → HasMoreRoom old new → ∥ Replays old ∥₁ → ∥ Replays new ∥₁
roomier_replays old new more fact = ∥∥₁_map fact (roomier old new more)

-- ---- the work

-- the work of the processor, by what was decided
pub work_after : (boot : Booted) (history : List Event) (k : Kernel) (decision : Decision) (visitor : Visitor) (work : Work) →
    kernel_after boot history ≡ Some (after_decision k (visit_of (coming_of visitor)) decision) →
    slice_get k.processors visitor.cpu ≡ Some Outside → work.cpu ≡ visitor.cpu → work.steps ≡ visitor.steps → IsCarriedBy work.call decision →
    IsWorkOf (after_decision k (visit_of (coming_of visitor)) decision) work
work_after boot history k (model.Answers answer) visitor work comes outside cpu steps carried =
    let next = after_decision k (visit_of (coming_of visitor)) (model.Answers answer) in
    let there : slice_get next.processors work.cpu ≡ Some (kernel.Inside visitor.regs.a visitor.steps (kernel.Fixed answer)) =
    ap (slice_get next.processors) cpu ∙ set_found k.processors visitor.cpu (kernel.Inside visitor.regs.a visitor.steps (kernel.Fixed answer)) Outside outside in
    subst (IsWorkIn next work) (sym there) (steps, carried)
work_after boot history k (model.Takes slot taken) visitor work comes outside cpu steps carried =
    let next = after_decision k (visit_of (coming_of visitor)) (model.Takes slot taken) in
    let inside : slice_get next.processors visitor.cpu ≡ Some (kernel.Inside visitor.regs.a visitor.steps (kernel.InSlot slot)) =
    set_found k.processors visitor.cpu (kernel.Inside visitor.regs.a visitor.steps (kernel.InSlot slot)) Outside outside in
    let at = (works boot history next comes).work visitor.cpu slot visitor.steps visitor.regs.a inside in
    let active : slice_get next.slots slot ≡ Some (kernel.Active visitor.cpu taken.call) =
    at.1 ∙ ap (λ (held : ThreadSlot). Some held) (sym (set_then_read (kernel.cancelled_slots k.slots taken.cancels) slot (kernel.Active visitor.cpu taken.call) (kernel.Active visitor.cpu at.0) at.1)) in
    subst (IsWorkIn next work) (sym (ap (slice_get next.processors) cpu ∙ inside))
    (steps, subst (IsCarriedFor work.cpu work.call) (sym active) (cpu, carried))

-- its granted steps fit
can_advance : (cont : Box (Cont (List ℕ))) (call : PendingCall) (phase : CallPhase) → call.phase ≡ phase → IsCarriedAs (Running cont) call phase →
    IsCall cont.value call × CanAdvance bytes_of cont.value
can_advance cont call (Runs job) at is = (is, (subst (IsInPhase cont.value) at is.phase).1)
can_advance cont call (Asks job wanted payload) at is = absurd is
can_advance cont call (Waits params) at is = absurd is
can_advance cont call (Ends result params told wakes) at is = absurd is

few_steps : (done granted now events : ℕ) → now ≡ done → granted ≤ 1000000 → done + 1000000 ≤ 1000000 * events → events ≤ 18446744073709551616 →
    now + granted < 340282366920938463463374607431768211456
few_steps done granted now events same most all few = omega (arith, same, most, all, few)

pub ready_after : (boot : Booted) (history : List Event) (k : Kernel) (decision : Decision) (visitor : Visitor) (call : Carried) →
    kernel_after boot history ≡ Some (after_decision k (visit_of (coming_of visitor)) decision) →
    slice_get k.processors visitor.cpu ≡ Some Outside → visitor.steps ≤ 1000000 → length history ≤ 18446744073709551616 → IsCarriedBy call decision →
    CanBeGranted visitor.steps call
ready_after boot history k decision visitor Nothing comes outside steps few carried = tt
ready_after boot history k decision visitor (Resting cont) comes outside steps few carried = tt
ready_after boot history k (model.Answers answer) visitor (Running cont) comes outside steps few carried = absurd cc
ready_after boot history k (model.Takes slot taken) visitor (Running cont) comes outside steps few carried =
    let next = after_decision k (visit_of (coming_of visitor)) (model.Takes slot taken) in
    let inside : slice_get next.processors visitor.cpu ≡ Some (kernel.Inside visitor.regs.a visitor.steps (kernel.InSlot slot)) =
    set_found k.processors visitor.cpu (kernel.Inside visitor.regs.a visitor.steps (kernel.InSlot slot)) Outside outside in
    let at = (works boot history next comes).work visitor.cpu slot visitor.steps visitor.regs.a inside in
    let active : slice_get next.slots slot ≡ Some (kernel.Active visitor.cpu taken.call) =
    at.1 ∙ ap (λ (held : ThreadSlot). Some held) (sym (set_then_read (kernel.cancelled_slots k.slots taken.cancels) slot (kernel.Active visitor.cpu taken.call) (kernel.Active visitor.cpu at.0) at.1)) in
    let is = can_advance cont taken.call taken.call.phase refl carried in
    let done = (steps_granted boot history next comes).calls slot (kernel.Active visitor.cpu taken.call) active in
    (is.1, few_steps taken.call.steps visitor.steps cont.value.steps (length history) is.0.steps steps done few)
