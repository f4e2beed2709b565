-- What the processor came for.
use Rattle.std.proofs.Common.{◌≡◌, ℕ, Some, None, subst, sym}
use Rattle.std.specs.Prelude.{IfOk, slice_get}
use Rattle.journal_notes.proofs.Worked.{kept_in}
use Rattle.realm_notes.specs.Noted.{AreNoted}
use Rattle.realm_notes.specs.Meaning.{IsExitNoted}
use Rattle.realm_notes.specs.Replaying.{errand_at}
use Rattle.realm_notes.proofs.GoneOut.{came_for, comes_for, exit_answered, few_processors, few_slots}
use Rattle.kernel_state.specs.declared.processor.Errand.TheVariants.{Fixed, InSlot}
use Rattle.realm_model.specs.Reading as realm
use Rattle.realm_notes.proofs.event_notes.NotesEventNotes.go_out.Goals as goal

pub leave_slot-requires-clause-slot : goal.leave_slot-requires-clause-slot
leave_slot-requires-clause-slot c =
    let core = c.args.at_work.now.core in
    let items = core.parts.processors.items in
    let kept = kept_in c.args.at_work.now c.args.cpu c.requires in
    let is : errand_at (slice_get items c.args.cpu) ≡ Some (InSlot c.in-Some-InSlot.slot) =
    cc (c.errand_of.ensures, c.as_slice.ensures.value, c.in-Some-InSlot.is, c.in-Some-InSlot.field-0-is) in
    few_slots core kept.0 c.in-Some-InSlot.slot kept.1.can
    (came_for core kept.0 c.args.cpu (Some (InSlot c.in-Some-InSlot.slot)) kept.1.its_own is)

pub leave_slot-requires-clause-errand : goal.leave_slot-requires-clause-errand
leave_slot-requires-clause-errand c =
    cc (c.errand_of.ensures, c.as_slice.ensures.value, c.in-Some-InSlot.is, c.in-Some-InSlot.field-0-is)

pub leave_answered-requires : goal.leave_answered-requires
leave_answered-requires c =
    let items = c.args.at_work.now.core.parts.processors.items in
    let is : errand_at (slice_get items c.args.cpu) ≡ Some (Fixed c.in-Some-Fixed.field-0-0) =
    cc (c.errand_of.ensures, c.as_slice.ensures.value, c.in-Some-Fixed.is, c.in-Some-Fixed.field-0-is) in
    few_processors c.args.at_work.now.core c.args.cpu (Fixed c.in-Some-Fixed.field-0-0) is

pub unreachable-requires : goal.unreachable-requires
unreachable-requires c =
    let core = c.args.at_work.now.core in
    let items = core.parts.processors.items in
    let kept = kept_in c.args.at_work.now c.args.cpu c.requires in
    let is : errand_at (slice_get items c.args.cpu) ≡ None =
    cc (c.errand_of.ensures, c.as_slice.ensures.value, c.in-None.is) in
    comes_for core kept.0 kept.1.can (came_for core kept.0 c.args.cpu None kept.1.its_own is)

pub returns-in-Some-Fixed-clause-noted : goal.returns-in-Some-Fixed-clause-noted
returns-in-Some-Fixed-clause-noted c =
    let old = c.args.at_work.now.core in
    let new = c.leave.new.self.core in
    let lane = c.args.lane.now in
    let now = c.leave.new.lane in
    let items = old.parts.processors.items in
    let out = c.leave.ensures in
    let answer = c.in-Some-Fixed.field-0-0 in
    let is : errand_at (slice_get items c.args.cpu) ≡ Some (Fixed answer) =
    cc (c.errand_of.ensures, c.as_slice.ensures.value, c.in-Some-Fixed.is, c.in-Some-Fixed.field-0-is) in
    subst (λ (n : ℕ). IfOk c.leave_answered.result (λ _. IsExitNoted old new c.args.self.now c.leave_answered.new.self n lane now))
    out.its_own
    (exit_answered old new out.ran lane now c.leave.result.regs answer c.args.self.now c.leave_answered.new.self
    c.leave_answered.result out.has_left
    (came_for old out.ran c.args.cpu (Some (Fixed answer)) out.its_own is)
    (λ notes are. subst (λ (n : ℕ). IfOk c.leave_answered.result (λ _. AreNoted c.leave_answered.new.self (realm.limit_noted notes n)))
    (sym out.its_own) (c.leave_answered.ensures.noted notes are)))
