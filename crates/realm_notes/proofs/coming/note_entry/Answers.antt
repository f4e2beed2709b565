use Rattle.std.proofs.Common.{◌≡◌, Some, subst}
use Rattle.std.specs.Prelude.{slice_get}
use Rattle.kernel_state.specs.declared.processor.Errand.TheVariants as errand
use Rattle.realm_notes.proofs.GoneOut.{comes_for, few_slots}
use Rattle.realm_notes.proofs.HasCome.{answered_so, arrived_in, same_tables}
use Rattle.realm_notes.specs.Arriving.{Watch, watch}
use Rattle.realm_notes.specs.Noted.{AreNoted}
use Rattle.realm_notes.specs.Realms.{realm_of}
use Rattle.realm_notes.specs.Replaying.{errand_at}
use Rattle.realm_notes.proofs.coming.note_entry.Goals as goal

pub note_in_slot-requires-clause-slot : goal.note_in_slot-requires-clause-slot
note_in_slot-requires-clause-slot c =
    few_slots c.args.core.now c.args.ran.now c.in-Some-InSlot.slot c.requires.can
    (cc (c.requires.own, c.errand_of.ensures, c.as_slice.ensures.value, c.in-Some-InSlot.is, c.in-Some-InSlot.field-0-is))

pub unreachable-requires : goal.unreachable-requires
unreachable-requires c =
    comes_for c.args.core.now c.args.ran.now c.requires.can
    (cc (c.requires.own, c.errand_of.ensures, c.as_slice.ensures.value, c.in-None.is))

pub returns-in-Some-Fixed-clause-noted : goal.returns-in-Some-Fixed-clause-noted
returns-in-Some-Fixed-clause-noted c boot kernel next before reads work run has are =
    let w : Watch = watch boot (realm_of c.args.notes.now.realm) before kernel in
    let at : errand_at (slice_get c.args.core.now.parts.processors.items c.args.visitor.cpu) ≡ Some (errand.Fixed c.in-Some-Fixed.answer) =
    cc (c.errand_of.ensures, c.as_slice.ensures.value, c.in-Some-Fixed.is, c.in-Some-Fixed.field-0-is) in
    subst (AreNoted c.note_answered.new.notes)
    (answered_so c.args.core.now.parts w next c.args.visitor reads c.args.arrival work has c.in-Some-Fixed.answer at)
    (c.note_answered.ensures.noted kernel next reads before
    (same_tables c.args.core.now.parts w next c.args.visitor reads c.args.arrival work has c.in-Some-Fixed.answer at) are)

pub returns-in-Some-InSlot-clause-noted : goal.returns-in-Some-InSlot-clause-noted
returns-in-Some-InSlot-clause-noted c boot kernel next before reads work run has are =
    let w : Watch = watch boot (realm_of c.args.notes.now.realm) before kernel in
    let at : errand_at (slice_get c.args.core.now.parts.processors.items c.args.visitor.cpu) ≡ Some (errand.InSlot c.in-Some-InSlot.slot) =
    cc (c.errand_of.ensures, c.as_slice.ensures.value, c.in-Some-InSlot.is, c.in-Some-InSlot.field-0-is) in
    c.note_in_slot.ensures.noted boot kernel next before c.args.visitor reads work run
    (arrived_in c.args.core.now.parts w next c.args.visitor reads c.args.arrival work has c.in-Some-InSlot.slot at) are
