-- What the exit made of the core, and what was seen of its slot.
use Rattle.std.proofs.Common.{◌≡◌, ℕ, Some, ap, subst, sym, ◌∙◌}
use Rattle.std.specs.Prelude.{IfOk}
use Rattle.std.specs.Option.{option_and_then, option_map}
use Rattle.kernel_state.specs.declared.processor.Errand.TheVariants.{InSlot}
use Rattle.kernel_state.specs.declared.work.Ran.{Ran as AnyRan}
use Rattle.realm_model.specs.Reading.{number_of}
use Rattle.realm_notes.proofs.GoneOut.{came_for, exit_ended, exit_of_other, exit_waiting, must_tell}
use Rattle.realm_notes.specs.Meaning.{IsExitNoted}
use Rattle.realm_notes.specs.Noted.{opened_by}
use Rattle.realm_notes.specs.Realms.{realm_of}
use Rattle.realm_notes.specs.Telling.{reply_with, told_at_end}
use Rattle.realm_notes.proofs.going.leave_slot.Goals as goal

pub returns-in_default-clause-noted : goal.returns-in_default-clause-noted
returns-in_default-clause-noted c =
    let old = c.args.at_work.now.core in
    let new = c.leave.new.self.core in
    let lane = c.args.lane.now in
    let now = c.leave.new.lane in
    let out = c.leave.ensures in
    subst (λ (n : ℕ). IsExitNoted old new c.args.notes.now c.args.notes.now n lane now) out.its_own
    (exit_of_other old new out.ran lane now c.leave.result.regs out.has_left out.can c.args.slot
    (came_for old out.ran c.args.cpu (Some (InSlot c.args.slot)) out.its_own c.requires.errand) c.args.notes.now c.in_default.ensures)

pub unreachable-requires : goal.unreachable-requires
unreachable-requires c =
    let old = c.args.at_work.now.core in
    let out = c.leave-2.ensures in
    let same : c.outgoing.result.now ≡ out.ran = (let both : Some c.outgoing.result.now ≡ Some out.ran = sym c.outgoing.ensures.kept ∙ out.was in cc) in
    must_tell old c.leave-2.new.self.core out.ran c.args.lane.now c.leave-2.new.lane c.leave-2.result.regs out.has_left out.can
    c.args.slot
    (came_for old out.ran c.args.cpu (Some (InSlot c.args.slot)) out.its_own c.requires.errand) c.opened_as-opened.result
    (sym c.in-None-None.ensures)
    (ap (λ (ran : AnyRan). option_map (reply_with c.opened_as-opened.result) (told_at_end ran.call)) (sym same)
    ∙ sym c.in_ok-told.ensures ∙ c.in-None-None.is-1)

pub returns-in-Some-default-clause-noted : goal.returns-in-Some-default-clause-noted
returns-in-Some-default-clause-noted c =
    let old = c.args.at_work.now.core in
    let new = c.leave-2.new.self.core in
    let lane = c.args.lane.now in
    let now = c.leave-2.new.lane in
    let out = c.leave-2.ensures in
    subst (λ (n : ℕ). IfOk c.suspend.result (λ _. IsExitNoted old new c.args.notes.now c.suspend.new.self n lane now))
    out.its_own
    (exit_waiting old new out.ran lane now c.leave-2.result.regs out.has_left out.can c.args.slot
    (came_for old out.ran c.args.cpu (Some (InSlot c.args.slot)) out.its_own c.requires.errand) c.args.notes.now c.suspend.new.self c.suspend.result c.in-Some.number
    c.in-Some-default.cont.now c.in-Some.ensures (sym c.in-Some-default.ensures) c.suspend.ensures.noted)

pub returns-in-None-Some-clause-noted : goal.returns-in-None-Some-clause-noted
returns-in-None-Some-clause-noted c =
    let old = c.args.at_work.now.core in
    let new = c.leave-2.new.self.core in
    let lane = c.args.lane.now in
    let now = c.leave-2.new.lane in
    let out = c.leave-2.ensures in
    let realm = realm_of c.args.notes.now.realm in
    let same : c.outgoing.result.now ≡ out.ran = (let both : Some c.outgoing.result.now ≡ Some out.ran = sym c.outgoing.ensures.kept ∙ out.was in cc) in
    subst (λ (n : ℕ). IfOk c.finish.result (λ _. IsExitNoted old new c.args.notes.now c.finish.new.self n lane now))
    out.its_own
    (exit_ended old new out.ran lane now c.leave-2.result.regs out.has_left out.can c.args.slot
    (came_for old out.ran c.args.cpu (Some (InSlot c.args.slot)) out.its_own c.requires.errand) c.args.notes.now c.finish.new.self c.finish.result c.in-Some.number
    c.opened_as-opened.result c.in-None-Some.told c.in-Some.ensures (sym c.in-None-Some.ensures)
    (ap (λ (ran : AnyRan). option_map (reply_with c.opened_as-opened.result) (told_at_end ran.call)) (sym same)
    ∙ sym c.in_ok-told.ensures ∙ c.in-None-Some.is-1)
    (λ notes are. c.opened_as-opened.ensures notes are
    ∙ ap (option_and_then (number_of realm notes)) c.opened_by.ensures
    ∙ ap (λ (ran : AnyRan). option_and_then (number_of realm notes) (option_and_then (opened_by ran.call) (told_at_end ran.call))) same)
    c.finish.ensures.noted)
