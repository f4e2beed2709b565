-- What the exit asks, and what is told and written of it.
use Rattle.std.proofs.Common.{◌≡◌, ◌<◌, ap, subst, sym, ◌∙◌}
use Rattle.core_machine.specs.declared.machine.Machine.{Machine}
use Rattle.desk_answers.specs.Duties.{duty_in}
use Rattle.event_log.specs.LastEntry.{last_entry}
use Rattle.kernel_model.specs.Application.{Booted}
use Rattle.kernel_model.specs.Argument.{reg}
use Rattle.kernel_state.specs.Meaning.{booted_of, events_of}
use Rattle.kernel_state.specs.declared.kernel_core.Core.{Core}
use Rattle.native_tas.specs.Table.{drivers}
use Rattle.notify_play.specs.Duty.{CameIn, duty_of}
use Rattle.notify_player.specs.Asking.{IsToldAlike}
use Rattle.notify_player.proofs.Answered.{entry-before, told-follows}
use Rattle.notify_player.proofs.Left.{argument-there}
use Rattle.notify_player.proofs.player.NotifyPlayer.answer.Goals as goal

-- the history of each core is legal
pub asked_by-asked-requires : goal.asked_by-asked-requires
asked_by-asked-requires g c =
    let core = c.args.self.now.player.machine.at_work.core in
    record {
      boot = booted_of core;
      history = events_of core;
      cpu = c.args.answered.cpu;
      legal = c.journals_stay_legal.ensures.legal core;
      last = c.last_entry-entry.ensures ∙ ap (λ (on : Core). last_entry c.args.answered.cpu (events_of on)) (c.core.ensures ∙ ap (λ (m : Machine). m.at_work.core) c.machine.ensures);
    }

pub write_result-requires-clause-ram : goal.write_result-requires-clause-ram
write_result-requires-clause-ram g c =
    argument-there (drivers c.args.natives.now) c.args.self.now.desk _ c.answer-told.result.result
    c.asked_by-asked.ensures.argument c.answer-told.ensures.writes

-- the machine has the same boot
pub tell-requires : goal.tell-requires
tell-requires g c = record {
  few = c.requires.told.few;
  lane = subst (λ (on : Booted). c.args.answered.cpu < on.cpus) (sym c.write_result.ensures.boot) c.requires.told.lane;
}

pub returns-clause-follows : goal.returns-clause-follows
returns-clause-follows g c = λ boot told gone.
    let ds = drivers c.args.natives.now in
    let asked = c.asked_by-asked.result in
    let machine = gone.goes.stands.machine in
    let here = entry-before boot ds told c.args.answered c.args.self.now _ gone
    (c.last_entry-entry.ensures ∙ ap (λ (on : Core). last_entry c.args.answered.cpu (events_of on)) (c.core.ensures ∙ ap (λ (m : Machine). m.at_work.core) c.machine.ensures)) in
    told-follows boot ds told c.args.answered c.args.self.now _ gone
    (c.machines_stand.ensures.lanes boot gone.goes.next c.args.self.now.player.machine machine)
    (subst (λ (on : Booted). c.args.answered.cpu < on.cpus) machine.booted c.requires.told.lane)
    (record {
      caller = asked.caller;
      asked = asked.duty;
      duty =
          subst (λ (came : CameIn). duty_in asked.duty ≡ duty_of came (reg c.args.answered.regs.a 0))
          here c.asked_by-asked.ensures.duty;
      alike =
          subst (λ (came : CameIn). IsToldAlike came.regs asked.caller.a (duty_in asked.duty))
          here c.asked_by-asked.ensures.caller;
      regs = c.answer-told.result.regs;
      told_so = c.answer-told.ensures.regs;
      result = c.answer-told.result.result;
      writes = c.answer-told.ensures.writes;
      at = c.tell.ensures.tells boot _ (c.write_result.ensures.writes boot _ gone.goes.stands);
      desk = c.answer-told.ensures.desk;
    })
    c.tell.result _ _ c.tell.ensures.line c.tell.ensures.memory
