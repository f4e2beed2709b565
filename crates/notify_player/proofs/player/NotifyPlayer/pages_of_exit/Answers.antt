-- What the core and the desk write at an exit.
use Rattle.std.proofs.Common.{◌≡◌, ◌<◌, ℕ, List, Option, None, sym, ap, subst, ◌∙◌}
use Rattle.core_machine.specs.Standing.{IsAt}
use Rattle.core_machine.specs.declared.machine.Machine.{Machine}
use Rattle.event_journal.specs.declared.event.Event.{Event}
use Rattle.event_log.specs.LastEntry.{last_entry}
use Rattle.kernel_model.specs.Application.{Booted}
use Rattle.kernel_state.specs.Meaning.{events_of}
use Rattle.kernel_state.specs.declared.kernel_core.Core.{Core}
use Rattle.notify_play.specs.Duty as play
use Rattle.notify_player.specs.Asking.{HasArgument, came_by}
use Rattle.notify_player.specs.Watching.{CoversDuty}
use Rattle.notify_player.proofs.Coming.{went_out}
use Rattle.notify_player.proofs.Entries.{came-folded}
use Rattle.notify_player.proofs.Watched.{exit_stays}
use Rattle.notify_player.proofs.player.NotifyPlayer.pages_of_exit.Goals as goal

pub returns : goal.returns
returns c = λ boot ds told next stands whole goes.
    let cpu = c.args.cpu in
    let machine = c.args.self.now.player.machine in
    let at = stands.at.machine in
    let at_lent = subst (IsAt boot told.play) (sym c.machine-machine.ensures) at in
    let w = went_out boot ds cpu told next goes in
    let last = c.last_entry-entry.ensures ∙ ap (λ (on : Core). last_entry cpu (events_of on)) (c.core.ensures ∙ ap (λ (m : Machine). m.at_work.core) c.machine-machine.ensures) in
    let came = ap came_by last ∙ ap (λ (h : List Event). came_by (last_entry cpu h)) at.history
    ∙ came-folded cpu None told.play.history in
    let same = c.asked_by-asked.ensures.duty ∙ ap (λ (it : play.CameIn). play.duty_of it 5) came in
    let within = subst (λ (n : ℕ). cpu < n) (sym (c.machines_stand.ensures.lanes boot told.play machine at))
    (subst (λ (on : Booted). cpu < on.cpus) at.booted c.requires.lane) in
    exit_stays boot ds cpu told next c.pages_of_exit-pages.result c.mark_duty.new.pages w within
    (c.pages_of_exit-pages.ensures.stays boot told.play w.exited _ at_lent w.there whole)
    (c.pages_of_exit-pages.ensures.long boot told.play w.exited _ at_lent w.there whole)
    c.mark_duty.ensures.keeps
    (subst (λ (d : play.Duty). HasArgument d) same c.asked_by-asked.ensures.argument)
    (subst (λ (d : play.Duty). CoversDuty c.mark_duty.new.pages d) same c.mark_duty.ensures.covers)
