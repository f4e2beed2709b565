-- An item up to its exit, as its player begins it; and what is kept before that.
use Rattle.std.proofs.Common.{ap}
use Rattle.std.proofs.lemmas.Result.{err_from_is_err_and}
use Rattle.notify_play.specs.NotifyPlay.{with_play}
use Rattle.trace_player.specs.Items.{up_to_exit}
use Rattle.trace_player.specs.Position.{visit_at}
use Rattle.trace_player.proofs.Moved.{entry-refused, leave-exit, smc-exit}
use Rattle.notify_player.specs.Playing.{position_in}
use Rattle.notify_player.proofs.Watched.{leave_kept, smc_kept_by}
use Rattle.notify_player.proofs.player.NotifyPlayer.begin_watched.Goals as goal

pub returns-in_err-enter-in-Smc-clause-begins : goal.returns-in_err-enter-in-Smc-clause-begins
returns-in_err-enter-in-Smc-clause-begins c = λ boot at stands.
    let failed = err_from_is_err_and c.from_residual.result c.from_residual.ensures.1 in
    rw (failed.1, failed.2) (entry-refused boot at c.args.item.now (visit_at at c.in-Smc.cpu c.in-Smc.steps c.in-Smc.regs)
    c.in_err-enter-in-Smc.field-0.0 c.enter.new.self c.args.lines.now.items (ap (up_to_exit boot at) c.in-Smc.is)
    (c.in_err-enter-in-Smc.ensures.comes boot at stands))

pub returns-in_ok-keep_pages-in-Smc-clause-begins : goal.returns-in_ok-keep_pages-in-Smc-clause-begins
returns-in_ok-keep_pages-in-Smc-clause-begins c = λ boot at stands.
    let came = c.in_ok-enter-in-Smc.ensures.comes boot at stands in
    rw c.in-Smc.is (smc-exit boot at c.in-Smc.cpu c.in-Smc.steps c.in-Smc.regs c.leave.result c.enter.new.self c.leave.new.self
    c.args.lines.now.items c.leave.ensures.cpu came (c.leave.ensures.leaves boot _ came.2)
    (c.leave.ensures.panic boot _ came.2))

pub returns-in_ok-keep_pages-in-Leave-clause-begins : goal.returns-in_ok-keep_pages-in-Leave-clause-begins
returns-in_ok-keep_pages-in-Leave-clause-begins c = λ boot at stands.
    rw c.in-Leave.is (leave-exit boot at c.in-Leave.cpu c.leave-in-Leave.result c.args.self.now.player c.leave-in-Leave.new.self
    c.args.lines.now.items c.leave-in-Leave.ensures.cpu stands (c.leave-in-Leave.ensures.leaves boot at stands)
    (c.leave-in-Leave.ensures.panic boot at stands))

pub returns-in_ok-keep_pages-in-Smc-clause-kept : goal.returns-in_ok-keep_pages-in-Smc-clause-kept
returns-in_ok-keep_pages-in-Smc-clause-kept c = λ boot ds told next cpu stands out after.
    let came = c.in_ok-enter-in-Smc.ensures.comes boot (position_in told) stands.at in
    smc_kept_by boot ds c.in-Smc.cpu cpu c.in-Smc.steps c.in-Smc.regs told next came.0 c.keep_pages.new.kept
    (rw c.in-Smc.is at out) came.1 came.2.machine.goes_on
    (λ n e. c.in_ok-keep_pages-in-Smc.ensures boot ds (with_play told came.0) n
    (record { at = came.2; count = stands.count; desk = stands.desk }) e)
    (rw c.in-Smc.is at after)

pub returns-in_ok-keep_pages-in-Leave-clause-kept : goal.returns-in_ok-keep_pages-in-Leave-clause-kept
returns-in_ok-keep_pages-in-Leave-clause-kept c = λ boot ds told next cpu stands out after.
    leave_kept boot ds c.in-Leave.cpu cpu told next c.keep_pages-in-Leave.new.kept (rw c.in-Leave.is at out)
    (λ n e. c.in_ok-keep_pages-in-Leave.ensures boot ds told n stands e) (rw c.in-Leave.is at after)
