use Rattle.std.proofs.Common.{ℕ, List, [], ◌∷◌, ap, subst}
use Rattle.std.proofs.lemmas.Result.{err_from_is_err_and}
use Rattle.play_model.specs.Play.{with_writes}
use Rattle.trace_player.specs.Items.{up_to_exit}
use Rattle.trace_player.specs.Position.{StandsAt, visit_at}
use Rattle.trace_player.proofs.Moved.{enter-alone, entry-refused, leave-exit, show-alone, smc-exit, write-alone}
use Rattle.trace_player.proofs.player.Player.begin_item.Goals as goal

-- ---- an entry and its exit

pub returns-in_err-enter-in-Smc-clause-begins : goal.returns-in_err-enter-in-Smc-clause-begins
returns-in_err-enter-in-Smc-clause-begins c = λ boot at stands.
    let failed = err_from_is_err_and c.from_residual.result c.from_residual.ensures.1 in
    rw (failed.1, failed.2) (entry-refused boot at c.args.item.now (visit_at at c.in-Smc.cpu c.in-Smc.steps c.in-Smc.regs)
    c.in_err-enter-in-Smc.field-0.0 c.enter.new.self c.args.lines.now.items (ap (up_to_exit boot at) c.in-Smc.is)
    (c.in_err-enter-in-Smc.ensures.comes boot at stands))

pub returns-in_ok-enter-in-Smc-clause-begins : goal.returns-in_ok-enter-in-Smc-clause-begins
returns-in_ok-enter-in-Smc-clause-begins c = λ boot at stands.
    let came = c.in_ok-enter-in-Smc.ensures.comes boot at stands in
    rw c.in-Smc.is (smc-exit boot at c.in-Smc.cpu c.in-Smc.steps c.in-Smc.regs c.leave.result c.enter.new.self c.leave.new.self
    c.args.lines.now.items c.leave.ensures.cpu came (c.leave.ensures.leaves boot _ came.2)
    (c.leave.ensures.panic boot _ came.2))

-- ---- an entry

pub returns-in_err-enter-in-Enter-clause-begins : goal.returns-in_err-enter-in-Enter-clause-begins
returns-in_err-enter-in-Enter-clause-begins c = λ boot at stands.
    let failed = err_from_is_err_and c.from_residual-in_err-enter-in-Enter.result c.from_residual-in_err-enter-in-Enter.ensures.1 in
    rw (failed.1, failed.2) (entry-refused boot at c.args.item.now
    (visit_at at c.in-Enter.cpu c.in-Enter.steps c.in-Enter.regs) c.in_err-enter-in-Enter.field-0.0 c.enter-in-Enter.new.self
    c.args.lines.now.items (ap (up_to_exit boot at) c.in-Enter.is) (c.in_err-enter-in-Enter.ensures.comes boot at stands))

pub returns-in_ok-enter-in-Enter-clause-begins : goal.returns-in_ok-enter-in-Enter-clause-begins
returns-in_ok-enter-in-Enter-clause-begins c = λ boot at stands.
    rw c.in-Enter.is (enter-alone boot at c.in-Enter.cpu c.in-Enter.steps c.in-Enter.regs c.enter-in-Enter.new.self
    c.args.lines.now.items (c.in_ok-enter-in-Enter.ensures.comes boot at stands))

-- ---- an exit

pub returns-in-Leave-clause-begins : goal.returns-in-Leave-clause-begins
returns-in-Leave-clause-begins c = λ boot at stands.
    rw c.in-Leave.is (leave-exit boot at c.in-Leave.cpu c.leave-in-Leave.result c.args.self.now c.leave-in-Leave.new.self
    c.args.lines.now.items c.leave-in-Leave.ensures.cpu stands (c.leave-in-Leave.ensures.leaves boot at stands)
    (c.leave-in-Leave.ensures.panic boot at stands))

-- ---- a write, a show

pub returns-in-Write-clause-begins : goal.returns-in-Write-clause-begins
returns-in-Write-clause-begins c = λ boot at stands.
    rw c.in-Write.is (write-alone boot at c.in-Write.cpu c.in-Write.addr c.in-Write.bytes c.write.new.self
    c.args.lines.now.items
    (subst (λ (bytes : List ℕ). StandsAt boot
    (record at { play = with_writes c.in-Write.cpu (record { addr = c.in-Write.addr; bytes = bytes } ∷ []) at.play }) c.write.new.self)
    c.as_slice.ensures (c.write.ensures.writes boot at stands)))

pub returns-in_ok-show-in-Show-clause-begins : goal.returns-in_ok-show-in-Show-clause-begins
returns-in_ok-show-in-Show-clause-begins c = λ boot at stands.
    rw c.in-Show.is (show-alone boot at c.in-Show.cpu c.in-Show.addr c.in-Show.len c.args.self.now c.args.lines.now.items
    c.show.new.lines.items stands (c.in_ok-show-in-Show.ensures.shows boot at stands))
