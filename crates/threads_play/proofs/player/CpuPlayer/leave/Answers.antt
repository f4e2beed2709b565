-- The answer is printed behind the exit.
use Rattle.std.proofs.Common.{◌≡◌, ℕ, ◌++◌, refl, subst}
use Rattle.normal_cpus.specs.Sharing.{boot_of}
use Rattle.ordered_play.specs.Blocks.{placed_ret_line}
use Rattle.threads_play.proofs.Moves.{told}
use Rattle.threads_play.proofs.Passes.{on_further, on_same}
use Rattle.threads_play.proofs.player.CpuPlayer.leave.Goals as goal

pub returns-in-Ok-clause-on : goal.returns-in-Ok-clause-on
returns-in-Ok-clause-on g c =
    on_further c.args.shared.now c.args.self.now c.go_out-answer.new.self _ c.go_out-answer.ensures.on
    (on_same c.args.shared.now c.go_out-answer.new.self _ refl refl c.go_out-answer.ensures.on.on)

pub returns-in-Err-clause-on : goal.returns-in-Err-clause-on
returns-in-Err-clause-on g c =
    on_further c.args.shared.now c.args.self.now c.go_out-answer.new.self _ c.go_out-answer.ensures.on
    (on_same c.args.shared.now c.go_out-answer.new.self _ refl refl c.go_out-answer.ensures.on.on)

pub returns-in-Ok-clause-leaves : goal.returns-in-Ok-clause-leaves
returns-in-Ok-clause-leaves g c items lane acts was =
    let regs = c.go_out-answer.result.regs.a in
    let answer = c.go_out-answer.result in
    let before = c.go_out-answer.new.self.block.items in
    told (boot_of c.args.shared.now) items lane acts c.go_out-answer.new.self _ answer refl
    (subst (λ (n : ℕ). c.push_answer.new.block.items ≡ before ++ placed_ret_line n answer.regs.a answer.entry_at answer.exit_at)
    c.cpu-cpu.ensures c.in-Ok.ensures)
    (c.go_out-answer.ensures.goes items lane acts was)
