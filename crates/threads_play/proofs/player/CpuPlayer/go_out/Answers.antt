-- The work is that of the open entry still, and the exit is the next act of the processor's part.
use Rattle.std.proofs.Common.{ℕ, ◌<◌, Option, sym, subst}
use Rattle.kernel_state.specs.declared.work.Work.{Work}
use Rattle.normal_cpus.specs.Sharing.{boot_of}
use Rattle.threads_play.specs.Standing.{IsReady}
use Rattle.threads_play.proofs.Moves.{gone_out}
use Rattle.threads_play.proofs.Passes.{seen_at_exit}
use Rattle.threads_play.proofs.player.CpuPlayer.go_out.Goals as goal

pub leave-answer-requires-clause-can : goal.leave-answer-requires-clause-can
leave-answer-requires-clause-can g c =
    (subst (λ (w : Option Work). IsReady (boot_of c.args.shared.now) c.args.self.now.pass w) (sym c.in-Some.ensures.value) c.requires.on.ready)
    c.run-ran.result c.run-ran.ensures

pub returns-clause-on : goal.returns-clause-on
returns-clause-on g c =
    let boot = boot_of c.args.shared.now in
    record {
      on = record {
        own = c.leave-answer.ensures.own;
        few = subst (λ (n : ℕ). n < 8) (sym c.leave-answer.ensures.same) c.requires.on.few;
        ready = subst (λ (w : Option Work). IsReady boot c.leave-answer.new.pass w) (sym c.take.ensures.after) c.leave-answer.ensures.outside;
      };
      same = c.leave-answer.ensures.same;
      begins = seen_at_exit boot c.args.self.now.pass c.leave-answer.new.pass c.run-ran.result c.args.self.now.lane c.leave-answer.new.lane
          c.leave-answer.result c.leave-answer.ensures.goes;
    }

pub returns-clause-goes : goal.returns-clause-goes
returns-clause-goes g c items lane acts was =
    gone_out (boot_of c.args.shared.now) items lane acts c.args.self.now c.leave-answer.new.pass c.requires.on.own.0.own_entries
    c.leave-answer.ensures.same c.leave-answer.new.lane c.leave-answer.result _ c.run-ran.result c.in-Some.work c.take.new.self (sym c.in-Some.ensures.value) c.take.ensures.after
    c.run-ran.ensures c.leave-answer.ensures.goes was
