-- An entry, and then an exit.
use Rattle.std.proofs.Common.{◌∷◌}
use Rattle.std.proofs.lemmas.Result.{err_from_is_err_and}
use Rattle.normal_cpus.specs.Sharing.{boot_of}
use Rattle.ordered_play.specs.Act.{Leaves}
use Rattle.threads_play.proofs.Passes.{on_further}
use Rattle.threads_play.proofs.Taking.{err_leads}
use Rattle.threads_play.proofs.player.CpuPlayer.call.Goals as goal

pub returns-in_err-enter-clause-calls : goal.returns-in_err-enter-clause-calls
returns-in_err-enter-clause-calls g c items lane acts was =
    let told = err_from_is_err_and c.from_residual.result c.from_residual.ensures.1 in
    rw (told.1, told.2) (err_leads (boot_of c.args.shared.now) items lane (Leaves ∷ acts) acts c.enter.new.self _
    (c.in_err-enter.ensures.comes items lane (Leaves ∷ acts) was))

pub returns-clause-on : goal.returns-clause-on
returns-clause-on g c =
    on_further c.args.shared.now c.args.self.now c.enter.new.self c.leave.new.self c.enter.ensures.on c.leave.ensures.on

pub returns-clause-calls : goal.returns-clause-calls
returns-clause-calls g c items lane acts was =
    c.leave.ensures.leaves items lane acts (c.in_ok-enter.ensures.comes items lane (Leaves ∷ acts) was)
