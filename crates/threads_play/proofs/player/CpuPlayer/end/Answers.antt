-- How its items have ended.
use Rattle.std.proofs.Common.{[], Result, refl, subst}
use Rattle.kernel_state.specs.declared.enter_refusal.EnterRefusal.{EnterRefusal}
use Rattle.normal_cpus.specs.Sharing.{boot_of}
use Rattle.threads_play.specs.InTurn.{StaysInTurn}
use Rattle.threads_play.specs.Standing.{LeadsTo}
use Rattle.threads_play.proofs.CpuEnds.{all_done}
use Rattle.threads_play.proofs.Passes.{on_same}
use Rattle.threads_play.proofs.player.CpuPlayer.end.Goals as goal

pub returns-in-Ok-clause-on : goal.returns-in-Ok-clause-on
returns-in-Ok-clause-on g c = on_same c.args.shared.now c.args.self.now _ refl refl c.requires.on

pub returns-in-Ok-clause-outside : goal.returns-in-Ok-clause-outside
returns-in-Ok-clause-outside g c = rw c.in-Ok.is at c.requires.turn

pub returns-in-Ok-clause-ends : goal.returns-in-Ok-clause-ends
returns-in-Ok-clause-ends g c items lane leads =
    all_done (boot_of c.args.shared.now) items lane c.args.self.now (rw c.in-Ok.is at leads)

pub end_early-requires-clause-turn : goal.end_early-requires-clause-turn
end_early-requires-clause-turn g c =
    subst (λ (outcome : Result (Unit {0}) EnterRefusal). StaysInTurn [] c.args.self.now outcome) c.in-Err.is c.requires.turn

pub returns-in-Err-clause-ends : goal.returns-in-Err-clause-ends
returns-in-Err-clause-ends g c items lane leads =
    c.end_early.ensures.ends items lane
    (subst (λ (outcome : Result (Unit {0}) EnterRefusal). LeadsTo (boot_of c.args.shared.now) items lane [] c.args.self.now outcome)
    c.in-Err.is leads)
