-- A refused entry, by its numbers.
use Rattle.std.proofs.Common.{◌≡◌, false, [], Option, Err, sym, subst}
use Rattle.std.specs.Option.{is_some}
use Rattle.kernel_state.specs.declared.enter_refusal.EnterRefusal.{EnterRefusal}
use Rattle.kernel_state.specs.declared.work.Work.{Work}
use Rattle.normal_cpus.specs.Sharing.{boot_of}
use Rattle.threads_play.specs.InTurn.{StaysInTurn}
use Rattle.threads_play.specs.Standing.{LeadsTo}
use Rattle.threads_play.proofs.Passes.{on_same}
use Rattle.threads_play.proofs.player.CpuPlayer.end_early.Goals as goal

pub returns-in-Full-clause-on : goal.returns-in-Full-clause-on
returns-in-Full-clause-on g c =
    on_same c.args.shared.now c.args.self.now c.tell_full.new.self c.tell_full.ensures.pass c.tell_full.ensures.work c.requires.on

pub returns-in-Full-clause-outside : goal.returns-in-Full-clause-outside
returns-in-Full-clause-outside g c =
    subst (λ (w : Option Work). is_some w ≡ false) (sym c.tell_full.ensures.work)
    (subst (λ (why : EnterRefusal). StaysInTurn [] c.args.self.now (Err why)) c.in-Full.is c.requires.turn)

pub returns-in-Full-clause-ends : goal.returns-in-Full-clause-ends
returns-in-Full-clause-ends g c items lane leads =
    let boot = boot_of c.args.shared.now in
    c.tell_full.ensures.tells boot items lane
    (subst (λ (why : EnterRefusal). LeadsTo boot items lane [] c.args.self.now (Err why)) c.in-Full.is leads)
