-- The head of its block, its items, and their end.
use Rattle.std.proofs.Common.{◌≡◌, ℕ, Option, [], ◌∷◌, ◌++◌, refl, ap, sym, subst}
use Rattle.std.specs.Prelude.{codes}
use Rattle.std.specs.Fmt.{decimal}
use Rattle.std.specs.Option.{is_some}
use Rattle.core_lock.specs.Passes.{number}
use Rattle.kernel_state.specs.declared.work.Work.{Work}
use Rattle.normal_cpus.specs.Sharing.{boot_of}
use Rattle.ordered_play.specs.Act.{acts_for}
use Rattle.threads_play.specs.InTurn.{AreInTurn}
use Rattle.threads_play.proofs.CpuEnds.{first}
use Rattle.threads_play.proofs.Passes.{on_further, on_same}
use Rattle.threads_play.proofs.player.CpuPlayer.play.Goals as goal

pub take_items-outcome-requires-clause-on : goal.take_items-outcome-requires-clause-on
take_items-outcome-requires-clause-on g c =
    let on = on_same c.args.shared.now c.args.self.now _ refl refl c.requires.on in on.on

pub take_items-outcome-requires-clause-turn : goal.take_items-outcome-requires-clause-turn
take_items-outcome-requires-clause-turn g c =
    subst (λ (work : Option Work). AreInTurn (is_some work) (acts_for (number c.args.self.now.pass) c.args.items.now))
    (sym c.requires.starts.1.no_work) c.requires.turn

pub returns-in-Ok-clause-on : goal.returns-in-Ok-clause-on
returns-in-Ok-clause-on g c =
    on_further c.args.shared.now c.args.self.now _ c.end.new.self
    (on_further c.args.shared.now c.args.self.now _ c.take_items-outcome.new.self
    (on_same c.args.shared.now c.args.self.now _ refl refl c.requires.on) c.take_items-outcome.ensures.on)
    c.end.ensures.on

pub returns-in-Ok-clause-ends : goal.returns-in-Ok-clause-ends
returns-in-Ok-clause-ends g c lane starts =
    let old = c.args.self.now in
    c.end.ensures.ends c.args.items.now lane (c.take_items-outcome.ensures.takes c.args.items.now lane
    (first (boot_of c.args.shared.now) c.args.items.now lane old _ refl
    (subst (λ (n : ℕ). c.push_head.new.block.items ≡ old.block.items ++ codes "cpu " ++ decimal n ++ 10 ∷ []) c.cpu-cpu.ensures
    c.in-Ok.ensures) starts c.requires.unused c.requires.on.own.0.own_entries))

pub returns-in-Err-clause-on : goal.returns-in-Err-clause-on
returns-in-Err-clause-on g c = on_same c.args.shared.now c.args.self.now _ refl refl c.requires.on

pub returns-in-Err-clause-outside : goal.returns-in-Err-clause-outside
returns-in-Err-clause-outside g c = ap (λ (w : Option Work). is_some w) c.requires.starts.1.no_work
