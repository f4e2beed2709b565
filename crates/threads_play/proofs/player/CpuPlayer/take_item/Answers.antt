-- Its own item, or one of another, which has no act of its own.
use Rattle.std.proofs.Common.{List, refl, sym, subst, ◌∙◌}
use Rattle.std.specs.Option.{is_some}
use Rattle.core_lock.specs.Passes.{number}
use Rattle.normal_cpus.specs.Sharing.{boot_of}
use Rattle.ordered_play.specs.Act.{Act, acts_for}
use Rattle.threads_play.specs.InTurn.{AreInTurn}
use Rattle.threads_play.specs.Standing.{HasComeTo}
use Rattle.threads_play.proofs.Passes.{on_same}
use Rattle.threads_play.proofs.Taking.{no_acts, own_acts}
use Rattle.threads_play.proofs.player.CpuPlayer.take_item.Goals as goal

pub returns-then-cpu_of-cpu-clause-on : goal.returns-then-cpu_of-cpu-clause-on
returns-then-cpu_of-cpu-clause-on g c = on_same c.args.shared.now c.args.self.now _ refl refl c.requires.on

pub returns-then-cpu_of-cpu-clause-turn : goal.returns-then-cpu_of-cpu-clause-turn
returns-then-cpu_of-cpu-clause-turn g c items turn =
    subst (AreInTurn (is_some c.args.self.now.work)) (no_acts (number c.args.self.now.pass) c.args.item.now items
    (λ same. c.if-cpu_of-cpu.true (c.cpu_of.ensures ∙ same ∙ sym c.cpu.ensures))) turn

pub returns-then-cpu_of-cpu-clause-takes : goal.returns-then-cpu_of-cpu-clause-takes
returns-then-cpu_of-cpu-clause-takes g c all lane items was =
    subst (λ (acts : List Act). HasComeTo (boot_of c.args.shared.now) all lane acts c.args.self.now)
    (no_acts (number c.args.self.now.pass) c.args.item.now items
    (λ same. c.if-cpu_of-cpu.true (c.cpu_of.ensures ∙ same ∙ sym c.cpu.ensures))) was

pub play_item-requires-clause-turn : goal.play_item-requires-clause-turn
play_item-requires-clause-turn g c =
    let turn = c.requires.turn in
    let cpu = number c.args.self.now.pass in (
      acts_for cpu turn.0,
      subst (AreInTurn (is_some c.args.self.now.work)) (own_acts cpu c.args.item.now turn.0
          (sym c.cpu_of.ensures ∙ c.if-cpu_of-cpu.false ∙ c.cpu.ensures)) turn.1,
    )

pub returns-clause-turn : goal.returns-clause-turn
returns-clause-turn g c items turn =
    let cpu = number c.args.self.now.pass in
    c.play_item.ensures.turn (acts_for cpu items)
    (subst (AreInTurn (is_some c.args.self.now.work)) (own_acts cpu c.args.item.now items
    (sym c.cpu_of.ensures ∙ c.if-cpu_of-cpu.false ∙ c.cpu.ensures)) turn)

pub returns-clause-takes : goal.returns-clause-takes
returns-clause-takes g c all lane items was =
    let cpu = number c.args.self.now.pass in
    c.play_item.ensures.plays all lane (acts_for cpu items)
    (subst (λ (acts : List Act). HasComeTo (boot_of c.args.shared.now) all lane acts c.args.self.now)
    (own_acts cpu c.args.item.now items
    (sym c.cpu_of.ensures ∙ c.if-cpu_of-cpu.false ∙ c.cpu.ensures)) was)
