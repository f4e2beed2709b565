-- An item more was taken.
use Rattle.std.proofs.Common.{ℕ, ◌+◌, List, [], drop, refl, subst, arith}
use Rattle.std.proofs.lemmas.Result.{err_from_is_err_and}
use Rattle.std.specs.Option.{is_some}
use Rattle.ordered_play.specs.Act.{Act, acts_for}
use Rattle.core_lock.specs.Passes.{number}
use Rattle.normal_cpus.specs.Sharing.{boot_of}
use Rattle.trace_text.specs.declared.item.Item.{Item}
use Rattle.threads_play.specs.InTurn.{AreInTurn}
use Rattle.threads_play.specs.Standing.{HasComeTo}
use Rattle.threads_play.proofs.Passes.{on_further, on_same}
use Rattle.threads_play.proofs.Taking.{acts_next, err_leads, err_turn, none_left}
use Rattle.threads_play.proofs.player.CpuPlayer.take_items.Goals as goal

pub loop-item-init : goal.loop-item-init
loop-item-init g c = record {
  on = on_same c.args.shared.now c.args.self.now c.args.self.now refl refl c.requires.on;
  turn = c.requires.turn;
  takes = λ all lane was. was;
}

pub take_item-requires-clause-turn : goal.take_item-requires-clause-turn
take_item-requires-clause-turn g c =
    let was = c.loop-item.invariant in
    let at = c.loop-item.item-index in
    let next = acts_next (number c.args.self.now.pass) (number c.loop-item.self.pass) at c.args.items.now _
    was.on.same c.loop-item-test.true c.item-item.is in (
      drop (at + 1) c.args.items.now,
      subst (AreInTurn (is_some c.loop-item.self.work)) next was.turn,
    )

pub returns-in_err-take_item-clause-on : goal.returns-in_err-take_item-clause-on
returns-in_err-take_item-clause-on g c =
    on_further c.args.shared.now c.args.self.now c.loop-item.self c.take_item.new.self c.loop-item.invariant.on
    c.take_item.ensures.on

pub returns-in_err-take_item-clause-turn : goal.returns-in_err-take_item-clause-turn
returns-in_err-take_item-clause-turn g c =
    let was = c.loop-item.invariant in
    let at = c.loop-item.item-index in
    let next = acts_next (number c.args.self.now.pass) (number c.loop-item.self.pass) at c.args.items.now _
    was.on.same c.loop-item-test.true c.item-item.is in
    let told = err_from_is_err_and c.from_residual.result c.from_residual.ensures.1 in
    rw (told.1, told.2) (err_turn (acts_for (number c.loop-item.self.pass) (drop (at + 1) c.args.items.now)) [] c.take_item.new.self _
    (c.in_err-take_item.ensures.turn (drop (at + 1) c.args.items.now)
    (subst (AreInTurn (is_some c.loop-item.self.work)) next was.turn)))

pub returns-in_err-take_item-clause-takes : goal.returns-in_err-take_item-clause-takes
returns-in_err-take_item-clause-takes g c all lane start =
    let was = c.loop-item.invariant in
    let at = c.loop-item.item-index in
    let boot = boot_of c.args.shared.now in
    let next = acts_next (number c.args.self.now.pass) (number c.loop-item.self.pass) at c.args.items.now _
    was.on.same c.loop-item-test.true c.item-item.is in
    let told = err_from_is_err_and c.from_residual.result c.from_residual.ensures.1 in
    rw (told.1, told.2) (err_leads boot all lane (acts_for (number c.loop-item.self.pass) (drop (at + 1) c.args.items.now)) []
    c.take_item.new.self _
    (c.in_err-take_item.ensures.takes all lane (drop (at + 1) c.args.items.now)
    (subst (λ (acts : List Act). HasComeTo boot all lane acts c.loop-item.self) next (was.takes all lane start))))

pub loop-item-preserved : goal.loop-item-preserved
loop-item-preserved g c =
    let was = c.loop-item.invariant in
    let at = c.loop-item.item-index in
    let boot = boot_of c.args.shared.now in
    let rest = drop (at + 1) c.args.items.now in
    let next = acts_next (number c.args.self.now.pass) (number c.loop-item.self.pass) at c.args.items.now _
    was.on.same c.loop-item-test.true c.item-item.is in
    record {
      on = on_further c.args.shared.now c.args.self.now c.loop-item.self c.take_item.new.self was.on c.take_item.ensures.on;
      turn = subst (λ (n : ℕ). AreInTurn (is_some c.take_item.new.self.work) (acts_for n rest)) was.on.same
          (c.in_ok-take_item.ensures.turn rest (subst (AreInTurn (is_some c.loop-item.self.work)) next was.turn));
      takes = λ all lane start.
          subst (λ (n : ℕ). HasComeTo boot all lane (acts_for n rest) c.take_item.new.self) was.on.same
          (c.in_ok-take_item.ensures.takes all lane rest
          (subst (λ (acts : List Act). HasComeTo boot all lane acts c.loop-item.self) next (was.takes all lane start)));
    }

pub returns-clause-turn : goal.returns-clause-turn
returns-clause-turn g c =
    let was = c.loop-item.invariant in
    let none = none_left c.args.items.now c.loop-item.item-index (omega (arith, c.loop-item-test.false)) in
    subst (λ (items : List Item). AreInTurn (is_some c.loop-item.self.work) (acts_for (number c.args.self.now.pass) items))
    none was.turn

pub returns-clause-takes : goal.returns-clause-takes
returns-clause-takes g c all lane start =
    let was = c.loop-item.invariant in
    let boot = boot_of c.args.shared.now in
    let none = none_left c.args.items.now c.loop-item.item-index (omega (arith, c.loop-item-test.false)) in
    subst (λ (items : List Item). HasComeTo boot all lane (acts_for (number c.args.self.now.pass) items) c.loop-item.self)
    none (was.takes all lane start)
