-- A list can come by which processors are inside.
use Rattle.std.proofs.Common.{Bool, List, subst, sym}
use Rattle.core_machine.specs.Turns.{ComeInTurn}
use Rattle.core_machine.proofs.Played.{all_come}
use Rattle.core_machine.proofs.machine.Machine.can_serve.Goals as goal

pub returns : goal.returns
returns c =
    let smcs = c.args.smcs.now in
    let iff = all_come c.args.self.now c.in_ok-inside.inside.items smcs c.in_ok-inside.ensures in
    let seen = c.as_mut_slice.ensures.value in (
      λ is. iff.0 (subst (λ (inside : List Bool). ComeInTurn inside smcs) seen (c.come_in_turn.ensures.0 is)),
      λ has. c.come_in_turn.ensures.1 (subst (λ (inside : List Bool). ComeInTurn inside smcs) (sym seen) (iff.1 has)),
    )
