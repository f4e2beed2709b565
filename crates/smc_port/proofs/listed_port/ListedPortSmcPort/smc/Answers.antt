-- The SMC of a turn, from the view of the fields before it to that of the fields after it.
use Rattle.std.proofs.Common.{◌≡◌, length, Some, refl}
use Rattle.std.specs.Prelude.{slice_get}
use Rattle.smc_port.proofs.Turns.{takes_turn}
use Rattle.smc_port.proofs.listed_port.ListedPortSmcPort.smc.Goals as goal

pub returns-clause-made : goal.returns-clause-made
returns-clause-made c =
    let next : slice_get c.self.inside.turns.items (length c.self.inside.made.items) ≡ Some c.next_turn-turn.result.now =
    rw (c.as_slice.ensures.value, c.as_slice-2.ensures.value) at c.next_turn-turn.ensures in
    rw (c.in-Ok.ensures.kept, ← c.self.view_is)
    (takes_turn _ c.args.regs c.next_turn-turn.result.now c.put_all.new.lane next
    (rw c.as_slice-3.ensures at c.put_all.ensures.inside)
    (rw c.as_slice-3.ensures at c.put_all.ensures.written))

pub returns-clause-turn : goal.returns-clause-turn
returns-clause-turn c =
    let next : slice_get c.self.inside.turns.items (length c.self.inside.made.items) ≡ Some c.next_turn-turn.result.now =
    rw (c.as_slice.ensures.value, c.as_slice-2.ensures.value) at c.next_turn-turn.ensures in
    let written = rw c.as_slice-3.ensures at c.put_all.ensures.written in
    rw (c.in-Ok.ensures.kept, written, ← c.self.view_is)
    record { turn = c.next_turn-turn.result.now; next = next; answered = refl; after = refl }
