use Rattle.kernel_state.proofs.Opened.{first_stands}
use Rattle.kernel_state.proofs.booting.parts_with.Goals as goal

pub returns-clause-stands : goal.returns-clause-stands
returns-clause-stands c =
    first_stands _ _ c.in_ok-slots.ensures c.in_ok-cancellations.ensures c.in_ok-processors.ensures
    c.in_ok-tables.ensures.first c.in_ok-tables.ensures.free
