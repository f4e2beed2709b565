use Rattle.std.proofs.Common.{◌≡◌, replicate, vec_len, vec_capacity}
use Rattle.thread_slots.specs.declared.slot.Slot.TheVariants.{Free}
use Rattle.thread_slots.proofs.slots.Slots.new.Given as goal

abbrev pub invariant-loop-i : goal.invariant-loop-i
invariant-loop-i g l =
    (l.slots.items ≡ replicate l._i Free) × (vec_len l.slots ≡ l._i) × (vec_capacity l.slots ≡ l.count)
