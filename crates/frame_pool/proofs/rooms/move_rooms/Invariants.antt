use Rattle.std.proofs.Common.{◌≡◌, ◌+◌}
use Rattle.frame_pool.proofs.rooms.move_rooms.Given as goal

abbrev pub invariant-loop-i : goal.invariant-loop-i
invariant-loop-i l = record {
  left : l.from + l._i ≡ l.fn.from;
  moved : l.to ≡ l.fn.to + l._i;
}
