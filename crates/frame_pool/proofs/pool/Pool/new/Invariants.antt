use Rattle.std.proofs.Common.{◌≡◌, vec_len, vec_capacity}
use Rattle.frame_pool.specs.Pages.{AreWhole}
use Rattle.frame_pool.proofs.pool.Pool.new.Given as goal

abbrev pub invariant-loop-i : goal.invariant-loop-i
invariant-loop-i l = record {
  len : vec_len l.free ≡ l._i;
  room : vec_capacity l.free ≡ l.frames;
  whole : AreWhole l.free.items;
  rooms : l.rooms ≡ l._i;
}
