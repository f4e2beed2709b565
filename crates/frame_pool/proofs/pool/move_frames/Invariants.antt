use Rattle.std.proofs.Common.{◌≡◌, ◌+◌, length, vec_len, vec_capacity}
use Rattle.frame_pool.specs.Pages.{AreWhole}
use Rattle.frame_pool.proofs.pool.move_frames.Given as goal

abbrev pub invariant-loop-i : goal.invariant-loop-i
invariant-loop-i l = record {
  len : vec_len l.free ≡ vec_len l.fn.free + l._i;
  left : length l.frames.items + l._i ≡ l._i-end;
  room : vec_capacity l.free ≡ vec_capacity l.fn.free;
  fits : vec_capacity l.frames ≡ vec_capacity l.fn.frames;
  whole : AreWhole l.free.items;
  left_whole : AreWhole l.frames.items;
}
