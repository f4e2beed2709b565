use Rattle.std.proofs.Common.{◌≡◌, ◌+◌, ◌*◌, length, vec_len, vec_capacity}
use Rattle.std.specs.List.{concat}
use Rattle.base.specs.Zeros.{zeros}
use Rattle.frame_pool.specs.Pages.{AreWhole}
use Rattle.frame_pool.proofs.pool.fill_cleared.Given as goal

abbrev pub invariant-loop-i : goal.invariant-loop-i
invariant-loop-i l = record {
  pages : concat l.frames.items ≡ zeros (4096 * l._i);
  count : length l.frames.items ≡ l._i;
  fits : vec_capacity l.frames ≡ vec_capacity l.fn.frames;
  pages_whole : AreWhole l.frames.items;
  len : vec_len l.free + l._i ≡ vec_len l.fn.free;
  room : vec_capacity l.free ≡ vec_capacity l.fn.free;
  whole : AreWhole l.free.items;
}
