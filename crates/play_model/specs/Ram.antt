-- What becomes of RAM in a play: no item makes that of a processor shorter. This project's own.
use Rattle.std.specs.Prelude.{◌≡◌, ℕ, ◌≤◌, List, length, Some}
use Rattle.kernel_model.specs.Application.{Booted, Native}
use Rattle.ta_isa.specs.declared.boot.Boot.{Boot}
use Rattle.trace_text.specs.declared.item.Item.{Item}
use Rattle.trace_text.specs.declared.trace.Trace.{Trace}
use Rattle.play_model.specs.Coming.{AreLanes, IsWhole}
use Rattle.play_model.specs.Play.{Play, after_item, after_items, lane_of, played_over}

-- there is RAM for as many processors as before, and each has at least as many bytes
pub record KeepsRam (before after : Play) : Type 0 where
  pub processors : length after.lanes ≡ length before.lanes
  pub bytes : (cpu : ℕ) → length (lane_of before cpu) ≤ length (lane_of after cpu)

-- whatever items come, and wherever they write
pub record RamIsKept : Type 0 where
  pub by_item : (boot : Booted) (i : Item) (before after : Play) → after_item boot i before ≡ Some after →
      KeepsRam before after
  pub by_items : (boot : Booted) (items : List Item) (before after : Play) → after_items boot items before ≡ Some after →
      KeepsRam before after
  -- so where RAM has each byte at first, there is RAM with each byte for each processor in the end
  pub whole : (ram : List ℕ) (natives : List Native) (boot : Boot) (trace : Trace) (play : Play) → IsWhole ram →
      played_over ram natives boot trace ≡ Some play → AreLanes boot.cpus play.lanes
