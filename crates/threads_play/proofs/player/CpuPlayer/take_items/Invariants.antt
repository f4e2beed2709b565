use Rattle.std.proofs.Common.{ℕ, List, drop}
use Rattle.std.specs.Option.{is_some}
use Rattle.core_lock.specs.Passes.{number}
use Rattle.normal_cpus.specs.Sharing.{boot_of}
use Rattle.ordered_play.specs.Act.{acts_for}
use Rattle.trace_text.specs.declared.item.Item.{Item}
use Rattle.threads_play.specs.InTurn.{AreInTurn}
use Rattle.threads_play.specs.Standing.{GoesOn, HasComeTo}
use Rattle.threads_play.proofs.player.CpuPlayer.take_items.Given as goal

-- the items so far were taken
abbrev pub invariant-loop-item : goal.invariant-loop-item
invariant-loop-item g l = record {
  on : GoesOn l.shared l.fn.self l.self;
  turn : AreInTurn (is_some l.self.work) (acts_for (number l.fn.self.pass) (drop l.item-index l.items));
  takes : (all : List Item) (lane : List ℕ)
      → HasComeTo (boot_of l.shared) all lane (acts_for (number l.fn.self.pass) l.items) l.fn.self
      → HasComeTo (boot_of l.shared) all lane (acts_for (number l.fn.self.pass) (drop l.item-index l.items)) l.self;
}
