-- What the processors of a trace have played together, each in a thread of its own.
use Rattle.std.specs.Prelude.{◌≡◌, ◌<◌, ℕ, Bool, false, List, Option, Some, replicate}
use Rattle.base.specs.Zeros.{zeros}
use Rattle.event_journal.specs.declared.event.Event.{Event}
use Rattle.kernel_model.specs.Application.{Booted, Native, booted}
use Rattle.ordered_play.specs.Act.{acts_for}
use Rattle.ordered_play.specs.Blocks.{blocks_in, has_refused}
use Rattle.ordered_play.specs.Merge.{order_with}
use Rattle.ordered_play.specs.Ordered.{OrderedPlay, played_in}
use Rattle.play_model.specs.Play.{filled}
use Rattle.ta_isa.specs.declared.boot.Boot.{Boot}
use Rattle.trace_text.specs.declared.item.Item.{Item}
use Rattle.trace_text.specs.declared.trace.Trace.{Trace}
use Rattle.threads_play.specs.InTurn.{AreInTurn}

-- each processor comes in and goes out by turns
abbrev pub TakeTurns : List Item → Type 0
TakeTurns items = (cpu : ℕ) → cpu < 8 → AreInTurn false (acts_for cpu items)

-- the core was booted as this trace says, beside these built-in applications; these are its items, and of each processor this is
-- the RAM, zeros with the trace's fills
pub record IsOfTrace (on : Booted) (lanes : List (List ℕ)) (items : List Item) (natives : List Native) (boot : Boot)
    (trace : Trace) : Type 0 where
  pub boots : trace.boot ≡ Some boot
  pub core : on ≡ booted boot natives
  pub items_are : items ≡ trace.items
  pub rams : lanes ≡ replicate boot.cpus (filled (zeros 0x400000) trace.fills)

-- the text is the blocks of the trace in the order of this history, with the refused entries at their places, and an entry is
-- refused in that order just where this is said
pub record WasPlayed (natives : List Native) (boot : Boot) (trace : Trace) (history : List Event) (text : List ℕ)
    (refused : Bool) : Type 0 where
  -- behind how many events each processor's entry was refused, where one was
  pub places : ℕ → Option ℕ
  pub blocks : blocks_in natives trace (order_with places boot.cpus 0 history) ≡ Some text
  pub play : OrderedPlay
  pub is_play : played_in natives boot trace (order_with places boot.cpus 0 history) ≡ Some play
  pub is_history : play.history ≡ history
  pub one_refused : has_refused play ≡ refused
