-- What a processor's work gives back, by its part of the history that its pass has seen.
use Rattle.std.specs.Prelude.{◌≡◌, ℕ, [], length, Some, Result, Ok, Err}
use Rattle.event_journal.specs.Journal.{copied_bytes}
use Rattle.kernel_state.specs.declared.enter_refusal.EnterRefusal.{EnterRefusal}
use Rattle.kernel_state.specs.declared.enter_refusal.EnterRefusal.TheVariants.{Full, Memory}
use Rattle.ns_ram.specs.Reads.{total_bytes}
use Rattle.ordered_play.specs.Blocks.{block_of}
use Rattle.ordered_play.specs.Merge.{IsRefusedAt, Part, seat_of, seat_with}
use Rattle.ordered_play.specs.Part.{Role}
use Rattle.threads_play.specs.declared.ending.CpuEnd.{CpuEnd}
use Rattle.threads_play.specs.declared.player.CpuPlayer.{CpuPlayer}

-- all items are done: they are its part of the history, and its block is that part's
pub record HasDoneAll (of : Role) (end : CpuEnd) : Type 0 where
  pub part : Part of
  pub all : part.is_part.left ≡ []
  pub sees : end.lane ≡ (seat_of part).lane
  pub block : end.block.items ≡ block_of of.share.cpu (seat_of part)

-- the entry that its part of the history leaves was refused at the end of that history, with these numbers, and its block is that
-- part's with its `full` line
pub record WasRefused (of : Role) (copied more : ℕ) (end : CpuEnd) : Type 0 where
  pub part : Part of
  pub refused : IsRefusedAt of part (length of.share.history)
  pub so_far : copied ≡ copied_bytes of.share.history
  pub of_entry : more ≡ total_bytes refused.reads
  pub sees : end.lane ≡ (seat_of part).lane
  pub block : end.block.items ≡ block_of of.share.cpu (seat_with of part (Some (length of.share.history)) refused)

-- what its outcome says; where there was no memory, nothing
abbrev pub EndsAs : Role → CpuEnd → Result (Unit {0}) EnterRefusal → Type 0
EndsAs of end (Ok done) = HasDoneAll of end
EndsAs of end (Err (Full copied more)) = WasRefused of copied more end
EndsAs of end (Err Memory) = Unit {0}

-- what the player gives back
abbrev pub end_of : CpuPlayer → Result (Unit {0}) EnterRefusal → CpuEnd
end_of player outcome =
    record { pass = player.pass; lane = player.lane; block = player.block; outcome = outcome }
