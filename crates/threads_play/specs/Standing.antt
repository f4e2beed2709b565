-- What a processor at work has come to, by its part of the history that its pass has seen.
use Rattle.std.specs.Prelude.{◌≡◌, ◌<◌, ℕ, false, List, [], length, Option, None, Some, Result, Ok, Err, IfSome}
use mathlib.Core.List.{IsPrefix}
use Rattle.core_lock.specs.Passes.{number, seen}
use Rattle.event_journal.specs.Journal.{copied_bytes}
use Rattle.kernel_model.specs.Application.{Booted}
use Rattle.kernel_state.specs.Work.{IsRanOf}
use Rattle.kernel_state.specs.declared.enter_refusal.EnterRefusal.{EnterRefusal}
use Rattle.kernel_state.specs.declared.enter_refusal.EnterRefusal.TheVariants.{Full, Memory}
use Rattle.kernel_state.specs.declared.work.Ran.{Ran}
use Rattle.kernel_state.specs.declared.work.Work.{Work}
use Rattle.normal_cpus.specs.Leaving.{CanGoOut}
use Rattle.normal_cpus.specs.Sharing.{CpuPass, IsCpuOf, boot_of, is_inside}
use Rattle.normal_cpus.specs.declared.cpu_answer.CpuAnswer.{CpuAnswer}
use Rattle.normal_cpus.specs.declared.shared_core.SharedCore.{SharedCore}
use Rattle.ns_ram.specs.Reads.{total_bytes}
use Rattle.ordered_play.specs.Act.{Act}
use Rattle.ordered_play.specs.Blocks.{block_of}
use Rattle.ordered_play.specs.Merge.{IsRefusedAt, Part, role_of, seat_of, share_of}
use Rattle.ordered_play.specs.Part.{Role, Share}
use Rattle.ordered_play.specs.Seat.{Seat, Told, fresh_seat, ready_for, with_line}
use Rattle.trace_text.specs.declared.item.Item.{Item}
use Rattle.threads_play.specs.declared.player.CpuPlayer.{CpuPlayer}

-- ---- its pass and its work

-- it is outside; or it has a work that can go out by its pass once the granted steps are done
abbrev pub IsReady : Booted → CpuPass → Option Work → Type 0
IsReady boot pass None = is_inside pass ≡ false
IsReady boot pass (Some work) = (ran : Ran) → IsRanOf work ran → CanGoOut boot pass ran

-- its pass is one of this core's, without a turn, and its work is that of its pass's open entry
pub record IsOn (shared : SharedCore) (player : CpuPlayer) : Type 0 where
  pub own : IsCpuOf shared player.pass
  pub few : number player.pass < 8
  pub ready : IsReady (boot_of shared) player.pass player.work

-- it is so still, with the same number, and its pass has seen all that it had seen
pub record GoesOn (shared : SharedCore) (old new : CpuPlayer) : Type 0 where
  pub on : IsOn shared new
  pub same : number new.pass ≡ number old.pass
  pub begins : IsPrefix (seen old.pass) (seen new.pass)

-- ---- its part of the history

-- the processor's part of the history comes to this seat
pub record ComesToSeat (of : Role) (seat : Seat) : Type 0 where
  pub part : Part of
  pub comes_to : seat_of part ≡ seat

-- the player's processor, and the history that its pass has seen
abbrev pub share_in : Booted → CpuPlayer → Share
share_in boot player = share_of boot (seen player.pass) (number player.pass)

-- with these acts to come it has come to this seat: by its part of the history, and in what it sees and was told
pub record StandsAt (boot : Booted) (items : List Item) (lane : List ℕ) (acts : List Act) (seat : Seat) (player : CpuPlayer)
    : Type 0 where
  pub part : ComesToSeat (role_of (share_in boot player) items lane) (ready_for acts seat)
  pub goes_on : seat.refused ≡ None
  pub sees : player.lane ≡ seat.lane
  pub was_told : player.answer.a ≡ seat.answer
  pub entered : IfSome player.work (λ work. work.entry_at ≡ seat.entry_at)

-- and in what it has printed, the block of that seat
pub record HasComeTo (boot : Booted) (items : List Item) (lane : List ℕ) (acts : List Act) (player : CpuPlayer) : Type 0 where
  pub seat : Seat
  pub stands : StandsAt boot items lane acts seat player
  pub prints : player.block.items ≡ block_of (number player.pass) seat

-- it has gone out with this answer, the line of which isn't printed yet
pub record HasGoneOut (boot : Booted) (items : List Item) (lane : List ℕ) (acts : List Act) (player : CpuPlayer)
    (answer : CpuAnswer) : Type 0 where
  pub seat : Seat
  pub stands : StandsAt boot items lane acts
      (with_line (Told answer.regs.a answer.entry_at answer.exit_at) seat) player
  pub prints : player.block.items ≡ block_of (number player.pass) seat

-- its next entry was refused: it has come to its part of the history, which leaves that entry, and has printed the block of it
pub record IsRefused (of : Role) (copied more : ℕ) (player : CpuPlayer) : Type 0 where
  pub part : Part of
  pub refused : IsRefusedAt of part (length of.share.history)
  pub so_far : copied ≡ copied_bytes of.share.history
  pub of_entry : more ≡ total_bytes refused.reads
  pub goes_on : part.end.seat.refused ≡ None
  pub sees : player.lane ≡ part.end.seat.lane
  pub prints : player.block.items ≡ block_of of.share.cpu (seat_of part)

-- what an answer says of the player that then has these acts to come
abbrev pub LeadsTo : Booted → List Item → List ℕ → List Act → CpuPlayer → Result (Unit {0}) EnterRefusal → Type 0
LeadsTo boot items lane acts player (Ok done) = HasComeTo boot items lane acts player
LeadsTo boot items lane acts player (Err (Full copied more)) =
    IsRefused (role_of (share_in boot player) items lane) copied more player
LeadsTo boot items lane acts player (Err Memory) = Unit {0}

-- it has done nothing, with this RAM
pub record IsNew (lane : List ℕ) (player : CpuPlayer) : Type 0 where
  pub sees : player.lane ≡ lane
  pub was_told : player.answer.a ≡ (fresh_seat lane).answer
  pub no_work : player.work ≡ None
  pub no_lines : player.block.items ≡ []
