-- The journals that can be done again.
use Rattle.std.specs.Prelude.{◌≤◌, ◌^◌, List}
use Rattle.std.specs.List.{AllByRecursion}
use Rattle.event_journal.specs.Journal.{copied_bytes}
use Rattle.event_journal.specs.declared.event.Event.{Event}
use Rattle.kernel_model.specs.Application.{Booted}
use Rattle.kernel_model.specs.History.{IsLegal}
use Rattle.kernel_state.specs.Reads.{ReadsAgree}

-- what is known of the journal of a core of this boot: it is legal, and its entries have read at most 2^28 bytes in all, and
-- each of them the same byte wherever its reads share an address
pub record IsJournal (boot : Booted) (history : List Event) : Type 0 where
  pub legal : IsLegal boot history
  pub few : copied_bytes history ≤ 2 ^ 28
  pub agree : AllByRecursion ReadsAgree history
