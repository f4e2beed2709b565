-- What is true of each core: its parts stand for the kernel that its events come to.
use Rattle.std.specs.Prelude.{◌≡◌, ◌^◌, ◌≤◌, Some}
use Rattle.std.specs.List.{AllByRecursion}
use Rattle.event_journal.specs.Journal.{copied_bytes}
use Rattle.kernel_model.specs.Application.{AreNatives}
use Rattle.kernel_model.specs.History.{kernel_after}
use Rattle.kernel_model.specs.Kernel.{Kernel}
use Rattle.ta_isa.specs.Boots.{IsBoot}
use Rattle.kernel_state.specs.Reads.{ReadsAgree}
use Rattle.kernel_state.specs.Setup.{boot_of, booted_of_setup, natives_of}
use Rattle.kernel_state.specs.StandsFor.{StandsFor}
use Rattle.kernel_state.specs.declared.parts.Parts.{Parts}

pub record Replays (parts : Parts) : Type 0 where
  pub kernel : Kernel
  pub is_boot : IsBoot (boot_of parts.setup)
  pub are_natives : AreNatives (boot_of parts.setup) (natives_of parts.setup)
  pub comes_to : kernel_after (booted_of_setup parts.setup) parts.journal.events ≡ Some kernel
  pub stands : StandsFor parts kernel
  -- events are kept where its terms say so
  pub keeps : parts.journal.keeps ≡ parts.setup.terms.keeps
  -- all reads have together at most as many bytes as its terms allow, and those of one entry agree
  pub few : copied_bytes parts.journal.events ≤ parts.setup.terms.most
  pub bounded : parts.setup.terms.most ≤ 2 ^ 63
  pub agree : AllByRecursion ReadsAgree parts.journal.events
