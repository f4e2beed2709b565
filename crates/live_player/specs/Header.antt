-- What the lines of a header have said, and the terms on which a core is booted by it.
use Rattle.std.specs.Prelude.{◌≡◌, ◌^◌, Bool, false, Option, if◌then◌else◌}
use Rattle.kernel_state.specs.Terms.{kept_terms}
use Rattle.kernel_state.specs.declared.terms.Terms.{Terms}
use Rattle.live_player.specs.declared.header.Header.{Header}
use Rattle.notify_text.specs.Rules.{NotifyFront}
use Rattle.ta_isa.specs.declared.boot.Boot.{Boot}
use Rattle.trace_text.specs.Judging.{booted}

-- the boot, where there is one
abbrev pub boot_in : Header → Option Boot
boot_in header = booted header.size header.apps.items header.key

-- where history is off, events are counted, and read as much as they will
abbrev pub terms_where : Bool → Terms
terms_where forgets = if forgets then record { keeps = false; most = 2 ^ 63 } else kept_terms

-- the lines have said it
pub record IsHeaderOf (header : Header) (lines : NotifyFront) : Type 0 where
  pub boot : boot_in header ≡ lines.trace.boot
  pub fills : header.fills.items ≡ lines.trace.fills
