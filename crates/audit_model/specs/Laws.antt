-- Laws of the definitions.
use Rattle.std.specs.Prelude.{◌≡◌, List}
use Rattle.event_journal.specs.declared.event.Event.{Event}
use Rattle.kernel_model.specs.Application.{Booted, IsBooted}
use Rattle.audit_model.specs.declared.verdict.Verdict.{Verdict}
use Rattle.audit_model.specs.Verdicts.{CanBegin, IsFaultless, IsVerdict}

-- events that some faultless history begins with are one themselves: none of them needs what comes behind it
abbrev pub PrefixesCanBe : Type 0
PrefixesCanBe = (boot : Booted) (events : List Event) → CanBegin boot events → IsFaultless boot events

-- two verdicts on one journal are the same
abbrev pub OneVerdict : Type 0
OneVerdict = (boot : Booted) (events : List Event) (one other : Verdict) → IsVerdict boot events one → IsVerdict boot events other → one ≡ other

-- there is a verdict on this journal
pub record HasVerdict (boot : Booted) (events : List Event) : Type 0 where
  pub verdict : Verdict
  pub is_verdict : IsVerdict boot events verdict

-- and there is on each, whatever its events are, where a core can be booted so
abbrev pub EachHasAVerdict : Type 0
EachHasAVerdict = (boot : Booted) (events : List Event) → IsBooted boot → HasVerdict boot events
