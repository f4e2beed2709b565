-- What holds of the words together.
use Rattle.std.specs.Prelude.{◌≡◌, ◌≢◌, ◌⊎◌, ℕ, ◌^◌, ◌<◌, ◌≤◌, List, length, All, AllPairs, Option}
use Rattle.audit_model.specs.Laws.{HasVerdict}
use Rattle.audit_model.specs.declared.verdict.Verdict.TheVariants.{Legal}
use Rattle.compare_model.specs.Comparing.{IsComparedAs, Pair}
use Rattle.compare_model.specs.declared.compared.Compared.{Compared}
use Rattle.compare_model.specs.declared.subject.Subject.{Subject}
use Rattle.journal_bytes.specs.Grammar.{Whole}
use Rattle.kernel_model.specs.Application.{Native, booted}
use Rattle.ports.specs.Port.{Appends}
use Rattle.ta_isa.specs.declared.boot.Boot.{Boot}
use Rattle.trace_player.specs.Starting.{uuids_of}
use Rattle.trace_text.specs.declared.trace.Trace.{Trace}
use Rattle.word_parts.specs.Call.{Call, HasNoFault, KeepsOver}
use Rattle.word_parts.specs.Input.{IsTooLong}
use Rattle.word_parts.specs.Word.{CanBeRefused}
use Rattle.word_parts.specs.declared.status.Status.{Status}
use Rattle.word_parts.specs.declared.status.Status.TheVariants.{Memory}
use Rattle.word_parts.specs.declared.status.Status.TheVariants as status
use Rattle.journal_runner.specs.Auditing.{auditing, verdict_line}
use Rattle.journal_runner.specs.Comparing.{comparing, pair_of}
use Rattle.journal_runner.specs.Reading.{SpellsAlone, SpellsPair}
use Rattle.journal_runner.specs.Recording.{journal_of}
use Rattle.journal_runner.specs.Records.{IsRecorded}

-- ---- `audit` of what `record` has written

-- each call of `audit` over this input by which no port has failed ends with 0 and has written `legal N`, N being this number, or
-- there is want of memory
abbrev pub IsAuditedLegal : List Native → List ℕ → ℕ → Type 0
IsAuditedLegal natives input count =
    (call : Call) → KeepsOver (auditing natives) input call → HasNoFault call
    → ((call.result ≡ status.Ok) × Appends call.old call.new (verdict_line count Legal)) ⊎ (call.result ≡ Memory)

-- what `record` has written of a trace with a boot is audited as legal beside the same applications, N being the number of the
-- events of its play, if it isn't longer than an input may be
abbrev pub RecordedIsAuditedLegal : Type 0
RecordedIsAuditedLegal =
    (natives : List Native) (boot : Boot) (trace : Trace) (result : Status) (old new : Option (List ℕ)) →
    (recorded : IsRecorded natives boot trace result old new) → (IsTooLong (journal_of boot recorded.play) → ⊥) →
    IsAuditedLegal natives (journal_of boot recorded.play) (length recorded.play.history)

-- ---- journals have answers

-- an input of bytes, beside applications that can be built in: sixteen at most, no two with one UUID
pub record IsInputBeside (natives : List Native) (input : List ℕ) : Type 0 where
  pub few : length (uuids_of natives) ≤ 16
  pub apart : AllPairs (λ (earlier later : List ℕ). earlier ≢ later) (uuids_of natives)
  pub bytes : All (λ byte. byte < 256) input
  pub short : length input ≤ 2 ^ 24

-- both journals show something of the session or of the group, which is one of the answers of `compare`
pub record HasComparison (pair : Pair) (subject : Subject) : Type 0 where
  pub compared : Compared
  pub is_compared : IsComparedAs pair subject compared

pub record JournalsHaveAnswers : Type 0 where
  -- each journal that bytes spell alone has a verdict, and each two that they spell have a comparison
  pub audited : (natives : List Native) (input : List ℕ) (whole : Whole) → IsInputBeside natives input
      → SpellsAlone (uuids_of natives) input whole → HasVerdict (booted whole.boot natives) whole.events
  pub compared : (natives : List Native) (subject : Subject) (input : List ℕ) (one two : Whole) → IsInputBeside natives input
      → SpellsPair (uuids_of natives) input one two → HasComparison (pair_of natives one two) subject
  -- so none of them can be refused
  pub not_refused_by_audit : (natives : List Native) (input : List ℕ) (whole : Whole) → IsInputBeside natives input
      → SpellsAlone (uuids_of natives) input whole → CanBeRefused (auditing natives) input → ⊥
  pub not_refused_by_compare : (natives : List Native) (subject : Subject) (input : List ℕ) (one two : Whole)
      → IsInputBeside natives input → SpellsPair (uuids_of natives) input one two
      → CanBeRefused (comparing natives subject) input → ⊥
