-- Journals that bytes spell have a verdict and a comparison; and what `record` has written is audited as legal.
use Rattle.std.proofs.Common.{◌≡◌, ℕ, ◌<◌, ◌≤◌, List, drop, get_or, length, length-drop, inl, inr, refl, arith}
use Rattle.std.specs.Prelude.{All}
use Rattle.std.proofs.Math.ListN.{get_or-eq_default}
use Rattle.std.proofs.lemmas.Bool.{cases_lt}
use Rattle.audit_model.proofs.EachVerdict.{each_has_a_verdict}
use Rattle.audit_model.specs.Laws.{HasVerdict}
use Rattle.audit_model.specs.declared.verdict.Verdict.TheVariants.{Legal}
use Rattle.base.proofs.Numbers.{IsBytes, IsBytes-drop}
use Rattle.compare_model.specs.declared.subject.Subject.{Subject}
use Rattle.journal_bytes.specs.Grammar.{Spells, Whole}
use Rattle.journal_bytes.specs.Spelling.{whole_with}
use Rattle.journal_bytes.proofs.SoundRecords.{spelled_within}
use Rattle.kernel_model.specs.Application.{Native, booted}
use Rattle.trace_player.proofs.Booting.{sound_boots}
use Rattle.trace_player.specs.Starting.{uuids_of}
use Rattle.word_parts.specs.Word.{CanBeRefused}
use Rattle.journal_runner.specs.Auditing.{auditing}
use Rattle.journal_runner.specs.Comparing.{comparing, pair_of}
use Rattle.journal_runner.specs.Laws.{HasComparison, IsInputBeside, JournalsHaveAnswers, RecordedIsAuditedLegal}
use Rattle.journal_runner.specs.Reading.{SpellsAlone, SpellsPair}
use Rattle.journal_runner.proofs.Shown.{show_something}

-- ---- journals that bytes spell

are_bytes : (input : List ℕ) → All (λ byte. byte < 256) input → IsBytes input
are_bytes input bytes i =
    elim (cases_lt i (length input)) [
      | inl within ↦ bytes i 0 within
      | inr behind ↦ let none : get_or input i 0 ≡ 0 = get_or-eq_default input 0 behind in omega (arith, none)
    ]

module _ (natives : List Native) (input : List ℕ) (beside : IsInputBeside natives input) where
  -- of so many bytes of the input, from anywhere on
  has_verdict : (bytes : List ℕ) (whole : Whole) → IsBytes bytes → length bytes ≤ length input → Spells (uuids_of natives) bytes whole
      → HasVerdict (booted whole.boot natives) whole.events
  has_verdict bytes whole fit few spells =
      let short = beside.short in
      each_has_a_verdict (booted whole.boot natives) whole.events
      (sound_boots natives whole.boot beside.few beside.apart
      (spelled_within (uuids_of natives) bytes whole fit (omega (arith, few, short)) spells).boot)

  alone_has : (whole : Whole) → SpellsAlone (uuids_of natives) input whole → HasVerdict (booted whole.boot natives) whole.events
  alone_has whole alone = has_verdict input whole (are_bytes input beside.bytes) (omega arith) alone.spelled

  have_comparison : (subject : Subject) (one two : Whole) → SpellsPair (uuids_of natives) input one two
      → HasComparison (pair_of natives one two) subject
  have_comparison subject one two pair =
      let bytes = are_bytes input beside.bytes in
      show_something (pair_of natives one two) subject (has_verdict input one bytes (omega arith) pair.first)
      (has_verdict (drop one.used input) two (IsBytes-drop one.used input bytes) (omega (arith, length-drop one.used input))
      pair.second.spelled)

  not_by_audit : (whole : Whole) → SpellsAlone (uuids_of natives) input whole → CanBeRefused (auditing natives) input → ⊥
  not_by_audit whole alone can =
      let has = alone_has whole alone in
      can.spells_nothing (record { whole = whole; verdict = has.verdict }) (record { alone = alone; is_verdict = has.is_verdict })

  not_by_compare : (subject : Subject) (one two : Whole) → SpellsPair (uuids_of natives) input one two
      → CanBeRefused (comparing natives subject) input → ⊥
  not_by_compare subject one two pair can =
      let has = have_comparison subject one two pair in
      can.spells_nothing (record { one = one; two = two; compared = has.compared })
      (record { pair = pair; is_compared = has.is_compared })

pub journals_have_answers : JournalsHaveAnswers
journals_have_answers = record {
  audited = λ natives input whole beside. alone_has natives input beside whole;
  compared = λ natives subject input one two beside. have_comparison natives input beside subject one two;
  not_refused_by_audit = λ natives input whole beside. not_by_audit natives input beside whole;
  not_refused_by_compare = λ natives subject input one two beside. not_by_compare natives input beside subject one two;
}

-- ---- what `record` has written

pub recorded_is_audited_legal : RecordedIsAuditedLegal
recorded_is_audited_legal natives boot trace result old new recorded short call kept quiet =
    kept.complete (record { whole = whole_with boot recorded.play.history; verdict = Legal })
    (record { short = short; spelled = recorded.audited; few = λ never. never; goes_on = refl }) quiet
