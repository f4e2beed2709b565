-- The word `audit`: a journal is read, and whether it is a legal and steady history of its boot is written.
use Rattle.std.specs.Prelude.{ℕ, List, [], ◌∷◌, ◌++◌, codes, length, None, Some}
use Rattle.std.specs.Fmt.{decimal}
use Rattle.audit_model.specs.Verdicts.{IsVerdict}
use Rattle.audit_model.specs.declared.verdict.Verdict.{Verdict}
use Rattle.audit_model.specs.declared.verdict.Verdict.TheVariants.{Legal, Illegal}
use Rattle.journal_bytes.specs.Grammar.{Whole}
use Rattle.kernel_model.specs.Application.{Native, booted}
use Rattle.trace_player.specs.Starting.{uuids_of}
use Rattle.word_parts.specs.Word.{Word}
use Rattle.journal_runner.specs.Reading.{IsFaultAlone, SpellsAlone}

-- a journal and a verdict on it
pub record Audited : Type 0 where
  pub whole : Whole
  pub verdict : Verdict

-- it is the verdict on the events of the journal, beside these built-in applications
abbrev pub IsVerdictOn : List Native → Whole → Verdict → Type 0
IsVerdictOn natives whole verdict = IsVerdict (booted whole.boot natives) whole.events verdict

-- the bytes spell the journal alone, and that is the verdict on it
pub record SpellsAudited (natives : List Native) (bytes : List ℕ) (audited : Audited) : Type 0 where
  pub alone : SpellsAlone (uuids_of natives) bytes audited.whole
  pub is_verdict : IsVerdictOn natives audited.whole audited.verdict

-- `legal N`, N being the number of events; or `illegal AT`
abbrev pub verdict_words : ℕ → Verdict → List ℕ
verdict_words count Legal = codes "legal " ++ decimal count
verdict_words count (Illegal at) = codes "illegal " ++ decimal at

abbrev pub verdict_line : ℕ → Verdict → List ℕ
verdict_line count verdict = verdict_words count verdict ++ 10 ∷ []

abbrev pub line_for : Audited → List ℕ
line_for audited = verdict_line (length audited.whole.events) audited.verdict

-- the word: a journal, beside these built-in applications, is answered with the verdict on it
abbrev pub auditing : List Native → Word
auditing natives = record {
  Content = Audited;
  Spells = SpellsAudited natives;
  IsFirstFault = IsFaultAlone (uuids_of natives);
  IsKnown = λ (audited : Audited). Unit {0};
  IsTooLarge = λ (audited : Audited). ⊥;
  text_for = λ (audited : Audited). Some (line_for audited);
  refused_for = λ (audited : Audited). None;
}
