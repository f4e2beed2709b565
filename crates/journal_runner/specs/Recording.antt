-- The word `record`: a text trace is played, and the journal of its play is written.
use Rattle.std.specs.Prelude.{◌≡◌, ℕ, List, [], Option, None, Some}
use Rattle.std.specs.Option.{option_map}
use Rattle.journal_bytes.specs.Spelling.{spelling, whole_with}
use Rattle.kernel_model.specs.Application.{Native}
use Rattle.play_model.specs.Play.{Play, played}
use Rattle.ta_isa.specs.declared.boot.Boot.{Boot}
use Rattle.trace_player.specs.Refused.{refused_in}
use Rattle.trace_player.specs.Starting.{uuids_of}
use Rattle.trace_text.specs.Grammar.{IsFirstFault, Spells}
use Rattle.trace_text.specs.Sound.{IsSound}
use Rattle.trace_text.specs.declared.trace.Trace.{Trace}
use Rattle.word_parts.specs.Limits.{HasTooMany}
use Rattle.word_parts.specs.Word.{Word}
use Rattle.journal_runner.specs.Known.{CanBoot}
use Rattle.journal_runner.specs.Reading.{SpellsAlone}

-- the bytes of the boot and of the history of a play, of all its events, or of those before a refused entry
abbrev pub journal_of : Boot → Play → List ℕ
journal_of boot play = spelling boot play.history

-- the bytes that are written for a trace that has this boot; for one without a boot none are
abbrev pub journal_with : List Native → Trace → Option Boot → Option (List ℕ)
journal_with natives trace None = Some []
journal_with natives trace (Some boot) = option_map (journal_of boot) (played natives boot trace)

abbrev pub journal_for : List Native → Trace → Option (List ℕ)
journal_for natives trace = journal_with natives trace trace.boot

-- the bytes of the boot and of the history of the trace's play spell just these, and nothing stands behind them
pub record HasSpelledJournal (natives : List Native) (trace : Trace) : Type 0 where
  pub alone : (boot : Boot) (play : Play) → trace.boot ≡ Some boot → played natives boot trace ≡ Some play
      → SpellsAlone (uuids_of natives) (journal_of boot play) (whole_with boot play.history)

-- a core can be booted for the trace, and, where it has few enough SMC items to be played, its journal is spelled
pub record IsRecordable (natives : List Native) (trace : Trace) : Type 0 where
  pub boots : CanBoot natives trace
  pub spelled : (HasTooMany trace.items → ⊥) → HasSpelledJournal natives trace

-- the input spells this, which is within its limits, and a core can be booted for it
pub record WasRead (natives : List Native) (input : List ℕ) (trace : Trace) : Type 0 where
  pub spelled : Spells (uuids_of natives) input trace
  pub sound : IsSound (uuids_of natives) trace
  pub boots : CanBoot natives trace

-- the word: a text trace, beside these built-in applications, is answered with its journal
abbrev pub recording : List Native → Word
recording natives = record {
  Content = Trace;
  Spells = Spells (uuids_of natives);
  IsFirstFault = IsFirstFault (uuids_of natives);
  IsKnown = IsRecordable natives;
  IsTooLarge = λ (trace : Trace). HasTooMany trace.items;
  text_for = journal_for natives;
  refused_for = refused_in natives;
}
