-- What the word answers, and what it has written.
use Rattle.std.specs.Prelude.{ℕ, List, IfSome}
use Rattle.client_play.specs.Played.{HasTooManyCalls, stopped_in, text_of}
use Rattle.client_text.specs.Grammar.{IsFirstFault, Spells}
use Rattle.client_text.specs.Sound.{IsSoundScript}
use Rattle.client_text.specs.declared.script.Script.{Script}
use Rattle.kernel_model.specs.Application.{IsBooted, Native, booted}
use Rattle.trace_player.specs.Starting.{uuids_of}
use Rattle.word_parts.specs.Word.{Word}

-- it is within the limits of a script, and with its boot, if it has one, a core can be booted beside built-in applications
pub record CanBePlayed (natives : List Native) (script : Script) : Type 0 where
  pub sound : IsSoundScript (uuids_of natives) script
  pub boots : IfSome script.boot (λ boot. IsBooted (booted boot natives))

-- the input spells this, which can be played
pub record WasRead (natives : List Native) (input : List ℕ) (script : Script) : Type 0 where
  pub spelled : Spells (uuids_of natives) input script
  pub can : CanBePlayed natives script

-- what an input spells, beside built-in applications, and what is written for it
abbrev pub client_word : List Native → Word
client_word natives = record {
  Content = Script;
  Spells = Spells (uuids_of natives);
  IsFirstFault = IsFirstFault (uuids_of natives);
  IsKnown = CanBePlayed natives;
  IsTooLarge = HasTooManyCalls;
  text_for = text_of natives;
  refused_for = stopped_in natives;
}
