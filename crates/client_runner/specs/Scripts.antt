-- What was played where the status is 0, or TooLong by an SMC without room.
use Rattle.std.specs.Prelude.{◌≡◌, ◌⊎◌, ℕ, All, List, [], Option, None, Some}
use Rattle.client_play.specs.Played.{ClientPlay, HasTooManyCalls, played, text_of_play}
use Rattle.client_play.specs.PlayLaws.{IsOfTrace, TellsAlone}
use Rattle.client_text.specs.Grammar.{Spells}
use Rattle.client_text.specs.declared.script.Script.{Script}
use Rattle.kernel_model.specs.Application.{Native, booted}
use Rattle.ports.specs.Port.{Appends}
use Rattle.ta_isa.specs.declared.boot.Boot.{Boot}
use Rattle.trace_player.specs.Starting.{uuids_of}
use Rattle.word_parts.specs.Answer.{status_of_play}
use Rattle.word_parts.specs.Input.{IsTooLong}
use Rattle.word_parts.specs.declared.status.Status.{Status}
use Rattle.word_parts.specs.declared.status.Status.TheVariants.{TooLong}
use Rattle.word_parts.specs.declared.status.Status.TheVariants as status

-- ---- a script

-- of a script that has this boot: just the text of its play was written, and the status is 0, or TooLong where an SMC has no room
pub record IsPrinted (natives : List Native) (boot : Boot) (script : Script) (result : Status) (old new : Option (List ℕ)) : Type 0
  where
    pub play : ClientPlay
    pub is_play : played natives boot script ≡ Some play
    pub text : Appends old new (text_of_play play)
    pub status : result ≡ status_of_play play.stopped
    -- its history is that of a trace of the client's writes and SMCs alone, and is legal from that boot, so that what holds of legal
    -- histories holds of it
    pub of_trace : IsOfTrace natives boot script play.history
    -- and each printed result of a session that shares no instance is the one with which its own machine, fed by the session's own
    -- events alone, ends the call, as the outputs behind it are those of that reply, of memory where its size is below 2^32
    pub alone : All (TellsAlone (booted boot natives) play.history) play.lines

-- of one without a boot, which has no calls: nothing was written, and the status is 0
abbrev pub IsPrintedBy : List Native → Script → Status → Option (List ℕ) → Option (List ℕ) → Option Boot → Type 0
IsPrintedBy natives script result old new None = (script.calls ≡ []) × (result ≡ status.Ok) × Appends old new []
IsPrintedBy natives script result old new (Some boot) = IsPrinted natives boot script result old new

-- ---- an input

-- there is a script that the input spells, which was played and printed
pub record WasPlayed (natives : List Native) (input : List ℕ) (result : Status) (old new : Option (List ℕ)) : Type 0 where
  pub script : Script
  pub spelled : Spells (uuids_of natives) input script
  pub few : HasTooManyCalls script → ⊥
  pub printed : IsPrintedBy natives script result old new script.boot

-- it isn't played, since it is too long, or spells a script of too many calls
abbrev pub IsUnplayed : List Native → List ℕ → Type 0
IsUnplayed natives input =
    IsTooLong input ⊎ ((script : Script) × Spells (uuids_of natives) input script × HasTooManyCalls script)

-- where it was, by the status
pub record PlaysScripts (natives : List Native) (input : List ℕ) (result : Status) (old new : Option (List ℕ)) : Type 0 where
  pub ok : result ≡ status.Ok → WasPlayed natives input result old new
  pub too_long : result ≡ TooLong → IsUnplayed natives input ⊎ WasPlayed natives input result old new
