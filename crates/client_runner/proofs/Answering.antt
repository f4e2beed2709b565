-- From what was read, played and answered to what the word says of it.
use Rattle.std.proofs.Common.{◌≡◌, ℕ, ◌≤◌, inl, inr, List, [], length, Option, Some, None, refl, sym, subst}
use Rattle.std.specs.Prelude.{◌⊎◌, Err, IfErr, IfNone, IfOk, IfSome, Ok, Result}
use Rattle.std.specs.Option.{option_and_then, option_map}
use Rattle.client_play.proofs.OfTraces.{plays_are_of_traces}
use Rattle.client_play.proofs.Told.{results_are_told_alone}
use Rattle.client_play.specs.Played.{ClientPlay, played, stopped_by, text_by, text_of_play}
use Rattle.client_text.proofs.Meanings.{every_text}
use Rattle.client_text.specs.Grammar.{IsFaultOf as IsFaultOfText, IsFirstFault, Spells}
use Rattle.client_text.specs.Sound.{IsClientBoot, IsSoundScript}
use Rattle.client_text.specs.declared.script.Script.{Script}
use Rattle.kernel_model.specs.Application.{IsBooted, Native, booted}
use Rattle.ports.specs.Port.{Appends}
use Rattle.ta_isa.specs.declared.boot.Boot.{Boot}
use Rattle.trace_player.proofs.Booting.{AreApart, sound_boots}
use Rattle.trace_player.specs.Starting.{uuids_of}
use Rattle.trace_text.specs.declared.fault.TraceFault.{TraceFault}
use Rattle.trace_text.specs.declared.fault.TraceFault.TheVariants.{Bad}
use Rattle.trace_text.specs.declared.fault.TraceFault.TheVariants as fault
use Rattle.word_parts.proofs.Ended.{IsUnserved, WasServed, ran-served, ran-served-or-not}
use Rattle.word_parts.specs.Answer.{status_of_play}
use Rattle.word_parts.specs.Word.{HasOneMeaning, IsFaultOf, Ran}
use Rattle.word_parts.specs.declared.status.Status.{Status}
use Rattle.client_runner.specs.Client.{CanBePlayed, WasRead, client_word}
use Rattle.client_runner.specs.Scripts.{IsPrinted, IsPrintedBy, IsUnplayed, PlaysScripts, WasPlayed}

-- ---- reading

-- an input spells one script, or it has a fault, and not both
pub one_meaning : (natives : List Native) (input : List ℕ) → HasOneMeaning (client_word natives) input
one_meaning natives input = record {
  one_content = (every_text (uuids_of natives) input).one_value;
  not_both = (every_text (uuids_of natives) input).not_both;
}

-- ---- booting

by_boot : (natives : List Native) (boot : Option Boot) → length (uuids_of natives) ≤ 16 → AreApart (uuids_of natives)
    → IfSome boot (IsClientBoot (uuids_of natives)) → IfSome boot (λ b. IsBooted (booted b natives))
by_boot natives None few apart sound = tt
by_boot natives (Some boot) few apart sound = sound_boots natives boot few apart sound.boots

by_script : (natives : List Native) (script : Script) → length (uuids_of natives) ≤ 16 → AreApart (uuids_of natives)
    → IsSoundScript (uuids_of natives) script → CanBePlayed natives script
by_script natives script few apart sound = record { sound = sound; boots = by_boot natives script.boot few apart sound.boot }

-- so what is within its limits can be played
pub can_be_played : (natives : List Native) (uuids : List (List ℕ)) (script : Script) → uuids ≡ uuids_of natives
    → length uuids ≤ 16 → AreApart uuids → IsSoundScript uuids script → CanBePlayed natives script
can_be_played natives uuids script same =
    subst (λ (us : List (List ℕ)). length us ≤ 16 → AreApart us → IsSoundScript us script → CanBePlayed natives script) (sym same)
    (by_script natives script)

-- ---- a script

-- the play whose text was written
printed_play : (natives : List Native) (boot : Boot) (script : Script) (result : Status) (text : List ℕ)
    (old new : Option (List ℕ)) (o : Option ClientPlay) → played natives boot script ≡ o → IsBooted (booted boot natives)
    → IsSoundScript (uuids_of natives) script → script.boot ≡ Some boot → option_map text_of_play o ≡ Some text
    → result ≡ status_of_play (option_and_then (λ (play : ClientPlay). play.stopped) o) → Appends old new text
    → IsPrinted natives boot script result old new
printed_play natives boot script result text old new None e boots sound has is same put = absurd cc
printed_play natives boot script result text old new (Some play) e boots sound has is same put =
    let text_is : text ≡ text_of_play play = cc in
    record {
      play = play;
      is_play = e;
      text = subst (Appends old new) text_is put;
      status = same;
      of_trace = plays_are_of_traces natives boot script play boots e;
      alone = results_are_told_alone natives (uuids_of natives) boot script play boots sound has e;
    }

-- by the boot of the script
printed_by : (natives : List Native) (script : Script) (result : Status) (text : List ℕ) (old new : Option (List ℕ))
    (boot : Option Boot) → IsSoundScript (uuids_of natives) script → script.boot ≡ boot
    → IfNone boot ((script.fills ≡ []) × (script.calls ≡ [])) → IfSome boot (λ b. IsBooted (booted b natives))
    → text_by natives script boot ≡ Some text → result ≡ status_of_play (stopped_by natives script boot)
    → Appends old new text → IsPrintedBy natives script result old new boot
printed_by natives script result text old new None sound has none boots is same put =
    let text_is : text ≡ [] = cc in (none.1, same, subst (Appends old new) text_is put)
printed_by natives script result text old new (Some boot) sound has none boots is same put =
    printed_play natives boot script result text old new (played natives boot script) refl boots sound has is same put

-- ---- an input

-- what was served is what was played
served_played : (natives : List Native) (input : List ℕ) (result : Status) (old new : Option (List ℕ))
    → WasServed (client_word natives) input result old new → WasPlayed natives input result old new
served_played natives input result old new served =
    let script = served.content in
    let can = served.known in
    record {
      script = script;
      spelled = served.spelled;
      few = served.few;
      printed = printed_by natives script result served.text old new script.boot can.sound refl can.sound.no_boot can.boots
          served.is_text served.stands_for served.put;
    }

-- what a call that keeps to the word shows
pub ran_plays : (natives : List Native) (input : List ℕ) (left : Option (List ℕ)) (result : Status) (old new : Option (List ℕ))
    → Ran (client_word natives) input left result old new → PlaysScripts natives input result old new
ran_plays natives input left result old new ran = record {
  ok = λ e. served_played natives input result old new (ran-served (client_word natives) input left result old new ran e);
  too_long = λ e. by_end (ran-served-or-not (client_word natives) input left result old new ran e);
}
  where
    by_end : IsUnserved (client_word natives) input ⊎ WasServed (client_word natives) input result old new
        → IsUnplayed natives input ⊎ WasPlayed natives input result old new
    by_end (inl unserved) = inl unserved
    by_end (inr served) = inr (served_played natives input result old new served)

-- ---- reading and serving

-- what was read beside built-in applications of these UUIDs can be played
pub was_read : (natives : List Native) (uuids : List (List ℕ)) (input : List ℕ) (read : Result Script TraceFault)
    → uuids ≡ uuids_of natives → length uuids ≤ 16 → AreApart uuids → IfOk read (λ script. Spells uuids input script)
    → IfOk read (IsSoundScript uuids) → IfOk read (WasRead natives input)
was_read natives uuids input (Ok script) same few apart spelled sound = record {
  spelled = subst (λ (us : List (List ℕ)). Spells us input script) same spelled;
  can = can_be_played natives uuids script same few apart sound;
}
was_read natives uuids input (Err fault) same few apart spelled sound = tt

pub was_refused : (natives : List Native) (uuids : List (List ℕ)) (input : List ℕ) (read : Result Script TraceFault)
    → uuids ≡ uuids_of natives → IfErr read (IsFaultOfText uuids input) → IfErr read (IsFaultOf (client_word natives) input)
was_refused natives uuids input (Ok script) same bad = tt
was_refused natives uuids input (Err (Bad place kind)) same bad =
    subst (λ (us : List (List ℕ)). IsFirstFault us input place kind) same bad
was_refused natives uuids input (Err fault.Memory) same bad = tt
