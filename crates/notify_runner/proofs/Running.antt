-- From what was read, played and answered to what the word says of it.
use Rattle.std.proofs.Common.{◌≡◌, ℕ, ◌≤◌, ◌⊎◌, inl, inr, List, [], ◌∷◌, ◌++◌, length, take, drop, Option, Some, None, refl, sym, ap, subst, ◌∙◌}
use Rattle.std.specs.Prelude.{◌^◌, Err, IfErr, IfNone, IfOk, IfSome, Ok, Result}
use Rattle.std.specs.Option.{option_and_then, option_map}
use Rattle.std.proofs.lemmas.List.{take-append-drop}
use Rattle.std.proofs.lemmas.Option.{option_and_then_some}
use Rattle.base.specs.Zeros.{zeros}
use Rattle.kernel_model.specs.Application.{Booted, IsBooted, Native, booted}
use Rattle.notify_play.proofs.Asking.{steps_call_desk}
use Rattle.notify_play.proofs.Following.{steps_are_played}
use Rattle.notify_play.proofs.Ordered.{steps_hold_in_order}
use Rattle.notify_play.specs.NotifyPlay.{Drivers, NotifyPlay, after_step, after_steps, notify_played, unless_refused}
use Rattle.notify_play.specs.Text.{notify_text_by, notify_text_of_play}
use Rattle.notify_text.proofs.Meanings.{every_text}
use Rattle.notify_text.specs.Grammar.{IsFaultOf as IsFaultOfText, IsFirstFault, Spells}
use Rattle.notify_text.specs.Sound.{IsSoundTold}
use Rattle.notify_text.specs.Steps.{Step, steps_of}
use Rattle.notify_text.specs.declared.notify_trace.NotifyTrace.{NotifyTrace}
use Rattle.ports.specs.Port.{Appends}
use Rattle.ta_isa.specs.declared.boot.Boot.{Boot}
use Rattle.trace_player.proofs.Booting.{AreApart, sound_boots}
use Rattle.trace_player.specs.Starting.{uuids_of}
use Rattle.trace_text.specs.Sound.{IsSoundBoot}
use Rattle.trace_text.specs.declared.fault.TraceFault.{TraceFault}
use Rattle.trace_text.specs.declared.fault.TraceFault.TheVariants.{Bad}
use Rattle.trace_text.specs.declared.fault.TraceFault.TheVariants as fault
use Rattle.word_parts.specs.Answer.{status_of_play}
use Rattle.word_parts.specs.Word.{HasOneMeaning, IsFaultOf, Ran}
use Rattle.word_parts.specs.declared.status.Status.{Status}
use Rattle.word_parts.proofs.Ended.{IsUnserved, WasServed, ran-served, ran-served-or-not}
use Rattle.notify_runner.specs.Notified.{HoldsBehind, IsPrinted, IsPrintedWith, IsUnplayed, Notifies, WasNotified, start_of}
use Rattle.notify_runner.specs.Run.{CanBeBooted, WasRead, notifying, refused_by}

-- ---- reading

-- an input spells one trace with signals, or it has a fault, and not both
pub one_meaning : (natives : List Native) (drivers : Drivers) (input : List ℕ)
    → HasOneMeaning (notifying natives drivers) input
one_meaning natives drivers input = record {
  one_content = (every_text (uuids_of natives) input).one_value;
  not_both = (every_text (uuids_of natives) input).not_both;
}

-- ---- booting

by_boot : (natives : List Native) (told : NotifyTrace) (boot : Option Boot) → length (uuids_of natives) ≤ 16
    → AreApart (uuids_of natives) → IfSome boot (IsSoundBoot (uuids_of natives))
    → IfNone boot ((told.trace.fills ≡ []) × (told.trace.items ≡ [])) → IfNone boot (told.signals ≡ [])
    → CanBeBooted natives told boot
by_boot natives told None few apart sound none quiet = (none.1, quiet)
by_boot natives told (Some boot) few apart sound none quiet = sound_boots natives boot few apart sound

by_told : (natives : List Native) (told : NotifyTrace) → length (uuids_of natives) ≤ 16 → AreApart (uuids_of natives)
    → IsSoundTold (uuids_of natives) told → CanBeBooted natives told told.trace.boot
by_told natives told few apart sound =
    by_boot natives told told.trace.boot few apart sound.trace.boot sound.trace.no_boot sound.no_boot

-- so what is within its limits can be played
pub can_be_booted : (natives : List Native) (uuids : List (List ℕ)) (told : NotifyTrace) → uuids ≡ uuids_of natives
    → length uuids ≤ 16 → AreApart uuids → IsSoundTold uuids told → CanBeBooted natives told told.trace.boot
can_be_booted natives uuids told same =
    subst (λ (us : List (List ℕ)). length us ≤ 16 → AreApart us → IsSoundTold us told
    → CanBeBooted natives told told.trace.boot) (sym same) (by_told natives told)

-- ---- a play

-- a play of steps began with one of those at their front
front_played : (on : Booted) (drivers : Drivers) (front behind : List Step) (before after : NotifyPlay)
    → after_steps on drivers (front ++ behind) before ≡ Some after
    → (now : NotifyPlay) × (after_steps on drivers front before ≡ Some now)
front_played on drivers [] behind before after e = (before, refl)
front_played on drivers (first ∷ front) behind before after e =
    option_and_then_some (λ next. after_steps on drivers (front ++ behind) next)
    (unless_refused (after_step on drivers first) before) after e
    (λ (next : NotifyPlay) came onward.
    let rest = front_played on drivers front behind next after onward in
    (rest.0, ap (option_and_then (λ n. after_steps on drivers front n)) came ∙ rest.1))

-- what steps come to holds
holds_behind : (natives : List Native) (drivers : Drivers) (boot : Boot) (told : NotifyTrace) (steps : List Step)
    (now : NotifyPlay) → IsBooted (booted boot natives)
    → after_steps (booted boot natives) drivers steps (start_of (booted boot natives) told) ≡ Some now
    → HoldsBehind (booted boot natives) drivers (start_of (booted boot natives) told) steps now
holds_behind natives drivers boot told steps now boots e =
    let desk = steps_call_desk (booted boot natives) drivers steps (start_of (booted boot natives) told) now e in
    record {
      is_play = e;
      holds = steps_are_played (2 ^ 28) (zeros 0x400000) natives drivers boot told.trace.fills steps now boots e;
      in_order = steps_hold_in_order (2 ^ 28) (zeros 0x400000) natives drivers boot told.trace.fills steps now boots e;
      calls = desk.0;
      all_taken = desk.1;
    }

-- at each place
holds_at : (natives : List Native) (drivers : Drivers) (boot : Boot) (told : NotifyTrace) (after : NotifyPlay)
    → IsBooted (booted boot natives) → notify_played natives drivers boot told ≡ Some after → (count : ℕ)
    → (now : NotifyPlay)
    × HoldsBehind (booted boot natives) drivers (start_of (booted boot natives) told) (take count (steps_of told)) now
holds_at natives drivers boot told after boots e count =
    let on = booted boot natives in
    let all = steps_of told in
    let front = front_played on drivers (take count all) (drop count all) (start_of on told) after
    (ap (λ (steps : List Step). after_steps on drivers steps (start_of on told)) (take-append-drop count all) ∙ e) in
    (front.0, holds_behind natives drivers boot told (take count all) front.0 boots front.1)

-- ---- a trace

-- the play whose text was written
printed_play : (natives : List Native) (drivers : Drivers) (boot : Boot) (told : NotifyTrace) (result : Status)
    (text : List ℕ) (old new : Option (List ℕ)) (o : Option NotifyPlay) → notify_played natives drivers boot told ≡ o
    → IsBooted (booted boot natives) → option_map notify_text_of_play o ≡ Some text
    → result ≡ status_of_play (option_and_then (λ (p : NotifyPlay). p.play.refused) o) → Appends old new text
    → IsPrinted natives drivers boot told result old new
printed_play natives drivers boot told result text old new None e boots is same put = absurd cc
printed_play natives drivers boot told result text old new (Some play) e boots is same put =
    let text_is : text ≡ notify_text_of_play play = cc in
    record {
      play = play;
      is_play = e;
      text = subst (Appends old new) text_is put;
      status = same;
      whole = holds_behind natives drivers boot told (steps_of told) play boots e;
      at_each_place = holds_at natives drivers boot told play boots e;
    }

-- by the boot of the trace
printed_with : (natives : List Native) (drivers : Drivers) (told : NotifyTrace) (result : Status) (text : List ℕ)
    (old new : Option (List ℕ)) (boot : Option Boot) → CanBeBooted natives told boot
    → notify_text_by natives drivers told boot ≡ Some text
    → result ≡ status_of_play (refused_by natives drivers told boot) → Appends old new text
    → IsPrintedWith natives drivers told result old new boot
printed_with natives drivers told result text old new None none is same put =
    let text_is : text ≡ [] = cc in (none.0, none.1, same, subst (Appends old new) text_is put)
printed_with natives drivers told result text old new (Some boot) boots is same put =
    printed_play natives drivers boot told result text old new (notify_played natives drivers boot told) refl boots is same
    put

-- ---- an input

-- what was served is what was played
served_notified : (natives : List Native) (drivers : Drivers) (input : List ℕ) (result : Status) (old new : Option (List ℕ))
    → WasServed (notifying natives drivers) input result old new → WasNotified natives drivers input result old new
served_notified natives drivers input result old new served = record {
  told = served.content;
  spelled = served.spelled;
  few = served.few;
  printed = printed_with natives drivers served.content result served.text old new served.content.trace.boot served.known
      served.is_text served.stands_for served.put;
}

-- what a call that keeps to the word shows
pub ran_notifies : (natives : List Native) (drivers : Drivers) (input : List ℕ) (left : Option (List ℕ)) (result : Status)
    (old new : Option (List ℕ)) → Ran (notifying natives drivers) input left result old new
    → Notifies natives drivers input result old new
ran_notifies natives drivers input left result old new ran = record {
  ok = λ e. served_notified natives drivers input result old new
      (ran-served (notifying natives drivers) input left result old new ran e);
  too_long = λ e. by_end (ran-served-or-not (notifying natives drivers) input left result old new ran e);
}
  where
    by_end : IsUnserved (notifying natives drivers) input ⊎ WasServed (notifying natives drivers) input result old new
        → IsUnplayed natives input ⊎ WasNotified natives drivers input result old new
    by_end (inl unserved) = inl unserved
    by_end (inr served) = inr (served_notified natives drivers input result old new served)

-- ---- reading and serving

-- what was read beside built-in applications of these UUIDs can be served
pub was_read : (natives : List Native) (uuids : List (List ℕ)) (input : List ℕ) (read : Result NotifyTrace TraceFault)
    → uuids ≡ uuids_of natives → length uuids ≤ 16 → AreApart uuids → IfOk read (λ told. Spells uuids input told)
    → IfOk read (IsSoundTold uuids) → IfOk read (WasRead natives input)
was_read natives uuids input (Ok told) same few apart spelled sound = record {
  spelled = subst (λ (us : List (List ℕ)). Spells us input told) same spelled;
  sound = subst (λ (us : List (List ℕ)). IsSoundTold us told) same sound;
  boots = can_be_booted natives uuids told same few apart sound;
}
was_read natives uuids input (Err fault) same few apart spelled sound = tt

pub was_refused : (natives : List Native) (drivers : Drivers) (uuids : List (List ℕ)) (input : List ℕ)
    (read : Result NotifyTrace TraceFault) → uuids ≡ uuids_of natives → IfErr read (IsFaultOfText uuids input)
    → IfErr read (IsFaultOf (notifying natives drivers) input)
was_refused natives drivers uuids input (Ok told) same bad = tt
was_refused natives drivers uuids input (Err (Bad place kind)) same bad =
    subst (λ (us : List (List ℕ)). IsFirstFault us input place kind) same bad
was_refused natives drivers uuids input (Err fault.Memory) same bad = tt
