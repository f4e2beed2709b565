-- From what was answered to the play whose journal was written; and that a text has one meaning.
use Rattle.std.proofs.Common.{◌≡◌, ℕ, ◌≤◌, ◌⊎◌, inl, inr, List, [], length, Option, Some, None, refl, sym, subst}
use Rattle.std.specs.Option.{option_and_then, option_map}
use Rattle.std.specs.Prelude.{Err, IfErr, IfOk, IsSomeAnd, Ok, Result}
use Rattle.audit.proofs.SteadyPlays.{plays_are_faultless}
use Rattle.base.specs.Zeros.{zeros}
use Rattle.kernel_model.specs.Application.{IsBooted, Native, booted}
use Rattle.play_model.specs.Play.{Play, played}
use Rattle.play_model.proofs.TrueToKernel.{plays_are_true}
use Rattle.ports.specs.Port.{Appends}
use Rattle.ports.specs.PortLaws.{Appends-nil}
use Rattle.ta_isa.specs.declared.boot.Boot.{Boot}
use Rattle.trace_player.proofs.Booting.{AreApart}
use Rattle.trace_player.specs.Refused.{refused_by}
use Rattle.trace_player.specs.Starting.{uuids_of}
use Rattle.trace_text.proofs.GrammarLaws.{every_text}
use Rattle.trace_text.specs.Grammar.{IsFaultOf as IsFaultOfText, IsFirstFault, Spells}
use Rattle.trace_text.specs.Sound.{IsSound}
use Rattle.trace_text.specs.declared.fault.TraceFault.{TraceFault}
use Rattle.trace_text.specs.declared.fault.TraceFault.TheVariants.{Bad}
use Rattle.trace_text.specs.declared.fault.TraceFault.TheVariants as fault
use Rattle.trace_text.specs.declared.trace.Trace.{Trace}
use Rattle.word_parts.specs.Answer.{Writes, status_of_play}
use Rattle.word_parts.specs.Limits.{HasTooMany}
use Rattle.word_parts.specs.Word.{Answered, HasOneMeaning, IsDone, IsFaultOf, IsServedBy, Ran}
use Rattle.word_parts.specs.declared.status.Status.{Status}
use Rattle.word_parts.specs.declared.status.Status.TheVariants.{TooLong}
use Rattle.word_parts.specs.declared.status.Status.TheVariants as status
use Rattle.word_parts.proofs.Ended.{IsUnserved, WasServed, ran-served, ran-served-or-not}
use Rattle.journal_runner.proofs.Booting.{can_boot}
use Rattle.journal_runner.specs.Known.{CanBoot, CanBootWith}
use Rattle.journal_runner.specs.Recorded.{IsSpelledIfPlayed}
use Rattle.journal_runner.specs.Recording.{HasSpelledJournal, WasRead, journal_of, journal_with, recording}
use Rattle.journal_runner.specs.Records.{IsRecorded, IsRecordedWith, IsUnrecorded, Records, WasRecorded}

-- a text spells one trace, or it has a fault, and not both
pub one_meaning : (natives : List Native) (input : List ℕ) → HasOneMeaning (recording natives) input
one_meaning natives input = record {
  one_content = (every_text (uuids_of natives) input).one_value;
  not_both = (every_text (uuids_of natives) input).not_both;
}

-- ---- a trace

recorded_play : (natives : List Native) (boot : Boot) (trace : Trace) (result : Status) (bytes : List ℕ) (old new : Option (List ℕ))
    (o : Option Play) → trace.boot ≡ Some boot → HasSpelledJournal natives trace → played natives boot trace ≡ o → IsBooted (booted boot natives)
    → option_map (journal_of boot) o ≡ Some bytes → result ≡ status_of_play (option_and_then (λ (p : Play). p.refused) o)
    → Appends old new bytes → IsRecorded natives boot trace result old new
recorded_play natives boot trace result bytes old new None has spelled e boots is same put = absurd cc
recorded_play natives boot trace result bytes old new (Some play) has spelled e boots is same put =
    let bytes_are : bytes ≡ journal_of boot play = cc in
    let faultless = plays_are_faultless (zeros 0x400000) natives boot trace play boots e in
    record {
      play = play;
      is_true = plays_are_true natives boot trace play boots e;
      steady = faultless.faultless.steady;
      bytes = subst (Appends old new) bytes_are put;
      audited = record { alone = spelled.alone boot play has e; is_verdict = faultless.verdict };
      status = same;
    }

-- by the boot of the trace
recorded_with : (natives : List Native) (trace : Trace) (result : Status) (bytes : List ℕ) (old new : Option (List ℕ))
    (boot : Option Boot) → trace.boot ≡ boot → HasSpelledJournal natives trace → CanBootWith natives trace boot
    → journal_with natives trace boot ≡ Some bytes
    → result ≡ status_of_play (refused_by natives trace boot) → Appends old new bytes
    → IsRecordedWith natives trace result old new boot
recorded_with natives trace result bytes old new None has spelled none is same put =
    let bytes_are : bytes ≡ [] = cc in (none, same, subst (Appends old new) bytes_are put)
recorded_with natives trace result bytes old new (Some boot) has spelled boots is same put =
    recorded_play natives boot trace result bytes old new (played natives boot trace) has spelled refl boots is same put

-- ---- what is answered

-- what is known of a trace that was played
spelled_unless : (natives : List Native) (trace : Trace) → HasTooMany trace.items ⊎ HasSpelledJournal natives trace
    → (HasTooMany trace.items → ⊥) → HasSpelledJournal natives trace
spelled_unless natives trace (inl many) few = absurd (few many)
spelled_unless natives trace (inr spelled) few = spelled

-- what is written for a trace is what the word answers
answered_for : (natives : List Native) (input : List ℕ) (trace : Trace) (result : Status) (old new : Option (List ℕ))
    → Spells (uuids_of natives) input trace → CanBoot natives trace → IsServedBy (recording natives) trace result old new
    → IsSpelledIfPlayed natives trace result old new → Answered (recording natives) input result old new
answered_for natives input trace result old new spelled boots served (inl want) = inl want
answered_for natives input trace result old new spelled boots served (inr journal) = inr (inr (record {
  content = trace;
  spelled = spelled;
  known = record { boots = boots; spelled = spelled_unless natives trace journal };
  served = served;
}))

-- a trace of too many SMC items isn't played
pub answered_many : (natives : List Native) (input : List ℕ) (trace : Trace) (held : Option (List ℕ))
    → Spells (uuids_of natives) input trace → CanBoot natives trace → HasTooMany trace.items
    → Answered (recording natives) input TooLong held held
answered_many natives input trace held spelled boots many =
    answered_for natives input trace TooLong held held spelled boots (inl (many, refl, Appends-nil held)) (inr (inl many))

-- one without a boot has no journal
pub answered_unbooted : (natives : List Native) (input : List ℕ) (trace : Trace) (held : Option (List ℕ))
    → Spells (uuids_of natives) input trace → CanBoot natives trace → (HasTooMany trace.items → ⊥) → trace.boot ≡ None
    → Answered (recording natives) input status.Ok held held
answered_unbooted natives input trace held spelled boots few none =
    answered_for natives input trace status.Ok held held spelled boots (inr (few, inr nothing))
    (inr (inr (record { alone = λ boot play is made. absurd cc })))
  where
    nothing : IsSomeAnd (journal_with natives trace trace.boot)
        (λ text. Writes (status_of_play (refused_by natives trace trace.boot)) text status.Ok held held)
    nothing =
        subst (λ (boot : Option Boot). IsSomeAnd (journal_with natives trace boot)
        (λ text. Writes (status_of_play (refused_by natives trace boot)) text status.Ok held held)) (sym none)
        (inl (refl, Appends-nil held))

-- one that was played by its boot, its fills and its items
pub answered_booted : (natives : List Native) (input : List ℕ) (trace same : Trace) (result : Status) (old new : Option (List ℕ))
    → same ≡ trace → Spells (uuids_of natives) input trace → CanBoot natives trace → (HasTooMany trace.items → ⊥)
    → IsDone (recording natives) same result old new → IsSpelledIfPlayed natives same result old new
    → Answered (recording natives) input result old new
answered_booted natives input trace same result old new is spelled boots few done journal =
    answered_for natives input trace result old new spelled boots
    (inr (few, subst (λ (t : Trace). IsDone (recording natives) t result old new) is done))
    (subst (λ (t : Trace). IsSpelledIfPlayed natives t result old new) is journal)

-- ---- an input

-- what was served is what was recorded
served_recorded : (natives : List Native) (input : List ℕ) (result : Status) (old new : Option (List ℕ))
    → WasServed (recording natives) input result old new → WasRecorded natives input result old new
served_recorded natives input result old new served =
    let trace = served.content in
    record {
      trace = trace;
      spelled = served.spelled;
      few = served.few;
      recorded = recorded_with natives trace result served.text old new trace.boot refl (served.known.spelled served.few)
          served.known.boots served.is_text served.stands_for served.put;
    }

-- what a call that keeps to the word shows
pub ran_records : (natives : List Native) (input : List ℕ) (left : Option (List ℕ)) (result : Status) (old new : Option (List ℕ))
    → Ran (recording natives) input left result old new → Records natives input result old new
ran_records natives input left result old new ran = record {
  ok = λ e. served_recorded natives input result old new (ran-served (recording natives) input left result old new ran e);
  too_long = λ e. by_end (ran-served-or-not (recording natives) input left result old new ran e);
}
  where
    by_end : IsUnserved (recording natives) input ⊎ WasServed (recording natives) input result old new
        → IsUnrecorded natives input ⊎ WasRecorded natives input result old new
    by_end (inl unserved) = inl unserved
    by_end (inr served) = inr (served_recorded natives input result old new served)

-- ---- reading

-- what was read beside built-in applications of these UUIDs can be played
pub was_read : (natives : List Native) (uuids : List (List ℕ)) (input : List ℕ) (read : Result Trace TraceFault)
    → uuids ≡ uuids_of natives → length uuids ≤ 16 → AreApart uuids → IfOk read (λ trace. Spells uuids input trace)
    → IfOk read (IsSound uuids) → IfOk read (WasRead natives input)
was_read natives uuids input (Ok trace) same few apart spelled sound = record {
  spelled = subst (λ (us : List (List ℕ)). Spells us input trace) same spelled;
  sound = subst (λ (us : List (List ℕ)). IsSound us trace) same sound;
  boots = can_boot natives uuids trace same few apart sound;
}
was_read natives uuids input (Err fault) same few apart spelled sound = tt

pub was_refused : (natives : List Native) (uuids : List (List ℕ)) (input : List ℕ) (read : Result Trace TraceFault)
    → uuids ≡ uuids_of natives → IfErr read (IsFaultOfText uuids input) → IfErr read (IsFaultOf (recording natives) input)
was_refused natives uuids input (Ok trace) same bad = tt
was_refused natives uuids input (Err (Bad place kind)) same bad =
    subst (λ (us : List (List ℕ)). IsFirstFault us input place kind) same bad
was_refused natives uuids input (Err fault.Memory) same bad = tt
