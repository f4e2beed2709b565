-- From a player at the end of a trace to the bytes of its journal, and to what is written of them.
use Rattle.std.proofs.Common.{◌≡◌, ℕ, ◌≤◌, ◌^◌, inr, List, Option, None, Some, refl, sym, ap, subst, ◌∙◌, arith}
use Rattle.std.specs.Option.{option_map}
use Rattle.std.specs.Prelude.{IsSomeAnd}
use Rattle.audit.specs.Laws.{CoreJournalsAreSound}
use Rattle.event_journal.specs.declared.event.Event.{Event}
use Rattle.journal_bytes.specs.Grammar.{Spells}
use Rattle.journal_bytes.specs.Sound.{IsSoundJournal}
use Rattle.journal_bytes.specs.Spelling.{SpellsBack, spelling, whole_with}
use Rattle.kernel_model.specs.Application.{Booted, Native}
use Rattle.kernel_state.specs.Terms.{kept_terms}
use Rattle.kernel_state.specs.declared.terms.Terms.{Terms}
use Rattle.play_model.specs.Play.{Play, played}
use Rattle.ta_isa.specs.declared.boot.Boot.{Boot}
use Rattle.trace_player.specs.Playing.{history_of, terms_in}
use Rattle.trace_player.specs.Refused.{refused_in}
use Rattle.trace_player.specs.Starting.{uuids_of}
use Rattle.trace_player.specs.declared.player.Player.{Player}
use Rattle.trace_player.proofs.Playable.{refused-played}
use Rattle.trace_text.specs.Sound.{IsSoundBoot}
use Rattle.trace_text.specs.declared.trace.Trace.{Trace}
use Rattle.word_parts.specs.Answer.{Writes, status_of_play}
use Rattle.word_parts.specs.Word.{IsDone}
use Rattle.word_parts.specs.declared.status.Status.{Status}
use Rattle.word_parts.specs.declared.status.Status.TheVariants.{WriteFault}
use Rattle.word_parts.specs.declared.status.Status.TheVariants as status
use Rattle.journal_runner.specs.Reading.{SpellsAlone}
use Rattle.journal_runner.specs.Recorded.{StandsAtEnd}
use Rattle.journal_runner.specs.Recording.{HasSpelledJournal, journal_for, journal_of, journal_with, recording}

within : (terms : Terms) → terms ≡ kept_terms → terms.most ≤ 2 ^ 28
within terms are = let same : terms.most ≡ 2 ^ 28 = ap (λ (t : Terms). t.most) are in omega (arith, same)

module _ (natives : List Native) (trace : Trace) (player : Player) (named : Status) (end : StandsAtEnd natives trace player named)
    (header : Boot) (has_boot : trace.boot ≡ Some header) (events : List Event) (are : events ≡ history_of player) where
  same_boot : end.boot ≡ header
  same_boot = let both : Some end.boot ≡ Some header = sym end.has_boot ∙ has_boot in cc

  -- it can be written
  pub sound_journal : terms_in player ≡ kept_terms → CoreJournalsAreSound → IsSoundJournal header.cpus events
  sound_journal terms sound =
      subst (λ (boot : Boot). IsSoundJournal boot.cpus events) same_boot
      (subst (λ (on : Booted). IsSoundJournal on.cpus events) end.booted
      (subst (IsSoundJournal _) (sym are) (sound.of_core player.machine.at_work.core (within (terms_in player) terms))))

  -- and is the trace's
  pub journal_is : (bytes : List ℕ) → bytes ≡ spelling header events → journal_for natives trace ≡ Some bytes
  journal_is bytes is =
      ap (journal_with natives trace) end.has_boot ∙ ap (option_map (journal_of end.boot)) end.is_play
      ∙ ap (λ (es : List Event). Some (spelling end.boot es)) (sym (are ∙ end.history))
      ∙ ap (λ (boot : Boot). Some (spelling boot events)) same_boot
      ∙ ap (λ (b : List ℕ). Some b) (sym is)

  spelled_alone : (bytes : List ℕ) → bytes ≡ spelling header events → SpellsBack header events bytes
      → IsSoundBoot (uuids_of natives) header → (boot : Boot) (play : Play) → trace.boot ≡ Some boot
      → played natives boot trace ≡ Some play → SpellsAlone (uuids_of natives) (journal_of boot play) (whole_with boot play.history)
  spelled_alone bytes is back sound boot play has taken =
      let booted : Some header ≡ Some boot = sym has_boot ∙ has in
      let header_is : header ≡ boot = cc in
      let plays : Some end.play ≡ Some play =
      sym end.is_play ∙ ap (λ (b : Boot). played natives b trace) (same_boot ∙ header_is) ∙ taken in
      let play_is : end.play ≡ play = cc in
      let events_are : events ≡ play.history = are ∙ end.history ∙ ap (λ (p : Play). p.history) play_is in
      subst (λ (b : Boot). SpellsAlone (uuids_of natives) (spelling b play.history) (whole_with b play.history)) header_is
      (subst (λ (es : List Event). SpellsAlone (uuids_of natives) (spelling header es) (whole_with header es)) events_are
      (record {
        spelled = subst (λ (b : List ℕ). Spells (uuids_of natives) b (whole_with header events)) is
            (back.spelled (uuids_of natives) sound);
        nothing_behind = refl;
      }))

  -- whose journal they spell
  pub spelled_is : (bytes : List ℕ) → bytes ≡ spelling header events → SpellsBack header events bytes
      → IsSoundBoot (uuids_of natives) header → HasSpelledJournal natives trace
  spelled_is bytes is back sound = record { alone = spelled_alone bytes is back sound }

  pub status_is : named ≡ status_of_play (refused_in natives trace)
  status_is = end.stands_for ∙ ap status_of_play (sym (refused-played natives trace end.boot end.play end.has_boot end.is_play))

-- ---- what is written

pub done_with : (natives : List Native) (trace : Trace) (named result : Status) (bytes : List ℕ) (old new : Option (List ℕ))
    → journal_for natives trace ≡ Some bytes → named ≡ status_of_play (refused_in natives trace)
    → Writes named bytes result old new → IsDone (recording natives) trace result old new
done_with natives trace named result bytes old new is same writes =
    inr (subst (λ (o : Option (List ℕ)).
    IsSomeAnd o (λ text. Writes (status_of_play (refused_in natives trace)) text result old new)) (sym is)
    (subst (λ (s : Status). Writes s bytes result old new) same writes))

-- ---- statuses that don't come

pub play_never_fails : (o : Option ℕ) (named : Status) → named ≡ status_of_play o → named ≡ WriteFault → ⊥
play_never_fails None named is e = absurd cc
play_never_fails (Some more) named is e = absurd cc

pub play_not_usage : (o : Option ℕ) (named : Status) → named ≡ status_of_play o → named ≡ status.Usage → ⊥
play_not_usage None named is e = absurd cc
play_not_usage (Some more) named is e = absurd cc
