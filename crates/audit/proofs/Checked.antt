-- A journal whose first events were done on a core.
use Rattle.std.proofs.Common.{◌≡◌, ℕ, ◌+◌, ◌<◌, ◌≤◌, ◌^◌, Bool, true, false, List, [], ◌∷◌, ◌++◌, length, take, drop, get_or, sym, subst, ap, ◌∙◌, arith}
use Rattle.std.proofs.lemmas.List.{append-nil, take-append-drop, take_all, take_more}
use Rattle.std.proofs.lemmas.List.Sums.{sum_by-append}
use Rattle.std.specs.Prelude.{Ok}
use Rattle.audit_model.proofs.Prefixes.{prefixes_can_be}
use Rattle.audit_model.specs.Verdicts.{CanBegin, IsFaultless, IsIllegalAt}
use Rattle.event_journal.specs.Event.{copied_by}
use Rattle.event_journal.specs.Journal.{copied_bytes}
use Rattle.event_journal.specs.declared.event.Event.{Event}
use Rattle.journal_replay.proofs.Next.{replays_are_faultless}
use Rattle.journal_replay.specs.Replaying.{CanBeNext, Does, HasDone, boot_of, done_by}
use Rattle.journal_replay.specs.declared.replay.Replay.{Replay}
use Rattle.kernel_model.specs.Application.{Booted}

-- so many of the events were done
pub record HasDoneFirst (boot : Booted) (events : List Event) (count : ℕ) (replay : Replay) : Type 0 where
  pub booted : boot_of replay ≡ boot
  pub done : done_by replay ≡ take count events

module _ (boot : Booted) (events : List Event) (count : ℕ) (replay : Replay) (has : HasDoneFirst boot events count replay) where
  first_faultless : IsFaultless boot (take count events)
  first_faultless =
      subst (λ (b : Booted). IsFaultless b (take count events)) has.booted
      (subst (IsFaultless (boot_of replay)) has.done (replays_are_faultless replay))

  first_can_begin : CanBegin boot (take count events)
  first_can_begin = record { more = []; faultless = subst (IsFaultless boot) (sym (append-nil (take count events))) first_faultless }

  -- where that were all of them
  pub all_can_begin : length events ≤ count → CanBegin boot events
  all_can_begin all = subst (CanBegin boot) (take_all count events all) first_can_begin

  module _ (event : Event) (there : count < length events) (is : event ≡ get_or events count event) where
    taken_more : take (count + 1) events ≡ take count events ++ event ∷ []
    taken_more = take_more events count event there ∙ ap (λ (e : Event). take count events ++ e ∷ []) (sym is)

    done_more : done_by replay ++ event ∷ [] ≡ take (count + 1) events
    done_more = ap (λ (es : List Event). es ++ event ∷ []) has.done ∙ sym taken_more

    -- with the next one no more was copied than with all
    pub few_with_next : copied_bytes events ≤ 2 ^ 28 → copied_bytes (done_by replay ++ event ∷ []) ≤ 2 ^ 28
    few_with_next few =
        let next = ap copied_bytes done_more in
        let whole = sum_by-append copied_by (take (count + 1) events) (drop (count + 1) events) in
        let parts = ap copied_bytes (take-append-drop (count + 1) events) in
        omega (arith, few, next, whole, parts)

    -- where that can't be next
    pub illegal_next : (CanBeNext replay event → ⊥) → IsIllegalAt boot events count
    illegal_next cannot = record {
      there = there;
      before = first_can_begin;
      with_it = λ can. cannot (subst (λ (b : Booted). IsFaultless b (done_by replay ++ event ∷ [])) (sym has.booted)
          (subst (IsFaultless boot) (sym done_more) (prefixes_can_be boot (take (count + 1) events) can)));
    }

    -- where it was done too
    pub done_next : (new : Replay) → HasDone replay new event → HasDoneFirst boot events (count + 1) new
    done_next new more = record { booted = more.boot ∙ has.booted; done = more.events ∙ done_more }

-- ---- by the answer

pub was_done : (old new : Replay) (event : Event) (answer : Bool) → answer ≡ true → Does old new event (Ok answer) → HasDone old new event
was_done old new event true is does = does
was_done old new event false is does = absurd cc

pub not_next : (old new : Replay) (event : Event) (answer : Bool) → answer ≡ false → Does old new event (Ok answer) → CanBeNext old event → ⊥
not_next old new event true is does = absurd cc
not_next old new event false is does = does
