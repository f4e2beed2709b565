-- The events of a journal, as they are read one by one.
use Rattle.std.proofs.Common.{◌≡◌, ℕ, ◌+◌, ◌<◌, ◌≤◌, ◌^◌, Bool, List, [], ◌∷◌, ◌++◌, take, drop, length, get_or, ap, ap₂, sym, subst, ◌∙◌, arith}
use Rattle.std.proofs.lemmas.List.{take-append-drop, take_more}
use Rattle.std.proofs.lemmas.List.Sums.{sum_by-append}
use Rattle.std.specs.Prelude.{Result, Ok}
use Rattle.audit_model.proofs.Prefixes.{prefixes_can_be, taken_can_begin}
use Rattle.audit_model.specs.Verdicts.{CanBegin, IsFaultless}
use Rattle.base.specs.declared.no_memory.NoMemory.{NoMemory}
use Rattle.event_journal.specs.Event.{copied_by}
use Rattle.event_journal.specs.Journal.{copied_bytes}
use Rattle.event_journal.specs.declared.event.Event.{Event}
use Rattle.journal_notes.specs.Meaning.{AreKept, AreOn, HasGrown, HasTaken, Meaning}
use Rattle.journal_replay.specs.Replaying.{boot_of, done_by}
use Rattle.journal_replay.specs.declared.replay.Replay.{Replay}
use Rattle.kernel_model.specs.Application.{Booted}
use Rattle.kernel_state.specs.Entering.{IsAsBefore}
use Rattle.kernel_state.specs.Meaning.{booted_of, events_of}
use Rattle.kernel_state.specs.declared.kernel_core.Core.{Core}

-- an answer, by its value
abbrev pub answer : Bool → Result Bool NoMemory
answer told = Ok told

pub as_is : (told is : Bool) → told ≡ is → answer told ≡ answer is
as_is told is same = ap answer same

grows : (one more all : ℕ) → all ≡ one + more → one ≤ all
grows one more all is = omega (arith, is)

-- notes of what a replay has done before an event are kept
pub kept_before : {N L : Type 0} (meaning : Meaning N L) (replay : Replay) (notes : N) (event : Event) → AreOn meaning replay.at_work.core notes
    → copied_bytes (done_by replay ++ event ∷ []) ≤ 2 ^ 28 → AreKept meaning notes
kept_before meaning replay notes event on few =
    let more = grows (copied_bytes (done_by replay)) (copied_bytes (event ∷ [])) _ (sum_by-append copied_by (done_by replay) (event ∷ [])) in
    record { core = replay.at_work.core; on = on; few = omega (arith, more, few) }

-- what was noted of an event that was done once there was more room is what was noted of it
pub grown_with_room : {N L : Type 0} (meaning : Meaning N L) (old mid new : Core) (before after : N) (news : List L) → IsAsBefore old mid
    → HasTaken meaning mid new before after news → AreOn meaning old before → HasGrown meaning old new before after news
grown_with_room meaning old mid new before after news room taken on =
    let booted : meaning.AreOf before (booted_of mid) (events_of old) =
    subst (λ (boot : Booted). meaning.AreOf before boot (events_of old)) (sym room.boot) on in
    let on_mid : AreOn meaning mid before =
    subst (λ (events : List Event). meaning.AreOf before (booted_of mid) events) (sym room.events) booted in
    let grown = taken.grown on_mid in
    record {
      on = grown.on;
      log = grown.log
          ∙ ap₂ (λ (boot : Booted) (events : List Event). meaning.log (meaning.subject before) boot events ++ news) room.boot room.events;
    }

module _ (boot : Booted) (events : List Event) (place : ℕ) (event : Event) (below : place < length events) (is : event ≡ get_or events place event)
    (replay : Replay) (booted : boot_of replay ≡ boot) (done : done_by replay ≡ take place events) where
  taken_more : take (place + 1) events ≡ take place events ++ event ∷ []
  taken_more = take_more events place event below ∙ ap (λ (e : Event). take place events ++ e ∷ []) (sym is)

  pub done_more : done_by replay ++ event ∷ [] ≡ take (place + 1) events
  done_more = ap (λ (h : List Event). h ++ event ∷ []) done ∙ sym taken_more

  pub few_with_next : copied_bytes events ≤ 2 ^ 28 → copied_bytes (done_by replay ++ event ∷ []) ≤ 2 ^ 28
  few_with_next few =
      let next = ap copied_bytes done_more in
      let whole = sum_by-append copied_by (take (place + 1) events) (drop (place + 1) events) in
      let parts = ap copied_bytes (take-append-drop (place + 1) events) in
      omega (arith, few, next, whole, parts)

  pub can_be_next : CanBegin boot events → IsFaultless (boot_of replay) (done_by replay ++ event ∷ [])
  can_be_next can =
      subst (λ (b : Booted). IsFaultless b (done_by replay ++ event ∷ [])) (sym booted)
      (subst (IsFaultless boot) (sym done_more) (prefixes_can_be boot (take (place + 1) events) (taken_can_begin boot events (place + 1) can)))
