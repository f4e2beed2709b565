-- There is a number for each call and each session of a realm, since few calls have come in by the time that 2^28 bytes were read.
use Rattle.std.proofs.Common.{ℕ, ◌+◌, ◌*◌, ◌^◌, ◌<◌, ◌≤◌, [], sym, subst, arith}
use Rattle.std.proofs.Math.Logic.{∥∥₁_elim}
use Rattle.std.proofs.Props.{props}
use Rattle.event_journal.specs.Journal.{copied_bytes}
use Rattle.realm_model.specs.Reading as realm
use Rattle.realm_notes.proofs.CallsRead.{few_sessions, realm_calls_read}
use Rattle.realm_notes.specs.Noted.{AreNoted, HasNumbersLeft, listing}
use Rattle.realm_notes.specs.Meaning.{meaning}
use Rattle.realm_notes.specs.declared.notes.Notes.{Notes}
use Rattle.journal_notes.specs.Meaning.{AreKept}
use Rattle.kernel_state.proofs.CoreEvents.{core_is_legal}
use Rattle.kernel_state.specs.Meaning.{booted_of, events_of}
use Rattle.realm_notes.specs.Realms.{realm_of}

calls_then : (entered copied : ℕ) → 32 * entered ≤ copied → copied ≤ 2 ^ 28 → entered + 1 < 2 ^ 32
calls_then entered copied read few = omega arith

sessions_then : (entered sessions copied : ℕ) → 32 * entered ≤ copied → sessions ≤ entered → copied ≤ 2 ^ 28 → sessions + 1 < 2 ^ 32
sessions_then entered sessions copied read many few = omega arith

-- where the notes are those of what some core has done
pub numbers_left : (code : Notes) → AreKept meaning code → HasNumbersLeft code
numbers_left code kept =
    let boot = booted_of kept.core in
    let history = events_of kept.core in
    let now = realm.noted boot history (realm_of code.realm) in
    ∥∥₁_elim kept.on (Prim.hlevel props) (λ (are : AreNoted code (listing (realm.noted boot history (realm_of code.realm)) [])).
    let follows = (core_is_legal kept.core).follows in
    let read = realm_calls_read boot (realm_of code.realm) history follows in
    let many = few_sessions boot (realm_of code.realm) history follows in
    record {
      calls = subst (λ n. n + 1 < 2 ^ 32) (sym are.numbering.entered)
          (calls_then now.numbering.entered (copied_bytes history) read kept.few);
      sessions = subst (λ n. n + 1 < 2 ^ 32) (sym are.next_session)
          (sessions_then now.numbering.entered now.next_session (copied_bytes history) read many kept.few);
    })
