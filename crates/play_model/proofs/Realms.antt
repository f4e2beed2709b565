-- In each legal history realms were answered as their machines answer, each session that was ever kept in one of them.
use Rattle.std.proofs.Common.{◌≡◌, ℕ, List, ◌++◌, Some, subst, sym}
use Rattle.std.specs.Prelude.{IsSome}
use Rattle.base.specs.NumberMap.{get}
use Rattle.event_journal.specs.declared.event.Event.{Event}
use Rattle.kernel_model.specs.Application.{Booted}
use Rattle.kernel_model.specs.History.{IsLegal, kernel_after}
use Rattle.kernel_model.specs.Kernel.{Kernel}
use Rattle.kernel_model.proofs.Parts.{some_of}
use Rattle.play_model.proofs.Returns.{legal_before}
use Rattle.play_model.specs.Realms.{HistoriesHaveRealms, KeepsRealm}
use Rattle.realm_model.proofs.EachKept.{each_kept_has_a_realm}
use Rattle.realm_model.proofs.OneLaw.{answered_as_a_realm, kept_sessions_have_realms}

keeps_realm : (boot : Booted) (before behind : List Event) (kernel : Kernel) (session : ℕ)
    → IsLegal boot (before ++ behind) → kernel_after boot before ≡ Some kernel
    → IsSome (get kernel.tables.sessions session) → KeepsRealm boot before (before ++ behind) session
keeps_realm boot before behind kernel session legal there is_kept =
    let kept = some_of (get kernel.tables.sessions session) is_kept in
    let found = each_kept_has_a_realm.each boot before kernel session kept.0 (legal_before boot before behind legal) there kept.1 in
    let stays = kept_sessions_have_realms.stays boot before behind session found.1.realm found.0 legal found.1.is found.1.has in
    record { app = found.0; first = found.1; is = stays.0; has = stays.1 }

pub histories_have_realms : HistoriesHaveRealms
histories_have_realms boot history legal = record {
  answered = λ realm app is. answered_as_a_realm boot history realm app is;
  known = λ before behind kernel session cut there is_kept.
      subst (λ (h : List Event). KeepsRealm boot before h session) (sym cut)
      (keeps_realm boot before behind kernel session (subst (IsLegal boot) cut legal) there is_kept);
}
