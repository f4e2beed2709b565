-- What is read off a realm which has one session is what is told of that session.
use Rattle.std.proofs.Common.{◌≡◌, ℕ, ◌+◌, ◌*◌, ◌≤◌, List, [], ◌∷◌, ◌++◌, Option, Some, None, refl, ap, sym, ◌∙◌, arith}
use Rattle.std.specs.Prelude.{IsSome, filter_map}
use Rattle.std.specs.List.{cons_option}
use Rattle.std.specs.Option.{option_and_then, option_to_list}
use Rattle.std.proofs.lemmas.List.Elements.{filter_map-append}
use Rattle.event_journal.specs.Journal.{copied_bytes}
use Rattle.event_journal.specs.declared.event.Event.{Event}
use Rattle.kernel_model.specs.Application.{Booted}
use Rattle.kernel_model.specs.History.{after_events, kernel_after}
use Rattle.kernel_model.specs.Instances.{app_of}
use Rattle.kernel_model.specs.Kernel.{Kernel}
use Rattle.own_model.specs.Own as own
use Rattle.realm_model.proofs.Sessions.{sessions_are_realms}
use Rattle.realm_model.specs.Forgetting.{own_logged}
use Rattle.realm_model.specs.Reading.{Logged, Notes, noted}
use Rattle.realm_model.specs.Realm.{OneSession}
use Rattle.realm_notes.proofs.CallsRead.{realm_calls_read}
use Rattle.realm_notes.proofs.LogsGoOn.{logs_go_on}
use Rattle.realm_notes.specs.Reading.{IsReadingOf, app_by, boot_of, events_of, its_realm, noted_by}
use Rattle.realm_notes.specs.Realms.{realm_of}
use Rattle.realm_notes.specs.declared.log_reader.LogReader.{LogReader}
use Rattle.realm_notes.specs.declared.realm.Realm.{Realm as CodeRealm}
use Rattle.realm_notes.specs.declared.realm.Realm.TheVariants as code

module _ (boot : Booted) (session : ℕ) where
  abbrev of_realm : List Event → Notes
  of_realm history = noted boot history (OneSession session)

  pub log_so : (history : List Event) → (own.noted boot history session).log ≡ filter_map own_logged (of_realm history).log
  log_so history = ap (λ (n : own.Notes). n.log) (sessions_are_realms.noted_so boot history session)

  -- its application
  app_so : (history : List Event) → own.own_app boot history session ≡ app_by (OneSession session) boot (of_realm history)
  app_so history = ap (λ (n : own.Notes). option_and_then (app_of boot) n.uuid) (sessions_are_realms.noted_so boot history session)

  -- what stands in its log stays there
  pub own_log_goes_on : (before behind : List Event) (kernel last : Kernel) → kernel_after boot before ≡ Some kernel
      → after_events boot kernel behind ≡ Some last
      → (more : List own.Logged) × ((own.noted boot (before ++ behind) session).log ≡ (own.noted boot before session).log ++ more)
  own_log_goes_on before behind kernel last there onward =
      let longer = logs_go_on boot (OneSession session) before behind kernel last there onward in (
        filter_map own_logged longer.0,
        log_so (before ++ behind) ∙ ap (filter_map own_logged) longer.1
            ∙ filter_map-append own_logged (of_realm before).log longer.0
            ∙ ap (λ (log : List own.Logged). log ++ filter_map own_logged longer.0) (sym (log_so before)),
      )

-- its calls that have come in have read so much
pub own_calls_read : (boot : Booted) (history : List Event) (session : ℕ) → IsSome (kernel_after boot history)
    → 32 * (own.noted boot history session).numbering.entered ≤ copied_bytes history
own_calls_read boot history session follows =
    alone (own.noted boot history session).numbering.entered (of_realm boot session history).numbering.entered (copied_bytes history)
    (ap (λ (n : own.Notes). n.numbering.entered) (sessions_are_realms.noted_so boot history session))
    (realm_calls_read boot (OneSession session) history follows)
  where
    alone : (calls entered bytes : ℕ) → calls ≡ entered → 32 * entered ≤ bytes → 32 * calls ≤ bytes
    alone calls entered bytes same read = omega (arith, same, read)

-- a reader that has read a history of the one session tells its application
pub app_read : (boot : Booted) (history : List Event) (session : ℕ) (reader : LogReader)
    → IsReadingOf boot history (code.OneSession session) reader
    → app_by (realm_of (its_realm reader)) (boot_of reader) (noted_by reader) ≡ own.own_app boot history session
app_read boot history session reader is =
    ap (λ (b : Booted). app_by (realm_of (its_realm reader)) b (noted b (events_of reader) (realm_of (its_realm reader)))) is.booted
    ∙ ap (λ (h : List Event). app_by (realm_of (its_realm reader)) boot (noted boot h (realm_of (its_realm reader)))) is.events
    ∙ ap (λ (r : CodeRealm). app_by (realm_of r) boot (noted boot history (realm_of r))) is.of_realm
    ∙ sym (app_so boot session history)

-- a list of logs of which one more was told
pub own_more : (log : List Logged) (last : Logged)
    → filter_map own_logged (log ++ last ∷ []) ≡ filter_map own_logged log ++ option_to_list (own_logged last)
own_more log last =
    filter_map-append own_logged log (last ∷ [])
    ∙ ap (λ (rest : List own.Logged). filter_map own_logged log ++ rest) (listed (own_logged last))
  where
    listed : (o : Option own.Logged) → cons_option o [] ≡ option_to_list o
    listed None = refl
    listed (Some logged) = refl
