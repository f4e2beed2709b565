-- The log of a session has each of its calls.
use Rattle.std.proofs.Common.{◌≡◌, ℕ, ◌+◌, ◌*◌, ◌<◌, ◌≤◌, List, [], ◌∷◌, ◌++◌, length, Option, Some, None, refl, ap, subst, sym, ◌∙◌}
use Rattle.std.proofs.Common.{arith}
use Rattle.std.specs.Prelude.{IsSome}
use Rattle.std.specs.Option.{option_and_then}
use Rattle.std.proofs.lemmas.List.{append_assoc}
use Rattle.base.proofs.MapLemmas.{All-get}
use Rattle.event_journal.specs.declared.event.Event.{Event}
use Rattle.isolation.specs.Logs.{HasCall, IsLogOf, LogsHaveTheirCalls}
use Rattle.isolation.specs.declared.session_log.OwnLog.{OwnLog}
use Rattle.kernel_model.specs.Application.{Application, Booted}
use Rattle.kernel_model.specs.History.{after_events, kernel_after}
use Rattle.kernel_model.specs.Instances.{app_of}
use Rattle.kernel_model.specs.Kernel.{Kernel, PendingCall, first_kernel}
use Rattle.kernel_model.specs.SoundNumbers.{IsNumberedSession}
use Rattle.kernel_model.proofs.Parts.{some_of}
use Rattle.kernel_model.proofs.Past.{after_events-append}
use Rattle.kernel_model.proofs.SoundNumbers.{numbered}
use Rattle.own_model.proofs.WholeHistories.{one_more, uuid_on}
use Rattle.own_model.specs.Isolation.{BringsCall, IsSessionOf}
use Rattle.own_model.specs.Own.{Logged, Notes, no_notes, noted, noted_from}
use Rattle.isolation.proofs.SessionLogs.{own_log_goes_on}
use Rattle.realm_model.proofs.SessionCalls.{calls_in_logs}
use Rattle.realm_model.proofs.SessionsKnown.{noted-append}

module _ (boot : Booted) (before behind : List Event) (happened : Event) (call : PendingCall) (app : Application)
    (b : BringsCall boot before happened call) (of : IsSessionOf boot (before ++ happened ∷ behind) call.session app) where
  abbrev now : List Event
  now = before ++ happened ∷ []

  cut : now ++ behind ≡ before ++ happened ∷ behind
  cut = append_assoc before (happened ∷ []) behind

  there : kernel_after boot now ≡ Some b.next
  there = one_more boot before b.kernel b.next happened b.before b.after

  onward : (last : Kernel) × (after_events boot b.next behind ≡ Some last)
  onward =
      let end = some_of (kernel_after boot (before ++ happened ∷ behind)) of.legal.follows in (
        end.0,
        sym (after_events-append boot (first_kernel boot) now behind
            ∙ ap (option_and_then (λ (k : Kernel). after_events boot k behind)) there) ∙ ap (kernel_after boot) cut ∙ end.1,
      )

  is_noted : noted_from boot call.session b.next (noted boot now call.session) behind
      ≡ noted boot (before ++ happened ∷ behind) call.session
  is_noted =
      sym (noted-append boot call.session (first_kernel boot) b.next no_notes now behind there)
      ∙ ap (λ (history : List Event). noted boot history call.session) cut

  -- its application is known as it comes in
  known : IsSessionOf boot now call.session app
  known = record {
    legal = record { boots = of.legal.boots; follows = subst (λ (o : Option Kernel). IsSome o) (sym there) refl };
    of_app =
        ap (λ (u : Option (List ℕ)). option_and_then (app_of boot) u)
        (sym (uuid_on boot call.session (1000000 * (length now + length behind)) now b.next (noted boot now call.session) behind
        given (record { last = onward.0; there = there; onward = onward.1; bound = all (1000000 * (length now + length behind)) })))
        ∙ ap (λ (n : Notes). option_and_then (app_of boot) n.uuid) is_noted ∙ of.of_app;
    shares_none = of.shares_none;
  }
    where
      given : call.session < b.next.tables.next_session
      given =
          (All-get (IsNumberedSession b.next.tables) b.next.tables.sessions call.session b.session
          (numbered boot now b.next there).sessions b.kept).0.1

      all : (n : ℕ) → n ≤ n
      all n = omega arith

  has_call : (log : OwnLog) → IsLogOf boot (before ++ happened ∷ behind) call.session log → HasCall boot before call log
  has_call log its =
      let grows = calls_in_logs boot before happened call app b known in
      let rest = own_log_goes_on boot call.session now behind b.next onward.0 there onward.1 in
      record {
        came = grows.came;
        is = grows.is;
        later = rest.0;
        entries =
            its.entries ∙ ap (λ (history : List Event). (noted boot history call.session).log) (sym cut) ∙ rest.1
            ∙ ap (λ (log : List Logged). log ++ rest.0) grows.last
            ∙ append_assoc (noted boot before call.session).log ((grows.came, None) ∷ []) rest.0;
      }

pub logs_have_calls : LogsHaveTheirCalls
logs_have_calls boot before behind happened call app log b of its = has_call boot before behind happened call app b of log its
