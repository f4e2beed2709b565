-- What is read off a realm which has all sessions of an application is what is told of their group.
use Rattle.std.proofs.Common.{◌≡◌, ℕ, ◌+◌, ◌*◌, ◌≤◌, List, [], ◌∷◌, ◌++◌, Option, Some, None, refl, ap, ◌∙◌, arith}
use Rattle.std.specs.Prelude.{IsSome, filter_map}
use Rattle.std.specs.List.{cons_option}
use Rattle.std.specs.Option.{option_to_list}
use Rattle.std.proofs.lemmas.List.Elements.{filter_map-append}
use Rattle.event_journal.specs.Journal.{copied_bytes}
use Rattle.event_journal.specs.declared.event.Event.{Event}
use Rattle.group_model.specs.Read as group
use Rattle.kernel_model.specs.Application.{Application, Booted}
use Rattle.kernel_model.specs.History.{kernel_after}
use Rattle.realm_model.proofs.Groups.{groups_are_realms}
use Rattle.realm_model.specs.Reading.{Logged, noted, of_machine}
use Rattle.realm_model.specs.Realm.{AllSessions}
use Rattle.realm_notes.proofs.CallsRead.{few_sessions, realm_calls_read}

pub log_so : (boot : Booted) (history : List Event) (app : Application)
    → (group.noted boot history app).log ≡ filter_map of_machine (noted boot history (AllSessions app)).log
log_so boot history app = ap (λ (n : group.Notes). n.log) (groups_are_realms.noted_so boot history app)

-- its calls and its sessions
abbrev counted : group.Notes → ℕ
counted notes = notes.numbering.entered + notes.next_session

pub group_calls_read : (boot : Booted) (app : Application) (history : List Event) → IsSome (kernel_after boot history)
    → 16 * counted (group.noted boot history app) ≤ copied_bytes history
group_calls_read boot app history follows =
    let of = noted boot history (AllSessions app) in
    so (counted (group.noted boot history app)) of.numbering.entered of.next_session (copied_bytes history)
    (ap counted (groups_are_realms.noted_so boot history app)) (realm_calls_read boot (AllSessions app) history follows)
    (few_sessions boot (AllSessions app) history follows)
  where
    so : (all calls sessions bytes : ℕ) → all ≡ calls + sessions → 32 * calls ≤ bytes → sessions ≤ calls → 16 * all ≤ bytes
    so all calls sessions bytes same read many = omega (arith, same, read, many)

-- a list of logs of which one more was told
pub machine_more : (log : List Logged) (last : Logged)
    → filter_map of_machine (log ++ last ∷ []) ≡ filter_map of_machine log ++ option_to_list (of_machine last)
machine_more log last =
    filter_map-append of_machine log (last ∷ [])
    ∙ ap (λ (rest : List group.Logged). filter_map of_machine log ++ rest) (listed (of_machine last))
  where
    listed : (o : Option group.Logged) → cons_option o [] ≡ option_to_list o
    listed None = refl
    listed (Some logged) = refl
