-- The rules of a record, in the order in which a fault is looked for, and what a record tells. The limits are those of traces.
use Rattle.std.specs.Prelude.{ℕ, List, [], ◌∷◌, ◌++◌, drop, slice_index, take, Bool, true, false, Option, None, Some, is_some}
use Rattle.std.specs.List.{list_all}
use Rattle.trace_text.specs.declared.fault.BadKind.{BadKind}
use Rattle.trace_text.specs.declared.fault.BadKind.TheVariants as bad
use Rattle.trace_text.specs.Limits.{Front, cpu_limits, cpus_of, is_within, key_place, scene_of, with_app, with_key}
use Rattle.trace_bin.specs.declared.record_kind.RecordKind.TheVariants as trace
use Rattle.trace_bin.specs.Record.{bytes_in}
use Rattle.trace_bin.specs.Rules.{app_in, boot_in, boot_rules, ta_rules}
use Rattle.event_journal.specs.declared.event.Event.{Event}
use Rattle.event_journal.specs.declared.event.Event.TheVariants as event
use Rattle.journal_bytes.specs.declared.record_kind.RecordKind.{RecordKind}
use Rattle.journal_bytes.specs.declared.record_kind.RecordKind.TheVariants as kind
use Rattle.journal_bytes.specs.Record.{behind, cpu_in, is_read, is_whole, kind_tagged, reads_in, regs_in, steps_in}
use Rattle.journal_bytes.specs.Recording.{Told}

-- what stands before in a trace of the boot alone
abbrev pub header_of : Told → Front
header_of before = record { boot = before.boot; fills = []; items = []; keyed = before.keyed }

abbrev pub has_no_event : List Event → Bool
has_no_event [] = true
has_no_event (e ∷ events) = false

-- ---- the rules of each kind

abbrev pub entry_rules : Told → List ℕ → List (BadKind × Bool)
entry_rules before body =
    (bad.Place, is_some before.boot)
    ∷ (bad.Range, is_within 1 1000000 (steps_in body))
    ∷ (bad.Range, list_all is_read (reads_in body))
    ∷ cpu_limits (cpus_of before.boot) (cpu_in body)

abbrev pub exit_rules : Told → List ℕ → List (BadKind × Bool)
exit_rules before body = (bad.Place, is_some before.boot) ∷ cpu_limits (cpus_of before.boot) (cpu_in body)

-- an application and a key stand in front of all events; else a boot, an application and a key have the rules of a binary trace
unfoldable pub rules_of : RecordKind → List (List ℕ) → Told → List ℕ → List (BadKind × Bool)
rules_of kind.Boot natives before body = boot_rules (header_of before) body
rules_of kind.Ta natives before body = (bad.Place, has_no_event before.events) ∷ ta_rules natives (header_of before) body (bytes_in trace.Ta body)
rules_of kind.Key natives before body = (bad.Place, has_no_event before.events) ∷ key_place (scene_of (header_of before))
rules_of kind.Entry natives before body = entry_rules before body
rules_of kind.Exit natives before body = exit_rules before body

abbrev pub rules_in : RecordKind → List (List ℕ) → Told → List ℕ → List (BadKind × Bool)
rules_in kind natives before body = (bad.Cut, is_whole kind body) ∷ rules_of kind natives before body

-- ---- what a record tells

abbrev pub with_event : Told → Event → Told
with_event before e = record before { events = before.events ++ e ∷ [] }

abbrev pub entry_in : List ℕ → Event
entry_in body = event.Entry (cpu_in body) (regs_in body) (steps_in body) (reads_in body)

abbrev pub exit_in : List ℕ → Event
exit_in body = event.Exit (cpu_in body) (regs_in body)

unfoldable pub added : RecordKind → Told → List ℕ → Told
added kind.Boot before body = record before { boot = Some (boot_in body) }
added kind.Ta before body = record before { boot = with_app before.boot (app_in body (bytes_in trace.Ta body)) }
added kind.Key before body = record before { boot = with_key before.boot (take 32 body); keyed = true }
added kind.Entry before body = with_event before (entry_in body)
added kind.Exit before body = with_event before (exit_in body)

-- ---- whole records, at the front of bytes

abbrev pub kind_of : List ℕ → Option RecordKind
kind_of bytes = kind_tagged (slice_index bytes 0)

abbrev pub body_of : List ℕ → List ℕ
body_of bytes = drop 1 bytes

abbrev pub rules_by_kind : Option RecordKind → List (List ℕ) → Told → List ℕ → List (BadKind × Bool)
rules_by_kind None natives before body = (bad.Item, false) ∷ []
rules_by_kind (Some kind) natives before body = rules_in kind natives before body

unfoldable pub record_rules : List (List ℕ) → Told → List ℕ → List (BadKind × Bool)
record_rules natives before bytes = rules_by_kind (kind_of bytes) natives before (body_of bytes)

abbrev pub added_by_kind : Option RecordKind → Told → List ℕ → Told
added_by_kind None before body = before
added_by_kind (Some kind) before body = added kind before body

unfoldable pub after_record : Told → List ℕ → Told
after_record before bytes = added_by_kind (kind_of bytes) before (body_of bytes)

abbrev pub behind_kind : Option RecordKind → List ℕ → List ℕ
behind_kind None body = body
behind_kind (Some kind) body = behind kind body

-- the bytes behind the record in front
unfoldable pub behind_record : List ℕ → List ℕ
behind_record bytes = behind_kind (kind_of bytes) (body_of bytes)
