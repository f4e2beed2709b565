-- The rules of a record, in the order in which a fault is looked for, and what a record adds to a trace. The limits are those
-- of every trace.
use Rattle.std.specs.Prelude.{ℕ, List, [], ◌∷◌, ◌++◌, drop, length, map, slice_index, take, nat_lt, Bool, false, Option, None, Some, is_none, is_some}
use Rattle.std.specs.List.{list_all}
use Rattle.ta_isa.specs.declared.boot.App.{App}
use Rattle.ta_isa.specs.declared.boot.Boot.{Boot}
use Rattle.ta_isa.specs.Reading.{image_of}
use Rattle.trace_text.specs.declared.fault.BadKind.{BadKind}
use Rattle.trace_text.specs.declared.fault.BadKind.TheVariants as bad
use Rattle.trace_text.specs.declared.item.Item.TheVariants as item
use Rattle.trace_text.specs.declared.item.Reg.{Reg}
use Rattle.trace_text.specs.declared.trace.Fill.{Fill}
use Rattle.trace_text.specs.Limits.{Front, key_place, keyed_with, no_key, app_limits, apps_of, boot_limits, call_limits, comes_in, cpu_limits, cpus_of, fill_limits, goes_out, has_no_item, inside_after, scene_of, show_limits, uuids_of, with_app, with_item, write_limits}
use Rattle.trace_bin.specs.declared.record_kind.RecordKind.{RecordKind}
use Rattle.trace_bin.specs.declared.record_kind.RecordKind.TheVariants as kind
use Rattle.trace_bin.specs.Record.{body_len, bytes_in, has_form, is_register, is_whole, kind_tagged, number, register, register_places}

-- ---- what a body says

abbrev pub cpu_in : List ℕ → ℕ
cpu_in body = slice_index body 0

abbrev pub steps_in : List ℕ → ℕ
steps_in body = number 4 1 body

unfoldable pub registers_in : List ℕ → List Reg
registers_in body = map (register body) register_places

abbrev pub boot_in : List ℕ → Boot
boot_in body = record { cpus = slice_index body 0; threads = slice_index body 1; frames = number 2 2 body; apps = []; key = no_key }

-- the UUID, and an image behind its length
abbrev pub app_in : List ℕ → List ℕ → App
app_in body image = record { uuid = take 16 body; image = image_of image }

abbrev pub fill_in : List ℕ → List ℕ → Fill
fill_in body bytes = record { addr = number 8 0 body; bytes = bytes }

-- ---- the rules of each kind, given the bytes behind the body's own

-- bytes that are counted are some
abbrev pub some_bytes : List ℕ → BadKind × Bool
some_bytes bytes = (bad.Range, nat_lt 0 (length bytes))

abbrev pub boot_rules : Front → List ℕ → List (BadKind × Bool)
boot_rules before body = (bad.Place, is_none before.boot) ∷ boot_limits (slice_index body 0) (slice_index body 1) (number 2 2 body)

abbrev pub ta_rules : List (List ℕ) → Front → List ℕ → List ℕ → List (BadKind × Bool)
ta_rules natives before body image =
    (bad.Place, is_some before.boot)
    ∷ (bad.Place, has_no_item before.items)
    ∷ some_bytes image
    ∷ app_limits natives (uuids_of (apps_of before.boot)) (take 16 body) image

abbrev pub mem_rules : Front → List ℕ → List ℕ → List (BadKind × Bool)
mem_rules before body bytes =
    (bad.Place, is_some before.boot) ∷ (bad.Place, has_no_item before.items) ∷ some_bytes bytes ∷ fill_limits (number 8 0 body) (length bytes)

-- of an entry: the forms of its registers, the registers, and the limits
abbrev pub entry_rules : Front → List ℕ → List (BadKind × Bool)
entry_rules before body =
    (bad.Place, is_some before.boot)
    ∷ (bad.Number, list_all (has_form body) register_places)
    ∷ (bad.Range, list_all (is_register body) register_places)
    ∷ call_limits (cpus_of before.boot) (cpu_in body) (steps_in body)
    ++ comes_in (inside_after before.items) (cpu_in body)

abbrev pub leave_rules : Front → List ℕ → List (BadKind × Bool)
leave_rules before body = (bad.Place, is_some before.boot) ∷ cpu_limits (cpus_of before.boot) (cpu_in body) ++ goes_out (inside_after before.items) (cpu_in body)

abbrev pub write_rules : Front → List ℕ → List ℕ → List (BadKind × Bool)
write_rules before body bytes = (bad.Place, is_some before.boot) ∷ some_bytes bytes ∷ write_limits (cpus_of before.boot) (cpu_in body) (number 8 1 body) (length bytes)

abbrev pub show_rules : Front → List ℕ → List (BadKind × Bool)
show_rules before body = (bad.Place, is_some before.boot) ∷ show_limits (cpus_of before.boot) (cpu_in body) (number 8 1 body) (number 4 9 body)

unfoldable pub rules_of : RecordKind → List (List ℕ) → Front → List ℕ → List ℕ → List (BadKind × Bool)
rules_of kind.Boot natives before body bytes = boot_rules before body
rules_of kind.Ta natives before body bytes = ta_rules natives before body bytes
rules_of kind.Mem natives before body bytes = mem_rules before body bytes
rules_of kind.Key natives before body bytes = key_place (scene_of before)
rules_of kind.Smc natives before body bytes = entry_rules before body
rules_of kind.Enter natives before body bytes = entry_rules before body
rules_of kind.Leave natives before body bytes = leave_rules before body
rules_of kind.Write natives before body bytes = write_rules before body bytes
rules_of kind.Show natives before body bytes = show_rules before body

-- ---- what a record adds

unfoldable pub added : RecordKind → Front → List ℕ → List ℕ → Front
added kind.Boot before body bytes = record before { boot = Some (boot_in body) }
added kind.Ta before body bytes = record before { boot = with_app before.boot (app_in body bytes) }
added kind.Mem before body bytes = record before { fills = before.fills ++ fill_in body bytes ∷ [] }
added kind.Key before body bytes = keyed_with before (take 32 body)
added kind.Smc before body bytes = with_item before (item.Smc (cpu_in body) (steps_in body) (registers_in body))
added kind.Enter before body bytes = with_item before (item.Enter (cpu_in body) (steps_in body) (registers_in body))
added kind.Leave before body bytes = with_item before (item.Leave (cpu_in body))
added kind.Write before body bytes = with_item before (item.Write (cpu_in body) (number 8 1 body) bytes)
added kind.Show before body bytes = with_item before (item.Show (cpu_in body) (number 8 1 body) (number 4 9 body))

-- ---- whole records, at the front of bytes

abbrev pub kind_of : List ℕ → Option RecordKind
kind_of bytes = kind_tagged (slice_index bytes 0)

abbrev pub body_of : List ℕ → List ℕ
body_of bytes = drop 1 bytes

abbrev pub rules_by_kind : Option RecordKind → List (List ℕ) → Front → List ℕ → List (BadKind × Bool)
rules_by_kind None natives before body = (bad.Item, false) ∷ []
rules_by_kind (Some kind) natives before body = (bad.Cut, is_whole kind body) ∷ rules_of kind natives before body (bytes_in kind body)

unfoldable pub record_rules : List (List ℕ) → Front → List ℕ → List (BadKind × Bool)
record_rules natives before bytes = rules_by_kind (kind_of bytes) natives before (body_of bytes)

abbrev pub added_by_kind : Option RecordKind → Front → List ℕ → Front
added_by_kind None before body = before
added_by_kind (Some kind) before body = added kind before body (bytes_in kind body)

unfoldable pub after_record : Front → List ℕ → Front
after_record before bytes = added_by_kind (kind_of bytes) before (body_of bytes)

abbrev pub behind_kind : Option RecordKind → List ℕ → List ℕ
behind_kind None body = body
behind_kind (Some kind) body = drop (body_len kind body) body

-- the bytes behind the record in front
unfoldable pub behind_record : List ℕ → List ℕ
behind_record bytes = behind_kind (kind_of bytes) (body_of bytes)
