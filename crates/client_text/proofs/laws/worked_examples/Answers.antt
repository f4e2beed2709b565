use Rattle.std.proofs.Common.{[], ◌∷◌, ◌++◌, refl}
use Rattle.std.specs.Prelude.{codes}
use Rattle.std.specs.Fmt.{digits}
use Rattle.hex.specs.Hex.{decode_pairs}
use Rattle.uuid.specs.Text.{by_index}
use Rattle.client_text.specs.Examples.{boot_line, open_line, opened, s, small_lines, small_script}
use Rattle.client_text.specs.Forms.{cancel_number, is_name, is_param, key_named, param_of}
use Rattle.client_text.specs.Rules.{after_line, call_named, has_between, line_rules, no_lines, script_in}
use Rattle.client_text.proofs.Meanings.{first_fault_read, spelled_read}
use Rattle.line_grammar.specs.Grammar.{piece_fault}
use Rattle.line_grammar.specs.Reading.{read_pieces}
use Rattle.text_lines.specs.Lines.{is_skipped}
use Rattle.trace_text.specs.Examples.{text_of}
use Rattle.trace_text.specs.Forms.{bytes, decimal, hexadecimal, is_decimal, is_hex, is_hexadecimal, is_uuid, uuid}
use Rattle.trace_text.specs.Limits.{is_known, lies_in_ram}
use Rattle.trace_text.specs.Rules.{added, counts, kind_named, rules_behind}
use Rattle.trace_text.specs.Rules.{after_line as after_trace_line}
use Rattle.trace_text.specs.declared.fault.BadKind.TheVariants as bad
use Rattle.client_text.proofs.laws.worked_examples.Goals as goal

pub returns : goal.returns
unfolding is_decimal decimal is_hexadecimal hexadecimal is_uuid uuid is_hex bytes piece_fault read_pieces added after_trace_line after_line counts has_between is_name is_param param_of cancel_number key_named call_named is_known lies_in_ram is_skipped kind_named line_rules rules_behind decode_pairs by_index digits
returns c = record {
  nothing = spelled_read [] [] (script_in no_lines) refl;
  small = spelled_read [] (text_of small_lines) small_script refl;
  numbers = refl;
  bytes = refl;
  room = refl;
  bytes_both_ways = refl;
  one_thread = first_fault_read [] (text_of (codes "boot 1 1 1" ∷ [])) 1 bad.Range refl;
  late_fill = first_fault_read [] (opened (codes "mem 40000000 00" ∷ [])) 3 bad.Place refl;
  second_boot = first_fault_read [] (opened (boot_line ∷ [])) 3 bad.Place refl;
  no_smc = first_fault_read [] (opened (codes "leave 0" ∷ [])) 3 bad.Item refl;
  early = first_fault_read [] (text_of (codes "close s" ∷ [])) 1 bad.Place refl;
  cut = first_fault_read [] (text_of (boot_line ∷ []) ++ open_line s []) 2 bad.Cut refl;
  two_names = first_fault_read [] (opened (codes "close s s" ∷ [])) 3 bad.Count refl;
  five = first_fault_read [] (opened (codes "invoke s 0 none none none none none" ∷ [])) 3 bad.Count refl;
  five_cancelled = first_fault_read [] (opened (codes "invoke s 0 cancel:1 none none none none none" ∷ [])) 3 bad.Count refl;
  no_function = first_fault_read [] (opened (codes "invoke s" ∷ [])) 3 bad.Count refl;
  upper_case = first_fault_read [] (opened (open_line (codes "S") [] ∷ [])) 3 bad.Number refl;
  long_name = first_fault_read [] (opened (open_line (codes "abcdefghijklmnopq") [] ∷ [])) 3 bad.Number refl;
  nine_digits = first_fault_read [] (opened (codes "invoke s 000000000" ∷ [])) 3 bad.Number refl;
  no_second = first_fault_read [] (opened (codes "invoke s 0 vi:1:" ∷ [])) 3 bad.Number refl;
  third = first_fault_read [] (opened (codes "invoke s 0 vi:1:2:3" ∷ [])) 3 bad.Number refl;
  colon = first_fault_read [] (opened (codes "invoke s 0 vo:" ∷ [])) 3 bad.Number refl;
  no_bytes = first_fault_read [] (opened (codes "invoke s 0 mi:" ∷ [])) 3 bad.Number refl;
  half = first_fault_read [] (opened (codes "invoke s 0 mi:0" ∷ [])) 3 bad.Number refl;
  no_digits = first_fault_read [] (opened (codes "invoke s 0 mio:zz" ∷ [])) 3 bad.Number refl;
  unknown = first_fault_read [] (opened (codes "invoke s 0 memory:1" ∷ [])) 3 bad.Number refl;
  late_cancel = first_fault_read [] (opened (codes "invoke s 0 none cancel:1" ∷ [])) 3 bad.Number refl;
  zeros = first_fault_read [] (opened (codes "invoke s 0 cancel:01" ∷ [])) 3 bad.Number refl;
  never = first_fault_read [] (opened (codes "invoke s 0 cancel:0" ∷ [])) 3 bad.Range refl;
  too_late = first_fault_read [] (opened (codes "invoke s 0 cancel:1001" ∷ [])) 3 bad.Range refl;
  empty = first_fault_read [] (opened (codes "invoke s 0 mo:0" ∷ [])) 3 bad.Range refl;
  too_long = first_fault_read [] (opened (codes "invoke s 0 mo:65537" ∷ [])) 3 bad.Range refl;
  far_too_long = first_fault_read [] (opened (codes "invoke s 0 mo:99999999999999999999" ∷ [])) 3 bad.Range refl;
  opened_twice = first_fault_read [] (opened (open_line s [] ∷ [])) 3 bad.Name refl;
  not_opened = first_fault_read [] (opened (codes "close t" ∷ [])) 3 bad.Name refl;
  count_before_place = first_fault_read [] (text_of (codes "close" ∷ [])) 1 bad.Count refl;
  place_before_number = first_fault_read [] (text_of (codes "close S" ∷ [])) 1 bad.Place refl;
  number_before_uuid = first_fault_read [] (opened (codes "open t 1 mi:" ∷ [])) 3 bad.Number refl;
  uuid_before_range = first_fault_read [] (opened (codes "open t 1 mo:0" ∷ [])) 3 bad.Uuid refl;
  range_before_name = first_fault_read [] (opened (open_line s (codes " mo:0") ∷ [])) 3 bad.Range refl;
}
