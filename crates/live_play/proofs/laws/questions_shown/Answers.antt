use Rattle.std.proofs.Common.{refl}
use Rattle.base.specs.Zeros.{zeros}
use Rattle.hex.proofs.OnLiterals.{hex_on_literals}
use Rattle.hex.specs.Hex.{decode_pairs}
use Rattle.notif.specs.Desk.{driver_values, signal_values}
use Rattle.notify_text.specs.Rules.{after_line, line_rules}
use Rattle.std.specs.Fmt.{digits}
use Rattle.ta_isa.specs.Reading.{front_instruction, word_at}
use Rattle.text_lines.specs.Lines.{is_skipped}
use Rattle.trace_text.specs.Forms.{bytes, decimal, hexadecimal, is_decimal, is_hex, is_hexadecimal, is_last, is_register, is_uuid, register, uuid}
use Rattle.trace_text.specs.Limits.{inside_after, lies_in_ram}
use Rattle.trace_text.specs.Rules.{added, counts, kind_named, rules_behind}
use Rattle.trace_text.specs.Rules.{after_line as after_trace_line}
use Rattle.uuid.specs.Text.{by_index}
use Rattle.live_text.specs.Asking.{kind_asked}
use Rattle.live_text.specs.Rules.{line_rules as live_line_rules}
use Rattle.live_play.specs.Changes.{changes_below}
use Rattle.live_play.specs.State.{piece_lines, texts_below}
use Rattle.live_play.proofs.laws.questions_shown.Goals as goal

pub returns : goal.returns
unfolding live_line_rules zeros digits driver_values signal_values hex_on_literals decode_pairs after_line line_rules is_skipped bytes decimal hexadecimal is_decimal is_hex is_hexadecimal is_last is_register register is_uuid uuid inside_after lies_in_ram added counts rules_behind after_trace_line kind_named by_index front_instruction word_at kind_asked changes_below piece_lines texts_below
returns c = record {
  of_a_state = refl;
  of_events = refl;
  of_watched_exits = refl;
  of_copied_turns = refl;
  of_copied_exits = refl;
  of_a_copy = refl;
  of_no_copy = refl;
  of_history_off = refl;
  of_a_limit = refl;
  of_no_limit = refl;
  free = refl;
  active = refl;
  suspended = refl;
  cancelled = refl;
  asks = λ job. refl;
  runs_masked = λ job image point machine. refl;
  asks_masked = λ job image point machine. refl;
  asks_unmasked = λ job image point machine. refl;
  native = λ job relation. refl;
  waits = refl;
  out = λ call. refl;
  behind_slots = λ job image point machine. refl;
  held = refl;
  idle = refl;
  all_kept = refl;
  opening = refl;
  opened = refl;
  left = refl;
  buffer = refl;
  panicked = refl;
  unchanged = refl;
  changed = refl;
}
