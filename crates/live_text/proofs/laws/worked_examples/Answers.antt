use Rattle.std.proofs.Common.{refl}
use Rattle.std.specs.Fmt.{digits}
use Rattle.hex.specs.Hex.{decode_pairs}
use Rattle.live_text.specs.Rules.{after_line, line_rules}
use Rattle.notify_text.specs.Rules.{after_line as after_told_line, line_rules as told_line_rules}
use Rattle.text_lines.specs.Lines.{is_skipped}
use Rattle.trace_text.specs.Forms.{is_decimal, decimal, is_hexadecimal, hexadecimal, is_last, is_register, register, is_hex, bytes}
use Rattle.trace_text.specs.Limits.{inside_after, lies_in_ram}
use Rattle.trace_text.specs.Rules.{added, counts, kind_named, rules_behind}
use Rattle.trace_text.specs.Rules.{after_line as after_trace_line, line_rules as trace_line_rules}
use Rattle.live_text.proofs.laws.worked_examples.Goals as goal

pub returns : goal.returns
unfolding is_decimal decimal is_hexadecimal hexadecimal is_last is_register register is_hex bytes added after_trace_line after_told_line after_line counts inside_after lies_in_ram is_skipped kind_named line_rules told_line_rules trace_line_rules rules_behind decode_pairs digits
returns c = record {
  boots = (refl, refl);
  comment = (refl, refl);
  keyed = (refl, refl);
  enters = (refl, refl);
  leaves = (refl, refl);
  signals = (refl, refl);
  second_boot = refl;
  count_first = refl;
  late_key = refl;
  short_key = refl;
  twice_inside = refl;
  too_early = refl;
  too_much = refl;
  forgets = (refl, refl);
  forgotten = refl;
  boots_without = (refl, refl);
  stays_off = refl;
  commented = (refl, refl);
  too_late = refl;
  behind_item = refl;
  twice_off = refl;
  turned_on = refl;
  bare = refl;
  too_long = refl;
  place_first = refl;
  byte_first = refl;
  no_line_of_a_trace = refl;
  at_first = refl;
  inside = refl;
  header_over = λ h. let closed = h.is_open in absurd cc;
}
