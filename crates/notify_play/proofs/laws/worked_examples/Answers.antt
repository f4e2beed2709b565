use Rattle.std.proofs.Common.{refl}
use Rattle.base.specs.Zeros.{zeros}
use Rattle.hex.proofs.OnLiterals.{hex_on_literals}
use Rattle.hex.specs.Hex.{decode_pairs}
use Rattle.notif.specs.Desk.{driver_values, signal_values}
use Rattle.notify_text.specs.Rules.{after_line}
use Rattle.std.specs.Fmt.{digits}
use Rattle.ta_isa.specs.Reading.{front_instruction, word_at}
use Rattle.text_lines.specs.Lines.{is_skipped}
use Rattle.trace_text.specs.Forms.{bytes, decimal, hexadecimal, is_last, register, uuid}
use Rattle.trace_text.specs.Rules.{added, kind_named}
use Rattle.trace_text.specs.Rules.{after_line as after_trace_line}
use Rattle.uuid.specs.Text.{by_index}
use Rattle.notify_play.proofs.laws.worked_examples.Goals as goal

pub returns : goal.returns
unfolding zeros digits driver_values signal_values hex_on_literals decode_pairs after_line is_skipped bytes decimal hexadecimal is_last register uuid added after_trace_line kind_named by_index front_instruction word_at
returns c = record {
  asks_for_value = refl;
  asks_to_enable = refl;
  asks_what_there_is = refl;
  asks_nothing = refl;
  bottom_half_asked = refl;
  stop_asked = refl;
  unknown = refl;
  no_slot = refl;
  no_new_call = refl;
  last_of_two = refl;
  one_value = refl;
  more_values = refl;
  no_value = refl;
  offered = refl;
  not_available = refl;
  told_a_value = refl;
  told_as_ever = refl;
  three_turns = refl;
  signalled_between = (refl, (refl, refl));
  result_written = refl;
  worked = refl;
  without = refl;
  told_at_exit = refl;
  before_enabling = refl;
  during_bottom_half = refl;
  of_two_processors = refl;
  stopped = refl;
  calls_of_desk = refl;
  signalled_last = refl;
  asked_last = refl;
  copied_at_entry = refl;
  no_boot = refl;
  of_one_processor = refl;
  of_a_resumed_call = refl;
  of_more_pending = refl;
  of_two_enables = refl;
  of_no_signal = refl;
  of_a_stop = refl;
  of_few_frames = refl;
}
