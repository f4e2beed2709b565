use Rattle.std.proofs.Common.{refl}
use Rattle.live_text.specs.Asking.{kind_asked}
use Rattle.live_text.specs.Rules.{after_line}
use Rattle.notify_text.specs.Rules.{after_line as after_told_line}
use Rattle.text_lines.specs.Lines.{is_skipped}
use Rattle.trace_text.specs.Forms.{decimal, hexadecimal, is_decimal, is_hexadecimal}
use Rattle.trace_text.specs.Rules.{added, counts, kind_named}
use Rattle.trace_text.specs.Rules.{after_line as after_trace_line}
use Rattle.live_text.proofs.laws.questions_asked.Goals as goal

pub returns : goal.returns
unfolding kind_asked decimal hexadecimal is_decimal is_hexadecimal counts after_line after_told_line after_trace_line added is_skipped kind_named
returns c = record {
  on = (refl, refl);
  off = (refl, refl);
  state = (refl, refl);
  session = (refl, refl);
  buffer = (refl, refl);
  events = (refl, refl);
  too_early = refl;
  neither = refl;
  bare = refl;
  both = refl;
  too_many = refl;
  signed = refl;
  too_great = refl;
  no_digit = refl;
  no_events = refl;
  many_events = refl;
  not_kept = refl;
  not_kept_first = refl;
  count_first = refl;
  others_stay = (refl, refl);
  byte_first = refl;
  comment = refl;
  empty = refl;
  of_a_trace = refl;
  a_longer_word = refl;
}
