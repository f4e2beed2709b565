-- What the rules of lines say of a few small inputs, and in which order items and signals come.
use Rattle.std.specs.Prelude.{◌≡◌, ℕ, List, [], ◌∷◌, Some, codes}
use Rattle.notify_text.specs.Grammar.{IsFirstFault, Spells}
use Rattle.notify_text.specs.Rules.{no_lines, notify_trace_in}
use Rattle.notify_text.specs.Steps.{Signals, Takes, steps_of}
use Rattle.notify_text.specs.declared.notify_trace.NotifyTrace.{NotifyTrace}
use Rattle.trace_text.specs.Examples.{boot_line, enter_line, entered, key_line, text_of}
use Rattle.trace_text.specs.Grammar as trace
use Rattle.trace_text.specs.Limits.{no_key}
use Rattle.trace_text.specs.declared.fault.BadKind.TheVariants as bad
use Rattle.trace_text.specs.declared.item.Item.TheVariants.{Enter, Leave}

-- signals of 5 and 63 between the two items of a processor, and one of 1 behind them
abbrev pub signalled_lines : List (List ℕ)
signalled_lines =
    boot_line
    ∷ enter_line
    ∷ codes "signal 5"
    ∷ codes "# and at once"
    ∷ codes "signal 63"
    ∷ codes "leave 1"
    ∷ codes "signal 1"
    ∷ []

abbrev pub signalled_trace : NotifyTrace
signalled_trace = record {
  trace = record {
    boot = Some (record { cpus = 2; threads = 1; frames = 1; apps = []; key = no_key });
    fills = [];
    items = Enter 1 5 entered ∷ Leave 1 ∷ [];
  };
  signals = record { at = 1; value = 5 } ∷ record { at = 1; value = 63 } ∷ record { at = 2; value = 1 } ∷ [];
}

pub record Examples : Type 0 where
  pub spelled : Spells [] (text_of signalled_lines) signalled_trace
  pub steps : steps_of signalled_trace
      ≡ Takes (Enter 1 5 entered) ∷ Signals 5 ∷ Signals 63 ∷ Takes (Leave 1) ∷ Signals 1 ∷ []
  pub nothing : Spells [] [] (notify_trace_in no_lines)
  -- a signal before the boot, of no number, out of its range, and with two values
  pub early : IsFirstFault [] (text_of (codes "signal 5" ∷ [])) 1 bad.Place
  pub no_number : IsFirstFault [] (text_of (boot_line ∷ codes "signal 05" ∷ [])) 2 bad.Number
  pub zero : IsFirstFault [] (text_of (boot_line ∷ codes "signal 0" ∷ [])) 2 bad.Range
  pub above : IsFirstFault [] (text_of (boot_line ∷ codes "signal 64" ∷ [])) 2 bad.Range
  pub two_values : IsFirstFault [] (text_of (boot_line ∷ codes "signal 5 6" ∷ [])) 2 bad.Count
  -- the order of faults: two values before the boot, and a zero there
  pub count_before_place : IsFirstFault [] (text_of (codes "signal 5 6" ∷ [])) 1 bad.Count
  pub place_before_range : IsFirstFault [] (text_of (codes "signal 0" ∷ [])) 1 bad.Place
  -- a line of the header behind a signal
  pub late_fill : IsFirstFault [] (text_of (boot_line ∷ codes "signal 5" ∷ codes "mem 40000000 00" ∷ [])) 3 bad.Place
  pub late_boot : IsFirstFault [] (text_of (boot_line ∷ codes "signal 5" ∷ boot_line ∷ [])) 3 bad.Place
  pub late_key : IsFirstFault [] (text_of (boot_line ∷ codes "signal 5" ∷ key_line ∷ [])) 3 bad.Place
  -- the end of a text, and a word that begins no line
  pub unended : IsFirstFault [] (text_of (boot_line ∷ enter_line ∷ codes "signal 5" ∷ [])) 4 bad.Unended
  pub unknown : IsFirstFault [] (text_of (boot_line ∷ codes "signals 5" ∷ [])) 2 bad.Item
  -- in a trace without signals a signal is no line
  pub no_item_of_a_trace : trace.IsFirstFault [] (text_of (boot_line ∷ codes "signal 5" ∷ [])) 2 bad.Item
