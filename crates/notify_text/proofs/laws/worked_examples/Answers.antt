use Rattle.std.proofs.Common.{[], ◌∷◌, refl}
use Rattle.std.specs.Prelude.{codes}
use Rattle.std.specs.Fmt.{digits}
use Rattle.line_grammar.specs.Grammar.{piece_fault}
use Rattle.line_grammar.specs.Reading.{read_pieces}
use Rattle.notify_text.specs.Examples.{signalled_lines, signalled_trace}
use Rattle.notify_text.specs.Rules.{after_line, line_rules, no_lines, notify_trace_in}
use Rattle.text_lines.specs.Lines.{is_skipped}
use Rattle.trace_text.specs.Examples.{boot_line, enter_line, key_line, text_of}
use Rattle.trace_text.specs.Forms.{is_decimal, decimal, is_hexadecimal, hexadecimal, is_last, is_register, register}
use Rattle.trace_text.specs.Limits.{inside_after, lies_in_ram}
use Rattle.trace_text.specs.Rules.{added, counts, kind_named, rules_behind}
use Rattle.trace_text.specs.Rules.{after_line as after_trace_line, line_rules as trace_line_rules}
use Rattle.trace_text.specs.declared.fault.BadKind.TheVariants as bad
use Rattle.trace_text.proofs.GrammarLaws as trace
use Rattle.notify_text.proofs.Meanings.{first_fault_read, spelled_read}
use Rattle.notify_text.proofs.laws.worked_examples.Goals as goal

pub returns : goal.returns
unfolding is_decimal decimal is_hexadecimal hexadecimal is_last is_register register piece_fault read_pieces added after_trace_line after_line counts inside_after lies_in_ram is_skipped kind_named line_rules trace_line_rules rules_behind digits
returns c = record {
  spelled = spelled_read [] (text_of signalled_lines) signalled_trace refl;
  steps = refl;
  nothing = spelled_read [] [] (notify_trace_in no_lines) refl;
  early = first_fault_read [] (text_of (codes "signal 5" ∷ [])) 1 bad.Place refl;
  no_number = first_fault_read [] (text_of (boot_line ∷ codes "signal 05" ∷ [])) 2 bad.Number refl;
  zero = first_fault_read [] (text_of (boot_line ∷ codes "signal 0" ∷ [])) 2 bad.Range refl;
  above = first_fault_read [] (text_of (boot_line ∷ codes "signal 64" ∷ [])) 2 bad.Range refl;
  two_values = first_fault_read [] (text_of (boot_line ∷ codes "signal 5 6" ∷ [])) 2 bad.Count refl;
  count_before_place = first_fault_read [] (text_of (codes "signal 5 6" ∷ [])) 1 bad.Count refl;
  place_before_range = first_fault_read [] (text_of (codes "signal 0" ∷ [])) 1 bad.Place refl;
  late_fill = first_fault_read [] (text_of (boot_line ∷ codes "signal 5" ∷ codes "mem 40000000 00" ∷ [])) 3 bad.Place refl;
  late_boot = first_fault_read [] (text_of (boot_line ∷ codes "signal 5" ∷ boot_line ∷ [])) 3 bad.Place refl;
  late_key = first_fault_read [] (text_of (boot_line ∷ codes "signal 5" ∷ key_line ∷ [])) 3 bad.Place refl;
  unended = first_fault_read [] (text_of (boot_line ∷ enter_line ∷ codes "signal 5" ∷ [])) 4 bad.Unended refl;
  unknown = first_fault_read [] (text_of (boot_line ∷ codes "signals 5" ∷ [])) 2 bad.Item refl;
  no_item_of_a_trace = trace.first_fault_read [] (text_of (boot_line ∷ codes "signal 5" ∷ [])) 2 bad.Item refl;
}
