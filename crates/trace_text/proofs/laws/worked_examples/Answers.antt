use Rattle.std.proofs.Common.{ℕ, List, [], ◌∷◌, ◌++◌, refl, arith}
use Rattle.std.specs.Prelude.{codes}
use Rattle.std.specs.Fmt.{digits}
use Rattle.hex.specs.Hex.{decode_pairs}
use Rattle.line_grammar.specs.Grammar.{piece_fault}
use Rattle.line_grammar.specs.Reading.{read_pieces}
use Rattle.uuid.specs.Text.{by_index}
use Rattle.trace_text.specs.declared.fault.BadKind.TheVariants as bad
use Rattle.trace_text.specs.Forms.{is_decimal, decimal, is_hexadecimal, hexadecimal, is_last, is_register, register, is_uuid, uuid, is_hex, bytes}
use Rattle.trace_text.specs.Examples.{boot_line, enter_line, key_line, keyed_trace, small_trace, text_of}
use Rattle.trace_text.specs.Limits.{inside_after, lies_in_ram, no_front, trace_in}
use Rattle.text_lines.specs.Lines.{is_skipped}
use Rattle.trace_text.specs.Rules.{added, after_line, counts, kind_named, line_rules, rules_behind}
use Rattle.trace_text.proofs.GrammarLaws.{first_fault_read, spelled_read}
use Rattle.trace_text.proofs.SoundLaws.{IsSound-spelled}
use Rattle.trace_text.proofs.laws.worked_examples.Goals as goal

-- the text of the small trace
abbrev small_text : List ℕ
small_text = text_of (codes "# small" ∷ [] ∷ boot_line ∷ codes "mem 40000000 00fF" ∷ enter_line ∷ codes "leave 1" ∷ [])

pub returns : goal.returns
unfolding is_decimal decimal is_hexadecimal hexadecimal is_last is_register register is_uuid uuid is_hex bytes piece_fault read_pieces added after_line counts inside_after lies_in_ram is_skipped kind_named line_rules rules_behind decode_pairs by_index digits
returns c = record {
  ten = refl;
  tens_value = refl;
  leading_zero = refl;
  sign = refl;
  nine_digits = refl;
  either_case = refl;
  last = refl;
  no_eighth = refl;
  eight_digits = refl;
  id = refl;
  braces = refl;
  two_bytes = refl;
  odd = refl;
  last_byte = refl;
  past_ram = refl;
  comment = refl;
  inside = refl;
  nothing = spelled_read [] [] (trace_in no_front) refl;
  small = spelled_read [] small_text small_trace refl;
  keyed = spelled_read [] (text_of (boot_line ∷ key_line ∷ [])) keyed_trace refl;
  second_key = first_fault_read [] (text_of (boot_line ∷ key_line ∷ key_line ∷ [])) 3 bad.Place refl;
  key_before_boot = first_fault_read [] (text_of (key_line ∷ [])) 1 bad.Place refl;
  key_behind_item = first_fault_read [] (text_of (boot_line ∷ enter_line ∷ key_line ∷ [])) 3 bad.Place refl;
  short_key = first_fault_read [] (text_of (boot_line ∷ codes "key 0707" ∷ [])) 2 bad.Range refl;
  early = first_fault_read [] (text_of (codes "leave 1" ∷ [])) 1 bad.Place refl;
  second_boot = first_fault_read [] (text_of (boot_line ∷ boot_line ∷ [])) 2 bad.Place refl;
  two_spaces = first_fault_read [] (text_of (codes "boot 1  1 1" ∷ [])) 1 bad.Count refl;
  cut = first_fault_read [] (text_of (boot_line ∷ []) ++ codes "leave x") 2 bad.Cut refl;
  range_before_cpu = first_fault_read [] (text_of (boot_line ∷ codes "show 2 40000000 0" ∷ [])) 2 bad.Range refl;
  twice_inside = first_fault_read [] (text_of (boot_line ∷ enter_line ∷ enter_line ∷ [])) 3 bad.Inside refl;
  within_limits = IsSound-spelled [] small_text small_trace (spelled_read [] small_text small_trace refl);
  empty_within_limits = IsSound-spelled [] [] (trace_in no_front) (spelled_read [] [] (trace_in no_front) refl);
  nine_processors = λ b. absurd (omega (arith, b.boots.few_processors));
  no_bytes = λ p. absurd (omega (arith, p.some));
  above_ram = λ p. absurd (omega (arith, p.in_ram.1));
  no_eighth_register = λ r. absurd (omega (arith, r));
  no_steps = λ i. absurd (omega (arith, i.some_step));
  no_such_processor = λ i. absurd (omega (arith, i));
  enters = refl;
  leaves_from_outside = refl;
  printed = refl;
  unended = first_fault_read [] (text_of (boot_line ∷ enter_line ∷ [])) 3 bad.Unended refl;
}
