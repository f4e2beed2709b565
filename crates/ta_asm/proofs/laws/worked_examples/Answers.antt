use Rattle.std.proofs.Common.{[], ◌∷◌, ◌++◌, None, Some, refl}
use Rattle.std.specs.Prelude.{codes}
use Rattle.std.specs.Fmt.{digits}
use Rattle.ta_isa.specs.Examples.{instr}
use Rattle.ta_isa.specs.Spelling.{are_allowed}
use Rattle.ta_asm.specs.declared.fault.AsmFault.TheVariants.{BadLine, UnknownLabel, RepeatedLabel}
use Rattle.ta_asm.specs.declared.statement.Statement.{Statement}
use Rattle.ta_asm.specs.declared.statement.Statement.TheVariants.{Code, Unread}
use Rattle.ta_asm.specs.Canonical.{canonical, instruction_words, is_labelled, label_line, operation_word, targets}
use Rattle.ta_asm.specs.Examples.{header, returning}
use Rattle.ta_asm.specs.Grammar.{definition, end_rules, line_rules, program_of}
use Rattle.text_lines.specs.Lines.{is_skipped}
use Rattle.ta_asm.specs.Lines.{code_at, code_left, entry_at, entry_left, immediate_at, is_label, number_left, operand_at, operation_at, said_by, said_in, statement_of, statements_of}
use Rattle.ta_asm.specs.Words.{decimal_at, digits_at, is_name, number_at, register_at}
use Rattle.ta_asm.proofs.Limit.{a, behind, too_many}
use Rattle.ta_asm.proofs.Meanings.{first-fault-read, stands-read}
use Rattle.ta_asm.proofs.laws.worked_examples.Goals as goal

abbrev sys : Statement
sys = Code (instr 0x18 0 0 0 0) None

pub returns : goal.returns
unfolding are_allowed canonical digits instruction_words is_labelled label_line operation_word targets definition end_rules line_rules program_of code_at code_left entry_at entry_left immediate_at is_label is_skipped number_left operand_at operation_at said_by said_in statement_of statements_of decimal_at digits_at is_name number_at register_at
returns c = record {
  zero = refl;
  hexadecimal = refl;
  leading_zero = refl;
  no_digit = refl;
  largest = refl;
  too_large = refl;
  last_register = refl;
  no_register = refl;
  zeroed_register = refl;
  name = refl;
  no_letter = refl;
  comment = refl;
  label = refl;
  entry = refl;
  sum = refl;
  target = refl;
  two_spaces = refl;
  system_call = refl;
  stands = stands-read (header ++ codes "A:\nsys 0\n") (behind (a ∷ sys ∷ [])) returning refl refl refl;
  no_code = first-fault-read header (behind []) (UnknownLabel 3) refl refl;
  number = first-fault-read (codes ".pages x") (Unread ∷ []) (BadLine 1) refl refl;
  label_alone = first-fault-read (header ++ codes "A:\nsys 20\n") (behind (a ∷ Unread ∷ [])) (BadLine 8) refl refl;
  unknown_target = first-fault-read (header ++ codes "A:\njump B\n") (behind (a ∷ Code (instr 0x15 0 0 0 0) (Some (codes "B")) ∷ [])) (UnknownLabel 9) refl refl;
  label_at_the_limit = too_many;
  repeated = first-fault-read (header ++ codes "A:\nA:\nsys 0\n") (behind (a ∷ a ∷ sys ∷ [])) (RepeatedLabel 9) refl refl;
  cut = first-fault-read (header ++ codes "A:\nsys 0\nret") (behind (a ∷ sys ∷ Unread ∷ [])) (BadLine 10) refl refl;
  canonical_text = refl;
}
