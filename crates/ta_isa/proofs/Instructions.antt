-- What the fields of an instruction are that an image may have.
use Rattle.std.proofs.Common.{◌≡◌, ℕ, ◌^◌, ◌<◌, true, false, Option, Some, None, arith}
use Rattle.std.specs.Prelude.{◌&&◌}
use Rattle.std.specs.Option.{option_map_or}
use Rattle.std.proofs.lemmas.Bool.{and_parts, eqb-true, ltb-true, leb-true}
use Rattle.ta_isa.specs.declared.image.Instr.{Instr}
use Rattle.ta_isa.specs.declared.row.Operand.{Operand}
use Rattle.ta_isa.specs.declared.row.Operand.TheVariants.{Unused, Register}
use Rattle.ta_isa.specs.declared.row.Immediate.{Immediate}
use Rattle.ta_isa.specs.declared.row.Immediate.TheVariants as immediate
use Rattle.ta_isa.specs.declared.row.Row.{Row}
use Rattle.ta_isa.specs.InstructionTable.{HasFields, is_operand, is_immediate, follows_row, row_of, is_instruction}

is_operand-below : (o : Operand) (field : ℕ) → is_operand o field ≡ true → field < 16
is_operand-below Unused field e = omega (arith, eqb-true field 0 e)
is_operand-below Register field e = omega (arith, ltb-true field 16 e)

is_immediate-below : (m : Immediate) (field count : ℕ) → count < 2 ^ 32 → is_immediate m field count ≡ true → field < 2 ^ 32
is_immediate-below immediate.Unused field count lt e = omega (arith, eqb-true field 0 e)
is_immediate-below immediate.Number field count lt e = ltb-true field (2 ^ 32) e
is_immediate-below immediate.Target field count lt e = omega (arith, ltb-true field count e)
is_immediate-below immediate.SystemCall field count lt e = omega (arith, leb-true field _ e)

follows_row-fields : (count : ℕ) (i : Instr) (r : Row) → count < 2 ^ 32 → follows_row count i r ≡ true → HasFields i
follows_row-fields count i r lt e =
    let abc = and_parts (is_operand r.d i.d && is_operand r.a i.a && is_operand r.b i.b) (is_immediate r.imm i.imm count) e in
    let ab = and_parts (is_operand r.d i.d && is_operand r.a i.a) (is_operand r.b i.b) abc.0 in
    let a = and_parts (is_operand r.d i.d) (is_operand r.a i.a) ab.0 in
    record {
      d = is_operand-below r.d i.d a.0;
      a = is_operand-below r.a i.a a.1;
      b = is_operand-below r.b i.b ab.1;
      imm = is_immediate-below r.imm i.imm count lt abc.1;
    }

by_row : (count : ℕ) (i : Instr) (r : Option Row) → count < 2 ^ 32 → option_map_or (follows_row count i) r false ≡ true → HasFields i
by_row count i None lt e = absurd cc
by_row count i (Some r) lt e = follows_row-fields count i r lt e

pub is_instruction-fields : (count : ℕ) (i : Instr) → count < 2 ^ 32 → is_instruction count i ≡ true → HasFields i
unfolding is_instruction
is_instruction-fields count i lt e = by_row count i (row_of i.op) lt e
