use Rattle.std.proofs.Common.{◌≡◌, ◌<◌, ◌||◌, true, false, List, length, get_or, All, sym, ap, subst, ◌∙◌, arith}
use Rattle.std.specs.List.{list_any}
use Rattle.ta_isa.specs.declared.image.Instr.{Instr}
use Rattle.ta_isa.specs.InstructionTable.{is_instruction}
use Rattle.ta_asm.specs.Canonical.{targets}
use Rattle.ta_asm.proofs.Output.{target_within, two_marks}
use Rattle.ta_asm.proofs.disassembler.mark_labels.Goals as goal

pub mark_entries-requires : goal.mark_entries-requires
mark_entries-requires c = λ k d lt. omega (arith, c.requires.valid.entries k d lt)

pub mark_targets-requires : goal.mark_targets-requires
mark_targets-requires c = λ k d lt place is.
    let count = length c.args.image.now.code in
    let good : All (λ i. is_instruction count i ≡ true) c.as_slice.result.now = subst (λ (code : List Instr). All (λ i. is_instruction count i ≡ true) code) (sym c.as_slice.ensures) c.requires.valid.code in
    let below : place < count = target_within count place (get_or c.as_slice.result.now k d) (good k d lt) is in
    omega arith

pub returns : goal.returns
returns c =
    let image = c.args.image.now in
    record {
      whole = omega arith;
      marked = λ place lt.
          two_marks image place (get_or c.args.marks.now place false) (get_or c.mark_entries.new.marks place false) (get_or c.mark_targets.new.marks place false)
          (c.requires.none place false (omega arith)) (c.mark_entries.ensures place (omega arith))
          (c.mark_targets.ensures place (omega arith) ∙ ap (λ (code : List Instr). get_or c.mark_entries.new.marks place false || list_any (targets place) code) c.as_slice.ensures);
    }
