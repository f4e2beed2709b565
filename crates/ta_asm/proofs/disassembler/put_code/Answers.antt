use Rattle.std.proofs.Common.{◌<◌, ◌+◌, ◌++◌, List, false, length, drop, get_or, sym, ap, ◌∙◌, arith}
use Rattle.std.proofs.lemmas.List.{append-nil, drop_all, drop_more}
use Rattle.ta_isa.specs.declared.image.Instr.{Instr}
use Rattle.ta_asm.specs.Canonical.{code_lines, text_of}
use Rattle.ta_asm.proofs.Output.{one_more}
use Rattle.ta_asm.proofs.disassembler.put_code.Goals as goal

nothing : Instr
nothing = record { op = 0; d = 0; a = 0; b = 0; imm = 0 }

pub loop-place-preserved : goal.loop-place-preserved
unfolding nothing
loop-place-preserved c = λ image h same.
    let code : List Instr = c.args.code.now in
    let within : c.loop-place.place < length code = omega arith in
    let left = drop_more code c.loop-place.place nothing within in
    one_more image c.loop-place.place (get_or code c.loop-place.place nothing) (drop (c.loop-place.place + 1) code) (get_or c.args.marks.now c.loop-place.place false) c.loop-place.out.items c.put_label.new.out.items c.put_instruction.new.out.items _
    (h.marked c.loop-place.place (omega (arith, within, ap length same))) c.in_ok-put_label.ensures c.in_ok-put_instruction.ensures
    (ap (λ (cs : List Instr). c.loop-place.out.items ++ text_of (code_lines image c.loop-place.place cs)) (sym left) ∙ c.loop-place.invariant image h same)

pub returns : goal.returns
returns c = λ image h same.
    let past = drop_all c.loop-place.place c.args.code.now (omega arith) in
    sym (append-nil c.loop-place.out.items) ∙ sym (ap (λ (cs : List Instr). c.loop-place.out.items ++ text_of (code_lines image c.loop-place.place cs)) past) ∙ c.loop-place.invariant image h same
