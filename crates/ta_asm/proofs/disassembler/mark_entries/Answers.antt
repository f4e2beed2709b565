use Rattle.std.proofs.Common.{◌<◌, ℕ, List, true, false, length, get_or, arith}
use Rattle.std.proofs.lemmas.List.{get_or_default, length-set}
use Rattle.ta_asm.proofs.Output.{entry_more}
use Rattle.ta_asm.proofs.disassembler.mark_entries.Goals as goal

pub loop-entry-preserved : goal.loop-entry-preserved
loop-entry-preserved c = λ k lt.
    let marks = c.loop-entry.marks in
    let entries : List ℕ = c.args.entries.now in
    let i = c.loop-entry.entry-index in
    let entry : ℕ = get_or entries i 0 in
    let within : i < length entries = omega arith in
    let there : entry < length marks = omega (arith, c.requires i 0 within) in
    let before : k < length marks = omega (arith, lt, length-set marks entry true) in
    entry_more marks entries i entry k (get_or c.args.marks.now k false) there within (get_or_default entries i entry 0 within) (c.loop-entry.invariant k before)
