use Rattle.trace_text.specs.declared.item.Reg.TheVariants.{Num}
use Rattle.play_model.specs.Play.{number_in}
use Rattle.answer_lines.proofs.Eight.{map-eight}
use Rattle.answer_lines.proofs.given.registers.Goals as goal

pub returns : goal.returns
returns c =
    let eight = map-eight (number_in c.args.answer.now.a) (Num 0) c.args.regs.now c.told-regs in
    cc
