use Rattle.std.proofs.Common.{◌≡◌, length, arith}
use Rattle.play_model.specs.Line.{register_text}
use Rattle.answer_lines.proofs.Eight.{joined-eight}
use Rattle.answer_lines.proofs.Fronts.{more_kept}
use Rattle.answer_lines.proofs.lines.push_registers.Goals as goal

pub returns : goal.returns
returns c =
    let eight : length c.args.regs.now.a ≡ 8 = omega arith in
    let all = joined-eight register_text c.args.regs.now.a eight in
    record {
      told =
          grind (
            arith,
            c.extend_from_slice.ensures.items,
            c.as_flattened.ensures.value,
            all,
            c.register_text.ensures,
            c.register_text-2.ensures,
            c.register_text-3.ensures,
            c.register_text-4.ensures,
            c.register_text-5.ensures,
            c.register_text-6.ensures,
            c.register_text-7.ensures,
            c.register_text-8.ensures,
          );
      kept = more_kept c.args.text.now.items _ _ _ c.extend_from_slice.ensures.items;
    }
