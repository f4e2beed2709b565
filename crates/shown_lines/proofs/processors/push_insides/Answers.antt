use Rattle.std.proofs.Common.{◌++◌, map, sym, ap, ◌∙◌, append-nil, arith}
use Rattle.std.specs.Prelude.{slice_get}
use Rattle.kernel_state.specs.Processors.{processor_of}
use Rattle.live_play.specs.State.{inside_line, text_if, texts_below}
use Rattle.shown_lines.proofs.Tables.{inside_there}
use Rattle.shown_lines.proofs.Texts.{texts_more}
use Rattle.shown_lines.proofs.processors.push_insides.Goals as goal

pub loop-cpu-init : goal.loop-cpu-init
unfolding texts_below
loop-cpu-init c = sym (append-nil c.args.text.now.items)

pub loop-cpu-preserved : goal.loop-cpu-preserved
loop-cpu-preserved c =
    texts_more c.loop-cpu.cpu (λ cpu. text_if (inside_line cpu) (slice_get (map processor_of c.args.processors.now) cpu))
    c.args.text.now.items c.loop-cpu.text.items c.push_inside.new.text.items c.loop-cpu.invariant
    (c.in_ok-push_inside.ensures ∙ ap (λ found. c.loop-cpu.text.items ++ text_if (inside_line c.loop-cpu.cpu) found) (sym (inside_there c.args.processors.now c.loop-cpu.cpu _ (omega arith))))
