use Rattle.std.proofs.Common.{◌≡◌, ◌++◌, map}
use Rattle.std.specs.Prelude.{slice_get}
use Rattle.kernel_state.specs.Processors.{processor_of}
use Rattle.live_play.specs.State.{inside_line, text_if, texts_below}
use Rattle.shown_lines.proofs.processors.push_insides.Given as goal

abbrev pub invariant-loop-cpu : goal.invariant-loop-cpu
invariant-loop-cpu l =
    l.text.items ≡ l.initial.text.items ++ texts_below l.cpu (λ cpu. text_if (inside_line cpu) (slice_get (map processor_of l.processors) cpu))
