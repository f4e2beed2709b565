use Rattle.std.proofs.Common.{Some, ap, ◌∙◌}
use Rattle.live_play.specs.Showing.{Position, line_of}
use Rattle.live_play.proofs.Asked.{after_question, asked-lines, asked-same, left_out, shown_same}
use Rattle.live_play.proofs.laws.questions_change_nothing.Goals as goal

pub returns : goal.returns
returns c = record {
  lines = λ on here input kind is.
      ap (λ (p : Position). p.lines) (after_question on here input (Some kind) is) ∙ asked-lines here kind (line_of input);
  watching = λ on here input kind is other.
      after_question on here input (Some kind) is ∙ asked-same here kind (line_of input) other;
  left_out = left_out;
  shown = shown_same;
}
