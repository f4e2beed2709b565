use Rattle.std.proofs.Common.{◌≡◌, refl, ap, ◌∙◌}
use Rattle.line_port.specs.History as heard
use Rattle.notify_text.specs.Rules.{after_line}
use Rattle.live_play.specs.Answer.{Answer, Bad, Full, answer, copied_at, without_lines}
use Rattle.live_play.proofs.Refused.{too_many}
use Rattle.live_play.proofs.Talking.{answer_by, answer_unless, counted}
use Rattle.live_play.proofs.laws.refusals_change_nothing.Goals as goal

pub returns : goal.returns
returns c = record {
  bad = λ on before line kind fault.
      let is : answer on before (heard.Line line) ≡ without_lines (Bad kind) = ap (answer_by on before line) fault in
      (is, ap (λ (given : Answer). counted before (after_line before line) given.ending) is);
  full = λ on before line more kept refused.
      let is : answer on before (heard.Line line) ≡ without_lines (Full (copied_at on before)) =
      ap (answer_by on before line) kept ∙ ap (answer_unless on before (after_line before line)) refused in
      (is, ap (λ (given : Answer). counted before (after_line before line) given.ending) is);
  too_many = too_many;
  long = λ on before. (refl, refl);
  cut = λ on before. (refl, refl);
}
