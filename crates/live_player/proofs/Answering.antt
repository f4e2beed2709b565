-- What is answered to a line that leads from some lines to others.
use Rattle.std.proofs.Common.{◌≡◌, ℕ, List, [], ◌++◌, drop, length, Some, None, sym, ap, ◌∙◌, append-nil}
use Rattle.std.specs.List.{flat_map}
use Rattle.std.proofs.Math.Seq.{drop-append_seam}
use Rattle.live_play.specs.Answer.{Answer, Full, Platform, answer_between, copied_at, printed_at, refused_at, without_lines}
use Rattle.live_play.specs.Answer as ends
use Rattle.live_play.proofs.Talking.{answer_unless}
use Rattle.live_player.specs.Taking.{Answers}
use Rattle.live_player.specs.declared.taken.Taken.TheVariants as taken
use Rattle.notify_text.specs.Rules.{NotifyFront}
use Rattle.play_model.specs.Line.{Line, text_of_line}

-- with what more is printed, where nothing is refused
pub answers-done : (on : Platform) (before after : NotifyFront) (more : List Line) (old new : List ℕ)
    → refused_at on after ≡ None → printed_at on after ≡ printed_at on before ++ more
    → new ≡ old ++ flat_map text_of_line more → Answers (answer_between on before after) taken.Done old new
answers-done on before after more old new going printed text =
    let done : Answer = record { lines = drop (length (printed_at on before)) (printed_at on after); ending = ends.Done } in
    let is : answer_between on before after ≡ done = ap (answer_unless on before after) going in
    let lines : (answer_between on before after).lines ≡ more =
    ap (λ (a : Answer). a.lines) is
    ∙ ap (drop (length (printed_at on before))) printed ∙ drop-append_seam (printed_at on before) more in
    record {
      ending = ap (λ (a : Answer). a.ending) is;
      text = text ∙ ap (λ (ls : List Line). old ++ flat_map text_of_line ls) (sym lines);
    }

-- with nothing, where nothing more is printed
pub answers-nothing : (on : Platform) (before after : NotifyFront) (text : List ℕ) → refused_at on after ≡ None
    → printed_at on after ≡ printed_at on before → Answers (answer_between on before after) taken.Done text text
answers-nothing on before after text going printed =
    answers-done on before after [] text text going (printed ∙ sym (append-nil (printed_at on before)))
    (sym (append-nil text))

-- with what was read so far, where an entry is refused
pub answers-full : (on : Platform) (before after : NotifyFront) (more copied : ℕ) (old new : List ℕ)
    → refused_at on after ≡ Some more → copied ≡ copied_at on before → new ≡ old
    → Answers (answer_between on before after) (taken.Full copied) old new
answers-full on before after more copied old new refused read same =
    let is : answer_between on before after ≡ without_lines (Full (copied_at on before)) =
    ap (answer_unless on before after) refused in
    record {
      ending = ap (λ (a : Answer). a.ending) is ∙ ap (λ (n : ℕ). Full n) (sym read);
      text = same ∙ sym (append-nil old)
          ∙ ap (λ (ls : List Line). old ++ flat_map text_of_line ls) (sym (ap (λ (a : Answer). a.lines) is));
    }
