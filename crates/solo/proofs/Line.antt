-- The calls that wait, after one of them has left the line.
use Rattle.std.proofs.Common.{◌≡◌, ℕ, ◌==◌, not, List, sym, ap, ◌∙◌}
use Rattle.std.specs.Prelude.{filter}
use Rattle.own_model.specs.Solo.{Solo, without_waiter}
use Rattle.solo.specs.Standing.{IsBeside, without_calls}
use Rattle.solo.specs.declared.solo_session.SoloSession.{SoloSession}

pub line_left : (s new : SoloSession) (solo : Solo) (number : ℕ) → new ≡ record s { waiting = new.waiting } →
    new.waiting.items ≡ filter (λ (other : ℕ). not (other == number)) s.waiting.items → IsBeside s solo → IsBeside new (without_waiter solo number)
line_left s new solo number stays after beside =
    ap (λ (base : Solo). record base { waiting = filter (λ (other : ℕ). not (other == number)) base.waiting }) beside
    ∙ sym (ap without_calls stays ∙ ap (λ (waiting : List ℕ). record (without_calls s) { waiting = waiting }) after)
