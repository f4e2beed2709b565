-- What holds of made traces and their plays.
use Rattle.std.specs.Prelude.{◌≡◌, ℕ, ◌^◌, ◌≤◌, [], None, IsSomeAnd}
use Rattle.std.specs.Option.{option_map}
use Rattle.kernel_model.specs.Application.{IsBooted, booted}
use Rattle.play_model.specs.Text.{text_of, text_of_play}
use Rattle.trace_text.specs.Sound.{IsSound}
use Rattle.workload.specs.Work.{made_boot, made_trace}
use Rattle.made_play.specs.Summary.{made_play}

-- each is within the limits of a trace, and a core can be booted for it
pub record MadeTracesAreSound : Type 0 where
  pub sound : (seed count : ℕ) → IsSound [] (made_trace seed count)
  pub boots : IsBooted (booted made_boot [])

-- each has a play that refuses no entry, and the text of the trace is what that has printed
pub record MadePlaysEnd : Type 0 where
  pub ends : (seed count : ℕ) → count ≤ 2 ^ 16 → IsSomeAnd (made_play seed count) (λ play. play.refused ≡ None)
  pub text : (seed count : ℕ) → text_of [] (made_trace seed count) ≡ option_map text_of_play (made_play seed count)
