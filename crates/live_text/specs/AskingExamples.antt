-- Lines that ask, and what they ask; and the first rule that others break.
use Rattle.std.specs.Prelude.{◌≡◌, ℕ, List, ◌∷◌, [], codes, ◌++◌, true, false, None, Ok, Err}
use Rattle.live_text.specs.Asking.{IsAsked, kind_of_line}
use Rattle.live_text.specs.Examples.{booted, booted_without_history}
use Rattle.live_text.specs.Rules.{no_lines}
use Rattle.live_text.specs.Scene.{LiveScene, scene_of}
use Rattle.live_text.specs.declared.question.Question.{Question}
use Rattle.live_text.specs.declared.question.Question.TheVariants as asks
use Rattle.trace_text.specs.declared.fault.BadKind.{BadKind}
use Rattle.trace_text.specs.declared.fault.BadKind.TheVariants as bad
use Rattle.trace_text.specs.declared.fault.LineFault.TheVariants.{Broken}

-- before a boot, behind one, and behind one with history off
abbrev pub early : LiveScene
early = scene_of no_lines

abbrev pub kept : LiveScene
kept = scene_of booted

abbrev pub forgotten : LiveScene
forgotten = scene_of booted_without_history

abbrev pub Asks : List ℕ → Question → Type 0
Asks line question = IsAsked kept line (Ok question)

abbrev pub Breaks : LiveScene → List ℕ → BadKind → Type 0
Breaks scene line kind = IsAsked scene line (Err (Broken kind))

pub record AskingExamples : Type 0 where
  pub on : Asks (codes "watch on") (asks.Watch true)
  pub off : IsAsked early (codes "watch off") (Ok (asks.Watch false))
  pub state : Asks (codes "state") asks.State
  pub session : Asks (codes "session 7") (asks.Session 7)
  pub buffer : Asks (codes "buffer 1A") (asks.Buffer 26)
  pub events : Asks (codes "events 0 1024") (asks.Events 0 1024)
  -- before the boot
  pub too_early : Breaks early (codes "state") bad.Place
  -- the first rule that is broken
  pub neither : Breaks kept (codes "watch it") bad.Item
  pub bare : Breaks kept (codes "watch") bad.Item
  pub both : Breaks kept (codes "watch on off") bad.Count
  pub too_many : Breaks early (codes "state 1") bad.Count
  pub signed : Breaks kept (codes "session -1") bad.Number
  pub too_great : Breaks kept (codes "session 4294967295") bad.Range
  pub no_digit : Breaks kept (codes "buffer 0x1") bad.Number
  pub no_events : Breaks kept (codes "events 0 0") bad.Range
  pub many_events : Breaks kept (codes "events 0 1025") bad.Range
  -- events where none are kept: behind `place` of a boot, and before the numbers
  pub not_kept : Breaks forgotten (codes "events 0 1") bad.Place
  pub not_kept_first : Breaks forgotten (codes "events 0 0") bad.Place
  pub count_first : Breaks forgotten (codes "events 0") bad.Count
  pub others_stay : IsAsked forgotten (codes "state") (Ok asks.State)
  pub byte_first : Breaks early (codes "state " ++ 200 ∷ []) bad.Byte
  -- lines that ask nothing
  pub comment : kind_of_line (codes "# state") ≡ None
  pub empty : kind_of_line [] ≡ None
  pub of_a_trace : kind_of_line (codes "show 0 40000000 1") ≡ None
  pub a_longer_word : kind_of_line (codes "states") ≡ None
