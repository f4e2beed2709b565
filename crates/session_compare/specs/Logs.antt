-- The logs of a session or of a group in two journals, and what they show.
use Rattle.std.specs.Prelude.{◌≡◌, List, Option, None, Some, length}
use Rattle.std.specs.Option.{option_map}
use Rattle.compare_model.specs.Comparing.{AreOfOne, AreOfTwo, DifferFirstAt, IsAbsentIn, Pair, Shown}
use Rattle.compare_model.specs.declared.compared.Compared.{Compared}
use Rattle.compare_model.specs.declared.compared.Compared.TheVariants.{Absent, Events, Other, Same}
use Rattle.journal_notes.specs.Logs.{events_in, replies_in}
use Rattle.kernel_model.specs.Application.{Application}
use Rattle.kernel_state.specs.Setup.{application_of}
use Rattle.kernel_state.specs.declared.setup.Application.{Application as AnyApplication}

-- the log of what a journal shows of a session or of a group, and the application, where it is there
pub record IsLoggedAs {E R : Type 0} (shown : Shown E R) (app : Option AnyApplication) (log : List (E × Option R)) : Type 0 where
  pub app_is : shown.app ≡ option_map application_of app
  pub events_are : shown.events ≡ events_in log
  pub replies_are : shown.replies ≡ replies_in log

-- what the applications alone show: that one isn't there, that they differ, or nothing, since both are one under one key
abbrev pub AreToldApart : Pair → Option Application → Option Application → Option Compared → Type 0
AreToldApart pair one two None = AreOfOne pair one two
AreToldApart pair one two (Some (Absent of)) = IsAbsentIn one two of
AreToldApart pair one two (Some Other) = AreOfTwo pair one two
AreToldApart pair one two (Some _) = ⊥

-- what the logs of one application show
abbrev pub IsShownBy : {E R : Type 0} → List (E × Option R) → List (E × Option R) → Compared → Type 0
IsShownBy one two (Events at) = DifferFirstAt (events_in one) (events_in two) at
IsShownBy one two (Same count) = (events_in one ≡ events_in two) × (count ≡ length (replies_in one))
IsShownBy one two _ = ⊥
