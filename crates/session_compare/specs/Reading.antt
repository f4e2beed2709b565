-- What is read off two journals.
use Rattle.std.specs.Prelude.{◌≡◌, ℕ, ◌≤◌, Bool, true, List, [], ◌∷◌, ◌++◌, length, take, Option, None, Some, Result, Ok, Err}
use Rattle.std.specs.Global.{Vec}
use Rattle.audit_model.specs.Verdicts.{IsFaultless, IsIllegalAt}
use Rattle.base.specs.declared.no_memory.NoMemory.{NoMemory}
use Rattle.event_journal.specs.declared.event.Event.{Event}
use Rattle.kernel_model.specs.Application.{Booted}
use Rattle.session_compare.specs.Comparisons.{Compares}
use Rattle.session_compare.specs.declared.differing.Comparison.{Comparison}
use Rattle.session_compare.specs.declared.differing.Side.TheVariants.{First}
use Rattle.session_compare.specs.declared.reading.CaughtUp.{CaughtUp}
use Rattle.session_compare.specs.declared.reading.CaughtUp.TheVariants.{Ends, UpTo}
use Rattle.session_compare.specs.declared.reading.ReadSo.{ReadSo}
use Rattle.session_compare.specs.declared.reading.ReadSo.TheVariants.{FirstEnds, SecondEnds, Whole}

-- ---- a journal

-- how far a log was read off a journal: what the journal's core was booted with, the events that were read, whose log it is, the log,
-- and that what the reader keeps fits these
pub record SoFar (W E R : Type 0) : Type 1 where
  pub boot : Booted
  pub events : List Event
  pub whose : W
  pub log : List (E × Option R)
  pub fits : Type 0

-- begun so, it has read these events, which a legal and steady history begins with
pub record IsReadUpTo {W E R : Type 0} (begun : SoFar W E R) (history : List Event) (now : SoFar W E R) : Type 0 where
  pub boot : now.boot ≡ begun.boot
  pub whose : now.whose ≡ begun.whose
  pub events : now.events ≡ history
  pub fits : now.fits
  pub faultless : IsFaultless now.boot now.events

-- nothing was read so far
pub record IsUnread {W E R : Type 0} (reader : SoFar W E R) : Type 0 where
  pub reading : IsReadUpTo reader [] reader
  pub log : reader.log ≡ []

-- and it is of a core of this boot
pub record IsBegun {W E R : Type 0} (on : Booted) (reader : SoFar W E R) : Type 0 where
  pub boot : reader.boot ≡ on
  pub unread : IsUnread reader

-- the event was read behind the others, and this is what it adds to the log
pub record HasRead {W E R : Type 0} (old new : SoFar W E R) (event : Event) (news : List (E × Option R)) : Type 0 where
  pub read : IsReadUpTo old (old.events ++ event ∷ []) new
  pub log : new.log ≡ old.log ++ news

-- by the answer: the event was read; no legal and steady history goes on with it; or memory was wanting
abbrev pub Reads : {W E R : Type 0} → SoFar W E R → SoFar W E R → Event → Result (Option (Vec (E × Option R))) NoMemory → Type 0
Reads old new event (Ok (Some news)) = HasRead old new event news.items
Reads old new event (Ok None) = IsFaultless old.boot (old.events ++ event ∷ []) → ⊥
Reads old new event (Err error) = Unit {0}

-- ---- two journals

-- the second was read up to an event, and compared with the first log
pub record IsCaughtUp {W E R : Type 0} (old new : SoFar W E R) (others : List Event) (one : List (E × Option R)) (code : Comparison E)
    (to_the_end : Bool) (place : ℕ) : Type 0 where
  pub reading : IsReadUpTo old (take place others) new
  pub within : place ≤ length others
  pub compares : Compares First code one new.log
  pub whole : to_the_end ≡ true → place ≡ length others

-- or it can't be
abbrev pub HasCaughtUp : {W E R : Type 0} → SoFar W E R → SoFar W E R → List Event → List (E × Option R) → Comparison E → Bool → CaughtUp
    → Type 0
HasCaughtUp old new others one code to_the_end (UpTo place) = IsCaughtUp old new others one code to_the_end place
HasCaughtUp old new others one code to_the_end (Ends at) = IsIllegalAt old.boot others at

-- both were read whole, and compared
pub record AreReadWhole {W E R : Type 0} (first first_now : SoFar W E R) (events : List Event) (second second_now : SoFar W E R)
    (others : List Event) (code : Comparison E) : Type 0 where
  pub one : IsReadUpTo first events first_now
  pub two : IsReadUpTo second others second_now
  pub compares : Compares First code first_now.log second_now.log

-- or one of them can't be
abbrev pub AreReadSo : {W E R : Type 0} → SoFar W E R → SoFar W E R → List Event → SoFar W E R → SoFar W E R → List Event → ReadSo E → Type 0
AreReadSo first first_now events second second_now others (Whole code) = AreReadWhole first first_now events second second_now others code
AreReadSo first first_now events second second_now others (FirstEnds at) = IsIllegalAt first.boot events at
AreReadSo first first_now events second second_now others (SecondEnds at) = IsIllegalAt second.boot others at
