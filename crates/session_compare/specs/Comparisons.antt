-- How two logs compare as far as they were read.
use Rattle.std.specs.Prelude.{◌≡◌, ◌≢◌, ℕ, ◌+◌, ◌<◌, Bool, true, false, if◌then◌else◌, List, ◌++◌, length, take, slice_get, Option}
use Rattle.compare_model.specs.Comparing.{DifferFirstAt}
use Rattle.compare_model.specs.declared.compared.Compared.{Compared}
use Rattle.compare_model.specs.declared.compared.Compared.TheVariants.{Events, Same}
use Rattle.journal_notes.specs.Logs.{events_in, replies_in}
use Rattle.session_compare.specs.declared.differing.Comparison.{Comparison}
use Rattle.session_compare.specs.declared.differing.Side.{Side}
use Rattle.session_compare.specs.declared.differing.Side.TheVariants.{First, Second}

-- this list is the other one, of so many events that are the same, and behind these what it has more
pub record IsAhead {E : Type 0} (same : ℕ) (more its other : List E) : Type 0 where
  pub goes_on : its ≡ other ++ more
  pub many : same ≡ length other

-- both go on behind these, and differ there
pub record AreApart {E : Type 0} (same : ℕ) (one two : List E) : Type 0 where
  pub front : take same one ≡ take same two
  pub in_one : same < length one
  pub in_two : same < length two
  pub apart : slice_get one same ≢ slice_get two same

-- by the list of one side and the other list: that of the side that is ahead goes on with what there is more
abbrev pub Leads : {E : Type 0} → Side → Side → ℕ → List E → List E → List E → Type 0
Leads First First same more its other = IsAhead same more its other
Leads Second Second same more its other = IsAhead same more its other
Leads First Second same more its other = IsAhead same more other its
Leads Second First same more its other = IsAhead same more other its

-- the events of both lists, by whether they differ
abbrev pub StandsBy : {E : Type 0} → Side → Comparison E → List E → List E → Bool → Type 0
StandsBy side code its other true = AreApart code.same its other
StandsBy side code its other false = Leads side code.ahead code.same code.more.items its other

-- the replies that are counted
abbrev pub replies_counted : {E R : Type 0} → Side → List (E × Option R) → List (E × Option R) → List R
replies_counted First its other = replies_in its
replies_counted Second its other = replies_in other

-- the comparison is that of two logs: of one side, and of the other
pub record Compares {E R : Type 0} (side : Side) (code : Comparison E) (its other : List (E × Option R)) : Type 0 where
  pub events : StandsBy side code (events_in its) (events_in other) code.differ
  pub replies : code.replies ≡ length (replies_counted side its other)

-- with a reply of the first more, or none
abbrev pub counted : Side → ℕ → Bool → ℕ
counted First count is_reply = if is_reply then count + 1 else count
counted Second count is_reply = count

-- what two lists of events show, where the first has so many replies
abbrev pub ShowsEvents : {E : Type 0} → List E → List E → ℕ → Compared → Type 0
ShowsEvents one two replies (Events at) = DifferFirstAt one two at
ShowsEvents one two replies (Same count) = (one ≡ two) × (count ≡ replies)
ShowsEvents one two replies _ = ⊥
