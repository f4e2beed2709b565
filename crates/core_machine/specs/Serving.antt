-- What serving a list of entries and exits makes of a machine that stands at a play.
use Rattle.std.specs.Prelude.{◌≡◌, ◌≤◌, List, [], ◌∷◌, ◌++◌, length, map, take, drop, Some, Result, Ok, Err}
use Rattle.core_machine.specs.Moving.{IsRefused}
use Rattle.core_machine.specs.Standing.{IsAt}
use Rattle.core_machine.specs.declared.machine.Machine.{Machine}
use Rattle.core_machine.specs.declared.smc.Smc.{Smc}
use Rattle.core_machine.specs.declared.smc.Smc.TheVariants.{Comes, Leaves}
use Rattle.core_machine.specs.declared.smc.Stopped.{Stopped}
use Rattle.core_machine.specs.declared.smc.Told.{Told}
use Rattle.event_journal.specs.declared.event.Event.{Event}
use Rattle.kernel_model.specs.Application.{Booted}
use Rattle.kernel_model.specs.History.{IsLegal}
use Rattle.kernel_state.specs.Meaning.{booted_of, events_of, terms_of}
use Rattle.kernel_state.specs.declared.enter_refusal.EnterRefusal.{EnterRefusal}
use Rattle.kernel_state.specs.declared.enter_refusal.EnterRefusal.TheVariants.{Full, Memory}
use Rattle.play_model.specs.Line.{Line, Ret}
use Rattle.play_model.specs.Play.{Play, after_items}
use Rattle.trace_text.specs.declared.item.Item.{Item}
use Rattle.trace_text.specs.declared.item.Item.TheVariants.{Enter, Leave}
use Rattle.trace_text.specs.declared.item.Reg.TheVariants.{Num}

-- ---- as items of a play

abbrev pub item_of : Smc → Item
item_of (Comes visitor) = Enter visitor.cpu visitor.steps (map (λ number. Num number) visitor.regs.a)
item_of (Leaves cpu) = Leave cpu

-- the line of an answer
abbrev pub line_of : Told → Line
line_of told = Ret told.cpu told.regs.a

-- the machine stands at the play after these, which prints just these answers
pub record HasCome (boot : Booted) (play : Play) (smcs : List Smc) (machine : Machine) (answers : List Told) : Type 0
  where
    pub next : Play
    pub comes : after_items boot (map item_of smcs) play ≡ Some next
    pub at : IsAt boot next machine
    pub lines : next.lines ≡ play.lines ++ map line_of answers

-- ---- by the answer

-- why the rest of a list has not come: its first is an entry that is refused in the play too; or memory was wanting
abbrev pub IsWhy : Booted → Play → List Smc → EnterRefusal → Type 0
IsWhy boot play (Comes visitor ∷ rest) (Full copied more) = IsRefused boot play visitor copied more
IsWhy boot play _ (Full copied more) = ⊥
IsWhy boot play rest Memory = Unit {0}

-- so many of the list have come, and then the rest has not, for this reason
pub record HasStopped (boot : Booted) (play : Play) (smcs : List Smc) (machine : Machine) (answers : List Told)
    (stopped : Stopped) : Type 0 where
  pub few : stopped.served ≤ length smcs
  pub come : HasCome boot play (take stopped.served smcs) machine answers
  pub why : IsWhy boot come.next (drop stopped.served smcs) stopped.why

-- all of it has come, or it has stopped
abbrev pub ServesAt : Booted → Play → List Smc → Machine → List Told → Result (Unit {0}) Stopped → Type 0
ServesAt boot play smcs machine answers (Ok done) = HasCome boot play smcs machine answers
ServesAt boot play smcs machine answers (Err stopped) = HasStopped boot play smcs machine answers stopped

-- some answers stand behind those that were there, in whatever play
pub record Serves (old new : Machine) (before after : List Told) (smcs : List Smc)
    (result : Result (Unit {0}) Stopped) : Type 0 where
  pub told : List Told
  pub added : after ≡ before ++ told
  pub at : (boot : Booted) (play : Play) → IsAt boot play old → ServesAt boot play smcs new told result

-- ---- the events

-- they extend those before, and are legal; and the core's terms stay
pub record Extends (old new : Machine) : Type 0 where
  pub boot : booted_of new.at_work.core ≡ booted_of old.at_work.core
  pub terms : terms_of new.at_work.core ≡ terms_of old.at_work.core
  pub more : List Event
  pub events : events_of new.at_work.core ≡ events_of old.at_work.core ++ more
  pub legal : IsLegal (booted_of new.at_work.core) (events_of new.at_work.core)

-- ---- one of a list

-- it has come, or it has not
abbrev pub ServesOneAt : Booted → Play → Smc → Machine → List Told → Result (Unit {0}) EnterRefusal → Type 0
ServesOneAt boot play smc machine answers (Ok done) = HasCome boot play (smc ∷ []) machine answers
ServesOneAt boot play smc machine answers (Err why) =
    IsAt boot play machine × (answers ≡ []) × IsWhy boot play (smc ∷ []) why

-- at most one answer stands behind those that were there, in whatever play
pub record ServesOne (old new : Machine) (before after : List Told) (smc : Smc)
    (result : Result (Unit {0}) EnterRefusal) : Type 0 where
  pub told : List Told
  pub added : after ≡ before ++ told
  pub terms : terms_of new.at_work.core ≡ terms_of old.at_work.core
  pub at : (boot : Booted) (play : Play) → IsAt boot play old → ServesOneAt boot play smc new told result
