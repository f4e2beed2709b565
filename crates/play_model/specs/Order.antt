-- What items let their processors do, which histories hold that in its order, and which exits lines tell of.
use Rattle.std.specs.Prelude.{◌≡◌, ℕ, List, [], ◌∷◌, ◌++◌, Option, Some, None, filter_map}
use Rattle.std.specs.List.{flat_map}
use Rattle.event_journal.specs.declared.event.Event.{Event}
use Rattle.event_journal.specs.declared.event.Event.TheVariants.{Entry, Exit}
use Rattle.trace_text.specs.declared.item.Item.{Item}
use Rattle.trace_text.specs.declared.item.Item.TheVariants as item
use Rattle.trace_text.specs.declared.item.Reg.{Reg}
use Rattle.play_model.specs.Line.{Line, Ret, Mem}
use Rattle.play_model.specs.Play.{Play, visit_of}

-- what an item lets a processor do
pub data Move : Type 0 where
  Comes : (cpu steps : ℕ) (regs : List Reg) → Move
  Leaves : (cpu : ℕ) → Move

-- the moves of an item: an entry, an exit or both; and none where it writes or shows RAM
abbrev pub moves_of : Item → List Move
moves_of (item.Smc cpu steps regs) = Comes cpu steps regs ∷ Leaves cpu ∷ []
moves_of (item.Enter cpu steps regs) = Comes cpu steps regs ∷ []
moves_of (item.Leave cpu) = Leaves cpu ∷ []
moves_of (item.Write cpu addr bytes) = []
moves_of (item.Show cpu addr len) = []

-- behind these events, the event is what the move lets happen: its processor's entry with its registers and steps, or
-- its processor's exit
abbrev pub IsMadeBy : List Event → Move → Event → Type 0
IsMadeBy before (Comes cpu steps regs) (Entry came given granted reads) =
    visit_of before cpu steps regs ≡ record { cpu = came; regs = given.a; steps = granted }
IsMadeBy before (Comes cpu steps regs) (Exit went told) = ⊥
IsMadeBy before (Leaves cpu) (Entry came given granted reads) = ⊥
IsMadeBy before (Leaves cpu) (Exit went told) = went ≡ cpu

-- behind these events, those are what the moves let happen, one for each in its order
abbrev pub Follow : List Event → List Move → List Event → Type 0
Follow before [] [] = Unit {0}
Follow before [] (event ∷ events) = ⊥
Follow before (move ∷ moves) [] = ⊥
Follow before (move ∷ moves) (event ∷ events) = IsMadeBy before move event × Follow (before ++ event ∷ []) moves events

-- the history of the play is what these items let happen, each processor's in its order: all of them, or those before a
-- refused entry
pub record HoldsInOrder (items : List Item) (play : Play) : Type 0 where
  pub taken : List Item
  pub rest : List Item
  pub cut : items ≡ taken ++ rest
  pub follows : Follow [] (flat_map moves_of taken) play.history
  pub all : play.refused ≡ None → rest ≡ []

-- ---- lines and exits

-- the line of an exit
abbrev pub line_of_event : Event → Option Line
line_of_event (Entry cpu given steps reads) = None
line_of_event (Exit cpu told) = Some (Ret cpu told.a)

-- a line that tells of an exit
abbrev pub told_by_line : Line → Option Line
told_by_line (Ret cpu regs) = Some (Ret cpu regs)
told_by_line (Mem cpu addr bytes) = None

-- the lines tell of the exits of the history, of each once, in their order
abbrev pub TellsExits : Play → Type 0
TellsExits play = filter_map told_by_line play.lines ≡ filter_map line_of_event play.history
