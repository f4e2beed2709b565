-- Lines, what they say behind others, and the scenes of these.
use Rattle.std.specs.Prelude.{◌≡◌, ℕ, List, [], ◌∷◌, ◌++◌, codes, Some, true, false, Ok, Err}
use Rattle.live_text.specs.Rules.{LiveFront, after_line, line_rules, no_lines, without_history}
use Rattle.live_text.specs.Scene.{IsSceneOf, LiveScene}
use Rattle.live_text.specs.Statement.{IsInPlace, IsJudged}
use Rattle.live_text.specs.declared.line.LiveLine.{LiveLine}
use Rattle.live_text.specs.declared.line.LiveLine.TheVariants.{HistoryOff, Says}
use Rattle.notify_text.specs.Rules as told
use Rattle.trace_text.specs.Examples.{boot_line, enter_line, entered, key, key_line}
use Rattle.trace_text.specs.Limits.{first_broken, first_scene}
use Rattle.trace_text.specs.declared.fault.BadKind.{BadKind}
use Rattle.trace_text.specs.declared.fault.BadKind.TheVariants as bad
use Rattle.trace_text.specs.declared.fault.LineFault.TheVariants.{Broken}
use Rattle.trace_text.specs.declared.item.Item.TheVariants.{Enter, Leave}
use Rattle.trace_text.specs.declared.limits.Size.{Size}
use Rattle.trace_text.specs.declared.statement.Statement.TheVariants as says

-- two processors, a thread slot and a page frame
abbrev pub small : Size
small = record { cpus = 2; threads = 1; frames = 1 }

-- behind their boot, with history kept and off; where the second is inside; and where a value was signalled instead
abbrev pub booted : LiveFront
booted = after_line no_lines boot_line

abbrev pub history_line : List ℕ
history_line = codes "history off"

abbrev pub without_any : LiveFront
without_any = after_line no_lines history_line

abbrev pub booted_without_history : LiveFront
booted_without_history = after_line without_any boot_line

abbrev pub with_one_inside : LiveFront
with_one_inside = after_line booted enter_line

abbrev pub signalled : LiveFront
signalled = after_line booted (codes "signal 5")

abbrev pub scene_inside : LiveScene
scene_inside = record {
  lines = record {
    is_booted = true;
    cpus = 2;
    apps = [];
    keyed = false;
    is_open = false;
    inside = false ∷ true ∷ false ∷ false ∷ false ∷ false ∷ false ∷ false ∷ [];
  };
  forgets = false;
}

-- behind these lines this one is so, beside no built-in applications
abbrev pub Reads : LiveFront → List ℕ → LiveLine → Type 0
Reads before line is = IsJudged (Ok is) (line_rules [] before true line) before (after_line before line)

-- or it breaks this rule first
abbrev pub Breaks : LiveFront → List ℕ → BadKind → Type 0
Breaks before line kind = IsJudged (Err (Broken kind)) (line_rules [] before true line) before before

pub record Examples : Type 0 where
  pub boots : Reads no_lines boot_line (Says (says.Boot small))
  pub comment : Reads booted (codes "# boot") (Says says.Blank)
  pub keyed : Reads booted key_line (Says (says.Key key))
  pub enters : Reads booted enter_line (Says (says.Item (Enter 1 5 entered)))
  pub leaves : Reads with_one_inside (codes "leave 1") (Says (says.Item (Leave 1)))
  -- a signal between an entry and its exit
  pub signals : Reads with_one_inside (codes "signal 63") (Says (says.Signal 63))
  -- the first rule that is broken: by a second boot of nine processors, and with a word too few; by a short key behind a signal,
  -- and before it; by one that enters twice; by a signal of 64 before the boot, and behind it
  pub second_boot : Breaks booted (codes "boot 9 1 1") bad.Place
  pub count_first : Breaks booted (codes "boot 9 1") bad.Count
  pub late_key : Breaks signalled (codes "key 07") bad.Place
  pub short_key : Breaks booted (codes "key 07") bad.Range
  pub twice_inside : Breaks with_one_inside enter_line bad.Inside
  pub too_early : Breaks no_lines (codes "signal 64") bad.Place
  pub too_much : Breaks booted (codes "signal 64") bad.Range
  -- history off before the boot, and what a boot is given behind it
  pub forgets : Reads no_lines history_line HistoryOff
  pub forgotten : without_any ≡ without_history no_lines
  pub boots_without : Reads without_any boot_line (Says (says.Boot small))
  pub stays_off : booted_without_history.forgets ≡ true
  -- it is no comment; behind the boot, behind an item, and a second one
  pub commented : Reads no_lines (codes "# history off") (Says says.Blank)
  pub too_late : Breaks booted history_line bad.Place
  pub behind_item : Breaks with_one_inside history_line bad.Place
  pub twice_off : Breaks without_any history_line bad.Repeat
  -- in their order: another word, or none; a word too many; behind the boot; a second one there
  pub turned_on : Breaks booted (codes "history on") bad.Item
  pub bare : Breaks booted (codes "history") bad.Item
  pub too_long : Breaks booted (codes "history off now") bad.Count
  pub place_first : Breaks booted_without_history history_line bad.Place
  pub byte_first : Breaks booted (codes "history " ++ 200 ∷ []) bad.Byte
  -- in a trace with signals it is no line
  pub no_line_of_a_trace : first_broken (told.line_rules [] no_lines.told true history_line) ≡ Some bad.Item
  -- scenes: before the first line, and where a processor is inside; there no line of the header may stand
  pub at_first : IsSceneOf (record { lines = first_scene; forgets = false }) no_lines
  pub inside : IsSceneOf scene_inside with_one_inside
  pub header_over : IsInPlace scene_inside (Says (says.Key key)) → ⊥
