-- The limits that lines of a conversation keep.
use Rattle.std.specs.Prelude.{◌≡◌, ℕ, List, All, IfSome, None, true}
use Rattle.live_text.specs.Rules.{LiveFront, after_line, line_rules, no_lines}
use Rattle.live_text.specs.Scene.{HasItsBoot}
use Rattle.trace_text.specs.Limits.{cpus_of, first_broken, outside}
use Rattle.trace_text.specs.Sound.{ComeInTurn, IsSoundBoot, IsSoundFill, IsSoundItem}

-- the lines that count are within the limits of a trace with signals, beside built-in applications of these UUIDs; processors
-- may be inside
pub record AreSound (natives : List (List ℕ)) (front : LiveFront) : Type 0 where
  pub no_boot : HasItsBoot front
  pub boot : IfSome front.told.trace.boot (IsSoundBoot natives)
  pub fills : All IsSoundFill front.told.trace.fills
  pub items : All (IsSoundItem (cpus_of front.told.trace.boot)) front.told.trace.items
  pub in_turn : ComeInTurn outside front.told.trace.items

-- before the first line they are, and behind each line that keeps its rules they stay so
pub record LinesStaySound : Type 0 where
  pub first : (natives : List (List ℕ)) → AreSound natives no_lines
  pub onward : (natives : List (List ℕ)) (before : LiveFront) (line : List ℕ) → AreSound natives before →
      first_broken (line_rules natives before true line) ≡ None → AreSound natives (after_line before line)
