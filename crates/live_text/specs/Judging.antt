-- What the private functions of the judge answer, in the words of the rules.
use Rattle.std.specs.Prelude.{ℕ, List, [], ◌∷◌, codes, Bool, not}
use Rattle.std.specs.Str.{bytes_eq}
use Rattle.live_text.specs.Rules.{is_history}
use Rattle.live_text.specs.Scene.{LiveScene}
use Rattle.trace_text.specs.Rules.{counts, word}
use Rattle.trace_text.specs.declared.fault.BadKind.{BadKind}
use Rattle.trace_text.specs.declared.fault.BadKind.TheVariants as bad

-- the rules of a line that begins none of a trace with signals: it is `history off`, behind the lines of this scene
abbrev pub history_line : LiveScene → List (List ℕ) → List (BadKind × Bool)
history_line scene words =
    (bad.Item, is_history words)
    ∷ (bad.Item, bytes_eq (word words 1) (codes "off"))
    ∷ (bad.Count, counts 1 words)
    ∷ (bad.Place, not scene.lines.is_booted)
    ∷ (bad.Repeat, not scene.forgets)
    ∷ []
