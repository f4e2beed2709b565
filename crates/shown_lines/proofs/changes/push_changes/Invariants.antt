use Rattle.std.proofs.Common.{List, ℕ}
use Rattle.page_set.specs.Keeping.{AreKept}
use Rattle.shown_lines.proofs.Pages.{AreTold}
use Rattle.shown_lines.proofs.changes.push_changes.Given as goal

abbrev pub invariant-loop-page : goal.invariant-loop-page
invariant-loop-page l =
    (before : List ℕ) → AreKept l.kept before l.after
    → AreTold l.kept before l.after l.cpu l.page l.initial.text.items l.text.items l.left
