use Rattle.std.proofs.Common.{◌≡◌, ℕ, List, ◌+◌, ◌*◌, ◌++◌}
use Rattle.live_play.specs.Changes.{changes_below, text_of_changes}
use Rattle.page_set.specs.Pages.{page_at}
use Rattle.shown_lines.proofs.changes.push_page.Given as goal

abbrev pub invariant-loop-block : goal.invariant-loop-block
invariant-loop-block l =
    (before after start : List ℕ) → l.was ≡ page_at before l.page → l.is ≡ page_at after l.page
    → l.initial.text.items ≡ start ++ text_of_changes l.cpu (changes_below (64 * l.page) before after)
    → l.text.items ≡ start ++ text_of_changes l.cpu (changes_below (64 * l.page + l.block) before after)
