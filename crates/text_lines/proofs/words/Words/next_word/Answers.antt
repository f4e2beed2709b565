use Rattle.std.proofs.Common.{◌≡◌, Option, Bor, List, ℕ, sym, ap, ◌∙◌}
use Rattle.std.specs.Option.{option_copied}
use Rattle.text_lines.specs.Words.{words_of, words_left, word_at}
use Rattle.text_lines.proofs.Taken.{left_behind, word_at-words_of, word_at-words_of_last}
use Rattle.text_lines.proofs.words.Words.next_word.Goals as goal

pub returns-in-Some : goal.returns-in-Some
returns-in-Some c =
    let left : c.args.self.now ≡ words_of c.in_ok-line.line.now = sym c.self.view_is ∙ ap (λ (o : Option (Bor (List ℕ))). words_left (option_copied o)) c.in_ok-line.was in
    let taken = ap word_at left ∙ word_at-words_of c.in_ok-line.line.now c.in-Some.word.now c.in-Some.rest.now c.in-Some.ensures in
    record { word = taken; left = left_behind c.args.self.now _ _ taken }

pub returns-in-None : goal.returns-in-None
returns-in-None c =
    let left : c.args.self.now ≡ words_of c.in_ok-line.line.now = sym c.self.view_is ∙ ap (λ (o : Option (Bor (List ℕ))). words_left (option_copied o)) c.in_ok-line.was in
    let taken = ap word_at left ∙ word_at-words_of_last c.in_ok-line.line.now c.in-None.ensures in
    record { word = taken; left = left_behind c.args.self.now _ _ taken }
