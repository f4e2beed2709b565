use Rattle.std.proofs.Common.{◌≡◌, ◌≤◌, ◌+◌, length, ltb}
use Rattle.std.specs.List.{list_all}
use Rattle.text_lines.specs.Words.{words_of}
use Rattle.client_text.proofs.line.has_between.Given as goal

abbrev pub invariant-loop-word : goal.invariant-loop-word
invariant-loop-word l = record {
  counted : l.count + length l.words ≡ length (words_of l.line);
  filled : list_all (λ w. ltb 0 (length w)) l.words ≡ list_all (λ w. ltb 0 (length w)) (words_of l.line);
  few : l.count ≤ l.most;
}

abbrev pub decreases-loop-word : goal.decreases-loop-word
decreases-loop-word l = length l.words
