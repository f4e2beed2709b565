use Rattle.std.proofs.Common.{refl, [], ◌∷◌}
use Rattle.line_grammar.specs.Grammar.{piece_fault}
use Rattle.line_grammar.proofs.examples.worked_examples.Goals as goal

pub returns : goal.returns
unfolding piece_fault
returns c = record {
  nothing = record { lines = []; text_is = refl; end = (0, 0); spelled = refl; value_is = refl; no_end_fault = refl };
  two = record { lines = (97 ∷ []) ∷ (98 ∷ 99 ∷ []) ∷ []; text_is = refl; end = (2, 3); spelled = (refl, (refl, refl)); value_is = refl; no_end_fault = refl };
  long = record { front = (97 ∷ []) ∷ []; piece = 97 ∷ 97 ∷ 97 ∷ []; back = [] ∷ []; text_is = refl; before = (1, 1); kept = (refl, refl); place_is = refl; fault = refl };
  cut = record { front = (97 ∷ []) ∷ []; piece = 97 ∷ []; back = []; text_is = refl; before = (1, 1); kept = (refl, refl); place_is = refl; fault = refl };
  alone = record { front = (97 ∷ []) ∷ []; piece = []; back = []; text_is = refl; before = (1, 1); kept = (refl, refl); place_is = refl; fault = refl };
}
