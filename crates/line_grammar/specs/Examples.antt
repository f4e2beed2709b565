-- A small grammar, and texts in it.
use Rattle.std.specs.Prelude.{ℕ, ◌+◌, [], ◌∷◌, length, nat_le, ◌==◌, if◌then◌else◌, None, Some}
use Rattle.line_grammar.specs.Grammar.{IsFirstFault, LineGrammar, Spells}

pub data Fault : Type 0 where
  Long : Fault
  Cut : Fault
  Alone : Fault

-- lines of at most two bytes, not one alone, which spell how many bytes they have
abbrev pub counting : LineGrammar (ℕ × ℕ) ℕ Fault
counting = record {
  first = (0, 0);
  line_fault = λ front ended line. if ended then (if nat_le (length line) 2 then None else Some Long) else Some Cut;
  after_line = λ front line. (front.0 + 1, front.1 + length line);
  end_fault = λ front. if front.0 == 1 then Some Alone else None;
  value = λ front. front.1;
}

pub record Examples : Type 0 where
  pub nothing : Spells counting [] 0
  pub two : Spells counting (97 ∷ 10 ∷ 98 ∷ 99 ∷ 10 ∷ []) 3
  pub long : IsFirstFault counting (97 ∷ 10 ∷ 97 ∷ 97 ∷ 97 ∷ 10 ∷ []) 2 Long
  pub cut : IsFirstFault counting (97 ∷ 10 ∷ 97 ∷ []) 2 Cut
  pub alone : IsFirstFault counting (97 ∷ 10 ∷ []) 2 Alone
