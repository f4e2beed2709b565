-- What is put of lines that are gathered first.
use Rattle.std.specs.Prelude.{◌≡◌, ℕ, List, ◌++◌, Option, Result, Ok, Err}
use Rattle.ports.specs.Port.{Appends}
use Rattle.word_parts.specs.Output.{AppendsPart}
use Rattle.word_parts.specs.declared.stop.Stop.{Stop}
use Rattle.word_parts.specs.declared.stop.Stop.TheVariants.{Full, Failed, Memory}

-- the lines were put, or a part of them where the sink failed or memory ran out
abbrev pub PutsLines : List ℕ → Result (Unit {0}) Stop → Option (List ℕ) → Option (List ℕ) → Type 0
PutsLines lines (Ok done) old new = Appends old new lines
PutsLines lines (Err Full) old new = ⊥
PutsLines lines (Err Failed) old new = AppendsPart old new lines
PutsLines lines (Err Memory) old new = AppendsPart old new lines

-- all lines were put, or none, but for those that are kept
pub record PutsBut (kept : List ℕ) (old new : Option (List ℕ)) (lines : List ℕ) : Type 0 where
  pub part : List ℕ
  pub cut : lines ≡ part ++ kept
  pub put : Appends old new part

-- the same, or a part of them was put where the sink failed or memory ran out
abbrev pub PutsOrKeeps : List ℕ → Result (Unit {0}) Stop → List ℕ → Option (List ℕ) → Option (List ℕ) → Type 0
PutsOrKeeps lines (Ok done) kept old new = PutsBut kept old new lines
PutsOrKeeps lines (Err Full) kept old new = ⊥
PutsOrKeeps lines (Err Failed) kept old new = AppendsPart old new lines
PutsOrKeeps lines (Err Memory) kept old new = AppendsPart old new lines

-- how a play ends that an item stopped: behind a refused entry the gathered lines are put, at want of memory they aren't
abbrev pub EndsAs : Stop → List ℕ → Stop → Option (List ℕ) → Option (List ℕ) → Type 0
EndsAs Full lines Full old new = Appends old new lines
EndsAs Full lines Failed old new = AppendsPart old new lines
EndsAs Full lines Memory old new = AppendsPart old new lines
EndsAs Failed lines result old new = ⊥
EndsAs Memory lines Full old new = ⊥
EndsAs Memory lines Failed old new = ⊥
EndsAs Memory lines Memory old new = (new ≡ old)
