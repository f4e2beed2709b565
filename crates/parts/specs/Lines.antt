-- The lines of a log.
use Rattle.std.specs.Prelude.{ℕ, List, map}
use Rattle.parts.specs.declared.log.Line.{Line}
use Rattle.parts.specs.declared.log.Log.{Log}

abbrev pub all_lines : Log → List Line
all_lines log = log.lines.items

abbrev pub writer : Line → ℕ
writer line = line.by

abbrev pub title : Log → ℕ
title log = log.title

-- the lines that write these words under a number
abbrev pub lines_by : ℕ → List ℕ → List Line
lines_by n words = map (λ w. record { by = n; word = w }) words
