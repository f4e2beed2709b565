-- The words of a command line.
use Rattle.std.specs.Prelude.{ℕ, ◌==◌, if◌then◌else◌, List, []}
use Rattle.std.specs.List.{slice_split}
use Rattle.std.specs.Str.{is_utf8}

-- what stands between its spaces; none where it is not UTF-8
abbrev pub texts_in : List ℕ → List (List ℕ)
texts_in line = if is_utf8 line then slice_split (λ byte. byte == 32) line else []
