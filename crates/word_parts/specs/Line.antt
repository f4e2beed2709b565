-- The line of an input that leaves its grammar, as bytes.
use Rattle.std.specs.Prelude.{ℕ, List, [], ◌∷◌, ◌++◌, codes}
use Rattle.std.specs.Fmt.{decimal}
use Rattle.trace_text.specs.declared.fault.BadKind.{BadKind}
use Rattle.trace_text.specs.Fault.{kind_word}

-- `bad trace PLACE KIND`
abbrev pub bad_trace_line : ℕ → BadKind → List ℕ
bad_trace_line place kind = codes "bad trace " ++ decimal place ++ 32 ∷ kind_word kind ++ 10 ∷ []
