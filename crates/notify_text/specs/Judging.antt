-- What the private functions of the judge answer, in the words of the rules.
use Rattle.std.specs.Prelude.{ℕ, List, [], ◌∷◌, Bool}
use Rattle.notify_text.specs.Rules.{is_signal}
use Rattle.trace_text.specs.Forms.{decimal, is_decimal}
use Rattle.trace_text.specs.Limits.{is_within}
use Rattle.trace_text.specs.Rules.{counts, word}
use Rattle.trace_text.specs.declared.fault.BadKind.{BadKind}
use Rattle.trace_text.specs.declared.fault.BadKind.TheVariants as bad

-- the rules of a line that begins none of a trace: it is a signal's, behind a boot or not
abbrev pub other_line : Bool → List (List ℕ) → List (BadKind × Bool)
other_line booted words =
    (bad.Item, is_signal words)
    ∷ (bad.Count, counts 1 words)
    ∷ (bad.Place, booted)
    ∷ (bad.Number, is_decimal (word words 1))
    ∷ (bad.Range, is_within 1 63 (decimal (word words 1)))
    ∷ []
