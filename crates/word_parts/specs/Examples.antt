-- Lines of inputs that are no trace, computed.
use Rattle.std.specs.Prelude.{◌≡◌, [], ◌∷◌, ◌++◌, codes}
use Rattle.trace_text.specs.declared.fault.BadKind.TheVariants.{Cut, Unended}
use Rattle.word_parts.specs.Line.{bad_trace_line}

pub record Examples : Type 0 where
  pub cut : bad_trace_line 2 Cut ≡ codes "bad trace 2 cut" ++ 10 ∷ []
  pub unended : bad_trace_line 12 Unended ≡ codes "bad trace 12 unended" ++ 10 ∷ []
