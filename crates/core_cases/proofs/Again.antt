-- A text has one trace.
use Rattle.std.proofs.Common.{◌≡◌, ◌∙◌, ℕ, List, Some, ap}
use Rattle.ta_isa.specs.declared.boot.Boot.{Boot}
use Rattle.trace_text.proofs.GrammarLaws.{every_text}
use Rattle.trace_text.specs.Grammar.{Spells}
use Rattle.trace_text.specs.declared.trace.Trace.{Trace}

pub boot_of_one : (natives : List (List ℕ)) (text : List ℕ) (one other : Trace) (boot : Boot) → Spells natives text one
    → Spells natives text other → other.boot ≡ Some boot → one.boot ≡ Some boot
boot_of_one natives text one other boot first second is =
    ap (λ (trace : Trace). trace.boot) ((every_text natives text).one_value one other first second) ∙ is
