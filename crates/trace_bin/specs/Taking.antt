-- What taking a record answers, in the words of the rules.
use Rattle.std.specs.Prelude.{◌≡◌, List, Bool, Option, None, Some, Result, Ok, Err}
use Rattle.trace_text.specs.declared.fault.BadKind.{BadKind}
use Rattle.trace_text.specs.declared.fault.LineFault.{LineFault}
use Rattle.trace_text.specs.declared.fault.LineFault.TheVariants.{Broken, NoRoom}
use Rattle.trace_text.specs.Limits.{first_broken}

-- this rule was broken, or memory ran out
abbrev pub IsRefused : LineFault → Option BadKind → Type 0
IsRefused (Broken kind) broken = broken ≡ Some kind
IsRefused NoRoom broken = Unit {0}

-- a record was taken: it keeps its rules, and leads from what stood before it to what stands after it; or it broke a rule; or
-- memory ran out
abbrev pub IsTakenTo : {X S : Type 0} → Result X LineFault → List (BadKind × Bool) → S → S → Type 0
IsTakenTo (Ok x) rules wanted after = (first_broken rules ≡ None) × (after ≡ wanted)
IsTakenTo (Err fault) rules wanted after = IsRefused fault (first_broken rules)
