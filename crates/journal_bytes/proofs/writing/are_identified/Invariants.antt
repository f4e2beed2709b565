use Rattle.std.proofs.Common.{ℕ, ◌<◌, get_or}
use Rattle.ta_isa.specs.declared.boot.App.{App}
use Rattle.trace_bin.specs.Spelling.{IsIdentified}
use Rattle.journal_bytes.proofs.writing.are_identified.Given as goal

abbrev pub invariant-loop-app : goal.invariant-loop-app
invariant-loop-app l = (k : ℕ) → k < l.app-index → (d : App) → IsIdentified (get_or l.apps k d)
