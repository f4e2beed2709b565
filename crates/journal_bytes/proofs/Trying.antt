-- What so many records at the front of a journal's bytes tell, and what stands behind them.
use Rattle.std.proofs.Common.{ℕ, zero, suc, List, drop}
use Rattle.journal_bytes.specs.Recording.{nothing, Told}
use Rattle.journal_bytes.specs.Rules.{after_record, behind_record}

abbrev pub told_from : ℕ → Told → List ℕ → Told
told_from zero before bytes = before
told_from (suc count) before bytes = told_from count (after_record before bytes) (behind_record bytes)

abbrev pub rest_from : ℕ → List ℕ → List ℕ
rest_from zero bytes = bytes
rest_from (suc count) bytes = rest_from count (behind_record bytes)

abbrev pub told_after : ℕ → List ℕ → Told
told_after count bytes = told_from count nothing (drop 4 bytes)

abbrev pub rest_after : ℕ → List ℕ → List ℕ
rest_after count bytes = rest_from count (drop 4 bytes)
