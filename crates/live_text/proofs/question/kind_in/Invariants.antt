use Rattle.std.proofs.Common.{◌≡◌, drop, map}
use Rattle.live_text.specs.Asking.{kind_in}
use Rattle.live_text.proofs.question.kind_in.Given as goal

abbrev pub invariant-loop-name : goal.invariant-loop-name
invariant-loop-name l = kind_in (map (λ row. (row.0.now, row.1)) (drop l.name-index l.rows)) l.word ≡ kind_in (map (λ row. (row.0.now, row.1)) l.rows) l.word
