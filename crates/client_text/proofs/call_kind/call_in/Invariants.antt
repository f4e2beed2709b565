use Rattle.std.proofs.Common.{◌≡◌, drop, map}
use Rattle.client_text.specs.Rules.{call_in}
use Rattle.client_text.proofs.call_kind.call_in.Given as goal

abbrev pub invariant-loop-name : goal.invariant-loop-name
invariant-loop-name l = call_in (map (λ row. (row.0.now, row.1)) (drop l.name-index l.rows)) l.word ≡ call_in (map (λ row. (row.0.now, row.1)) l.rows) l.word
