use Rattle.std.proofs.Common.{◌≡◌, drop, map}
use Rattle.client_text.specs.Forms.{key_in}
use Rattle.client_text.proofs.param_key.key_in.Given as goal

abbrev pub invariant-loop-name : goal.invariant-loop-name
invariant-loop-name l = key_in (map (λ row. (row.0.now, row.1)) (drop l.name-index l.rows)) l.word ≡ key_in (map (λ row. (row.0.now, row.1)) l.rows) l.word
