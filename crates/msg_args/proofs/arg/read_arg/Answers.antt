use Rattle.std.proofs.Common.{◌∙◌, arith}
use Rattle.msg_args.proofs.Spellings.{found, spelled_is_read}
use Rattle.msg_args.proofs.arg.read_arg.Goals as goal

pub returns-clause-found : goal.returns-clause-found
returns-clause-found c = found c.args.bytes.now c.read.result (λ i. omega (arith, c.type_inv.bytes i)) c.read.ensures

pub returns-clause-only : goal.returns-clause-only
returns-clause-only c = λ arg spells. c.read.ensures ∙ spelled_is_read c.args.bytes.now arg spells
