use Rattle.std.proofs.Common.{bit_xor, rules}
use Rattle.std.proofs.lemmas.List.Edits.{map_over_more}
use Rattle.std.proofs.lemmas.List.{take_all, drop_all}
use Rattle.hmac.proofs.blocks.masked.Goals as goal

pub loop-byte-preserved : goal.loop-byte-preserved
loop-byte-preserved c = search (rules, map_over_more (λ byte. bit_xor byte c.args.pad))

pub returns : goal.returns
returns c = search (rules, take_all, drop_all)
