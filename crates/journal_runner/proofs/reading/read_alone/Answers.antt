use Rattle.std.proofs.Common.{arith}
use Rattle.journal_bytes.specs.Grammar.{whole_of}
use Rattle.journal_runner.proofs.Counted.{few_records}
use Rattle.journal_runner.proofs.reading.read_alone.Goals as goal

pub overflow_add-result : goal.overflow_add-result
overflow_add-result c =
    let few = few_records c.args.natives.now c.args.bytes.now (whole_of c.in_ok-read.read) c.in_ok-read.ensures.found in
    let short = c.requires in
    omega (arith, few, short)
