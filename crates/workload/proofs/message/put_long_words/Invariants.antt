use Rattle.std.proofs.Common.{◌≡◌, ◌++◌, take}
use Rattle.workload.specs.Message.{long_words}
use Rattle.workload.proofs.message.put_long_words.Given as goal

abbrev pub invariant-loop-number : goal.invariant-loop-number
invariant-loop-number l = l.out.items ≡ l.initial.out.items ++ long_words (take l.number-index l.numbers)
