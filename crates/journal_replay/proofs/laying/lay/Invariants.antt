use Rattle.std.proofs.Common.{take}
use Rattle.journal_replay.specs.Laying.{AreOfOneRam}
use Rattle.ns_ram.specs.Reads.{HoldsReads}
use Rattle.journal_replay.proofs.laying.lay.Given as goal

abbrev pub invariant-loop-read : goal.invariant-loop-read
invariant-loop-read l = AreOfOneRam l.reads → HoldsReads l.lane (take l.read-index l.reads)
