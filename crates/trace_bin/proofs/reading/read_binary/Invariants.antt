use Rattle.std.proofs.Common.{◌≤◌, ◌+◌, ◌-◌, length, drop}
use Rattle.trace_text.specs.Limits.{no_front}
use Rattle.trace_bin.specs.Grammar.{Leads}
use Rattle.trace_bin.proofs.reading.read_binary.Given as goal

abbrev pub invariant-loop-rest : goal.invariant-loop-rest
invariant-loop-rest l = record {
  some : 1 ≤ l.place;
  so_far : Leads l.natives no_front (drop 4 l.bytes) (l.place - 1) l.builder l.rest;
  few : l.place + length l.rest ≤ length l.bytes + 1;
}

abbrev pub decreases-loop-rest : goal.decreases-loop-rest
decreases-loop-rest l = length l.rest
