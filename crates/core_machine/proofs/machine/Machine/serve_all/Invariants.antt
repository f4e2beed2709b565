use Rattle.std.proofs.Common.{◌+◌, ◌≤◌, length}
use Rattle.std.specs.Prelude.{vec_capacity, vec_len}
use Rattle.core_machine.proofs.Served.{ServedSo}
use Rattle.core_machine.proofs.machine.Machine.serve_all.Given as goal

-- so many have come, the rest can, and there is room for their answers
abbrev pub invariant-loop-served : goal.invariant-loop-served
invariant-loop-served l = record {
  so : ServedSo l.fn.self l.self l.fn.answers.items l.answers.items l.smcs l.served;
  room : vec_len l.answers + length l.smcs ≤ vec_capacity l.answers + l.served;
}
