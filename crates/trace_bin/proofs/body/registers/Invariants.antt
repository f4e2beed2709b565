use Rattle.std.proofs.Common.{◌≡◌, ◌++◌, drop, length, map, take}
use Rattle.std.specs.List.{list_all}
use Rattle.trace_bin.specs.Record.{is_register, register, register_places}
use Rattle.trace_bin.proofs.body.registers.Given as goal

abbrev pub invariant-loop-number : goal.invariant-loop-number
invariant-loop-number l = record {
  whole : length l.regs ≡ 8;
  forms : list_all (is_register l.body) (drop l.number register_places) ≡ list_all (is_register l.body) register_places;
  read : take l.number l.regs ++ map (register l.body) (drop l.number register_places) ≡ map (register l.body) register_places;
}
