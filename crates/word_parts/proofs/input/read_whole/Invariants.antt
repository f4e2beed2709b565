use Rattle.std.proofs.Common.{◌≡◌, ◌+◌, ◌-◌, ◌≤◌, vec_len}
use Rattle.ports.specs.Port.{Moves}
use Rattle.word_parts.specs.declared.input.TheConstants.{LONGEST_INPUT, CHUNK_BYTES}
use Rattle.word_parts.proofs.input.read_whole.Given as goal

-- the bytes so far were taken from the front of what was left
abbrev pub invariant-loop-bytes : goal.invariant-loop-bytes
invariant-loop-bytes g l = record {
  moved : Moves (g.S.Source.left l.fn.input) (g.S.Source.left l.input) l.bytes.items;
  stays : g.S.Source.faults l.input ≡ g.S.Source.faults l.fn.input;
  limit : vec_len l.bytes ≤ LONGEST_INPUT + 1;
  whole : vec_len l.chunk ≡ CHUNK_BYTES;
}

abbrev pub decreases-loop-bytes : goal.decreases-loop-bytes
decreases-loop-bytes g l = LONGEST_INPUT + 1 - vec_len l.bytes
