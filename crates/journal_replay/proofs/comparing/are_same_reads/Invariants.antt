use Rattle.std.proofs.Common.{◌≡◌, take}
use Rattle.journal_replay.proofs.comparing.are_same_reads.Given as goal

abbrev pub invariant-loop-place : goal.invariant-loop-place
invariant-loop-place l = take l.place l.one ≡ take l.place l.other
