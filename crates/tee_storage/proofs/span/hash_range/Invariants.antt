use Rattle.std.proofs.Common.{◌-◌, ℕ, ◌≤◌, ◌++◌, List, take}
use Rattle.hmac.specs.Hashing.{Holds}
use Rattle.tee_storage.proofs.span.hash_range.Given as goal

abbrev pub invariant-loop-done : goal.invariant-loop-done
invariant-loop-done g l = record {
  within : l.done ≤ l.len;
  holds : (key message : List ℕ) → Holds l.fn.hasher key message → Holds l.hasher key (message ++ take l.done (g.M.Span.bytes l.span));
}

abbrev pub decreases-loop-done : goal.decreases-loop-done
decreases-loop-done g l = l.len - l.done
