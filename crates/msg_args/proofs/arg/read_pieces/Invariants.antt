use Rattle.std.proofs.Common.{◌≡◌, ℕ, ◌<◌, true, [], get_or, map, take}
use Rattle.msg_args.specs.Reading.{param_at, has_attribute}
use Rattle.msg_args.proofs.arg.read_pieces.Given as goal

abbrev pub invariant-loop-number : goal.invariant-loop-number
invariant-loop-number l =
    (l.params.items ≡ map param_at (take l.number l.spelled)) × ((k : ℕ) → k < l.number → has_attribute (get_or l.spelled k []) ≡ true)
