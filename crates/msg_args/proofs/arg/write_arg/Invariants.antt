use Rattle.std.proofs.Common.{◌≡◌, ◌+◌, ◌*◌, ◌++◌, length, take}
use Rattle.std.specs.List.{flat_map}
use Rattle.msg_args.specs.Spelling.{head_bytes, param_bytes}
use Rattle.msg_args.proofs.arg.write_arg.Given as goal

abbrev pub invariant-loop-param : goal.invariant-loop-param
invariant-loop-param l =
    (l.bytes.items ≡ head_bytes l.arg.head ++ flat_map param_bytes (take l.param-index l.param-items)) × (length l.bytes.items ≡ 32 + 32 * l.param-index)
