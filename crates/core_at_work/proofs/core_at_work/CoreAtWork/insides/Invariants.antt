use Rattle.std.proofs.Common.{◌≡◌, map, take}
use Rattle.std.specs.Option.{is_some}
use Rattle.core_at_work.proofs.core_at_work.CoreAtWork.insides.Given as goal

-- those so far are in the list
abbrev pub invariant-loop-kept : goal.invariant-loop-kept
invariant-loop-kept l = l.inside.items ≡ map is_some (take l.kept-index l.self.outgoing.items)
