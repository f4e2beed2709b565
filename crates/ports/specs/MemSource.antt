-- What contracts see of a source over memory, and what `take` does to it.
use Rattle.std.specs.Prelude.{ℕ, List, drop}
use Rattle.ports.specs.declared.source.Taken.{Taken}
use Rattle.ports.specs.declared.source.Taken.TheVariants.{Bytes, End, Failed}
use Rattle.ports.specs.FaultPlan.{Plan, passed, failed}

-- the bytes that are left, and which calls fail
pub record SourceState : Type 0 where
  pub left : List ℕ
  pub plan : Plan

-- the source after a call of `take` that came to this
abbrev pub after_take : SourceState → Taken → SourceState
after_take s (Bytes n) = record { left = drop n s.left; plan = passed s.plan }
after_take s End = record { left = s.left; plan = passed s.plan }
after_take s Failed = record { left = s.left; plan = failed s.plan }
