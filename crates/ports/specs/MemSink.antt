-- What contracts see of a sink over memory, and what `put` does to it.
use Rattle.std.specs.Prelude.{ℕ, List, ◌++◌}
use Rattle.ports.specs.declared.sink.Put.{Put}
use Rattle.ports.specs.declared.sink.Put.TheVariants.{Done, Failed, Memory}
use Rattle.ports.specs.FaultPlan.{Plan, passed, failed}

-- the bytes that it holds, and which calls fail
pub record SinkState : Type 0 where
  pub held : List ℕ
  pub plan : Plan

-- the sink after a call of `put` with these bytes that came to this
abbrev pub after_put : SinkState → List ℕ → Put → SinkState
after_put s bytes Done = record { held = s.held ++ bytes; plan = passed s.plan }
after_put s bytes Failed = record { held = s.held; plan = failed s.plan }
after_put s bytes Memory = record { held = s.held; plan = passed s.plan }
