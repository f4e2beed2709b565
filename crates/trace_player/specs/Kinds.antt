-- Kinds of plays, by what a processor is told that goes out.
use Rattle.std.specs.Prelude.{◌≡◌, ℕ, Option}
use Rattle.kernel_model.specs.Application.{Booted}
use Rattle.play_model.specs.Play.{Play, leaves}
use Rattle.trace_player.specs.Position.{Position, position_of}

-- how plays go on a core that was booted so: where a player stands in one; the same over another play of the kernel; and an exit, with
-- what is told
pub record Kind (P : Type 0) : Type 0 where
  pub boot : Booted
  pub position : P → Position
  pub over : P → Play → P
  pub goes_out : ℕ → P → Option P

-- the play that one is over
abbrev pub play_in : {P : Type 0} → Kind P → P → Play
play_in kind p = (kind.position p).play

-- it is the one that it was put over
pub record IsKind {P : Type 0} (kind : Kind P) : Type 0 where
  pub over : (before : P) (next : Play) → play_in kind (kind.over before next) ≡ next

-- the play of a trace, in which the kernel's answer is told
abbrev pub of_trace : Booted → Kind Play
of_trace boot = record {
  boot = boot;
  position = position_of;
  over = λ before next. next;
  goes_out = λ cpu before. leaves boot cpu before;
}
