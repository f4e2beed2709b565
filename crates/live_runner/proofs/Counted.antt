-- The status of a conversation tells which fault the port counted.
use Rattle.std.proofs.Common.{◌≡◌, ℕ, Some, sym, subst, refl, arith}
use Rattle.line_port.specs.Faults.{faults_behind}
use Rattle.line_port.specs.declared.faults.Faults.{Faults}
use Rattle.line_port.specs.declared.finish.Finish.{Finish}
use Rattle.line_port.specs.declared.finish.Finish.TheVariants as finish
use Rattle.live_play.specs.Conversation.{status}
use Rattle.live_runner.specs.Program.{CountsFaults}

by_end : (end : Finish) (old new : Faults) → new ≡ faults_behind (Some end) old → CountsFaults (status end) old new
by_end finish.Over old new counted = record {
  read_fault = λ e. absurd (omega (arith, e));
  write_fault = λ e. absurd (omega (arith, e));
  stays = λ unread unsaid. counted;
}
by_end finish.ReadFault old new counted = record {
  read_fault = λ e. counted;
  write_fault = λ e. absurd (omega (arith, e));
  stays = λ unread unsaid. absurd (unread refl);
}
by_end finish.WriteFault old new counted = record {
  read_fault = λ e. absurd (omega (arith, e));
  write_fault = λ e. counted;
  stays = λ unread unsaid. absurd (unsaid refl);
}
by_end finish.Memory old new counted = record {
  read_fault = λ e. absurd (omega (arith, e));
  write_fault = λ e. absurd (omega (arith, e));
  stays = λ unread unsaid. counted;
}

pub faults-counted : (end : Finish) (result : ℕ) (old new : Faults) → result ≡ status end → new ≡ faults_behind (Some end) old
    → CountsFaults result old new
faults-counted end result old new told counted =
    let P : ℕ → Type 0 = λ n. CountsFaults n old new in subst P (sym told) (by_end end old new counted)
