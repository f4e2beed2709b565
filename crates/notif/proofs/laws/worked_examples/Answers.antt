use Rattle.std.proofs.Common.{refl}
use Rattle.notif.specs.Desk.{driver_values, signal_values}
use Rattle.notif.specs.History.{owed_calls}
use Rattle.notif.proofs.laws.worked_examples.Goals as goal

pub returns : goal.returns
unfolding driver_values signal_values owed_calls
returns c = record {
  fresh = refl;
  too_early = refl;
  pending = refl;
  first = refl;
  last = refl;
  nothing = refl;
  taken = refl;
  noted_again = refl;
  counted_while_pending = refl;
  at_most = refl;
  answer = refl;
  called = refl;
  answer_again = refl;
  rising = refl;
  first_answer = refl;
  zero_passed_over = refl;
  stopped = refl;
  owed = refl;
}
