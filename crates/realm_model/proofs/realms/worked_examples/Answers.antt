use Rattle.std.proofs.Common.{refl}
use Rattle.base.specs.Zeros.{zeros}
use Rattle.realm_model.proofs.realms.worked_examples.Goals as goal

pub returns : goal.returns
unfolding zeros
returns c = record {
  events = refl;
  replies = refl;
  at_once_agrees = (refl, refl);
  stepwise = (refl, refl);
  woken_agrees = (refl, refl);
  first = (refl, refl);
  second = (refl, refl);
  seen = (refl, refl);
  seen_waiting = (refl, refl);
  session_gone = (refl, refl);
  dead = (refl, refl);
  sleepless = (refl, refl);
  limited = (refl, refl);
  area_agrees = (refl, refl);
  named_agrees = (refl, refl);
  masked = (refl, refl);
  opened_in_area_agrees = (refl, refl);
  woken_before = (refl, refl);
  open_failed = (refl, refl);
  create_failed = (refl, refl);
  open_panicked = (refl, refl);
  built_in = (refl, refl);
}
