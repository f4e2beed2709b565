use Rattle.std.proofs.Common.{refl}
use Rattle.base.specs.Zeros.{zeros}
use Rattle.own_model.proofs.laws.worked_examples.Goals as goal

pub returns : goal.returns
unfolding zeros
returns c = record {
  at_once_events = refl;
  at_once_replies = (refl, refl);
  stepwise_events = refl;
  stepwise_replies = (refl, refl);
  at_once_alone = refl;
  opening = refl;
  opening_alone = refl;
  opening_ended = refl;
  closing_events = refl;
  woken_events_are = refl;
  woken_replies_are = (refl, refl);
  first_events = refl;
  first_replies = (refl, refl);
  second_events = refl;
  second_replies = (refl, refl);
  seen_events = refl;
  seen = (refl, refl);
  seen_waiting = (refl, refl);
  session_gone = (refl, refl);
  dead = (refl, refl);
  sleepless = (refl, refl);
  limited = (refl, refl);
  area_limited = (refl, refl);
  named_limited = (refl, refl);
  area_events_are = refl;
  area_replies_are = (refl, refl);
  named_events_are = refl;
  named_replies_are = (refl, refl);
  file_in_area = (refl, refl);
  sleeps_in_area = (refl, refl);
  area_cancelled = refl;
  masked_in_area_events = refl;
  masked_in_area_replies = (refl, refl);
  opened_in_area_events = refl;
  opened_in_area_replies = (refl, refl);
  limit_of_another = refl;
  woken_before = (refl, refl);
  open_failed = (refl, refl);
  create_failed = (refl, refl);
  open_panicked = (refl, refl);
  built_in = (refl, refl);
  built_in_open_events = refl;
  built_in_open = (refl, refl);
  faulty = refl;
}
