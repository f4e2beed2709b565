use Rattle.std.proofs.Common.{refl}
use Rattle.base.specs.Zeros.{zeros}
use Rattle.std.specs.Fmt.{digits}
use Rattle.hex.proofs.OnLiterals.{hex_on_literals}
use Rattle.ordered_play.proofs.ExampleParts.{no_part, part}
use Rattle.ordered_play.proofs.laws.worked_examples.Goals as goal

pub returns : goal.returns
unfolding zeros digits hex_on_literals
returns c = record {
  acts = refl;
  placed = refl;
  full = refl;
  one_by_one = refl;
  second_first = refl;
  in_turns = refl;
  too_many_turns = refl;
  no_processor = refl;
  too_few_turns = refl;
  last_answers = refl;
  one_thread = refl;
  one_thread_in_turn = refl;
  no_more = refl;
  others_go_on = refl;
  refusal_shows = refl;
  none_shows = refl;
  no_boot = refl;
  part = part;
  no_part = no_part;
  places = refl;
  printed = refl;
  smcs = refl;
  refused_before = refl;
  refused_behind = refl;
  both_refused = refl;
  none_refused = refl;
  without_items = refl;
}
