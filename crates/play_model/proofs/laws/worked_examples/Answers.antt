use Rattle.std.proofs.Common.{refl}
use Rattle.base.specs.Zeros.{zeros}
use Rattle.std.specs.Fmt.{digits}
use Rattle.hex.proofs.OnLiterals.{hex_on_literals}
use Rattle.play_model.proofs.laws.worked_examples.Goals as goal

pub returns : goal.returns
unfolding zeros digits hex_on_literals
returns c = record {
  register = refl;
  small_register = refl;
  ret = refl;
  mem = refl;
  nothing = refl;
  fast_call = refl;
  open_invoke_close = refl;
  other_client = refl;
  copied_once = refl;
  three_processors = refl;
  suspended = refl;
  woken = refl;
  last_answers = refl;
  ends = refl;
  open_within = refl;
  open_above = refl;
  opens_within = refl;
  opens_above = refl;
  none_outside = refl;
  none_inside = refl;
}
