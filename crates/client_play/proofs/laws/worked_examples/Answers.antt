use Rattle.std.proofs.Common.{refl}
use Rattle.base.specs.Zeros.{zeros}
use Rattle.std.specs.Fmt.{digits}
use Rattle.hex.proofs.OnLiterals.{hex_on_literals}
use Rattle.client_play.proofs.laws.worked_examples.Goals as goal

pub returns : goal.returns
unfolding zeros digits hex_on_literals
returns c = record {
  adds = refl;
  places = refl;
  opens = refl;
  replies = refl;
  outputs = refl;
  closed = refl;
  cancelled = refl;
  nothing = refl;
  holds_time = refl;
  holds_create = refl;
  holds_write = refl;
  holds_none = refl;
  value = refl;
  input = refl;
  memory = refl;
  too_large = refl;
  told_input = refl;
  told_memory = refl;
  told_larger = refl;
  value_in_words = refl;
  memory_in_words = refl;
}
