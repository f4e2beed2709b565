use Rattle.std.proofs.Common.{refl}
use Rattle.hmac.proofs.examples.worked_examples.Goals as goal

pub returns : goal.returns
returns c = record {
  no_key = refl;
  short_key = refl;
  whole_key = refl;
  long_key = refl;
  inner = refl;
  outer = refl;
}
