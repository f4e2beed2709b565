use Rattle.std.proofs.Common.{refl}
use Rattle.hex.specs.Hex.{decode_pairs}
use Rattle.workload.specs.Message.{head, param}
use Rattle.workload.specs.Work.{add_image, items_of, open_argument}
use Rattle.workload.proofs.laws.worked_examples.Goals as goal

pub returns : goal.returns
unfolding decode_pairs head param add_image items_of open_argument
returns c = record { image = refl; argument = refl; most_calls = refl; first = refl; no_call = refl; one_call = refl }
