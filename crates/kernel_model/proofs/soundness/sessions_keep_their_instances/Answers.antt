use Rattle.kernel_model.proofs.SoundSessionsKept.{sessions_kept as law}
use Rattle.kernel_model.proofs.soundness.sessions_keep_their_instances.Goals as goal

pub returns : goal.returns
returns c = law
