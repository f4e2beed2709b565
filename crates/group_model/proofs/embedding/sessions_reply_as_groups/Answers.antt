use Rattle.group_model.proofs.EmbeddedRuns.{replies_as_a_group as law}
use Rattle.group_model.proofs.embedding.sessions_reply_as_groups.Goals as goal

pub returns : goal.returns
returns c = law
