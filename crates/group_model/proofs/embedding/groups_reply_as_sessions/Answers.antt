use Rattle.group_model.proofs.EmbeddedRuns.{replies_as_a_session as law}
use Rattle.group_model.proofs.embedding.groups_reply_as_sessions.Goals as goal

pub returns : goal.returns
returns c = law
