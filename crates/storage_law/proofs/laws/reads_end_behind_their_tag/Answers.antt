use Rattle.storage_law.proofs.TaggedReads.{law as law}
use Rattle.storage_law.proofs.laws.reads_end_behind_their_tag.Goals as goal

pub returns : goal.returns
returns c = law
