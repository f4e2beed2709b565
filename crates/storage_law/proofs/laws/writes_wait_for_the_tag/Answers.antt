use Rattle.storage_law.proofs.TaggedWrites.{waits as law}
use Rattle.storage_law.proofs.laws.writes_wait_for_the_tag.Goals as goal

pub returns : goal.returns
returns c = law
