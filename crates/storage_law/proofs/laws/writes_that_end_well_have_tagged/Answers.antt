use Rattle.storage_law.proofs.TaggedWrites.{has_tagged as law}
use Rattle.storage_law.proofs.laws.writes_that_end_well_have_tagged.Goals as goal

pub returns : goal.returns
returns c = law
