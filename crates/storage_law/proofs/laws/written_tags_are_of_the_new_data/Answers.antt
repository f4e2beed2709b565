use Rattle.storage_law.proofs.TaggedWrites.{tags_new_data as law}
use Rattle.storage_law.proofs.laws.written_tags_are_of_the_new_data.Goals as goal

pub returns : goal.returns
returns c = law
