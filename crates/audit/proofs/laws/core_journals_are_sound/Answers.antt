use Rattle.audit.proofs.SoundJournals.{core_journals_are_sound as law}
use Rattle.audit.proofs.laws.core_journals_are_sound.Goals as goal

pub returns : goal.returns
returns c = law
