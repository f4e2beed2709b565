use Rattle.journal_replay.proofs.Next.{replays_are_faultless as law}
use Rattle.journal_replay.proofs.laws.replays_are_faultless.Goals as goal

pub returns : goal.returns
returns c = law
