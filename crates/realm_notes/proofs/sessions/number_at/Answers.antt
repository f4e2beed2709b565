use Rattle.std.proofs.Common.{◌∙◌}
use Rattle.realm_notes.proofs.KeptNumbers.{found_at}
use Rattle.realm_notes.proofs.sessions.number_at.Goals as goal

pub returns : goal.returns
returns c = c.copied.ensures ∙ c.get.ensures.value ∙ found_at c.args.numbers.now.entries c.args.at
