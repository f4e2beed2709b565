use Rattle.std.proofs.Common.{◌∙◌}
use Rattle.realm_notes.proofs.KeptNumbers.{kept_at}
use Rattle.realm_notes.proofs.sessions.keep.Goals as goal

pub returns : goal.returns
returns c = c.in_ok-insert.ensures.entries ∙ kept_at c.args.numbers.now.entries c.args.at c.args.number
