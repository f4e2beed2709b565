use Rattle.journal_bytes.proofs.Finishing.{no_fault}
use Rattle.journal_bytes.proofs.reading.finish.Goals as goal

pub returns-in_default : goal.returns-in_default
returns-in_default c = absurd (no_fault c.args.recording.header c.in_default.field-0 c.requires c.in_default.ensures)
