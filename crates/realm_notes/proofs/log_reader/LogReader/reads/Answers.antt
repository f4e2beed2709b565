use Rattle.realm_notes.proofs.ReadOn.{reads_so}
use Rattle.realm_notes.proofs.log_reader.LogReader.reads.Goals as goal

pub read-requires-clause-on : goal.read-requires-clause-on
read-requires-clause-on c = c.requires.reading

pub returns : goal.returns
returns c =
    reads_so c.args.self.now (record { replay = c.read.new.replay; notes = c.read.new.notes }) c.args.event.now c.read.result c.read.ensures
