use Rattle.session_compare.proofs.RealmReading.{read_so}
use Rattle.session_compare.proofs.realms.LogReaderReadsLog.read.Goals as goal

pub reads-requires-clause-reading : goal.reads-requires-clause-reading
reads-requires-clause-reading c = c.requires.fits

pub reads-requires-clause-few : goal.reads-requires-clause-few
reads-requires-clause-few c = c.requires.few

pub returns : goal.returns
returns c = read_so c.args.self.now c.reads.new.self c.args.event.now c.reads.result c.reads.ensures
