use Rattle.std.proofs.lemmas.Result.{IfOk-weaker}
use Rattle.realm_notes.proofs.log_reader.LogReader.reads_all.Goals as goal

pub read_all-requires-clause-on : goal.read_all-requires-clause-on
read_all-requires-clause-on c = c.requires.reading

pub returns-clause-reading : goal.returns-clause-reading
returns-clause-reading c =
    IfOk-weaker c.read_all.result _ _ (λ log all. record {
      booted = all.boot;
      events = all.done;
      of_realm = all.subject;
      reading = all.reading;
    }) c.read_all.ensures

pub returns-clause-log : goal.returns-clause-log
returns-clause-log c = IfOk-weaker c.read_all.result _ _ (λ log all. all.whole) c.read_all.ensures
