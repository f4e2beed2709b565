use Rattle.notify_text.proofs.WithoutSignals.{are_traces as law}
use Rattle.notify_text.proofs.laws.texts_without_signals_are_traces.Goals as goal

pub returns : goal.returns
returns c = law
