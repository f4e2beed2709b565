use Rattle.word_parts.proofs.PuttingLemmas.{Puts-of}
use Rattle.word_parts.proofs.output.put_text.Goals as goal

pub returns-clause-text : goal.returns-clause-text
returns-clause-text g c =
    let e = c.put.ensures in
    Puts-of _ _ _ _ e.done (λ h. (e.failed h).1) e.memory
