use Rattle.event_journal.specs.declared.event.Event.TheVariants.{Exit}
use Rattle.journal_replay.proofs.Compared.{last_is, not_none}
use Rattle.journal_replay.proofs.comparing.last_has_left.Goals as goal

pub returns-in-Some : goal.returns-in-Some
returns-in-Some c before cpu told is =
    c.has_left.ensures cpu told
    (last_is c.args.events.now before (Exit cpu told) c.in-Some.last.now is c.in-Some.ensures.value)

pub returns-in-None : goal.returns-in-None
returns-in-None c before cpu told is =
    absurd (not_none c.args.events.now before (Exit cpu told) is c.in-None.ensures.value)
