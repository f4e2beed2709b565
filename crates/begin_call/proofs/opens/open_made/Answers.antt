use Rattle.begin_call.proofs.OpensMade.{begun_made}
use Rattle.begin_call.proofs.opens.open_made.Goals as goal

pub returns-clause-begins : goal.returns-clause-begins
returns-clause-begins c boot =
    begun_made boot c.args.tables.now c.number_for-number.new.tables c.open_new.new.tables c.args.cont.now c.open_new.new.cont c.args.call c.number_for-number.result
    c.number_for-number.ensures.number c.number_for-number.ensures.behind c.number_for-number.ensures.stays (c.open_new.ensures.begins boot)
