use Rattle.new_calls.proofs.call.CallAtEntry.command.Goals as goal

pub returns-in-CloseSession-clause-decides : goal.returns-in-CloseSession-clause-decides
returns-in-CloseSession-clause-decides c = rw c.in-CloseSession.is (c.close_session.ensures.decides c.args.lane.now c.args.reads.now)

pub returns-in-Cancel-clause-decides : goal.returns-in-Cancel-clause-decides
returns-in-Cancel-clause-decides c = rw c.in-Cancel.is (c.cancel_calls.ensures.decides c.args.lane.now c.args.reads.now)
