use Rattle.kernel_entry.proofs.deciding.decide_resume.Goals as goal

pub returns-in-Some-clause-decides : goal.returns-in-Some-clause-decides
returns-in-Some-clause-decides c kernel stands = rw c.in-Some.is at (c.in_ok-call.ensures.decides kernel stands)

pub returns-in-Some-clause-given : goal.returns-in-Some-clause-given
returns-in-Some-clause-given c = rw c.in-Some.is at c.in_ok-call.ensures.given

pub returns-in-Some-clause-found : goal.returns-in-Some-clause-found
returns-in-Some-clause-found c = rw c.in-Some.is at c.in_ok-call.ensures.found

pub returns-in-None-clause-decides : goal.returns-in-None-clause-decides
returns-in-None-clause-decides c kernel stands = rw c.code.ensures (rw c.in-None.is at (c.in_ok-call.ensures.decides kernel stands))
