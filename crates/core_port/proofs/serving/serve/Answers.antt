-- The work of the entry, with its steps done, goes out.
use Rattle.core_port.proofs.serving.serve.Goals as goal

pub returns-clause-serves : goal.returns-clause-serves
returns-clause-serves c = record {
  between = c.enter.new.self.core;
  work = c.in_ok-enter.ensures.work;
  entered = c.in_ok-enter.ensures.entered;
  ran = c.leave-out.ensures.ran;
  cpu = c.leave-out.ensures.its_own;
  left = c.leave-out.ensures.has_left;
}
