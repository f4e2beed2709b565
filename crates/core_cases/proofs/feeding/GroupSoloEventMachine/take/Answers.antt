use Rattle.group_solo.proofs.Feeding.{fed_on}
use Rattle.core_cases.proofs.feeding.GroupSoloEventMachine.take.Goals as goal

pub returns : goal.returns
returns c = λ events fed.
    fed_on c.args.self.now c.step.new.self c.args.event.now events c.step.result fed c.step.ensures.app c.step.ensures.ok
