use Rattle.std.proofs.Common.{rules, sym, ◌∙◌}
use Rattle.rpc_cont.proofs.Returning.{next_begun}
use Rattle.rpc_cont.proofs.cont.Cont.follow.Goals as goal

pub returns-in-Some-clause-follows : goal.returns-in-Some-clause-follows
returns-in-Some-clause-follows g c owner here machine at memory flag =
    next_begun g.M.TaMemory.bytes owner c.args.image.now here machine c.args.self.now c.begin.new.self
    (g.M.TaMemory.bytes c.args.memory) c.in-Some.next c.pop_at.new.self.items
    (sym c.pop_at.ensures.value ∙ c.in-Some.is) (c.in-Some.ensures.items) memory flag (c.begin.ensures.begins owner)
    (search rules)
