-- It is inside, and goes out as the kernel's exit does.
use Rattle.event_journal.specs.declared.event.Event.TheVariants.{Exit}
use Rattle.journal_replay.proofs.Left.{is_in, left, same_regs}
use Rattle.journal_replay.proofs.Next.{does_so}
use Rattle.journal_replay.proofs.replay.Replay.go_out.Goals as goal

pub returns-then-not-is_inside : goal.returns-then-not-is_inside
returns-then-not-is_inside c can =
    let inside = c.is_inside.ensures.1 (is_in c.args.self.now c.args.cpu c.args.regs.now can) in
    absurd cc

pub leave-out-requires : goal.leave-out-requires
leave-out-requires c = c.is_inside.ensures.0 c.if-not-is_inside.false

pub returns : goal.returns
returns c =
    let old = c.args.self.now in
    let cpu = c.args.cpu in
    let regs = c.args.regs.now in
    let out = c.leave-out.ensures in
    does_so old _ (Exit cpu regs) c.are_same_regs.result
    (λ same. left old cpu regs _ out.ran old.lane c.leave-out.new.lane c.leave-out.result.regs out.has_left out.its_own
    (c.are_same_regs.ensures.0 same))
    (λ can. c.are_same_regs.ensures.1 (same_regs old cpu regs can c.leave-out.new.self.core out.ran old.lane c.leave-out.new.lane
    c.leave-out.result.regs out.has_left out.its_own))
