use Rattle.std.proofs.Common.{◌≤◌, arith, sym, ◌∙◌}
use Rattle.event_log.proofs.Lasting.{above_passes, entry_kept, exit_passes}
use Rattle.event_log.proofs.last_entries.LastEntries.push.Goals as goal

pub invariant_of-self : goal.invariant_of-self
invariant_of-self c =
    entry_kept c.self.inside.by_cpu.items c.self.inside.past.items c.with-self-inside.result.items c.args.event c.self.invariant
    c.with-self-inside.ensures c.in-Some.cpu c.from-at.result (sym c.who_entered-entered.ensures ∙ c.in-Some.is) c.from-at.ensures

pub invariant_of-self-then-at-lt-MOST_CPUS-2 : goal.invariant_of-self-then-at-lt-MOST_CPUS-2
invariant_of-self-then-at-lt-MOST_CPUS-2 c =
    entry_kept c.self.inside.by_cpu.items c.self.inside.past.items c.with-self-inside.result.items c.args.event c.self.invariant
    c.with-self-inside.ensures c.in-Some.cpu c.from-at.result (sym c.who_entered-entered.ensures ∙ c.in-Some.is) c.from-at.ensures

pub invariant_of-self-then-at-lt-MOST_CPUS-3 : goal.invariant_of-self-then-at-lt-MOST_CPUS-3
invariant_of-self-then-at-lt-MOST_CPUS-3 c =
    entry_kept c.self.inside.by_cpu.items c.self.inside.past.items c.with-self-inside.result.items c.args.event c.self.invariant
    c.with-self-inside.ensures c.in-Some.cpu c.from-at.result (sym c.who_entered-entered.ensures ∙ c.in-Some.is) c.from-at.ensures

pub invariant_of-self-else-at-lt-MOST_CPUS : goal.invariant_of-self-else-at-lt-MOST_CPUS
invariant_of-self-else-at-lt-MOST_CPUS c =
    let above : 8 ≤ c.in-Some.cpu = omega arith in
    above_passes c.self.inside.by_cpu.items c.self.inside.past.items c.with-self-inside.result.items c.args.event c.self.invariant
    c.with-self-inside.ensures c.in-Some.cpu (sym c.who_entered-entered.ensures ∙ c.in-Some.is) above

pub invariant_of-self-in_default-2 : goal.invariant_of-self-in_default-2
invariant_of-self-in_default-2 c =
    exit_passes c.self.inside.by_cpu.items c.self.inside.past.items c.with-self-inside.result.items c.args.event c.self.invariant
    c.with-self-inside.ensures (sym c.who_entered-entered.ensures ∙ c.in_default.is)
