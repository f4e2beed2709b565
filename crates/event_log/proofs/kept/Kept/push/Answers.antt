use Rattle.std.proofs.Common.{◌≤◌, arith, sym, ap, ◌∙◌}
use Rattle.event_journal.specs.Journal.{Contents}
use Rattle.event_log.proofs.Lasting.{above_stays, exit_stays, place_kept}
use Rattle.event_log.proofs.kept.Kept.push.Goals as goal

pub invariant_of-self : goal.invariant_of-self
invariant_of-self c =
    place_kept c.self.inside.last c.self.inside.journal.events c.push.new.self.events c.args.event c.self.invariant
    (ap (λ (journal : Contents). journal.events) c.push.ensures) c.in-Some.cpu c.from-at.result c.len-place.result
    (sym c.who_entered-entered.ensures ∙ c.in-Some.is) c.from-at.ensures c.len-place.ensures

pub invariant_of-self-else-at-lt-MOST_CPUS : goal.invariant_of-self-else-at-lt-MOST_CPUS
invariant_of-self-else-at-lt-MOST_CPUS c =
    let above : 8 ≤ c.in-Some.cpu = omega arith in
    above_stays c.self.inside.last c.self.inside.journal.events c.push.new.self.events c.args.event c.self.invariant
    (ap (λ (journal : Contents). journal.events) c.push.ensures) c.in-Some.cpu
    (sym c.who_entered-entered.ensures ∙ c.in-Some.is) above

pub invariant_of-self-in_default : goal.invariant_of-self-in_default
invariant_of-self-in_default c =
    exit_stays c.self.inside.last c.self.inside.journal.events c.push.new.self.events c.args.event c.self.invariant
    (ap (λ (journal : Contents). journal.events) c.push.ensures)
    (sym c.who_entered-entered.ensures ∙ c.in_default.is)
