use Rattle.std.proofs.Common.{sym, ◌∙◌}
use Rattle.new_calls.proofs.Pins.{pinned_as_argument}
use Rattle.new_calls.proofs.call.CallAtEntry.is_pinned.Goals as goal

pub returns-then-eq : goal.returns-then-eq
returns-then-eq c =
    let call = c.args.self.now in
    c.if-eq.true ∙ sym (pinned_as_argument call.entered.cookie call.tables.now.registry.pins call.entered.slot c.args.cookie (sym c.eq.ensures ∙ c.if-eq.true))
