use Rattle.std.proofs.Common.{sym, ap, ◌∙◌}
use Rattle.std.specs.Option.{option_map}
use Rattle.kernel_state.specs.Tables.{instance_of}
use Rattle.new_calls.specs.Deciding.{call_of}
use Rattle.new_calls.proofs.Naming.{instance_at, named_found, named_lost}
use Rattle.new_calls.proofs.call.CallAtEntry.named_session.Goals as goal

pub returns-in_default : goal.returns-in_default
returns-in_default c =
    let session = c.in_ok-session.session.now in
    named_lost (call_of c.args.self.now) session (sym c.in_ok-session.ensures) c.if-not-session.false c.if-session-self.false
    (instance_at c.args.self.now.tables.now.instances session.instance ∙ ap (option_map instance_of) (sym c.in_default.ensures.instance))

pub returns : goal.returns
returns c =
    let session = c.in_ok-session.session.now in
    named_found (call_of c.args.self.now) session (instance_of c.in-Some.instance.now) (sym c.in_ok-session.ensures) c.if-not-session.false c.if-session-self.false
    (instance_at c.args.self.now.tables.now.instances session.instance ∙ ap (option_map instance_of) (sym c.in-Some.ensures.instance))
