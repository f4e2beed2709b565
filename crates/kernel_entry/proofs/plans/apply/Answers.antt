use Rattle.std.proofs.Common.{sym, subst}
use Rattle.kernel_model.specs.Kernel as model
use Rattle.kernel_state.specs.Setup.{booted_of_setup}
use Rattle.new_calls.specs.Applying.{CanApply}
use Rattle.new_calls.specs.Deciding.{call_found, taken_of}
use Rattle.kernel_entry.specs.Applying.{IsTaken, meant_by}
use Rattle.kernel_entry.proofs.Pinned.{can_take, pages_pinned, pinned_is}
use Rattle.kernel_entry.proofs.plans.apply.Goals as goal

pub pin_argument-requires : goal.pin_argument-requires
pin_argument-requires c = c.requires.takes.pins

pub apply_plan-requires-clause-takes : goal.apply_plan-requires-clause-takes
apply_plan-requires-clause-takes c =
    can_take c.args.tables.now c.pin_argument.new.registry c.args.entered.now c.args.plan c.pin_argument.ensures c.requires.takes

pub returns-clause-taken : goal.returns-clause-taken
returns-clause-taken c boot keyed applies =
    let entered = c.args.entered.now in
    let is = pinned_is c.args.tables.now c.pin_argument.new.registry entered c.pin_argument.ensures in
    subst (λ (t : model.Tables). IsTaken (meant_by entered c.args.plan) entered c.apply_plan.new.tables c.apply_plan.new.cont
    (taken_of (call_found boot t entered) c.args.plan)) is
    (c.apply_plan.ensures.taken boot keyed
    (subst (λ (t : model.Tables). CanApply (call_found boot t entered) c.args.plan) (sym is) applies))

pub returns-clause-pages : goal.returns-clause-pages
returns-clause-pages c setup applies has =
    let entered = c.args.entered.now in
    let is = pinned_is c.args.tables.now c.pin_argument.new.registry entered c.pin_argument.ensures in
    c.apply_plan.ensures.pages setup
    (subst (λ (t : model.Tables). CanApply (call_found (booted_of_setup setup) t entered) c.args.plan) (sym is) applies)
    (pages_pinned setup c.args.tables.now c.pin_argument.new.registry has)
