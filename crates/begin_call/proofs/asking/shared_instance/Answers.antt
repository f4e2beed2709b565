use Rattle.std.proofs.Common.{◌≡◌, true, sym, ap, ◌∙◌}
use Rattle.std.specs.Option.{option_map}
use Rattle.kernel_model.specs.Instances.{is_single}
use Rattle.kernel_state.specs.Setup.{application_of}
use Rattle.begin_call.proofs.Sharing.{asked_least, asked_never, asked_none, asked_there, shared_is_kept}
use Rattle.begin_call.specs.Asking.{shown}
use Rattle.begin_call.proofs.asking.shared_instance.Goals as goal

-- no instance of the application is kept
pub returns-in_err-number-clause-shared : goal.returns-in_err-number-clause-shared
returns-in_err-number-clause-shared c =
    c.from_residual.ensures
    ∙ sym (ap (option_map shown) (asked_none c.args.tables.now.instances (application_of c.args.app.now) c.uuid.result c.uuid.ensures (sym c.in_err-number.ensures)))

pub returns-in_err-number-clause-kept : goal.returns-in_err-number-clause-kept
returns-in_err-number-clause-kept c number instance =
    asked_never c.args.tables.now.instances (application_of c.args.app.now) number instance
    (asked_none c.args.tables.now.instances (application_of c.args.app.now) c.uuid.result c.uuid.ensures (sym c.in_err-number.ensures))

-- one is: then it is kept under its number
pub returns-in_err-instance-clause-shared : goal.returns-in_err-instance-clause-shared
returns-in_err-instance-clause-shared c =
    absurd (shared_is_kept c.args.tables.now.instances c.uuid.result c.in_ok-number.number c.get.ensures.instances.rising (sym c.in_ok-number.ensures) (sym c.in_err-instance.ensures.instance))

pub returns-in_err-instance-clause-kept : goal.returns-in_err-instance-clause-kept
returns-in_err-instance-clause-kept c =
    absurd (shared_is_kept c.args.tables.now.instances c.uuid.result c.in_ok-number.number c.get.ensures.instances.rising (sym c.in_ok-number.ensures) (sym c.in_err-instance.ensures.instance))

pub returns-clause-shared : goal.returns-clause-shared
returns-clause-shared c =
    let single : is_single (application_of c.args.app.now) ≡ true = sym c.if-not-is_single.ensures in
    sym (ap (option_map shown) (asked_least c.args.tables.now.instances (application_of c.args.app.now) c.uuid.result c.in_ok-number.number c.in_ok-instance.instance.now
    c.uuid.ensures c.get.ensures.instances.rising single (sym c.in_ok-number.ensures) (sym c.in_ok-instance.ensures.instance)))

pub returns-clause-kept : goal.returns-clause-kept
returns-clause-kept c =
    let single : is_single (application_of c.args.app.now) ≡ true = sym c.if-not-is_single.ensures in
    asked_there c.args.tables.now.instances (application_of c.args.app.now) c.uuid.result c.in_ok-number.number c.in_ok-instance.instance.now
    c.uuid.ensures c.get.ensures.instances.rising single (sym c.in_ok-number.ensures) (sym c.in_ok-instance.ensures.instance)
