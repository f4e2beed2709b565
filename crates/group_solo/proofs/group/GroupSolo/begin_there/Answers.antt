use Rattle.std.proofs.Common.{Some, refl}
use Rattle.begin_call.specs.Points.{points_of}
use Rattle.group_model.specs.Group.{gives_up}
use Rattle.job_model.specs.declared.call_kind.CallKind.TheVariants as kind
use Rattle.kernel_model.specs.Codes.{bad_parameters}
use Rattle.group_solo.proofs.Onward.{beginner, by_kind, closing_at, comes_same, gone_there, kept_at, some_same}
use Rattle.group_solo.specs.Standing.{app_in}
use Rattle.group_solo.proofs.group.GroupSolo.begin_there.Goals as goal

pub returns-in-Open-clause-begins : goal.returns-in-Open-clause-begins
returns-in-Open-clause-begins c g next w session instance beside is number waits there found e =
    let s = c.args.self.now in
    let call = c.args.call.now in
    let points = points_of c.opening-points.result in
    comes_same c.go_on.new.self c.go_on.new.call c.args.number g _ _
    (some_same _ next (by_kind (app_in s) g next w session call.cont.kind kind.Open (Some instance) is.alone.kind c.in-Open.is e))
    (gone_there (app_in s) (app_in s) c.go_on.new.self c.go_on.new.call g w session instance c.args.number points _ found refl number
    (kept_at s g call w.call points c.destroys.result beside is c.opening-points.ensures c.destroys.ensures)
    (λ at. c.go_on.ensures.goes_on g (beginner w session instance) beside is number waits there at))

pub returns-in-Invoke-clause-begins : goal.returns-in-Invoke-clause-begins
returns-in-Invoke-clause-begins c g next w session instance beside is number waits there found e =
    let s = c.args.self.now in
    let call = c.args.call.now in
    let points = points_of c.only-points.result in
    comes_same c.go_on-in-Invoke.new.self c.go_on-in-Invoke.new.call c.args.number g _ _
    (some_same _ next (by_kind (app_in s) g next w session call.cont.kind (kind.Invoke c.in-Invoke.func) (Some instance) is.alone.kind c.in-Invoke.is e))
    (gone_there (app_in s) (app_in s) c.go_on-in-Invoke.new.self c.go_on-in-Invoke.new.call g w session instance c.args.number points _ found refl number
    c.only-points.ensures
    (λ at. c.go_on-in-Invoke.ensures.goes_on g (beginner w session instance) beside is number waits there at))

pub returns-in-Close-clause-begins : goal.returns-in-Close-clause-begins
returns-in-Close-clause-begins c g next w session instance beside is number waits there found e =
    let s = c.args.self.now in
    let call = c.args.call.now in
    let points = points_of c.closing-points.result in
    comes_same c.go_on-in-Close.new.self c.go_on-in-Close.new.call c.args.number g _ _
    (some_same _ next (by_kind (app_in s) g next w session call.cont.kind kind.Close (Some instance) is.alone.kind c.in-Close.is e))
    (gone_there (app_in s) (app_in s) c.go_on-in-Close.new.self c.go_on-in-Close.new.call g w session instance c.args.number points _ found refl number
    (closing_at s g call w.call points c.destroys_beside.result beside is c.closing-points.ensures c.destroys_beside.ensures)
    (λ at. c.go_on-in-Close.ensures.goes_on g (beginner w session instance) beside is number waits there at))

pub returns-in-Settled-clause-begins : goal.returns-in-Settled-clause-begins
returns-in-Settled-clause-begins c g next w session instance beside is number waits there found e =
    comes_same c.give_up.new.self c.give_up.new.call c.args.number g _ _
    (some_same (gives_up g w bad_parameters) next
    (by_kind (app_in c.args.self.now) g next w session c.args.call.now.cont.kind kind.Settled (Some instance) is.alone.kind c.in-Settled.is e))
    (c.give_up.ensures.gives_up g w beside is number)
