use Rattle.std.proofs.Common.{Some, refl, ap}
use Rattle.begin_call.specs.Points.{points_of}
use Rattle.group_model.specs.Group.{made}
use Rattle.group_solo.proofs.Onward.{beginner, comes_same, gone_at, new_points, placed, spare_made, with_room, without_room}
use Rattle.group_solo.specs.Standing.{app_in}
use Rattle.group_solo.proofs.group.GroupSolo.open_again.Goals as goal

pub returns-in-None-clause-opens : goal.returns-in-None-clause-opens
returns-in-None-clause-opens c g w session enough beside is number waits there told =
    comes_same c.give_up.new.self c.give_up.new.call c.args.number g _ _
    (without_room (app_in c.args.self.now) g w session enough c.args.call.now.room c.args.spare.instance c.requires.spare is.room told c.in-None.is)
    (c.give_up.ensures.gives_up g w beside is number)

pub returns-in-Some-clause-opens : goal.returns-in-Some-clause-opens
returns-in-Some-clause-opens c g w session enough beside is number waits there told =
    let s = c.args.self.now in
    let placing = c.place in
    let room = c.args.call.now.room in
    let points = points_of c.opening-points.result in
    comes_same c.go_on.new.self c.go_on.new.call c.args.number g _ _
    (with_room (app_in s) g w session enough room c.args.spare.instance c.in-Some.kept c.requires.spare is.room told c.in-Some.is)
    (gone_at (app_in placing.new.self) (app_in s) c.go_on.new.self c.go_on.new.call g (Some (w.call.instance, made (app_in s))) w session (made (app_in s)) c.args.number
    points _ (ap app_in placing.ensures.stays) number
    (new_points s g c.args.call.now.instance w.call.instance points c.destroys.result beside is.instance c.opening-points.ensures c.destroys.ensures)
    (c.go_on.ensures.goes_on (record g { instance = Some (w.call.instance, made (app_in s)) }) (beginner w session (made (app_in s)))
    (placed s placing.new.self g c.args.call.now.instance w.call.instance c.in-Some.kept beside is.instance placing.ensures.stays placing.ensures.instance
    (spare_made (app_in s) room c.args.spare.instance c.in-Some.kept c.requires.spare c.in-Some.is))
    is number waits there refl))
