use Rattle.std.proofs.Common.{None, Some}
use Rattle.group_solo.proofs.Onward.{by_found, found_here, none_here, some_here}
use Rattle.group_solo.specs.Standing.{app_in}
use Rattle.group_solo.proofs.group.GroupSolo.begin_again.Goals as goal

pub returns-in-None-clause-begins : goal.returns-in-None-clause-begins
returns-in-None-clause-begins c g next w session beside is number waits there e =
    let s = c.args.self.now in
    let here = found_here s g c.args.call.now w.call c.args.found beside is c.requires.found in
    c.begin_anew.ensures.begins g next w session beside is number waits there
    (by_found (app_in s) g next w session None (none_here g w.call c.args.found here c.in-None.is) e)

pub returns-in-Some-clause-begins : goal.returns-in-Some-clause-begins
returns-in-Some-clause-begins c g next w session beside is number waits there e =
    let s = c.args.self.now in
    let here = found_here s g c.args.call.now w.call c.args.found beside is c.requires.found in
    let at = some_here g w.call c.args.found c.in-Some.field-0 here c.in-Some.is in
    c.begin_there.ensures.begins g next w session at.0 beside is number waits there at.1.0
    (by_found (app_in s) g next w session (Some at.0) at.1.0 e)
