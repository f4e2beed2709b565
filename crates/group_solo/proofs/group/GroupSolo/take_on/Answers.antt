use Rattle.std.proofs.Common.{refl, ap, subst}
use Rattle.base.specs.NumberMap.{IsRising}
use Rattle.group_model.specs.Group.{Group}
use Rattle.kernel_model.specs.Kernel.{Runs}
use Rattle.solo.proofs.Outgoing.{at_end, no_panic, not_over}
use Rattle.group_solo.proofs.Outgoing.{asking_so, ending_so, in_phase_of, panicking_so, stops_at}
use Rattle.group_solo.specs.declared.kept_call.KeptCall.{KeptCall}
use Rattle.group_solo.proofs.group.GroupSolo.take_on.Goals as goal

pub returns-in-Interrupted-clause-going : goal.returns-in-Interrupted-clause-going
returns-in-Interrupted-clause-going c most g own going job beside rising is runs room e =
    let old = c.args.call.now in
    let ran = c.run_to_stop in
    let left : KeptCall = record old { cont = ran.new.cont } in
    asking_so c.args.self.now old left ran.result g own going most
    (record { stops = ran.ensures.stops; asks = ran.ensures.asks; phase = ran.ensures.phase; stays = ran.ensures.stays }) refl
    (not_over ran.result c.in-Interrupted.is) beside is room (stops_at old g own going job most (in_phase_of old own (Runs job) is runs) e)

pub returns-in-Ended-clause-going : goal.returns-in-Ended-clause-going
returns-in-Ended-clause-going c most g own going job beside rising is runs room e =
    let old = c.args.call.now in
    let ran = c.run_to_stop in
    let left : KeptCall = record old { cont = ran.new.cont } in
    ending_so c.args.self.now c.end_job.new.self old left c.end_job.new.call ran.result g own going most
    (record { stops = ran.ensures.stops; asks = ran.ensures.asks; phase = ran.ensures.phase; stays = ran.ensures.stays }) refl
    (record { beside = c.end_job.ensures.beside (subst IsRising (ap (λ (base : Group). base.sessions) beside) rising); wakes = c.end_job.ensures.wakes; stays = c.end_job.ensures.stays })
    (no_panic ran.result _ c.in-Ended.is) (at_end ran.result _ c.in-Ended.is) beside is room
    (stops_at old g own going job most (in_phase_of old own (Runs job) is runs) e)

pub returns-in-Panicked-clause-going : goal.returns-in-Panicked-clause-going
returns-in-Panicked-clause-going c most g own going job beside rising is runs room e =
    let old = c.args.call.now in
    let ran = c.run_to_stop in
    let left : KeptCall = record old { cont = ran.new.cont } in
    panicking_so c.args.self.now c.end_panicked.new.self old left c.end_panicked.new.call ran.result g own going most _
    (record { stops = ran.ensures.stops; asks = ran.ensures.asks; phase = ran.ensures.phase; stays = ran.ensures.stays }) refl
    (record { beside = c.end_panicked.ensures.beside; wakes = c.end_panicked.ensures.wakes; stays = c.end_panicked.ensures.stays })
    c.in-Panicked.is beside is room (stops_at old g own going job most (in_phase_of old own (Runs job) is runs) e)
