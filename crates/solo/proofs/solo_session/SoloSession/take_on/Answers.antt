use Rattle.kernel_model.specs.Kernel.{Runs}
use Rattle.solo.proofs.Outgoing.{asking_so, at_end, ending_so, in_phase_of, no_panic, not_over, panicking_so, stops_at}
use Rattle.solo.proofs.solo_session.SoloSession.take_on.Goals as goal

pub returns-in-Interrupted-clause-going : goal.returns-in-Interrupted-clause-going
returns-in-Interrupted-clause-going c most solo call going job beside is runs room e =
    let old = c.args.cont.now in
    let ran = c.run_to_stop in
    asking_so c.args.self.now old ran.new.cont ran.result solo call going most
    (record { stops = ran.ensures.stops; asks = ran.ensures.asks; phase = ran.ensures.phase; stays = ran.ensures.stays })
    (not_over ran.result c.in-Interrupted.is) beside is room (stops_at old solo call going job most (in_phase_of old call (Runs job) is runs) e)

pub returns-in-Ended-clause-going : goal.returns-in-Ended-clause-going
returns-in-Ended-clause-going c most solo call going job beside is runs room e =
    let old = c.args.cont.now in
    let ran = c.run_to_stop in
    ending_so c.args.self.now c.end_job.new.self old ran.new.cont c.end_job.new.cont ran.result solo call going most
    (record { stops = ran.ensures.stops; asks = ran.ensures.asks; phase = ran.ensures.phase; stays = ran.ensures.stays })
    (record { beside = c.end_job.ensures.beside; wakes = c.end_job.ensures.wakes; stays = c.end_job.ensures.stays })
    (no_panic ran.result _ c.in-Ended.is) (at_end ran.result _ c.in-Ended.is) beside is room
    (stops_at old solo call going job most (in_phase_of old call (Runs job) is runs) e)

pub returns-in-Panicked-clause-going : goal.returns-in-Panicked-clause-going
returns-in-Panicked-clause-going c most solo call going job beside is runs room e =
    let old = c.args.cont.now in
    let ran = c.run_to_stop in
    panicking_so c.args.self.now c.end_panicked.new.self old ran.new.cont c.end_panicked.new.cont ran.result solo call going most _
    (record { stops = ran.ensures.stops; asks = ran.ensures.asks; phase = ran.ensures.phase; stays = ran.ensures.stays })
    (record { beside = c.end_panicked.ensures.beside; wakes = c.end_panicked.ensures.wakes; stays = c.end_panicked.ensures.stays })
    c.in-Panicked.is beside is room (stops_at old solo call going job most (in_phase_of old call (Runs job) is runs) e)
