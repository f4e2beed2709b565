use Rattle.std.proofs.Common.{refl, ap}
use Rattle.kernel_state.specs.Calls.{bytes_of}
use Rattle.rpc_cont.specs.Conts.{end_left, kept_memory}
use Rattle.group_solo.proofs.Going.{left_beside}
use Rattle.group_solo.specs.Ending.{home_of}
use Rattle.group_solo.proofs.group.GroupSolo.end_job.Goals as goal

pub returns-clause-beside : goal.returns-clause-beside
returns-clause-beside c rising =
    let call = c.args.call.now in
    let end = end_left bytes_of call.cont in
    left_beside c.args.self.now c.end_session.new.self c.give_back.new.self (home_of call) end c.ends_instance-is_last.result
    (kept_memory bytes_of c.take-memory.result) c.replace-objects.result c.end_session.ensures.stays
    (c.end_session.ensures.sessions end refl refl rising) c.give_back.ensures.back
    c.ends_instance-is_last.ensures (ap (kept_memory bytes_of) c.take-memory.ensures.value) c.replace-objects.ensures.value
