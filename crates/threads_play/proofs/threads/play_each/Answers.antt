-- A pass, its RAM and an end may go to another thread, and what threads borrow may be lent to it.
use denote.Param.Send.{sendable}
use mir.Syntax.{static}
use Rattle.ns_ram.proofs.lane.Lane.TheSendSync as lane
use Rattle.std.proofs.Common.{sym, subst}
use Rattle.std.proofs.Crossing as any
use Rattle.std.specs.Prelude.{slice_index_or}
use Rattle.threads_play.proofs.Crossing.{end_send, lent_sync, pass_send}
use Rattle.threads_play.specs.Work.{HasPlayed}
use Rattle.threads_play.proofs.threads.play_each.Goals as goal

pub map_vec-requires-send-J : goal.map_vec-requires-send-J
map_vec-requires-send-J g c κs within = search (pass_send, lane.the_send, any.crosses, sendable) depth 60 fits 20000

pub map_vec-requires-send-X : goal.map_vec-requires-send-X
map_vec-requires-send-X g c κs within = search (end_send, sendable) depth 60 fits 20000

-- the closure borrows what is lent, and nothing else
pub map_vec-requires-sync-F : goal.map_vec-requires-sync-F
map_vec-requires-sync-F g c κs within = record {
  shared = λ x b o ν. (
    (
      (
        (λ q. tt),
        (lent_sync (record { mir = static; lft = _ }) _ _ c.type_bounds.sync-R c.type_bounds.sync-G).shared
            x.0.now x.0.ref_ptr.0 x.0.ref_ptr.1 ν,
      ),
      tt,
    ),
    (λ q. tt),
  );
}

pub returns-clause-each : goal.returns-clause-each
returns-clause-each g c i job end below =
    let given = (c.in_ok-ends.ensures.each i end below).1 in
    subst (λ (it : _). HasPlayed c.args.lent.now.shared.now c.args.lent.now.items.now it (slice_index_or c.in_ok-ends.ends.items i end))
    (sym (given.job_is job)) given.call.met
