use Rattle.std.proofs.Common.{rules, ◌≡◌, ℕ, subst}
use Rattle.kernel_state.specs.Calls.{bytes_of}
use Rattle.rpc_cont.specs.Conts.{job_of}
use Rattle.solo.proofs.Grants.{Advances, comes_nearer, comes_to_stop, none_left, too_far}
use Rattle.solo.proofs.stops.run_to_stop.Goals as goal
use Rattle.solo.proofs.stops.run_to_stop.Goals.{then-ne-via-then-ne, then-ne-via-else-ne+then-steps-eq0}

pub grants-preserved : goal.grants-preserved
grants-preserved c =
    rw c.from-left.ensures
    (comes_nearer c.args.cont.now c.grants.cont c.advance-stop.new.self c.grants.left c.next_grant-steps.result c.advance-stop.result
    c.grants.invariant c.next_grant-steps.ensures.most c.advance-stop.ensures.advances (search rules) c.advance-stop.ensures.phase
    c.advance-stop.ensures.stays)

pub returns-then-ne-clause-stops : goal.returns-then-ne-clause-stops
returns-then-ne-clause-stops c used why its room = elim c.then-ne.branch [
  | then-ne-via-then-ne w ↦
      comes_to_stop c.args.cont.now c.grants.cont c.advance-stop.new.self c.grants.left c.next_grant-steps.result used why c.advance-stop.result
      c.grants.invariant c.advance-stop.ensures.advances (search rules) its
  | then-ne-via-else-ne+then-steps-eq0 w ↦
      let none : c.next_grant-steps.result ≡ 0 = search rules in
      absurd
      (too_far c.args.cont.now c.grants.cont c.advance-stop.new.self c.grants.left used why c.advance-stop.result c.grants.invariant
      (none_left c.grants.left c.next_grant-steps.result c.next_grant-steps.ensures.some none)
      (subst (λ (n : ℕ). Advances c.grants.cont.steps n (job_of bytes_of c.grants.cont) c.advance-stop.new.self c.advance-stop.result) none
      c.advance-stop.ensures.advances)
      (search rules) its room)
]
