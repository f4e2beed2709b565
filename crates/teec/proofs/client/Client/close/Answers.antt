use Rattle.std.proofs.Common.{List, None, Ok, ◌∙◌}
use Rattle.smc_port.specs.Smc.{Smc}
use Rattle.teec.specs.declared.limits.Limits.{Limits}
use Rattle.teec.specs.Calls.{Call, close_call}
use Rattle.teec.specs.Client.{limits_of}
use Rattle.teec.specs.Rounds.{Calls, Ended}
use Rattle.teec.specs.Runs.{Scene, Stopped, Went, moment, scene_of}
use Rattle.teec.proofs.Bounds.{makes_few}
use Rattle.teec.proofs.Faults.{has_its_cause}
use Rattle.teec.proofs.Sending.{close_of, retried_kept, run_stopped, same_storage}
use Rattle.teec.proofs.client.Client.close.Goals as goal

pub returns-in_err-finish-clause-run : goal.returns-in_err-finish-clause-run
returns-in_err-finish-clause-run g c = λ alive.
    run_stopped (limits_of c.args.self.now None) (close_call c.args.session) (scene_of (g.W.SmcPort.ram c.args.self.now.world) c.args.self.now.storage) (g.W.SmcPort.made c.args.self.now.world) c.from_residual-in_err-finish.result c.in_err-finish.field-0.0 (scene_of (g.W.SmcPort.ram c.finish.new.self.world) c.finish.new.self.storage) (g.W.SmcPort.made c.finish.new.self.world) (g.W.SmcPort.has_room c.finish.new.self.world)
    c.from_residual-in_err-finish.ensures.1
    (close_of
    (λ (limits : Limits) (call : Call) (old : Scene) (made : List Smc). Stopped limits call (moment old.ram made old.storage (Calls 0)) (scene_of (g.W.SmcPort.ram c.finish.new.self.world) c.finish.new.self.storage) (g.W.SmcPort.made c.finish.new.self.world) (g.W.SmcPort.has_room c.finish.new.self.world) c.in_err-finish.field-0.0)
    g.W.SmcPort.ram g.W.SmcPort.made c.self.view_is c.args.session c.close_argument.result c.put_argument.new.self.world c.put_argument.new.self.supplicant
    c.close_argument.ensures c.put_argument.ensures.ram c.put_argument.ensures.made c.put_argument.ensures.storage
    c.in_err-finish.ensures.run)

pub returns-in_err-finish-clause-causes : goal.returns-in_err-finish-clause-causes
returns-in_err-finish-clause-causes g c = λ alive.
    has_its_cause (limits_of c.args.self.now None) (close_call c.args.session) (scene_of (g.W.SmcPort.ram c.args.self.now.world) c.args.self.now.storage) (g.W.SmcPort.made c.args.self.now.world) c.from_residual-in_err-finish.result (scene_of (g.W.SmcPort.ram c.finish.new.self.world) c.finish.new.self.storage) (g.W.SmcPort.made c.finish.new.self.world) (g.W.SmcPort.has_room c.finish.new.self.world)
    c.check_alive.ensures.tries (returns-in_err-finish-clause-run g c alive)

pub returns-in_err-finish-clause-retried_stays : goal.returns-in_err-finish-clause-retried_stays
returns-in_err-finish-clause-retried_stays g c = λ number retried.
    retried_kept c.from_residual-in_err-finish.result c.in_err-finish.field-0.0 c.args.self.now.storage c.finish.new.self.storage number c.from_residual-in_err-finish.ensures.1
    (λ stays. c.in_err-finish.ensures.storage stays ∙ c.put_argument.ensures.storage ∙ same_storage c.self.view_is) retried

pub returns-clause-run : goal.returns-clause-run
returns-clause-run g c = λ alive.
    close_of
    (λ (limits : Limits) (call : Call) (old : Scene) (made : List Smc). Went limits call (moment old.ram made old.storage (Calls 0)) (moment (g.W.SmcPort.ram c.finish.new.self.world) (g.W.SmcPort.made c.finish.new.self.world) c.finish.new.self.storage Ended))
    g.W.SmcPort.ram g.W.SmcPort.made c.self.view_is c.args.session c.close_argument.result c.put_argument.new.self.world c.put_argument.new.self.supplicant
    c.close_argument.ensures c.put_argument.ensures.ram c.put_argument.ensures.made c.put_argument.ensures.storage
    c.in_ok-finish.ensures.run

pub returns-clause-causes : goal.returns-clause-causes
returns-clause-causes g c = λ alive.
    has_its_cause (limits_of c.args.self.now None) (close_call c.args.session) (scene_of (g.W.SmcPort.ram c.args.self.now.world) c.args.self.now.storage) (g.W.SmcPort.made c.args.self.now.world) (Ok c.result_in.result) (scene_of (g.W.SmcPort.ram c.finish.new.self.world) c.finish.new.self.storage) (g.W.SmcPort.made c.finish.new.self.world) (g.W.SmcPort.has_room c.finish.new.self.world)
    c.check_alive.ensures.tries (returns-clause-run g c alive)

pub returns-in_err-finish-clause-few : goal.returns-in_err-finish-clause-few
returns-in_err-finish-clause-few g c =
    makes_few (limits_of c.args.self.now None) (close_call c.args.session) (scene_of (g.W.SmcPort.ram c.args.self.now.world) c.args.self.now.storage) (g.W.SmcPort.made c.args.self.now.world) c.from_residual-in_err-finish.result (scene_of (g.W.SmcPort.ram c.finish.new.self.world) c.finish.new.self.storage) (g.W.SmcPort.made c.finish.new.self.world) (g.W.SmcPort.has_room c.finish.new.self.world)
    c.check_alive.ensures.tries (returns-in_err-finish-clause-run g c c.in_ok-check_alive.ensures.alive)

pub returns-clause-few : goal.returns-clause-few
returns-clause-few g c =
    makes_few (limits_of c.args.self.now None) (close_call c.args.session) (scene_of (g.W.SmcPort.ram c.args.self.now.world) c.args.self.now.storage) (g.W.SmcPort.made c.args.self.now.world) (Ok c.result_in.result) (scene_of (g.W.SmcPort.ram c.finish.new.self.world) c.finish.new.self.storage) (g.W.SmcPort.made c.finish.new.self.world) (g.W.SmcPort.has_room c.finish.new.self.world)
    c.check_alive.ensures.tries (returns-clause-run g c c.in_ok-check_alive.ensures.alive)
