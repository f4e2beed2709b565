use Rattle.std.proofs.Common.{◌+◌, refl}
use Rattle.std.proofs.lemmas.Result.{IfErr-weaker, IfOk-weaker}
use Rattle.teec.specs.Rounds.{Resumes, before_answer}
use Rattle.teec.specs.Runs.{moment, scene_of}
use Rattle.teec.proofs.Going.{passed_on, return_answered, return_stopped, stopped_then}
use Rattle.teec.proofs.line.Line.answer_return.Goals as goal

pub returns-in_err-cancel_where_due-clause-stopped : goal.returns-in_err-cancel_where_due-clause-stopped
returns-in_err-cancel_where_due-clause-stopped g c =
    passed_on c.from_residual.result c.in_err-cancel_where_due.field-0.0 _ c.from_residual.ensures.1 (λ call same.
    return_stopped c.args.limits.now call c.args.returns (c.args.returns + 1) c.args.rpc.now (scene_of (g.W.SmcPort.ram c.args.self.now.world) c.args.self.now.supplicant)
    (g.W.SmcPort.made c.args.self.now.world) (scene_of (g.W.SmcPort.ram c.cancel_where_due.new.self.world) c.cancel_where_due.new.self.supplicant) (g.W.SmcPort.made c.cancel_where_due.new.self.world) (g.W.SmcPort.has_room c.cancel_where_due.new.self.world)
    c.in_err-cancel_where_due.field-0.0 c.requires refl (c.in_err-cancel_where_due.ensures.stopped call c.args.rpc.now same))

pub returns-clause-went : goal.returns-clause-went
returns-clause-went g c =
    IfOk-weaker c.resume.result _ _ (λ answer went call same.
    return_answered c.args.limits.now call c.args.returns (c.args.returns + 1) c.args.rpc.now answer (scene_of (g.W.SmcPort.ram c.args.self.now.world) c.args.self.now.supplicant)
    (scene_of (g.W.SmcPort.ram c.cancel_where_due.new.self.world) c.cancel_where_due.new.self.supplicant)
    (scene_of (g.W.SmcPort.ram c.resume.new.self.world) c.resume.new.self.supplicant)
    (g.W.SmcPort.made c.args.self.now.world) (g.W.SmcPort.made c.cancel_where_due.new.self.world) (g.W.SmcPort.made c.resume.new.self.world)
    c.requires refl (c.in_ok-cancel_where_due.ensures.went call c.args.rpc.now same) (went c.args.limits.now call (c.args.returns + 1))) c.resume.ensures.went

pub returns-clause-stopped : goal.returns-clause-stopped
returns-clause-stopped g c =
    let between = moment (g.W.SmcPort.ram c.cancel_where_due.new.self.world) (g.W.SmcPort.made c.cancel_where_due.new.self.world) c.cancel_where_due.new.self.supplicant
    (Resumes (c.args.returns + 1) c.args.rpc.now) in
    IfErr-weaker c.resume.result _ _ (λ fault stopped call same.
    return_stopped c.args.limits.now call c.args.returns (c.args.returns + 1) c.args.rpc.now (scene_of (g.W.SmcPort.ram c.args.self.now.world) c.args.self.now.supplicant)
    (g.W.SmcPort.made c.args.self.now.world) (scene_of (g.W.SmcPort.ram c.resume.new.self.world) c.resume.new.self.supplicant) (g.W.SmcPort.made c.resume.new.self.world) (g.W.SmcPort.has_room c.resume.new.self.world) fault c.requires refl
    (stopped_then c.args.limits.now call
    (moment (g.W.SmcPort.ram c.args.self.now.world) (g.W.SmcPort.made c.args.self.now.world) c.args.self.now.supplicant (before_answer c.args.limits.now (c.args.returns + 1) c.args.rpc.now))
    between (scene_of (g.W.SmcPort.ram c.resume.new.self.world) c.resume.new.self.supplicant) (g.W.SmcPort.made c.resume.new.self.world) (g.W.SmcPort.has_room c.resume.new.self.world) fault
    (c.in_ok-cancel_where_due.ensures.went call c.args.rpc.now same) (stopped c.args.limits.now call (c.args.returns + 1)))) c.resume.ensures.stopped
