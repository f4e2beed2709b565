use Rattle.std.proofs.Common.{sym, ap, subst, ◌∙◌}
use Rattle.kernel_model.specs.Application.{uuid_of}
use Rattle.kernel_state.specs.Calls.{IsInPhase, IsWaiting}
use Rattle.solo.proofs.Begins.{begun_so, finds, fits_start, has_start}
use Rattle.solo.specs.Beginning.{start_of}
use Rattle.solo.specs.Standing.{app_in}
use Rattle.solo.proofs.solo_session.SoloSession.begin.Goals as goal

pub returns-clause-begins : goal.returns-clause-begins
returns-clause-begins c solo call at params beside is waits works home =
    let s = c.args.self.now in
    let cont = c.args.cont.now in
    let held = c.hold-memory in
    let found = finds s solo c.in-Some.session c.in-Some-instance.instance at c.in-Some.is c.in-Some-instance.is beside home in
    let its : IsWaiting cont params = subst (IsInPhase cont) waits is.phase in
    begun_so s held.new.self cont c.start_call.new.cont solo call c.in-Some.session at params c.args.number beside is held.ensures.stays
    (held.ensures.holds at.1 found.kept) c.start_call.ensures.stays
    (c.start_call.ensures.runs (λ e. works (sym is.kind ∙ e)) (app_in s) (start_of solo at params cont)
    (has_start s solo cont c.in-Some.session c.in-Some-instance.instance at params held.result.1 beside found its (held.ensures.objects at.1 found.kept))
    (c.held_of.ensures.uuid ∙ ap uuid_of c.requires.app)
    (fits_start s solo cont c.in-Some.session c.in-Some-instance.instance at params c.args.ready held.result.0 c.held_of.result found c.requires.app
    (held.ensures.memory at.1 found.kept) c.held_of.ensures.begins))
