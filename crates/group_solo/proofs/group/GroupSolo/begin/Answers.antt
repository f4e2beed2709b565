use Rattle.std.proofs.Common.{ℕ, List, Some, refl, sym, ap, subst, ◌∙◌}
use Rattle.base.specs.NumberMap.{get}
use Rattle.group_solo.specs.declared.kept_session.KeptSession.{KeptSession}
use Rattle.kernel_model.specs.Application.{uuid_of}
use Rattle.kernel_model.specs.Instances.{held_by}
use Rattle.kernel_state.specs.Calls.{IsInPhase, IsWaiting}
use Rattle.group_solo.proofs.Begins.{CanFind, begun_so, fits_start, has_start, is_dead, is_session, kept_there, start_of}
use Rattle.group_solo.specs.Standing.{ComesTo, app_in, sessions_of}
use Rattle.group_solo.specs.Beginning.{begun}
use Rattle.begin_call.specs.Points.{points_of}
use Rattle.group_solo.specs.declared.kept_call.KeptCall.{KeptCall}
use Rattle.group_solo.proofs.group.GroupSolo.begin.Goals as goal

pub returns-clause-begins : goal.returns-clause-begins
returns-clause-begins c g b beside is number waits session there =
    let s = c.args.self.now in
    let call = c.args.call.now in
    let held = c.hold-memory in
    let can : CanFind s g call b = record { beside = beside; is = is; session = session; there = there } in
    let own = is_session s g call b c.in-Some.session can
    (c.in-Some.ensures ∙ ap (λ (sessions : List (ℕ × KeptSession)). get (sessions_of sessions) call.session) c.as_slice.ensures.value) in
    let dead = is_dead s g call b c.in-Some-instance.shared can c.in-Some-instance.is in
    let at = kept_there s g call b can in
    let its : IsWaiting call.cont b.params = subst (IsInPhase call.cont) waits is.alone.phase in
    let after : KeptCall = record call { cont = c.start_call.new.cont } in
    subst (λ (n : ℕ). ComesTo held.new.self after n g (begun (app_in s) g b (points_of c.args.points))) number
    (begun_so s held.new.self call after g b c.in-Some.session (points_of c.args.points) can held.ensures.stays
    (held.ensures.holds b.there.0 b.there.1 at ∙ ap (λ (n : ℕ). Some (b.there.0, held_by n b.there.1)) (sym number))
    refl c.start_call.ensures.stays
    (c.start_call.ensures.runs (app_in s) (start_of g b) b.there.1
    (has_start s g call b c.in-Some.session held.result.1 can own its (held.ensures.objects b.there.0 b.there.1 at))
    (c.held_of.ensures.uuid ∙ ap uuid_of c.requires.app)
    (fits_start s g call b c.args.ready _ held.result.0 c.held_of.result can dead c.requires.app
    (held.ensures.memory b.there.0 b.there.1 at) c.held_of.ensures.begins)))
