use Rattle.std.proofs.Common.{ℕ, List, true, false, sym, refl, ap, ◌∙◌}
use Rattle.base.specs.NumberMap.{get}
use Rattle.kernel_model.specs.Codes.{bad_parameters, target_dead}
use Rattle.group_model.specs.Group.{gives_up, waits_on}
use Rattle.group_solo.proofs.Onward.{comes_same, dead_here, found_here, held_here, own_none, own_session, some_same, tested_none, tested_so}
use Rattle.group_solo.specs.Standing.{app_in, session_of, sessions_of}
use Rattle.group_solo.specs.declared.kept_session.KeptSession.{KeptSession}
use Rattle.group_solo.proofs.group.GroupSolo.retest.Goals as goal

pub returns-in-None-clause-retests : goal.returns-in-None-clause-retests
returns-in-None-clause-retests c g next w beside is waits number input e =
    comes_same c.give_up.new.self c.give_up.new.call c.args.number g _ _
    (some_same (gives_up g w bad_parameters) next
    (sym (tested_none (app_in c.args.self.now) g w
    (own_none c.args.self.now g c.args.call.now w.call beside is
    (c.in-None.ensures ∙ ap (λ (kept : List (ℕ × KeptSession)). get (sessions_of kept) c.args.call.now.session) c.as_slice.ensures.value))) ∙ e))
    (c.give_up.ensures.gives_up g w beside is number)

pub returns-then-is_lost-clause-retests : goal.returns-then-is_lost-clause-retests
returns-then-is_lost-clause-retests c g next w beside is waits number input e =
    let s = c.args.self.now in
    let call = c.args.call.now in
    let here = found_here s g call w.call c.at-found.result beside is c.at-found.ensures in
    comes_same c.give_up-then-is_lost.new.self c.give_up-then-is_lost.new.call c.args.number g _ _
    (some_same (gives_up g w target_dead) next
    (sym (tested_so (app_in s) g w (session_of c.in-Some.field-0) true _ (own_session s g call w.call c.in-Some.field-0 beside is
    (c.in-Some.ensures ∙ ap (λ (kept : List (ℕ × KeptSession)). get (sessions_of kept) call.session) c.as_slice.ensures.value))
    (dead_here g w.call c.at-found.result call.cont.kind true here is.alone.kind (sym c.if-is_lost.true ∙ c.is_lost.ensures)) refl) ∙ e))
    (c.give_up-then-is_lost.ensures.gives_up g w beside is number)

pub returns-then-is_held-clause-retests : goal.returns-then-is_held-clause-retests
returns-then-is_held-clause-retests c g next w beside is waits number input e =
    let s = c.args.self.now in
    let call = c.args.call.now in
    let here = found_here s g call w.call c.at-found.result beside is c.at-found.ensures in
    comes_same c.wait_on.new.self c.wait_on.new.call c.args.number g _ _
    (some_same (waits_on g w) next
    (sym (tested_so (app_in s) g w (session_of c.in-Some.field-0) false true (own_session s g call w.call c.in-Some.field-0 beside is
    (c.in-Some.ensures ∙ ap (λ (kept : List (ℕ × KeptSession)). get (sessions_of kept) call.session) c.as_slice.ensures.value))
    (dead_here g w.call c.at-found.result call.cont.kind false here is.alone.kind (sym c.if-is_lost.false ∙ c.is_lost.ensures))
    (held_here g w.call c.at-found.result true here (sym c.if-is_held.true ∙ c.is_held.ensures))) ∙ e))
    (c.wait_on.ensures.waits g w beside is number input)

pub returns-else-is_held-clause-retests : goal.returns-else-is_held-clause-retests
returns-else-is_held-clause-retests c g next w beside is waits number input e =
    let s = c.args.self.now in
    let call = c.args.call.now in
    let here = found_here s g call w.call c.at-found.result beside is c.at-found.ensures in
    let session = own_session s g call w.call c.in-Some.field-0 beside is
    (c.in-Some.ensures ∙ ap (λ (kept : List (ℕ × KeptSession)). get (sessions_of kept) call.session) c.as_slice.ensures.value) in
    c.begin_again.ensures.begins g next w (session_of c.in-Some.field-0) beside is number waits session
    (sym (tested_so (app_in s) g w (session_of c.in-Some.field-0) false false session
    (dead_here g w.call c.at-found.result call.cont.kind false here is.alone.kind (sym c.if-is_lost.false ∙ c.is_lost.ensures))
    (held_here g w.call c.at-found.result false here (sym c.if-is_held.false ∙ c.is_held.ensures))) ∙ e)
