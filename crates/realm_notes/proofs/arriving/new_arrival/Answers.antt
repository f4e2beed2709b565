use Rattle.std.proofs.Common.{◌≡◌, Option, Some, None, ap, subst, sym, ◌∙◌}
use Rattle.std.specs.Prelude.{IfOk}
use Rattle.realm_notes.specs.Arriving.{arrival_as}
use Rattle.realm_notes.specs.Calls.{planned_call}
use Rattle.realm_notes.specs.Realms.{realm_of}
use Rattle.realm_notes.specs.declared.calls.ArrivingCall.{ArrivingCall}
use Rattle.realm_notes.proofs.arriving.new_arrival.Goals as goal

pub returns-in-Some : goal.returns-in-Some
returns-in-Some c noted are =
    let realm = realm_of c.args.notes.now.realm in
    let named = c.args.planned.now.entered.head.session in
    let is : planned_call c.args.planned.now ≡ Some c.in-Some.call = sym c.in_ok-call.ensures ∙ c.in-Some.is in
    subst (λ (call : Option ArrivingCall). IfOk c.arrival_of.result (λ arrival. arrival ≡ arrival_as realm noted named call)) (sym is)
    (c.arrival_of.ensures noted are)

pub returns-in-None : goal.returns-in-None
returns-in-None c noted are =
    let realm = realm_of c.args.notes.now.realm in
    let named = c.args.planned.now.entered.head.session in
    let is : planned_call c.args.planned.now ≡ None = sym c.in_ok-call.ensures ∙ c.in-None.is in
    ap (arrival_as realm noted named) (sym is)
