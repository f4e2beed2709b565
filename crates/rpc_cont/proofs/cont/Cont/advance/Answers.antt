use Rattle.std.proofs.Common.{Option, subst, sym}
use Rattle.rpc_cont.specs.Advancing.{CanRun}
use Rattle.rpc_cont.proofs.Pending.{advance-image, advance-pending}
use Rattle.rpc_cont.proofs.Shaped.{shaped-after}
use Rattle.rpc_cont.proofs.cont.Cont.advance.Goals as goal

pub returns-clause-asks : goal.returns-clause-asks
returns-clause-asks g c asks =
    let bytes = g.M.TaMemory.bytes in
    let app = c.take-app.result in
    let old = c.args.self.now in
    let before = record old { app = c.take-app.new.self } in
    let new = c.advance_as-stop.new.self in
    let answer = c.advance_as-stop.result in
    let can = subst (λ (a : Option _). CanRun bytes a old) (sym c.take-app.ensures.value) c.requires.runs.runs in
    let can_before : CanRun bytes app before = record { memory = can.memory; request = can.request; object = can.object; runs = can.runs } in
    let waits = advance-pending bytes app new before.steps c.args.steps _ answer c.advance_as-stop.ensures.advances asks in
    record {
      image = advance-image bytes app before new c.args.steps answer can_before c.advance_as-stop.ensures.advances asks;
      pending = record { point = waits.point; memory = waits.memory; request = waits.request; machine = waits.machine };
    }

pub returns-clause-shape : goal.returns-clause-shape
returns-clause-shape g c =
    shaped-after g.M.TaMemory.bytes c.take-app.result c.advance_as-stop.new.self c.args.self.now.steps c.args.steps _
    c.advance_as-stop.result _ c.phase-self.ensures c.advance_as-stop.ensures.advances (returns-clause-asks g c)
