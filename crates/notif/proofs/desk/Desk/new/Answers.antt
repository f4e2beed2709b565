use Rattle.std.proofs.Common.{rules, arith, ◌∙◌, ap, filter, false, true, sym, append-nil, ℕ, List, [], ◌∷◌, ◌++◌, Vec, Global}
use Rattle.native_tas.specs.Driver.{has_driver}
use Rattle.native_tas.specs.Table.{drivers}
use Rattle.notif.specs.declared.driver_count.DriverCount.{DriverCount}
use Rattle.notif.specs.Desk.{DeskState, driver_values, unsignalled}
use Rattle.notif.proofs.Numbering.{all_listed, one_more}
use Rattle.notif.proofs.desk.Desk.new.Goals as goal
use Rattle.notif.proofs.desk.Desk.new.Goals.{then-is_driver+in_ok-push, else-is_driver}

pub loop-value-preserved : goal.loop-value-preserved
loop-value-preserved g c =
    let more = one_more (has_driver (drivers c.args.natives.now)) c.loop-value.value in
    elim c.if-is_driver.branch [
      | then-is_driver+in_ok-push w ↦
          ap (λ (counts : Vec DriverCount Global). counts.items) w.counts-is ∙ w.in_ok-push.ensures.items
          ∙ ap (λ (items : List DriverCount). items ++ record { value = c.loop-value.value; count = 0 } ∷ []) c.loop-value.invariant
          ∙ sym (more true c.loop-value.auto.value (sym c.is_driver.ensures ∙ w.if-is_driver.true))
      | else-is_driver w ↦
          ap (λ (counts : Vec DriverCount Global). counts.items) w.counts-is ∙ c.loop-value.invariant ∙ sym (append-nil _)
          ∙ sym (more false c.loop-value.auto.value (sym c.is_driver.ensures ∙ w.if-is_driver.false))
    ]

pub returns : goal.returns
unfolding driver_values
returns g c =
    let none_pends : List ℕ → List DriverCount → DeskState = λ pending counts. record { enabled = false; pending = pending; counts = counts } in
    ap (λ pending. none_pends pending c.loop-value.counts.items) c.new.ensures
    ∙ ap (none_pends []) (c.loop-value.invariant
    ∙ ap (λ values. unsignalled (filter (has_driver (drivers c.args.natives.now)) values)) (all_listed c.loop-value.value (search (rules, arith))))
