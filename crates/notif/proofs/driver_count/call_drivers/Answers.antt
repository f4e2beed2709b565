use Rattle.std.proofs.Common.{rules, ◌∙◌, ap, arith, eq-eqb, filter, map, not}
use Rattle.std.proofs.lemmas.Bool.{ne_eqb}
use Rattle.std.proofs.lemmas.List.{take_all}
use Rattle.native_tas.specs.Table.{drivers}
use Rattle.notif.specs.declared.driver_count.DriverCount.{DriverCount}
use Rattle.notif.specs.Desk.{answer_to, first_answer, was_signalled}
use Rattle.notif.proofs.Answering.{asked_first, asked_later, not_asked}
use Rattle.notif.proofs.driver_count.call_drivers.Goals as goal
use Rattle.notif.proofs.driver_count.call_drivers.Goals.{then-driver-ne0+then-first-eq0, then-driver-ne0+else-first-eq0, else-driver-ne0}

abbrev none : DriverCount
none = record { value = 0; count = 0 }

pub loop-driver-preserved : goal.loop-driver-preserved
loop-driver-preserved g c =
    let counts = c.args.counts.now in
    let i = c.loop-driver.driver-index in
    let answer_of = answer_to (drivers c.args.natives.now) in
    let inside = c.loop-driver-test.true in
    elim c.if-driver-ne0.branch [
      | then-driver-ne0+then-first-eq0 w ↦
          w.first-is ∙ w.answer-answer.ensures
          ∙ asked_first was_signalled answer_of counts i none c.loop-driver.first inside (ap not (ne_eqb _ _ w.if-driver-ne0.true)) c.loop-driver.invariant w.if-first-eq0.true
      | then-driver-ne0+else-first-eq0 w ↦
          w.first-is
          ∙ asked_later was_signalled answer_of counts i none c.loop-driver.first inside (ap not (ne_eqb _ _ w.if-driver-ne0.true)) c.loop-driver.invariant w.if-first-eq0.false
      | else-driver-ne0 w ↦
          w.first-is
          ∙ not_asked was_signalled answer_of counts i none c.loop-driver.first inside (ap not (eq-eqb _ _ w.if-driver-ne0.false)) c.loop-driver.invariant
    ]

pub returns : goal.returns
returns g c =
    c.loop-driver.invariant
    ∙ ap (λ all. first_answer (map (answer_to (drivers c.args.natives.now)) (filter was_signalled all)))
    (take_all c.loop-driver.driver-index c.args.counts.now (search (rules, arith)))
