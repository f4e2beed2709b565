use Rattle.std.proofs.Common.{◌≡◌, ◌<◌, ◌∙◌, List, ℕ, [], length, Ok, Err, ap, sym, subst, arith, rules}
use Rattle.std.proofs.lemmas.Bool.{eqb-true}
use Rattle.std.proofs.lemmas.List.{nil_from_length}
use Rattle.trace_text.specs.declared.fault.TraceFault.{TraceFault}
use Rattle.trace_text.specs.declared.fault.TraceFault.TheVariants.{Bad}
use Rattle.trace_text.specs.declared.trace.Trace.{Trace}
use Rattle.trace_bin.specs.Grammar.{IsFaultOf, Spells, fault_at, trace_records}
use Rattle.trace_bin.proofs.GrammarLaws.{clauses, ends, record_here}
use Rattle.trace_bin.proofs.RecordLaws.{ends_badly, goes_on, stops}
use Rattle.trace_bin.proofs.reading.read_binary.Goals as goal

pub returns-in-Err : goal.returns-in-Err
returns-in-Err c =
    let A : TraceFault → Type 0 = λ f. IsFaultOf c.args.natives.now c.args.bytes.now f in
    let more : 0 < length c.loop-rest.rest.now = search rules in
    let answer = clauses c.args.natives.now c.args.bytes.now (Err c.at.result) (λ i. omega (arith, c.type_inv.bytes i))
    (subst A (sym c.at.ensures)
    (stops (trace_records c.args.natives.now) c.args.bytes.now c.loop-rest.place c.loop-rest.builder c.loop-rest.rest.now c.in-Err.fault (sym c.in_default.ensures.which) c.loop-rest.invariant.some c.loop-rest.invariant.so_far
    (record_here c.args.natives.now c.loop-rest.builder c.loop-rest.rest.now more) c.in-Err.ensures.taken)) in
    record { found = answer.found; only = answer.only; bad = answer.bad; refused = answer.refused; sound = answer.sound }

pub loop-rest-preserved : goal.loop-rest-preserved
loop-rest-preserved c = record {
  some = omega arith;
  so_far =
      goes_on (trace_records c.args.natives.now) c.args.bytes.now c.loop-rest.place c.loop-rest.builder c.take_record.new.builder c.loop-rest.rest.now c.in-Ok.after.now c.loop-rest.invariant.some c.loop-rest.invariant.so_far
      c.in-Ok.ensures.taken.0 c.in-Ok.ensures.taken.1 c.in-Ok.ensures.rest;
  few = omega (arith, c.loop-rest.invariant.few, c.in-Ok.ensures.shorter);
}

pub returns-in-Ok-finish : goal.returns-in-Ok-finish
returns-in-Ok-finish c =
    let none : c.loop-rest.rest.now ≡ [] = nil_from_length c.loop-rest.rest.now (eqb-true (length c.loop-rest.rest.now) 0 (sym c.loop-rest-test.ensures)) in
    let S : Trace → Type 0 = λ t. Spells c.args.natives.now c.args.bytes.now t in
    let answer = clauses c.args.natives.now c.args.bytes.now (Ok c.in-Ok-finish.trace) (λ i. omega (arith, c.type_inv.bytes i))
    (subst S (sym c.in-Ok-finish.ensures.1)
    (ends c.args.natives.now c.args.bytes.now c.loop-rest.place c.loop-rest.builder c.loop-rest.rest.now (sym c.in_default.ensures.which) none c.loop-rest.invariant.so_far c.in-Ok-finish.ensures.0)) in
    record { found = answer.found; only = answer.only; bad = answer.bad; refused = answer.refused; sound = answer.sound }

pub returns-in-Err-finish : goal.returns-in-Err-finish
returns-in-Err-finish c =
    let none : c.loop-rest.rest.now ≡ [] = nil_from_length c.loop-rest.rest.now (eqb-true (length c.loop-rest.rest.now) 0 (sym c.loop-rest-test.ensures)) in
    let answer = clauses c.args.natives.now c.args.bytes.now (Err (Bad c.loop-rest.place c.in-Err-finish.kind)) (λ i. omega (arith, c.type_inv.bytes i))
    (ends_badly (trace_records c.args.natives.now) c.args.bytes.now c.loop-rest.place c.loop-rest.builder c.loop-rest.rest.now c.in-Err-finish.kind (sym c.in_default.ensures.which) c.loop-rest.invariant.some c.loop-rest.invariant.so_far
    (ap (λ (r : List ℕ). fault_at c.args.natives.now c.loop-rest.builder r) none ∙ c.in-Err-finish.ensures)) in
    record { found = answer.found; only = answer.only; bad = answer.bad; refused = answer.refused; sound = answer.sound }
