use Rattle.std.proofs.Common.{◌≡◌, ◌≤◌, [], length, Err, Ok, List, ℕ, sym, subst, ap, arith}
use Rattle.std.proofs.lemmas.Bool.{eqb-true}
use Rattle.std.proofs.lemmas.List.{nil_from_length}
use Rattle.trace_text.specs.declared.fault.BadKind.TheVariants as bad
use Rattle.trace_text.specs.declared.fault.TraceFault.{TraceFault}
use Rattle.trace_text.specs.declared.fault.TraceFault.TheVariants.{Bad}
use Rattle.trace_bin.proofs.RecordLaws.{ends_badly, goes_on, stops}
use Rattle.journal_bytes.specs.Grammar.{IsFaultOf, fault_at, journal_records}
use Rattle.journal_bytes.specs.Recording.{journal_so_far}
use Rattle.journal_bytes.specs.Rules.{behind_record}
use Rattle.journal_bytes.proofs.Answered.{clauses, covered_by, end_unbooted, ends_well, fewer, record_here}
use Rattle.journal_bytes.proofs.reading.read_journal.Goals as goal

pub returns-in-Err : goal.returns-in-Err
returns-in-Err c =
    let A : TraceFault → Type 0 = λ f. IsFaultOf c.args.natives.now c.args.bytes.now f in
    let answer = clauses c.args.natives.now c.args.bytes.now (Err c.at.result) (λ i. omega (arith, c.type_inv.bytes i)) c.requires
    (subst A (sym c.at.ensures)
    (stops (journal_records c.args.natives.now) c.args.bytes.now c.records.place (journal_so_far c.records.recording) c.records.rest.now c.in-Err.fault (sym c.in_default.ensures.which) c.records.invariant.some c.records.invariant.so_far
    (record_here c.args.natives.now (journal_so_far c.records.recording) c.records.rest.now (sym c.records-test.ensures)) c.in-Err.ensures.taken)) in
    record { found = answer.found; only = answer.only; bad = answer.bad; refused = answer.refused; boot = answer.boot; journal = answer.journal }

pub records-smaller : goal.records-smaller
records-smaller c =
    let less = fewer c.records.rest.now (sym c.records-test.ensures) in
    omega (arith, less, ap (λ (b : List ℕ). length b) c.in-Ok.ensures.rest)

pub records-preserved : goal.records-preserved
records-preserved c =
    let less = fewer c.records.rest.now (sym c.records-test.ensures) in
    let long : length c.in-Ok.after.now ≡ length (behind_record c.records.rest.now) = ap (λ (b : List ℕ). length b) c.in-Ok.ensures.rest in
    let covered = covered_by (journal_so_far c.records.recording) (journal_so_far c.take_record.new.recording) c.records.rest.now c.in-Ok.after.now c.in-Ok.ensures.taken.1 c.in-Ok.ensures.rest in
    record {
      some = omega arith;
      so_far =
          goes_on (journal_records c.args.natives.now) c.args.bytes.now c.records.place (journal_so_far c.records.recording) (journal_so_far c.take_record.new.recording) c.records.rest.now c.in-Ok.after.now c.records.invariant.some c.records.invariant.so_far
          c.in-Ok.ensures.taken.0 c.in-Ok.ensures.taken.1 c.in-Ok.ensures.rest;
      header = c.in-Ok.ensures.header;
      few = omega (arith, c.records.invariant.few, less, long);
      covered = omega (arith, c.records.invariant.covered, covered);
    }

pub returns-then-is_empty : goal.returns-then-is_empty
returns-then-is_empty c =
    let none : c.records.rest.now ≡ [] = nil_from_length c.records.rest.now (eqb-true (length c.records.rest.now) 0 (sym c.if-is_empty.ensures)) in
    let answer = clauses c.args.natives.now c.args.bytes.now (Err (Bad c.records.place bad.Cut)) (λ i. omega (arith, c.type_inv.bytes i)) c.requires
    (ends_badly (journal_records c.args.natives.now) c.args.bytes.now c.records.place (journal_so_far c.records.recording) c.records.rest.now bad.Cut (sym c.in_default.ensures.which) c.records.invariant.some c.records.invariant.so_far
    (ap (λ (r : List ℕ). fault_at c.args.natives.now (journal_so_far c.records.recording) r) none)) in
    record { found = answer.found; only = answer.only; bad = answer.bad; refused = answer.refused; boot = answer.boot; journal = answer.journal }

pub returns-in-Ok-finish : goal.returns-in-Ok-finish
returns-in-Ok-finish c =
    let fits : length c.records.rest.now ≤ length c.args.bytes.now = omega (arith, c.records.invariant.some, c.records.invariant.few) in
    let answer = clauses c.args.natives.now c.args.bytes.now (Ok c.in-Ok-finish.read) (λ i. omega (arith, c.type_inv.bytes i)) c.requires
    (ends_well c.args.natives.now c.args.bytes.now c.records.place (journal_so_far c.records.recording) c.records.rest.now c.in-Ok-finish.read (sym c.in_default.ensures.which) c.records.invariant.some c.records.invariant.so_far (sym c.records-test.ensures) (sym c.if-is_empty.ensures)
    c.in-Ok-finish.ensures.0 fits c.in-Ok-finish.ensures.1 c.in-Ok-finish.ensures.2) in
    record { found = answer.found; only = answer.only; bad = answer.bad; refused = answer.refused; boot = answer.boot; journal = answer.journal }

pub returns-in-Err-finish : goal.returns-in-Err-finish
returns-in-Err-finish c =
    let answer = clauses c.args.natives.now c.args.bytes.now (Err (Bad c.records.place c.in-Err-finish.kind)) (λ i. omega (arith, c.type_inv.bytes i)) c.requires
    (ends_badly (journal_records c.args.natives.now) c.args.bytes.now c.records.place (journal_so_far c.records.recording) c.records.rest.now c.in-Err-finish.kind (sym c.in_default.ensures.which) c.records.invariant.some c.records.invariant.so_far
    (end_unbooted c.args.natives.now (journal_so_far c.records.recording) c.records.rest.now c.in-Err-finish.kind (sym c.records-test.ensures) (sym c.if-is_empty.ensures) c.in-Err-finish.ensures.0 c.in-Err-finish.ensures.1)) in
    record { found = answer.found; only = answer.only; bad = answer.bad; refused = answer.refused; boot = answer.boot; journal = answer.journal }
