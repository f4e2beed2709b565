use Rattle.std.proofs.Common.{sym, ◌∙◌, arith}
use Rattle.std.proofs.lemmas.Result.{err_from_is_err_and}
use Rattle.ta_asm.specs.Grammar.{added}
use Rattle.ta_asm.specs.Lines.{statements_of}
use Rattle.ta_asm.proofs.Programs.{answer-end, answer-line, faultless-more, program-more, program-start}
use Rattle.ta_asm.proofs.Steps.{at_end, step}
use Rattle.ta_asm.proofs.Texts.{few_statements}
use Rattle.ta_asm.proofs.assembler.assembled.Goals as goal

pub loop-statement-preserved : goal.loop-statement-preserved
loop-statement-preserved c =
    let all = statements_of c.args.text.now in
    let st = step all c.loop-statement.statements c.loop-statement.lines c.in-Some.statement c.next_statement.new.self c.loop-statement.invariant.left c.in-Some.ensures in
    let taken = c.in_ok-take.ensures all c.in_ok-labels.ensures.known in
    record {
      left = st.behind;
      within = omega (arith, st.within);
      built = program-more all c.loop-statement.lines c.in-Some.statement c.next_statement.new.self c.loop-statement.draft c.take.new.self st c.loop-statement.invariant.built taken.1;
      faultless = faultless-more all c.loop-statement.lines c.in-Some.statement c.next_statement.new.self c.loop-statement.draft st c.loop-statement.invariant.built taken.0 c.loop-statement.invariant.faultless;
    }

pub loop-statement-init : goal.loop-statement-init
loop-statement-init c = record {
  left = sym c.of-statements.ensures;
  within = omega arith;
  built = c.new-draft.ensures ∙ sym (program-start (statements_of c.args.text.now));
  faultless = λ k lt. absurd (omega (arith, lt));
}

pub overflow_add-lines : goal.overflow_add-lines
overflow_add-lines c =
    let st = step (statements_of c.args.text.now) c.loop-statement.statements c.loop-statement.lines c.in-Some.statement c.next_statement.new.self c.loop-statement.invariant.left c.in-Some.ensures in
    omega (arith, st.within, few_statements c.args.text.now)

pub overflow_add-lines-in-Some : goal.overflow_add-lines-in-Some
overflow_add-lines-in-Some c =
    let st = step (statements_of c.args.text.now) c.loop-statement.statements c.loop-statement.lines c.in-Some.statement c.next_statement.new.self c.loop-statement.invariant.left c.in-Some.ensures in
    omega (arith, st.within, few_statements c.args.text.now)

pub overflow_add-lines-2 : goal.overflow_add-lines-2
overflow_add-lines-2 c = omega (arith, c.loop-statement.invariant.within, few_statements c.args.text.now)

pub returns-in_err-take : goal.returns-in_err-take
returns-in_err-take c =
    let all = statements_of c.args.text.now in
    let st = step all c.loop-statement.statements c.loop-statement.lines c.in-Some.statement c.next_statement.new.self c.loop-statement.invariant.left c.in-Some.ensures in
    let p = err_from_is_err_and c.from_residual-in_err-take.result c.from_residual-in_err-take.ensures.1 in
    rw (p.1, p.2) (answer-line c.args.text.now c.loop-statement.lines c.in-Some.statement c.next_statement.new.self c.loop-statement.draft c.take.new.self (added all c.loop-statement.draft c.in-Some.statement) c.in_err-take.field-0.0 st c.loop-statement.invariant.built c.loop-statement.invariant.faultless (c.in_err-take.ensures all c.in_ok-labels.ensures.known))

pub returns : goal.returns
returns c =
    let past = at_end (statements_of c.args.text.now) c.loop-statement.statements c.loop-statement.lines c.loop-statement.invariant.left c.in_default.ensures in
    answer-end c.args.text.now c.loop-statement.lines c.loop-statement.draft c.finish.result past c.loop-statement.invariant.built c.loop-statement.invariant.faultless c.finish.ensures
