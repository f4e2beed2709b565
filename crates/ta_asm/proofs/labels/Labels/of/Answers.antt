use Rattle.std.proofs.Common.{Bor, List, ℕ, refl, sym, ap, subst, arith}
use Rattle.std.specs.BTreeMap.{get_by, is_at}
use Rattle.std.specs.Map.{lookup}
use Rattle.std.specs.Cmp.Lexicographic.{slice_cmp}
use Rattle.std.specs.Ordering.{nat_cmp}
use Rattle.std.proofs.lemmas.List.{take_all}
use Rattle.ta_asm.specs.declared.labels.Definition.{Definition}
use Rattle.ta_asm.specs.declared.statement.Statement.{Statement}
use Rattle.ta_asm.specs.Grammar.{definition}
use Rattle.ta_asm.specs.Lines.{statements_of}
use Rattle.ta_asm.specs.Reading.{Defines, IsLastIn}
use Rattle.ta_asm.proofs.Definitions.{below-more, defines-more, last-more, last-none, one_at_most, placed-more}
use Rattle.ta_asm.proofs.Steps.{at_end, step}
use Rattle.ta_asm.proofs.Texts.{few_statements}
use Rattle.ta_asm.proofs.labels.Labels.of.Goals as goal

pub loop-statement-preserved : goal.loop-statement-preserved
loop-statement-preserved c =
    let all = statements_of c.args.text.now in
    let st = step all c.loop-statement.statements c.loop-statement.lines c.in-Some.statement c.next_statement.new.self c.loop-statement.invariant.left c.in-Some.ensures in
    record {
      left = st.behind;
      within = omega (arith, st.within);
      placed = placed-more all c.loop-statement.lines c.in-Some.statement c.next_statement.new.self c.loop-statement.place _ st c.loop-statement.invariant.placed c.in_ok-place.ensures.place;
      fewer = omega (arith, c.loop-statement.invariant.fewer, one_at_most c.in-Some.statement, c.in_ok-place.ensures.place);
      noted =
          defines-more all c.loop-statement.lines c.in-Some.statement c.next_statement.new.self c.loop-statement.place (λ q. get_by (λ key. slice_cmp nat_cmp q key.now) c.loop-statement.map) (λ q. get_by (λ key. slice_cmp nat_cmp q key.now) c.note_line.new.map) st
          c.loop-statement.invariant.placed c.loop-statement.invariant.noted c.in_ok-place.ensures.noted;
      below = below-more c.loop-statement.lines c.in-Some.statement c.loop-statement.last c.last_after-last.result c.loop-statement.invariant.below c.last_after-last.ensures;
      found = last-more all c.loop-statement.lines c.in-Some.statement c.next_statement.new.self c.loop-statement.last c.last_after-last.result st c.loop-statement.invariant.found c.loop-statement.invariant.below c.last_after-last.ensures;
    }

pub loop-statement-init : goal.loop-statement-init
unfolding definition
loop-statement-init c = record {
  left = sym c.of-statements.ensures;
  within = omega arith;
  placed = refl;
  fewer = omega arith;
  noted = λ name. ap (λ (es : List (Bor (List ℕ) × Definition)). lookup (is_at (λ key. slice_cmp nat_cmp name key.now)) es) c.new-map.ensures.empty;
  below = omega arith;
  found = last-none;
}

pub overflow_add-here : goal.overflow_add-here
overflow_add-here c =
    let st = step (statements_of c.args.text.now) c.loop-statement.statements c.loop-statement.lines c.in-Some.statement c.next_statement.new.self c.loop-statement.invariant.left c.in-Some.ensures in
    omega (arith, st.within, few_statements c.args.text.now)

pub note_line-requires : goal.note_line-requires
note_line-requires c =
    let st = step (statements_of c.args.text.now) c.loop-statement.statements c.loop-statement.lines c.in-Some.statement c.next_statement.new.self c.loop-statement.invariant.left c.in-Some.ensures in
    omega (arith, st.within, c.loop-statement.invariant.fewer, few_statements c.args.text.now)

pub overflow_add-lines : goal.overflow_add-lines
overflow_add-lines c =
    let st = step (statements_of c.args.text.now) c.loop-statement.statements c.loop-statement.lines c.in-Some.statement c.next_statement.new.self c.loop-statement.invariant.left c.in-Some.ensures in
    omega (arith, st.within, few_statements c.args.text.now)

pub returns-clause-known : goal.returns-clause-known
returns-clause-known c =
    let all = statements_of c.args.text.now in
    let whole = take_all c.loop-statement.lines all (at_end all c.loop-statement.statements c.loop-statement.lines c.loop-statement.invariant.left c.in_default.ensures) in (
      subst (λ (front : List Statement). Defines c.loop-statement.map front) whole c.loop-statement.invariant.noted,
      subst (λ (front : List Statement). IsLastIn front c.loop-statement.last) whole c.loop-statement.invariant.found,
    )
