use Rattle.std.proofs.Common.{◌<◌, ◌∷◌, [], length, refl, sym, ap, ◌∙◌, arith}
use Rattle.std.proofs.lemmas.Bool.{eqb-true}
use Rattle.std.proofs.lemmas.Bool.Decides.{nat_tests}
use Rattle.std.proofs.lemmas.List.{nil_from_length}
use Rattle.ta_asm.specs.declared.statement.Statement.{Statement}
use Rattle.ta_asm.specs.Lines.{statements_of}
use Rattle.ta_asm.proofs.Texts.{first_statement, last_statement, no_statement}
use Rattle.ta_asm.proofs.statements.Statements.next_statement.Goals as goal

pub returns-then-is_empty : goal.returns-then-is_empty
returns-then-is_empty c = sym c.self.view_is ∙ no_statement c.self.inside.rest.now (nil_from_length c.self.inside.rest.now (eqb-true _ _ (sym c.if-is_empty.ensures)))

pub returns-in-Some : goal.returns-in-Some
returns-in-Some c =
    sym c.self.view_is ∙ first_statement c.self.inside.rest.now c.in-Some.line.now c.in-Some.after.now c.in-Some.ensures
    ∙ sym (ap (λ (s : Statement). s ∷ statements_of c.in-Some.after.now) c.statement_of.ensures)

pub returns-in-None : goal.returns-in-None
returns-in-None c =
    let some : 0 < length c.self.inside.rest.now = grind (arith, nat_tests) in
    sym c.self.view_is ∙ last_statement c.self.inside.rest.now [] c.in-None.ensures some refl
