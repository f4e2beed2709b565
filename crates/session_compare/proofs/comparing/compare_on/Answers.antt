use Rattle.std.proofs.Common.{subst, sym}
use Rattle.std.specs.Prelude.{IfOk}
use Rattle.compare_model.specs.Comparing.{IsComparedAs}
use Rattle.compare_model.specs.declared.subject.Subject.{Subject}
use Rattle.native_tas.specs.Table.{entries}
use Rattle.session_compare.proofs.Logs.{told_same}
use Rattle.session_compare.specs.Pairs.{pair_of}
use Rattle.session_compare.proofs.comparing.compare_on.Goals as goal

pub returns-in-Session-clause-compared : goal.returns-in-Session-clause-compared
returns-in-Session-clause-compared g c =
    let pair = pair_of (entries c.args.natives.now) c.args.one.now c.args.two.now in
    subst (λ (subject : Subject). IfOk c.compare_session.result (IsComparedAs pair subject)) (sym c.in-Session.is) c.compare_session.ensures

pub returns-in-Session-clause-same_replies : goal.returns-in-Session-clause-same_replies
returns-in-Session-clause-same_replies g c =
    let pair = pair_of (entries c.args.natives.now) c.args.one.now c.args.two.now in
    told_same pair c.args.subject c.compare_session.result
    (subst (λ (subject : Subject). IfOk c.compare_session.result (IsComparedAs pair subject)) (sym c.in-Session.is) c.compare_session.ensures)

pub returns-in-Group-clause-compared : goal.returns-in-Group-clause-compared
returns-in-Group-clause-compared g c =
    let pair = pair_of (entries c.args.natives.now) c.args.one.now c.args.two.now in
    subst (λ (subject : Subject). IfOk c.compare_group.result (IsComparedAs pair subject)) (sym c.in-Group.is) c.compare_group.ensures

pub returns-in-Group-clause-same_replies : goal.returns-in-Group-clause-same_replies
returns-in-Group-clause-same_replies g c =
    let pair = pair_of (entries c.args.natives.now) c.args.one.now c.args.two.now in
    told_same pair c.args.subject c.compare_group.result
    (subst (λ (subject : Subject). IfOk c.compare_group.result (IsComparedAs pair subject)) (sym c.in-Group.is) c.compare_group.ensures)
