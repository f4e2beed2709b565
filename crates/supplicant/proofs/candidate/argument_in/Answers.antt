use Rattle.std.proofs.Common.{◌≡◌, take, refl, sym, subst, ap, ◌∙◌, arith}
use Rattle.std.specs.Prelude.{IfSome}
use Rattle.std.specs.Result.{result_ok}
use Rattle.msg_args.specs.Spelling.{IsArgument}
use Rattle.supplicant.proofs.Candidates.{count_there, ok_fits, spelled_there}
use Rattle.supplicant.proofs.candidate.argument_in.Goals as goal

pub returns-in_err-head-clause-only : goal.returns-in_err-head-clause-only
returns-in_err-head-clause-only c = λ arg valid few begins.
    let short = c.in_err-head.ensures.cases in
    absurd (omega arith)

pub returns-then-count-gt-MAX_REQUEST_PARAMS-clause-only : goal.returns-then-count-gt-MAX_REQUEST_PARAMS-clause-only
returns-then-count-gt-MAX_REQUEST_PARAMS-clause-only c = λ arg valid few begins.
    let cases = c.in_ok-head.ensures.cases in
    let cut : c.in_ok-head.head.now ≡ take 32 c.args.message.now = cc in
    let same = count_there c.args.message.now arg valid begins c.in_ok-head.head.now c.read_head-count.result cut c.read_head-count.ensures.fields in
    absurd (omega arith)

pub returns-clause-fits : goal.returns-clause-fits
returns-clause-fits c =
    subst (λ found. IfSome found (λ arg. IsArgument arg)) (sym c.ok.ensures.value) (ok_fits c.read_arg.result _ c.read_arg.ensures.found)

pub returns-clause-only : goal.returns-clause-only
returns-clause-only c = λ arg valid few begins.
    let cases = c.in_ok-head.ensures.cases in
    let cut : c.in_ok-head.head.now ≡ take 32 c.args.message.now = cc in
    let same = count_there c.args.message.now arg valid begins c.in_ok-head.head.now c.read_head-count.result cut c.read_head-count.ensures.fields in
    c.ok.ensures.value
    ∙ ap result_ok (c.read_arg.ensures.only arg (spelled_there c.args.message.now arg valid begins _ c.read_head-count.result.count refl same))
