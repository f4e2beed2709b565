use Rattle.std.proofs.Common.{sym, inl}
use Rattle.std.proofs.lemmas.Result.{err_from_is_err_and}
use Rattle.ta_isa.proofs.Decoded.{decoded-bad_header, decoded-bad_code_of, decoded-good}
use Rattle.ta_isa.proofs.decode.decode.Goals as goal

pub returns-in_err-flags : goal.returns-in_err-flags
returns-in_err-flags c =
    let p = err_from_is_err_and c.from_residual.result c.from_residual.ensures.1 in
    rw (p.1, p.2) (inl (sym (decoded-bad_header c.args.bytes.now c.in_err-flags.field-0.0 c.in_err-flags.ensures.bad)))

pub returns-in_err-code : goal.returns-in_err-code
returns-in_err-code c =
    let p = err_from_is_err_and c.from_residual-in_err-code.result c.from_residual-in_err-code.ensures.1 in
    rw (p.1, p.2) (decoded-bad_code_of c.args.bytes.now c.in_ok-flags.field-0 c.in_err-code.field-0.0 c.in_ok-flags.ensures.read c.in_ok-flags.ensures.good c.in_err-code.ensures.bad)

pub returns : goal.returns
returns c =
    rw c.of.ensures (decoded-good c.args.bytes.now c.in_ok-flags.field-0 c.in_ok-code.code.items c.in_ok-flags.ensures.read c.in_ok-flags.ensures.good c.in_ok-code.ensures.good c.in_ok-code.ensures.read)
