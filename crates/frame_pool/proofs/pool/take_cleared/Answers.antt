use Rattle.std.proofs.Common.{◌≡◌, ◌*◌, sym, ◌∙◌, ap, arith}
use Rattle.base.specs.Zeros.{zeros}
use Rattle.base.proofs.ZeroLemmas.{no_zeros}
use Rattle.frame_pool.proofs.pool.take_cleared.Goals as goal

pub returns-then-n-eq0-clause-zeros : goal.returns-then-n-eq0-clause-zeros
returns-then-n-eq0-clause-zeros c =
    let no_bytes : 4096 * c.args.n ≡ 0 = omega arith in
    c.none.ensures.bytes ∙ sym (ap zeros no_bytes ∙ no_zeros)
