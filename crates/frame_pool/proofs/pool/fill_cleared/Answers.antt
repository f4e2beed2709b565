use Rattle.std.proofs.Common.{◌≡◌, ◌+◌, ◌*◌, length, refl, sym, ◌∙◌, ap, arith}
use Rattle.std.proofs.lemmas.Grind.{common_steps}
use Rattle.base.specs.Zeros.{zeros}
use Rattle.base.proofs.ZeroLemmas.{length-zeros, no_zeros, zeros_more}
use Rattle.frame_pool.proofs.PageBytes.{concat_more}
use Rattle.frame_pool.proofs.pool.fill_cleared.Goals as goal

pub loop-i-preserved : goal.loop-i-preserved
loop-i-preserved c =
    let sum : 4096 * c.loop-i._i + 4096 ≡ 4096 * (c.loop-i._i + 1) = omega arith in
    let page : length c.pop_cleared.result ≡ 4096 = ap length c.pop_cleared.ensures.zeros ∙ length-zeros 4096 in
    record {
      pages = rw (c.push_reserved.ensures.items, concat_more, c.loop-i.invariant.pages, c.pop_cleared.ensures.zeros, zeros_more) (ap zeros sum);
      count = grind (arith, common_steps);
      fits = omega arith;
      pages_whole = grind (arith, common_steps);
      len = omega arith;
      room = c.pop_cleared.ensures.room ∙ c.loop-i.invariant.room;
      whole = c.pop_cleared.ensures.whole;
    }

pub loop-i-init : goal.loop-i-init
loop-i-init c = record {
  pages = rw c.requires.empty (sym no_zeros);
  count = rw c.requires.empty refl;
  fits = omega arith;
  pages_whole = rw c.requires.empty (λ k d h. absurd (omega arith));
  len = omega arith;
  room = refl;
  whole = c.requires.whole;
}
