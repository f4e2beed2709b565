use Rattle.std.proofs.Common.{◌≡◌, ℕ, ◌-◌, [], length, vec_len, slice_index_or, ◌∙◌, ap, arith}
use Rattle.frame_pool.proofs.pool.pop_frame.Goals as goal

-- the frame was the last of the free ones, so it is as long as a page
pub returns-clause-page : goal.returns-clause-page
returns-clause-page c =
    let last : ℕ = vec_len c.args.free.now - 1 in
    let was : c.unwrap.result ≡ slice_index_or c.args.free.now.items last [] = cc (c.pop.ensures.value [] c.requires.some) in
    ap length was ∙ c.requires.whole last [] (omega arith)
