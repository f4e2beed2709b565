use Rattle.std.proofs.Common.{◌≡◌, ℕ, ◌+◌, ◌-◌, ◌≤◌, List, length, drop, take, refl, ap, arith, ◌∙◌}
use Rattle.base.specs.Bytes.{overwritten}
use Rattle.frame_pool.proofs.PageBytes.{overwritten-more}
use Rattle.frame_pool.proofs.pages.PagesTaMemory.write.Goals as goal

pub loop-done-preserved : goal.loop-done-preserved
loop-done-preserved c =
    let done = c.loop-done.done in
    let part = c.args.part.now in
    let at = c.args.addr + done in
    let count : done + c.in_page.result - done ≡ c.in_page.result = omega arith in
    let most : done + c.in_page.result ≤ length part = omega arith in
    record {
      bytes =
          c.write_in_page.ensures
          ∙ ap (λ (bytes : List ℕ). overwritten bytes at (take (done + c.in_page.result - done) (drop done part))) c.loop-done.invariant.bytes
          ∙ ap (λ (k : ℕ). overwritten (overwritten c.args.self.now c.args.addr (take done part)) at (take k (drop done part))) count
          ∙ overwritten-more c.args.self.now part c.args.addr done c.in_page.result at refl c.requires most;
      most = most;
    }
