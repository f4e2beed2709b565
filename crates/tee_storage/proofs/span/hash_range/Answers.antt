use Rattle.std.proofs.Common.{ℕ, ◌≤◌, List, ◌++◌, length, take, ap, subst, ◌∙◌, arith, append_assoc}
use Rattle.hmac.specs.Hashing.{Holds}
use Rattle.tee_storage.proofs.Ranges.{take_on}
use Rattle.tee_storage.proofs.span.hash_range.Goals as goal

pub loop-done-preserved : goal.loop-done-preserved
loop-done-preserved g c =
    let bytes : List ℕ = g.M.Span.bytes c.args.span.now in
    let part = c.part-part.result.now in
    let done = c.loop-done.done in
    let count = c.min-count.result in
    let few : count ≤ length part = omega arith in
    record {
      within = omega arith;
      holds = λ key message held.
          subst (λ (m : List ℕ). Holds c.update.new.self key m)
          (append_assoc message (take done bytes) (take count part)
          ∙ ap (λ (l : List ℕ). message ++ l) (take_on bytes part done count c.part-part.ensures.part few))
          (c.update.ensures key (message ++ take done bytes) (c.loop-done.invariant.holds key message held));
    }
