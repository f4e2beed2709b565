use Rattle.std.proofs.Common.{ℕ, arith, length-take, sym, ◌∙◌}
use Rattle.word_parts.proofs.ReadingLemmas.{TakesAtMost-then, TakesSome-then}
use Rattle.word_parts.proofs.input.read_whole.Goals as goal

pub loop-bytes-preserved : goal.loop-bytes-preserved
loop-bytes-preserved g c =
    let now = c.loop-bytes.invariant in
    let step = TakesSome-then _ _ _ _ _ _ c.in-Bytes.field-0 _ c.in-Bytes.is now.moved c.in_ok-take_some.ensures.ok in
    record {
      moved = step.0;
      stays = c.in_ok-take_some.ensures.stays (λ e. let taken = sym c.in-Bytes.is in absurd cc) ∙ now.stays;
      limit = omega (arith, length-take {A = ℕ});
      whole = omega arith;
    }

pub returns-in_err-take_some-clause-taken : goal.returns-in_err-take_some-clause-taken
returns-in_err-take_some-clause-taken g c =
    TakesAtMost-then _ _ _ _ _ _ c.loop-bytes.invariant.moved c.in_err-take_some.ensures.taken (omega (arith, length-take {A = ℕ}))
