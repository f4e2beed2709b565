use Rattle.std.proofs.Common.{refl}
use Rattle.session_compare.proofs.Comparisons.{ahead_so, apart_shows, level_so, not_both, stands_alike, stands_apart_now}
use Rattle.session_compare.specs.declared.differing.Side.TheVariants.{First}
use Rattle.session_compare.proofs.differing.Comparison.shown.Goals as goal

pub returns-then-self : goal.returns-then-self
returns-then-self g c one two stands =
    apart_shows c.args.self.now.same one two (stands_apart_now First c.args.self.now one two c.args.self.now.differ c.if-self.true stands)

pub returns-then-are_level : goal.returns-then-are_level
returns-then-are_level g c one two stands =
    let code = c.args.self.now in (
      level_so code.same code.more.items one two First code.ahead (c.are_level.ensures.0 c.if-are_level.true)
          (stands_alike First code one two code.differ c.if-self.false stands),
      refl,
    )

pub returns-else-are_level : goal.returns-else-are_level
returns-else-are_level g c one two stands =
    let code = c.args.self.now in
    ahead_so code.same code.more.items one two First code.ahead
    (λ level. not_both c.are_level.result c.if-are_level.false (c.are_level.ensures.1 level))
    (stands_alike First code one two code.differ c.if-self.false stands)
