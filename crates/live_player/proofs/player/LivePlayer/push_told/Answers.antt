use Rattle.std.proofs.Common.{◌^◌}
use Rattle.std.specs.Prelude.{if◌then◌else◌}
use Rattle.live_player.proofs.Taking.{can_tell_on}
use Rattle.live_player.proofs.player.LivePlayer.push_told.Goals as goal

pub push_told-requires-clause-kept : goal.push_told-requires-clause-kept
push_told-requires-clause-kept g c =
    can_tell_on c.requires.0.forgets c.args.self.now.stage c.args.question.now c.requires.1.come.terms c.requires.3

pub push_told-requires-clause-stands : goal.push_told-requires-clause-stands
push_told-requires-clause-stands g c = (
  if c.requires.0.forgets then 2 ^ 63 else 2 ^ 28,
  c.requires.0.told,
  c.requires.1.come.within,
  c.requires.1.come.stage_at,
  c.requires.2,
)

pub returns : goal.returns
returns g c = λ lines stands boots.
    c.push_told.ensures (if lines.forgets then 2 ^ 63 else 2 ^ 28) lines.told stands.come.within stands.come.stage_at boots
