use Rattle.std.proofs.Common.{refl}
use Rattle.live_runner.proofs.talk.Talk.new.Goals as goal

pub returns : goal.returns
returns c = λ natives ds. record { player = c.new.ensures natives ds; watching = refl }
