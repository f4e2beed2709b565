use Rattle.realm_model.proofs.Interrupts.{own_interrupt as law}
use Rattle.realm_model.proofs.ties.interrupts_keep_realms.Goals as goal

pub returns : goal.returns
returns c = law
