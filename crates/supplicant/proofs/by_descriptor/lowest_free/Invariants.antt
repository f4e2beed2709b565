use Rattle.supplicant.proofs.Freed.{Searched}
use Rattle.supplicant.proofs.by_descriptor.lowest_free.Given as goal

abbrev pub invariant-loop-fd : goal.invariant-loop-fd
invariant-loop-fd l = Searched l.descriptors.entries l.fd-counter
