-- What is asked of an instance before a call begins.
use Rattle.std.specs.Prelude.{ℕ}
use Rattle.kernel_model.specs.Kernel.{Instance}
use Rattle.begin_call.specs.declared.asking.SharedInstance.{SharedInstance}

-- what an open asks of the instance that it shares
abbrev pub shown : ℕ × Instance → SharedInstance
shown kept = record { number = kept.0; dead = kept.1.dead; holder = kept.1.holder }
