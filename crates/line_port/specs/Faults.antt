-- How the faults of a port are counted. This project's own.
use Rattle.std.specs.Prelude.{Option, Some, None}
use Rattle.line_port.specs.declared.faults.Faults.{Faults}
use Rattle.line_port.specs.declared.finish.Finish.{Finish}
use Rattle.line_port.specs.declared.finish.Finish.TheVariants as finish
use Rattle.ports.specs.Port.{risen}

-- none was counted
abbrev pub no_faults : Faults
no_faults = record { reads = 0; writes = 0 }

-- the counts behind a call by which a port came to its end so, where it did: a fault is one more, and nothing else is counted
abbrev pub faults_behind : Option Finish → Faults → Faults
faults_behind None faults = faults
faults_behind (Some finish.Over) faults = faults
faults_behind (Some finish.ReadFault) faults = record faults { reads = risen faults.reads }
faults_behind (Some finish.WriteFault) faults = record faults { writes = risen faults.writes }
faults_behind (Some finish.Memory) faults = faults
