-- How a port comes to its end. This project's own.
use Rattle.std.specs.Prelude.{Option, Some, None}
use Rattle.line_port.specs.declared.finish.Finish.{Finish}
use Rattle.line_port.specs.declared.finish.Finish.TheVariants as finish
use Rattle.line_port.specs.declared.port.Heard.{Heard}
use Rattle.line_port.specs.declared.port.Heard.TheVariants as heard
use Rattle.line_port.specs.declared.port.Said.{Said}
use Rattle.line_port.specs.declared.port.Said.TheVariants as said

-- by a call of `hear` that came to this; a line that was cut off leaves the end itself to be heard
abbrev pub finish_of_heard : Heard → Option Finish
finish_of_heard heard.Line = None
finish_of_heard heard.Long = None
finish_of_heard heard.Cut = None
finish_of_heard heard.End = Some finish.Over
finish_of_heard heard.Failed = Some finish.ReadFault
finish_of_heard heard.Memory = Some finish.Memory

-- by a call of `say` that came to this
abbrev pub finish_of_said : Said → Option Finish
finish_of_said said.Done = None
finish_of_said said.Failed = Some finish.WriteFault
finish_of_said said.Memory = Some finish.Memory
