-- What a word writes at its end, and the status that it ends with.
use Rattle.std.specs.Prelude.{◌≡◌, ℕ, ◌⊎◌, List, [], Option, Some, None, IsSome, IsSomeAnd, Result, Ok, Err}
use Rattle.ports.specs.Port.{Appends}
use Rattle.ports.specs.declared.sink.Put.{Put}
use Rattle.ports.specs.declared.sink.Put.TheVariants.{Done, Failed}
use Rattle.ports.specs.declared.sink.Put.TheVariants as put
use Rattle.trace_text.specs.declared.fault.TraceFault.{TraceFault}
use Rattle.trace_text.specs.declared.fault.TraceFault.TheVariants as fault
use Rattle.word_parts.specs.Line.{bad_trace_line}
use Rattle.word_parts.specs.Output.{AppendsPart}
use Rattle.word_parts.specs.declared.status.Status.{Status}
use Rattle.word_parts.specs.declared.status.Status.TheVariants.{BadTrace, ReadFault, WriteFault, Memory, TooLong}
use Rattle.word_parts.specs.declared.status.Status.TheVariants as status
use Rattle.word_parts.specs.declared.stop.Stop.{Stop}
use Rattle.word_parts.specs.declared.stop.Stop.TheVariants as stop

-- ---- what is written

-- the status after a text was put: the named one where it was put whole
abbrev pub status_after : Status → Put → Status
status_after named Done = named
status_after named Failed = WriteFault
status_after named put.Memory = Memory

-- the named status and the whole text; or the sink failed or memory ran out, after a part of the text
abbrev pub Writes : Status → List ℕ → Status → Option (List ℕ) → Option (List ℕ) → Type 0
Writes named text result old new =
    ((result ≡ named) × Appends old new text)
    ⊎ (((result ≡ WriteFault) ⊎ (result ≡ Memory)) × AppendsPart old new text)

-- the input was not read whole, and nothing is written
abbrev pub IsUnread : Status → Option (List ℕ) → Option (List ℕ) → Type 0
IsUnread result old new = ((result ≡ ReadFault) ⊎ (result ≡ Memory)) × Appends old new []

-- the line of an input that leaves its grammar there, or nothing for want of memory
abbrev pub AnswersFault : TraceFault → Status → Option (List ℕ) → Option (List ℕ) → Type 0
AnswersFault (fault.Bad place kind) result old new = Writes BadTrace (bad_trace_line place kind) result old new
AnswersFault fault.Memory result old new = (result ≡ Memory) × Appends old new []

-- ---- a play

-- the status of a play that refuses an entry, or none
abbrev pub status_of_play : Option ℕ → Status
status_of_play None = status.Ok
status_of_play (Some more) = TooLong

-- the status of a play that stopped so, or didn't
abbrev pub status_of : Result (Unit {0}) Stop → Status
status_of (Ok done) = status.Ok
status_of (Err stop.Full) = TooLong
status_of (Err stop.Failed) = WriteFault
status_of (Err stop.Memory) = Memory

-- what a play that stopped so, or didn't, has written of its text, if there is one; it refuses an entry, or none
abbrev pub IsTold : Option ℕ → Option (List ℕ) → Result (Unit {0}) Stop → Option (List ℕ) → Option (List ℕ) → Type 0
IsTold refused text (Ok done) old new = (refused ≡ None) × IsSomeAnd text (Appends old new)
IsTold refused text (Err stop.Full) old new = IsSome refused × IsSomeAnd text (Appends old new)
IsTold refused text (Err stop.Failed) old new = IsSomeAnd text (AppendsPart old new)
IsTold refused text (Err stop.Memory) old new = Appends old new [] ⊎ IsSomeAnd text (AppendsPart old new)
