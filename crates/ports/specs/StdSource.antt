-- What contracts see of a source over a reader, and what `take` does to the reader.
use Rattle.std.specs.Prelude.{ℕ, ◌<◌, List, length, take, Option, None, IsSome, ◌≡◌, ◌↔◌}
use Rattle.std.specs.Io.KnownBytes.{Consumes, IsAtEnd, Keeps}
use Rattle.ports.specs.declared.source.Taken.{Taken}
use Rattle.ports.specs.declared.source.Taken.TheVariants.{Bytes, End, Failed}
use Rattle.ports.specs.declared.std_source.Stop.{Stop}
use Rattle.ports.specs.declared.std_source.Stop.TheVariants as stop
use Rattle.ports.specs.Port.{risen}

-- the reader, how many calls have failed, and why the reader stopped, where no call has answered it yet
pub record Reading (R : Type 0) : Type 0 where
  pub reader : R
  pub faults : ℕ
  pub stopped : Option Stop

-- of a reader that tells what it has left: the bytes of the buffer stood at the front of it, and are gone
abbrev pub ReadsInto : Taken → Option (List ℕ) → Option (List ℕ) → List ℕ → Type 0
ReadsInto (Bytes n) old new buf = Consumes old new (take n buf)
ReadsInto End old new buf = Keeps old new × (0 < length buf → IsAtEnd new)
ReadsInto Failed old new buf = Keeps old new

-- the count of faults after a call of `take` that came to this
abbrev pub faults_after_take : Taken → ℕ → ℕ
faults_after_take (Bytes n) faults = faults
faults_after_take End faults = faults
faults_after_take Failed faults = risen faults

-- what a call answers where the reader has stopped
abbrev pub answer_of_stop : Stop → Taken
answer_of_stop stop.End = End
answer_of_stop stop.Fault = Failed

-- the source after that answer: the reader wasn't touched
abbrev pub after_stop : {R : Type 0} → Reading R → Stop → Reading R
after_stop source stop =
    record { reader = source.reader; faults = faults_after_take (answer_of_stop stop) source.faults; stopped = None }

-- after bytes that didn't fill a buffer of this length, and then alone, why the reader stopped is kept
abbrev pub StopsShort : Taken → ℕ → Option Stop → Type 0
StopsShort (Bytes n) len stopped = (n < len) ↔ IsSome stopped
StopsShort End len stopped = stopped ≡ None
StopsShort Failed len stopped = stopped ≡ None
