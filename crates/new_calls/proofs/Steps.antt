-- Tests one after the other, over a lane.
use Rattle.std.proofs.Common.{◌≡◌, ℕ, List, Some, Ok, Err}
use Rattle.ns_ram.specs.declared.read.Read.{Read}
use Rattle.ns_ram.specs.Attempt.{Attempt, passes, after_pass, faultless, read, unless_faulty, ◌>>=◌}
use Rattle.ns_ram.specs.Reader.{Reader, over_lane}
use Rattle.param_copy.proofs.PieceReads.{onward}

-- after a value it goes on
pub passed_on : {F A B : Type 0} (first : Attempt F A) (next : A → Attempt F B) (lane : List ℕ) (before between : List Read) (value : A) →
    over_lane first lane before ≡ Some (Ok value, between) →
    over_lane (first >>= next) lane before ≡ over_lane (next value) lane between
passed_on first next lane before between value e = onward first (after_pass next) lane before between (Ok value) e

-- with a refusal it ends
pub refused_at : {F A B : Type 0} (first : Attempt F A) (next : A → Attempt F B) (lane : List ℕ) (before between : List Read) (refusal : F) →
    over_lane first lane before ≡ Some (Err refusal, between) →
    over_lane (first >>= next) lane before ≡ Some (Err refusal, between)
refused_at first next lane before between refusal e = onward first (after_pass next) lane before between (Err refusal) e

-- what is read
pub read_on : {F A B : Type 0} (reader : Reader A) (next : A → Attempt F B) (lane : List ℕ) (before between : List Read) (value : A) →
    over_lane reader lane before ≡ Some (value, between) →
    over_lane (read reader >>= next) lane before ≡ over_lane (next value) lane between
read_on reader next lane before between value e =
    passed_on (read reader) next lane before between value (onward reader passes lane before between value e)

-- what is read without a fault, or with one
pub without_fault : {E F A : Type 0} (attempt : Attempt E A) (refusal : F) (lane : List ℕ) (before between : List Read) (value : A) →
    over_lane attempt lane before ≡ Some (Ok value, between) →
    over_lane (faultless attempt refusal) lane before ≡ Some (Ok value, between)
without_fault attempt refusal lane before between value e = onward attempt (unless_faulty refusal) lane before between (Ok value) e

pub with_fault : {E F A : Type 0} (attempt : Attempt E A) (refusal : F) (lane : List ℕ) (before between : List Read) (fault : E) →
    over_lane attempt lane before ≡ Some (Err fault, between) →
    over_lane (faultless attempt refusal) lane before ≡ Some (Err refusal, between)
with_fault attempt refusal lane before between fault e = onward attempt (unless_faulty refusal) lane before between (Err fault) e
