-- What a call wants of the normal world's RAM, and what it makes of that: a reader. It runs over a list of
-- reads, from which it takes those it asks for, and over a lane, where it adds them to a list.
use Rattle.std.specs.Prelude.{◌≡◌, ◌↔◌, ℕ, zero, suc, ◌*◌, ◌/◌, Bool, ◌==◌, ◌&&◌, List, [], ◌∷◌, ◌++◌, length, take, drop, Option, Some, None, if◌then◌else◌}
use Rattle.std.specs.Option.{option_and_then, option_map}
use Rattle.std.specs.Int.{from_le_bytes, w64}
use Rattle.ns_ram.specs.declared.read.Read.{Read}
use Rattle.ns_ram.specs.Lane.{bytes_from, bytes_at}
use Rattle.ns_ram.specs.Reads.{listed, HoldsReads}

-- a value; or a wish for so many bytes at an address, or for at most so many words up to the first that
-- fails a test, with what follows on what was read
pub data Reader (A : Type 0) : Type 0 where
  done : A → Reader A
  want_bytes : ℕ → ℕ → (List ℕ → Reader A) → Reader A
  want_words : ℕ → ℕ → (ℕ → Bool) → (List ℕ → Reader A) → Reader A

infixl 1 ◌>>=◌ ◌>>◌
-- the one reader, and then the other, which is told the value of the first
abbrev pub ◌>>=◌ : {A B : Type 0} → Reader A → (A → Reader B) → Reader B
done value >>= onward = onward value
want_bytes addr len next >>= onward = want_bytes addr len (λ got. next got >>= onward)
want_words addr most test next >>= onward = want_words addr most test (λ got. next got >>= onward)

abbrev pub ◌>>◌ : {A B : Type 0} → Reader A → Reader B → Reader B
first >> second = first >>= (λ _. second)

-- so many bytes at an address
abbrev pub take_bytes : ℕ → ℕ → Reader (List ℕ)
take_bytes addr len = want_bytes addr len done

-- at most so many words of eight bytes at an address, up to and with the first that fails the test
abbrev pub take_words : ℕ → ℕ → (ℕ → Bool) → Reader (List ℕ)
take_words addr most test = want_words addr most test done

-- ---- words of eight bytes

-- so many words, the least byte of each first
abbrev pub words_of : ℕ → List ℕ → List ℕ
words_of zero bytes = []
words_of (suc count) bytes = from_le_bytes w64 (take 8 bytes) ∷ words_of count (drop 8 bytes)

-- all whole words that the bytes make
abbrev pub words_in : List ℕ → List ℕ
words_in bytes = words_of (length bytes / 8) bytes

-- the words up to and with the first that fails the test, and at most so many; none where they end before
abbrev pub up_to_failing : (ℕ → Bool) → List ℕ → ℕ → Option (List ℕ)
up_to_failing test [] zero = Some []
up_to_failing test [] (suc most) = None
up_to_failing test (word ∷ rest) zero = Some []
up_to_failing test (word ∷ rest) (suc most) =
    let others = up_to_failing test rest most in
    if test word then option_map (λ more. word ∷ more) others else Some (word ∷ [])

-- ---- over a list of reads

-- the bytes of the next read, which has to be of this address and length, and the reads behind it
abbrev pub next_bytes : ℕ → ℕ → List Read → Option (List ℕ × List Read)
next_bytes addr zero reads = Some ([], reads)
next_bytes addr (suc len) [] = None
next_bytes addr (suc len) (read ∷ reads) =
    if (read.addr == addr) && (length read.bytes == suc len) then Some (read.bytes, reads) else None

-- the words of the next read, which has to be of this address and to end where the words do, and the reads
-- behind it
abbrev pub next_words : ℕ → ℕ → (ℕ → Bool) → List Read → Option (List ℕ × List Read)
next_words addr zero test reads = Some ([], reads)
next_words addr (suc most) test [] = None
next_words addr (suc most) test (read ∷ reads) =
    let fit = λ (got : List ℕ). (read.addr == addr) && (length read.bytes == 8 * length got) in
    option_and_then (λ got. if fit got then Some (got, reads) else None) (up_to_failing test (words_in read.bytes) (suc most))

-- what the reader makes of the reads at the front, and the reads that it leaves
abbrev pub over_reads : {A : Type 0} → Reader A → List Read → Option (A × List Read)
over_reads (done value) reads = Some (value, reads)
over_reads (want_bytes addr len next) reads =
    option_and_then (λ step. over_reads (next step.0) step.1) (next_bytes addr len reads)
over_reads (want_words addr most test next) reads =
    option_and_then (λ step. over_reads (next step.0) step.1) (next_words addr most test reads)

-- the value, where no reads are left
abbrev pub if_used_up : {A : Type 0} → A × List Read → Option A
if_used_up (value, []) = Some value
if_used_up (value, read ∷ reads) = None

-- what the reader makes of these reads, where they are those it asks for, and no others
abbrev pub reading : {A : Type 0} → Reader A → List Read → Option A
reading reader reads = option_and_then if_used_up (over_reads reader reads)

-- ---- over a lane

-- the bytes at an address, where the lane has so many there
abbrev pub lane_bytes : List ℕ → ℕ → ℕ → Option (List ℕ)
lane_bytes lane addr len =
    let got = bytes_at lane addr len in
    if length got == len then Some got else None

-- the words at an address, where the lane has so many there
abbrev pub lane_words : List ℕ → ℕ → ℕ → (ℕ → Bool) → Option (List ℕ)
lane_words lane addr most test = up_to_failing test (words_in (bytes_from lane addr)) most

-- what the reader makes of the lane, and the list of reads with those that it asked for at its end
abbrev pub over_lane : {A : Type 0} → Reader A → List ℕ → List Read → Option (A × List Read)
over_lane (done value) lane reads = Some (value, reads)
over_lane (want_bytes addr len next) lane reads =
    option_and_then (λ got. over_lane (next got) lane (reads ++ listed addr got)) (lane_bytes lane addr len)
over_lane (want_words addr most test next) lane reads =
    option_and_then (λ got. over_lane (next got) lane (reads ++ listed addr (bytes_at lane addr (8 * length got))))
    (lane_words lane addr most test)

-- what the reader makes of the lane, without the list
abbrev pub outcome_over : {A : Type 0} → Reader A → List ℕ → Option A
outcome_over reader lane = option_map (λ end. end.0) (over_lane reader lane [])

-- ---- laws of readers

-- over a lane a reader gives a value and takes these reads exactly where it makes that value of these reads,
-- and the lane has the bytes of each
abbrev pub IsReadFromLane : Type 0 → Type 0
IsReadFromLane A = (reader : Reader A) (lane : List ℕ) (reads : List Read) (value : A) →
    (over_lane reader lane [] ≡ Some (value, reads)) ↔ ((reading reader reads ≡ Some value) × HoldsReads lane reads)

-- a reader looks at no reads that were listed before, and adds its own behind them
abbrev pub AddsItsReads : Type 0 → Type 0
AddsItsReads A = (reader : Reader A) (lane : List ℕ) (before after : List Read) (value : A) →
    (over_lane reader lane before ≡ Some (value, after))
    ↔ ((taken : List Read) × (after ≡ before ++ taken) × (over_lane reader lane [] ≡ Some (value, taken)))

-- of two readers in a row the second goes on with the value and the reads of the first
pub record RunsOnward (A B : Type 0) (first : Reader A) (onward : A → Reader B) : Type 0 where
  pub lane : (lane : List ℕ) (reads : List Read) →
      over_lane (first >>= onward) lane reads ≡ option_and_then (λ step. over_lane (onward step.0) lane step.1) (over_lane first lane reads)
  pub reads : (reads : List Read) →
      over_reads (first >>= onward) reads ≡ option_and_then (λ step. over_reads (onward step.0) step.1) (over_reads first reads)

abbrev pub RunsInTurn : Type 0 → Type 0 → Type 0
RunsInTurn A B = (first : Reader A) (onward : A → Reader B) → RunsOnward A B first onward
