-- What stands behind a record is shorter than what stands from it on, by at least the bytes that it tells were read.
use Rattle.std.proofs.Common.{◌≡◌, ℕ, zero, suc, ◌+◌, ◌-◌, ◌≤◌, Bool, true, false, cond, List, [], ◌∷◌, length, drop, length-drop, Option, Some, None, refl, arith}
use Rattle.std.specs.Option.{option_map}
use Rattle.std.proofs.lemmas.List.{length-take}
use Rattle.std.proofs.lemmas.List.Sums.{sum_by-cons}
use Rattle.ns_ram.specs.declared.read.Read.{Read}
use Rattle.ns_ram.specs.Reads.{total_bytes}
use Rattle.trace_bin.specs.declared.record_kind.RecordKind.TheVariants as trace
use Rattle.trace_bin.specs.Record.{body_len, bytes_in, is_whole as is_whole_body, number}
use Rattle.journal_bytes.specs.declared.record_kind.RecordKind.{RecordKind}
use Rattle.journal_bytes.specs.declared.record_kind.RecordKind.TheVariants as kind
use Rattle.journal_bytes.specs.Record.{behind, behind_read, listed_in, read_in, reads_at, reads_of, rest_of, with_read}
use Rattle.journal_bytes.specs.Rules.{behind_kind, behind_record, kind_of}

-- the bytes of so many reads stand in these
abbrev pub AreWithin : Option (List Read × List ℕ) → ℕ → Type 0
AreWithin listed len = total_bytes (reads_of listed) + length (rest_of listed) ≤ len

-- within more bytes too
within_more : (listed : Option (List Read × List ℕ)) (len more : ℕ) → AreWithin listed len → len ≤ more → AreWithin listed more
within_more listed len more h le = omega (arith, h, le)

none_within : (len : ℕ) → AreWithin None len
none_within len = let none : total_bytes [] ≡ 0 = refl in let fits : total_bytes [] + length {A = ℕ} [] ≤ len = omega (arith, none) in fits

read_within : (bytes : List ℕ) → length (bytes_in trace.Mem bytes) + length (behind_read bytes) ≤ length bytes
read_within bytes =
    omega (arith, length-drop (body_len trace.Mem bytes) bytes, length-take (body_len trace.Mem bytes - 12) (drop 12 bytes), length-drop 12 bytes)

one_within : (bytes : List ℕ) (more : Option (List Read × List ℕ)) → AreWithin more (length (behind_read bytes)) → AreWithin (option_map (with_read (read_in bytes)) more) (length bytes)
one_within bytes None h = none_within (length bytes)
one_within bytes (Some (reads, rest)) h =
    let read = read_within bytes in
    let later : total_bytes reads + length rest ≤ length (behind_read bytes) = h in
    let both : total_bytes (read_in bytes ∷ reads) ≡ length (bytes_in trace.Mem bytes) + total_bytes reads = sum_by-cons (λ (r : Read). length r.bytes) (read_in bytes) reads in
    let all : total_bytes (read_in bytes ∷ reads) + length rest ≤ length bytes = omega (arith, read, later, both) in
    all

pub reads_within : (count : ℕ) (bytes : List ℕ) → AreWithin (reads_at count bytes) (length bytes)
reads_within zero bytes = let none : total_bytes [] ≡ 0 = refl in let all : total_bytes [] + length bytes ≤ length bytes = omega (arith, none) in all
reads_within (suc count) bytes = by_whole (is_whole_body trace.Mem bytes) (one_within bytes (reads_at count (behind_read bytes)) (reads_within count (behind_read bytes)))
  where
    by_whole : (there : Bool) → AreWithin (option_map (with_read (read_in bytes)) (reads_at count (behind_read bytes))) (length bytes)
        → AreWithin (cond there (option_map (with_read (read_in bytes)) (reads_at count (behind_read bytes))) None) (length bytes)
    by_whole true more = more
    by_whole false more = none_within (length bytes)

pub listed_within : (body : List ℕ) → AreWithin (listed_in body) (length body)
unfolding listed_in
listed_within body =
    within_more (reads_at (number 4 37 body) (drop 41 body)) (length (drop 41 body)) (length body) (reads_within (number 4 37 body) (drop 41 body)) (omega (arith, length-drop 41 body))

pub behind_shorter : (kind : RecordKind) (body : List ℕ) → length (behind kind body) ≤ length body
unfolding behind
behind_shorter kind.Boot body = omega (arith, length-drop (body_len trace.Boot body) body)
behind_shorter kind.Ta body = omega (arith, length-drop (body_len trace.Ta body) body)
behind_shorter kind.Key body = omega (arith, length-drop (body_len trace.Key body) body)
behind_shorter kind.Entry body = let all : total_bytes (reads_of (listed_in body)) + length (rest_of (listed_in body)) ≤ length body = listed_within body in omega (arith, all)
behind_shorter kind.Exit body = omega (arith, length-drop 33 body)

pub shorter : (tag : ℕ) (body : List ℕ) → length (behind_record (tag ∷ body)) ≤ length body
unfolding behind_record
shorter tag body = by_kind (kind_of (tag ∷ body)) body
  where
    by_kind : (kind : Option RecordKind) (body : List ℕ) → length (behind_kind kind body) ≤ length body
    by_kind None body = omega arith
    by_kind (Some kind) body = behind_shorter kind body
