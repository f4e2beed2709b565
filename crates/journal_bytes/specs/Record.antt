-- Records of a journal: the tag, the body, and what stands where in it. A boot, an application and a key are the records of a
-- binary trace, and a read is the body of its record `mem`. Numbers have their lowest byte first. This project's own.
use Rattle.std.specs.Prelude.{ℕ, zero, suc, List, [], ◌∷◌, drop, length, map, slice_index, nat_le, nat_lt, Bool, ◌&&◌, ◌==◌, if◌then◌else◌, Option, None, Some, is_some}
use Rattle.std.specs.Option.{option_map}
use Rattle.ns_ram.specs.declared.read.Read.{Read}
use Rattle.smc_abi.specs.declared.regs.Regs.{Regs}
use Rattle.trace_text.specs.Limits.{lies_in_ram}
use Rattle.trace_bin.specs.declared.record_kind.RecordKind.TheVariants as trace
use Rattle.trace_bin.specs.Record.{body_len, bytes_in, is_whole as is_whole_body, number}
use Rattle.journal_bytes.specs.declared.record_kind.RecordKind.{RecordKind}
use Rattle.journal_bytes.specs.declared.record_kind.RecordKind.TheVariants as kind

-- the tag of each kind of record
abbrev pub tag_table : List (ℕ × RecordKind)
tag_table = (0x01, kind.Boot) ∷ (0x02, kind.Ta) ∷ (0x04, kind.Key) ∷ (0x20, kind.Entry) ∷ (0x21, kind.Exit) ∷ []

-- the kind beside the first row of this tag
abbrev pub kind_in : List (ℕ × RecordKind) → ℕ → Option RecordKind
kind_in [] tag = None
kind_in (row ∷ rows) tag = if tag == row.0 then Some row.1 else kind_in rows tag

unfoldable pub kind_tagged : ℕ → Option RecordKind
kind_tagged tag = kind_in tag_table tag

-- the tag of the end, which has no body
abbrev pub end_tag : ℕ
end_tag = 0x7f

-- ---- what stands where in the body of an event: the processor, eight registers, and of an entry the steps and the number of
-- its reads, which stand behind

abbrev pub cpu_in : List ℕ → ℕ
cpu_in body = slice_index body 0

abbrev pub register_places : List ℕ
register_places = 1 ∷ 5 ∷ 9 ∷ 13 ∷ 17 ∷ 21 ∷ 25 ∷ 29 ∷ []

unfoldable pub regs_in : List ℕ → Regs
regs_in body = record { a = map (λ place. number 4 place body) register_places }

abbrev pub steps_in : List ℕ → ℕ
steps_in body = number 4 33 body

-- the read in front of these bytes: an address, and bytes behind their number
abbrev pub read_in : List ℕ → Read
read_in bytes = record { addr = number 8 0 bytes; bytes = bytes_in trace.Mem bytes }

abbrev pub behind_read : List ℕ → List ℕ
behind_read bytes = drop (body_len trace.Mem bytes) bytes

-- a read in front of others, and of what stands behind them
abbrev pub with_read : Read → List Read × List ℕ → List Read × List ℕ
with_read read (reads, rest) = (read ∷ reads, rest)

-- so many reads, and what stands behind them; none where the bytes end before
abbrev pub reads_at : ℕ → List ℕ → Option (List Read × List ℕ)
reads_at zero bytes = Some ([], bytes)
reads_at (suc count) bytes = if is_whole_body trace.Mem bytes then option_map (with_read (read_in bytes)) (reads_at count (behind_read bytes)) else None

unfoldable pub listed_in : List ℕ → Option (List Read × List ℕ)
listed_in body = reads_at (number 4 37 body) (drop 41 body)

abbrev pub reads_of : Option (List Read × List ℕ) → List Read
reads_of None = []
reads_of (Some (reads, rest)) = reads

abbrev pub rest_of : Option (List Read × List ℕ) → List ℕ
rest_of None = []
rest_of (Some (reads, rest)) = rest

abbrev pub reads_in : List ℕ → List Read
reads_in body = reads_of (listed_in body)

-- a read is of some bytes, all of them in RAM
abbrev pub is_read : Read → Bool
is_read read = nat_lt 0 (length read.bytes) && lies_in_ram read.addr (length read.bytes)

-- ---- how far a record goes

-- the record doesn't go on behind the end of the bytes
unfoldable pub is_whole : RecordKind → List ℕ → Bool
is_whole kind.Boot body = is_whole_body trace.Boot body
is_whole kind.Ta body = is_whole_body trace.Ta body
is_whole kind.Key body = is_whole_body trace.Key body
is_whole kind.Entry body = nat_le 41 (length body) && is_some (listed_in body)
is_whole kind.Exit body = nat_le 33 (length body)

-- what stands behind a record that is whole
unfoldable pub behind : RecordKind → List ℕ → List ℕ
behind kind.Boot body = drop (body_len trace.Boot body) body
behind kind.Ta body = drop (body_len trace.Ta body) body
behind kind.Key body = drop (body_len trace.Key body) body
behind kind.Entry body = rest_of (listed_in body)
behind kind.Exit body = drop 33 body
