-- What the private functions of the crate answer, in the words of the rules.
use Rattle.std.specs.Prelude.{◌≡◌, ℕ, List, [], ◌∷◌, Bool, false, not, ◌==◌, None, Some, Result, Ok, Err}
use Rattle.ns_ram.specs.declared.read.Read.{Read}
use Rattle.trace_text.specs.declared.fault.BadKind.{BadKind}
use Rattle.trace_text.specs.declared.fault.BadKind.TheVariants as bad
use Rattle.trace_text.specs.declared.fault.LineFault.{LineFault}
use Rattle.trace_text.specs.declared.fault.LineFault.TheVariants.{Broken, NoRoom}
use Rattle.journal_bytes.specs.declared.reading.ReadJournal.{ReadJournal}
use Rattle.journal_bytes.specs.Record.{end_tag, reads_at}
use Rattle.journal_bytes.specs.Recording.{Told}

-- an event was written behind the others, or memory ran out
abbrev pub IsPut : Result Unit LineFault → Told → Told → Type 0
IsPut (Ok u) wanted after = after ≡ wanted
IsPut (Err fault) wanted after = fault ≡ NoRoom

-- so many reads aren't there, since the bytes end before, and that is the fault; or memory ran out
abbrev pub IsCutAt : LineFault → ℕ → List ℕ → Type 0
IsCutAt (Broken kind) count bytes = (reads_at count bytes ≡ None) × (kind ≡ bad.Cut)
IsCutAt NoRoom count bytes = Unit {0}

-- so many reads are there, these; or they aren't, or memory ran out
abbrev pub AreListed : {X : Type 0} → Result X LineFault → (X → List ℕ) → ℕ → List ℕ → List Read → Type 0
AreListed (Ok rest) view count bytes reads = reads_at count bytes ≡ Some (reads, view rest)
AreListed (Err fault) view count bytes reads = IsCutAt fault count bytes

-- the records end here, after so many bytes and so many records: behind a boot, and this is the journal; or before any
abbrev pub Ends : Result ReadJournal BadKind → Told → ℕ → ℕ → Type 0
Ends (Ok read) before used records =
    (before ≡ record { boot = Some read.boot; keyed = before.keyed; events = read.journal.events }) × (read.used ≡ used) × (read.records ≡ records)
Ends (Err kind) before used records = (before.boot ≡ None) × (kind ≡ bad.Place)

-- a record stands here, and not the end, or nothing
abbrev pub is_record : List ℕ → Bool
is_record [] = false
is_record (tag ∷ body) = not (tag == end_tag)
