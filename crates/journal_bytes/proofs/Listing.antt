-- Reads taken one after the other: those that are there already, and those that are still to come.
use Rattle.std.proofs.Common.{◌≡◌, ℕ, suc, ◌+◌, Bool, true, cond, List, [], ◌∷◌, ◌++◌, append_assoc, Option, Some, None, refl, sym, ap, ◌∙◌, add-one}
use Rattle.std.specs.Option.{option_map}
use Rattle.ns_ram.specs.declared.read.Read.{Read}
use Rattle.trace_bin.specs.declared.record_kind.RecordKind.TheVariants as trace
use Rattle.trace_bin.specs.Record.{is_whole as is_whole_body}
use Rattle.journal_bytes.specs.Record.{behind_read, read_in, reads_at, with_read}

-- those that are there, in front of those to come
abbrev pub behind_done : List Read → Option (List Read × List ℕ) → Option (List Read × List ℕ)
behind_done done None = None
behind_done done (Some (reads, rest)) = Some (done ++ reads, rest)

one_done : (done : List Read) (read : Read) (coming : Option (List Read × List ℕ)) → behind_done done (option_map (with_read read) coming) ≡ behind_done (done ++ read ∷ []) coming
one_done done read None = refl
one_done done read (Some (reads, rest)) = ap (λ (all : List Read). Some (all, rest)) (sym (append_assoc done (read ∷ []) reads))

next_done : (left : ℕ) (rest : List ℕ) (done : List Read) → is_whole_body trace.Mem rest ≡ true → behind_done done (reads_at (suc left) rest) ≡ behind_done (done ++ read_in rest ∷ []) (reads_at left (behind_read rest))
next_done left rest done whole =
    ap (λ (b : Bool). behind_done done (cond b (option_map (with_read (read_in rest)) (reads_at left (behind_read rest))) None)) whole
    ∙ one_done done (read_in rest) (reads_at left (behind_read rest))

-- the next read is there
pub goes_on : (count left fewer : ℕ) (bytes rest behind : List ℕ) (done more : List Read) → reads_at count bytes ≡ behind_done done (reads_at left rest) → fewer + 1 ≡ left → is_whole_body trace.Mem rest ≡ true
    → more ≡ done ++ read_in rest ∷ [] → behind ≡ behind_read rest → reads_at count bytes ≡ behind_done more (reads_at fewer behind)
goes_on count left fewer bytes rest behind done more so_far one whole put cut =
    so_far
    ∙ ap (λ (n : ℕ). behind_done done (reads_at n rest)) (sym one ∙ add-one fewer)
    ∙ next_done fewer rest done whole
    ∙ ap (λ (reads : List Read). behind_done reads (reads_at fewer (behind_read rest))) (sym put)
    ∙ ap (λ (b : List ℕ). behind_done more (reads_at fewer b)) (sym cut)
