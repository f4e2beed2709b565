-- What the record of an entry says, where its reads are taken one after the other.
use Rattle.std.proofs.Common.{◌≡◌, ℕ, ◌+◌, ◌≤◌, Bool, true, false, cond, ltb, List, [], ◌∷◌, length, drop, length-drop, Option, Some, None, refl, sym, subst, ap, ◌∙◌, arith}
use Rattle.std.specs.Prelude.{is_some, ◌&&◌}
use Rattle.std.specs.List.{list_all}
use Rattle.std.proofs.lemmas.Bool.{le-leb}
use Rattle.ns_ram.specs.declared.read.Read.{Read}
use Rattle.ns_ram.specs.Reads.{total_bytes}
use Rattle.smc_abi.specs.declared.regs.Regs.{Regs}
use Rattle.event_journal.specs.declared.event.Event.TheVariants.{Entry}
use Rattle.trace_text.specs.declared.fault.BadKind.{BadKind}
use Rattle.trace_text.specs.declared.fault.BadKind.TheVariants as bad
use Rattle.trace_text.specs.declared.fault.LineFault.{LineFault}
use Rattle.trace_text.specs.declared.fault.LineFault.TheVariants.{Broken, NoRoom}
use Rattle.trace_text.specs.Limits.{cpus_of, first_broken, is_within}
use Rattle.trace_bin.specs.Record.{number}
use Rattle.trace_bin.specs.Taking.{IsRefused}
use Rattle.journal_bytes.specs.declared.record_kind.RecordKind.TheVariants as kind
use Rattle.journal_bytes.specs.Record.{behind, cpu_in, is_read, is_whole, listed_in, reads_at, reads_of, regs_in, rest_of, steps_in}
use Rattle.journal_bytes.specs.Recording.{Told}
use Rattle.journal_bytes.specs.Rules.{added, entry_rules, rules_in, rules_of, with_event}
use Rattle.journal_bytes.specs.Taking.{IsCutAt}
use Rattle.journal_bytes.proofs.Shrinks.{AreWithin, reads_within}

-- the body has all that stands in front of its reads: their number, and where they begin
pub record IsFront (body : List ℕ) (count : ℕ) (bytes : List ℕ) : Type 0 where
  pub long : 41 ≤ length body
  pub count_is : count ≡ number 4 37 body
  pub bytes_are : bytes ≡ drop 41 body

listed : (body : List ℕ) (count : ℕ) (bytes : List ℕ) (found : Option (List Read × List ℕ)) → IsFront body count bytes → reads_at count bytes ≡ found → listed_in body ≡ found
unfolding listed_in
listed body count bytes found front is =
    ap (λ (n : ℕ). reads_at n (drop 41 body)) (sym front.count_is) ∙ ap (λ (b : List ℕ). reads_at count b) (sym front.bytes_are) ∙ is

-- the reads are these, and this stands behind them
pub record HasReads (body : List ℕ) (reads : List Read) (rest : List ℕ) : Type 0 where
  pub long : 41 ≤ length body
  pub listed_is : listed_in body ≡ Some (reads, rest)

pub has_reads : (body : List ℕ) (count : ℕ) (bytes : List ℕ) (reads : List Read) (rest : List ℕ) → IsFront body count bytes → reads_at count bytes ≡ Some (reads, rest) → HasReads body reads rest
has_reads body count bytes reads rest front is = record { long = front.long; listed_is = listed body count bytes (Some (reads, rest)) front is }

-- ---- the rules

-- those of the body, given the reads
abbrev rules_with : Told → List ℕ → List Read → List (BadKind × Bool)
rules_with before body reads =
    (bad.Place, is_some before.boot)
    ∷ (bad.Range, is_within 1 1000000 (steps_in body))
    ∷ (bad.Range, list_all is_read reads)
    ∷ (bad.Cpu, ltb (cpu_in body) (cpus_of before.boot))
    ∷ []

abbrev four : Bool → Bool → Bool → Bool → List (BadKind × Bool)
four booted granted read there = (bad.Place, booted) ∷ (bad.Range, granted) ∷ (bad.Range, read) ∷ (bad.Cpu, there) ∷ []

-- what is broken where the reads are there is what is broken of those rules
pub rules_are : (natives : List (List ℕ)) (before : Told) (body : List ℕ) (reads : List Read) (rest : List ℕ) → HasReads body reads rest
    → first_broken (rules_in kind.Entry natives before body) ≡ first_broken (four (is_some before.boot) (is_within 1 1000000 (steps_in body)) (list_all is_read reads) (ltb (cpu_in body) (cpus_of before.boot)))
unfolding is_whole rules_of
rules_are natives before body reads rest has =
    ap (λ (b : Bool). cond (b && is_some (listed_in body)) (first_broken (entry_rules before body)) (Some bad.Cut)) (le-leb 41 (length body) has.long)
    ∙ ap (λ (o : Option (List Read × List ℕ)). cond (is_some o) (first_broken (rules_with before body (reads_of o))) (Some bad.Cut)) has.listed_is

pub place_broken : (booted granted read there : Bool) → booted ≡ false → first_broken (four booted granted read there) ≡ Some bad.Place
place_broken true granted read there e = absurd cc
place_broken false granted read there e = refl

pub steps_broken : (booted granted read there : Bool) → booted ≡ true → granted ≡ false → first_broken (four booted granted read there) ≡ Some bad.Range
steps_broken false granted read there e f = absurd cc
steps_broken true true read there e f = absurd cc
steps_broken true false read there e f = refl

pub reads_broken : (booted granted read there : Bool) → booted ≡ true → granted ≡ true → read ≡ false → first_broken (four booted granted read there) ≡ Some bad.Range
reads_broken false granted read there e f g = absurd cc
reads_broken true false read there e f g = absurd cc
reads_broken true true true there e f g = absurd cc
reads_broken true true false there e f g = refl

pub cpu_broken : (booted granted read there : Bool) → booted ≡ true → granted ≡ true → read ≡ true → there ≡ false → first_broken (four booted granted read there) ≡ Some bad.Cpu
cpu_broken false granted read there e f g h = absurd cc
cpu_broken true false read there e f g h = absurd cc
cpu_broken true true false there e f g h = absurd cc
cpu_broken true true true true e f g h = absurd cc
cpu_broken true true true false e f g h = refl

pub none_broken : (booted granted read there : Bool) → booted ≡ true → granted ≡ true → read ≡ true → there ≡ true → first_broken (four booted granted read there) ≡ None
none_broken false granted read there e f g h = absurd cc
none_broken true false read there e f g h = absurd cc
none_broken true true false there e f g h = absurd cc
none_broken true true true false e f g h = absurd cc
none_broken true true true true e f g h = refl

-- a record that ends behind the bytes, or want of memory
pub cut_so : (natives : List (List ℕ)) (before : Told) (body : List ℕ) (count : ℕ) (bytes : List ℕ) (fault : LineFault) → IsFront body count bytes → IsCutAt fault count bytes → IsRefused fault (first_broken (rules_in kind.Entry natives before body))
unfolding is_whole
cut_so natives before body count bytes (Broken what) front (none, is_cut) =
    ap (λ (b : Bool). cond (b && is_some (listed_in body)) (first_broken (rules_of kind.Entry natives before body)) (Some bad.Cut)) (le-leb 41 (length body) front.long)
    ∙ ap (λ (o : Option (List Read × List ℕ)). cond (is_some o) (first_broken (rules_of kind.Entry natives before body)) (Some bad.Cut)) (listed body count bytes None front none)
    ∙ ap (λ (k : BadKind). Some k) (sym is_cut)
cut_so natives before body count bytes NoRoom front cut = tt

-- ---- what the record tells

pub told_so : (before after : Told) (body : List ℕ) (reads : List Read) (rest : List ℕ) (regs : Regs) (steps : ℕ) (taken : List Read) → HasReads body reads rest → regs ≡ regs_in body → steps ≡ steps_in body → taken ≡ reads
    → after ≡ with_event before (Entry (cpu_in body) regs steps taken) → after ≡ added kind.Entry before body
unfolding added
told_so before after body reads rest regs steps taken has regs_are steps_are taken_are is =
    is
    ∙ ap (λ (rs : Regs). with_event before (Entry (cpu_in body) rs steps taken)) regs_are
    ∙ ap (λ (n : ℕ). with_event before (Entry (cpu_in body) (regs_in body) n taken)) steps_are
    ∙ ap (λ (list : List Read). with_event before (Entry (cpu_in body) (regs_in body) (steps_in body) list)) (taken_are ∙ sym (ap reads_of has.listed_is))

pub behind_so : (body : List ℕ) (reads : List Read) (rest : List ℕ) → HasReads body reads rest → rest ≡ behind kind.Entry body
unfolding behind
behind_so body reads rest has = sym (ap rest_of has.listed_is)

-- the bytes that were read are no more than those of the record
pub few_so : (body : List ℕ) (count : ℕ) (bytes : List ℕ) (reads : List Read) (rest : List ℕ) → IsFront body count bytes → reads_at count bytes ≡ Some (reads, rest) → total_bytes reads ≤ length body
few_so body count bytes reads rest front is =
    let within : AreWithin (Some (reads, rest)) (length bytes) = subst (λ (o : Option (List Read × List ℕ)). AreWithin o (length bytes)) is (reads_within count bytes) in
    let fewer : total_bytes reads + length rest ≤ length bytes = within in
    omega (arith, fewer, ap (λ (b : List ℕ). length b) front.bytes_are, length-drop 41 body)
