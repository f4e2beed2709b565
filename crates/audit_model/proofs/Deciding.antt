-- Whether an event can be next in a faultless history can be told.
use Rattle.std.proofs.Common.{◌≡◌, ◌⊎◌, ℕ, zero, suc, ◌+◌, ◌-◌, List, [], ◌∷◌, ◌++◌, Option, Some, None, refl, ap, sym, ◌∙◌, inl, inr, arith}
use Rattle.std.proofs.lemmas.Bool.{cases_lt}
use Rattle.std.proofs.lemmas.Bool.Decides.{eqb_tells}
use Rattle.std.proofs.lemmas.List.Kept.{AllPairs-cons}
use Rattle.std.specs.Prelude.{All, AllPairs, IsSome, slice_get}
use Rattle.event_journal.specs.declared.event.Event.{Event}
use Rattle.event_journal.specs.declared.event.Event.TheVariants.{Entry, Exit}
use Rattle.kernel_model.specs.Application.{Booted}
use Rattle.kernel_model.specs.History.{kernel_after}
use Rattle.kernel_model.specs.Kernel.{Kernel}
use Rattle.kernel_state.specs.Reads.{Agree, ReadsAgree}
use Rattle.ns_ram.specs.declared.read.Read.{Read}
use Rattle.audit_model.specs.Verdicts.{IsFaultless, IsSteady}
use Rattle.audit_model.proofs.Disjoint.{none_agrees}

-- whether the fact holds is told
abbrev pub Told : Type 0 → Type 0
Told P = P ⊎ (P → ⊥)

-- ---- two reads

-- the byte is that of the read at an address, if it has one there
abbrev IsByteOf : ℕ → ℕ → Read → Type 0
IsByteOf addr byte other = (j that : ℕ) → addr ≡ other.addr + j → slice_get other.bytes j ≡ Some that → byte ≡ that

-- and so is each of these bytes from an address on
abbrev AreBytesOf : ℕ → List ℕ → Read → Type 0
AreBytesOf addr bytes other =
    (i j byte that : ℕ) → addr + i ≡ other.addr + j → slice_get bytes i ≡ Some byte → slice_get other.bytes j ≡ Some that → byte ≡ that

-- by what the read has at the address
tell_found : (addr byte : ℕ) (other : Read) (at : ℕ) → addr ≡ other.addr + at → (found : Option ℕ) → slice_get other.bytes at ≡ found
    → Told (IsByteOf addr byte other)
tell_found addr byte other at is None none =
    inl (λ j that same there. let place : j ≡ at = omega (arith, is, same) in
    let clash : None ≡ Some that = sym none ∙ ap (slice_get other.bytes) (sym place) ∙ there in absurd cc)
tell_found addr byte other at is (Some one) there =
    elim (eqb_tells byte one) [
      | inl (test, equal) ↦
          inl (λ j that same found. let place : j ≡ at = omega (arith, is, same) in
          let known : Some one ≡ Some that = sym there ∙ ap (slice_get other.bytes) (sym place) ∙ found in
          let found_is : one ≡ that = cc in equal ∙ found_is)
      | inr (test, apart) ↦ inr (λ all. apart (all at one is there))
    ]

tell_byte : (addr byte : ℕ) (other : Read) → Told (IsByteOf addr byte other)
tell_byte addr byte other =
    elim (cases_lt addr other.addr) [
      | inl below ↦ inl (λ j that same there. absurd (omega (arith, below, same)))
      | inr within ↦ tell_found addr byte other (addr - other.addr) (omega (arith, within)) (slice_get other.bytes (addr - other.addr)) refl
    ]

tell_both : (addr byte : ℕ) (bytes : List ℕ) (other : Read) → Told (IsByteOf addr byte other) → Told (AreBytesOf (addr + 1) bytes other)
    → Told (AreBytesOf addr (byte ∷ bytes) other)
tell_both addr byte bytes other (inl here) (inl rest) = inl all
  where
    all : AreBytesOf addr (byte ∷ bytes) other
    all zero j one that same is there = let equal : byte ≡ one = cc in sym equal ∙ here j that (omega (arith, same)) there
    all (suc i) j one that same is there = rest i j one that (omega (arith, same)) is there
tell_both addr byte bytes other (inr not) told = inr (λ all. not (λ j that same there. all zero j byte that (omega (arith, same)) refl there))
tell_both addr byte bytes other (inl here) (inr not) =
    inr (λ all. not (λ i j one that same is there. all (suc i) j one that (omega (arith, same)) is there))

tell_bytes : (addr : ℕ) (bytes : List ℕ) (other : Read) → Told (AreBytesOf addr bytes other)
tell_bytes addr [] other = inl (λ i j byte that same is there. absurd cc)
tell_bytes addr (byte ∷ bytes) other = tell_both addr byte bytes other (tell_byte addr byte other) (tell_bytes (addr + 1) bytes other)

tell_agree : (one other : Read) → Told (Agree one other)
tell_agree one other = tell_bytes one.addr one.bytes other

-- ---- the reads of an event

tell_first : (one other : Read) (others : List Read) → Told (Agree one other) → Told (All (Agree one) others) → Told (All (Agree one) (other ∷ others))
tell_first one other others (inl here) (inl rest) = inl all
  where
    all : All (Agree one) (other ∷ others)
    all zero d within = here
    all (suc i) d within = rest i d (omega (arith, within))
tell_first one other others (inr not) told = inr (λ all. not (all zero other (omega arith)))
tell_first one other others (inl here) (inr not) = inr (λ all. not (λ i d within. all (suc i) d (omega (arith, within))))

tell_all : (one : Read) (others : List Read) → Told (All (Agree one) others)
tell_all one [] = inl (λ i d within. absurd (omega (arith, within)))
tell_all one (other ∷ others) = tell_first one other others (tell_agree one other) (tell_all one others)

tell_more : (read : Read) (reads : List Read) → Told (All (Agree read) reads) → Told (AllPairs Agree reads) → Told (AllPairs Agree (read ∷ reads))
tell_more read reads (inl head) (inl tail) = inl (AllPairs-cons Agree read reads head tail)
tell_more read reads (inr not) told = inr (λ all. not (λ j d within. all zero (suc j) d (omega arith) (omega (arith, within))))
tell_more read reads (inl head) (inr not) =
    inr (λ all. not (λ i j d before within. all (suc i) (suc j) d (omega (arith, before)) (omega (arith, within))))

tell_pairs : (reads : List Read) → Told (AllPairs Agree reads)
tell_pairs [] = inl none_agrees
tell_pairs (read ∷ reads) = tell_more read reads (tell_all read reads) (tell_pairs reads)

tell_reads : (event : Event) → Told (ReadsAgree event)
tell_reads (Entry cpu regs steps reads) = tell_pairs reads
tell_reads (Exit cpu regs) = inl tt

-- ---- a history and the next event

tell_some : (kernel : Option Kernel) → Told (IsSome kernel)
tell_some None = inr (λ some. absurd cc)
tell_some (Some kernel) = inl refl

pub steady_behind : (events : List Event) (event : Event) → IsSteady events → ReadsAgree event → IsSteady (events ++ event ∷ [])
steady_behind [] event steady agree = (agree, tt)
steady_behind (first ∷ events) event steady agree = (steady.0, steady_behind events event steady.1 agree)

last_agrees : (events : List Event) (event : Event) → IsSteady (events ++ event ∷ []) → ReadsAgree event
last_agrees [] event steady = steady.0
last_agrees (first ∷ events) event steady = last_agrees events event steady.1

tell_whole : (boot : Booted) (before : List Event) (event : Event) → IsFaultless boot before
    → Told (IsSome (kernel_after boot (before ++ event ∷ []))) → Told (ReadsAgree event) → Told (IsFaultless boot (before ++ event ∷ []))
tell_whole boot before event had (inl follows) (inl agree) =
    inl (record {
      legal = record { boots = had.legal.boots; follows = follows };
      steady = steady_behind before event had.steady agree;
    })
tell_whole boot before event had (inr not) told = inr (λ whole. not whole.legal.follows)
tell_whole boot before event had (inl follows) (inr not) = inr (λ whole. not (last_agrees before event whole.steady))

pub tell_next : (boot : Booted) (before : List Event) (event : Event) → IsFaultless boot before → Told (IsFaultless boot (before ++ event ∷ []))
tell_next boot before event had = tell_whole boot before event had (tell_some (kernel_after boot (before ++ event ∷ []))) (tell_reads event)
