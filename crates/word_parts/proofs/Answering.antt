-- What is known of a status, by what was written with it.
use Rattle.std.proofs.Common.{◌≡◌, ℕ, ◌⊎◌, inl, inr, List, Option, Some, None, refl}
use Rattle.std.specs.Prelude.{IsSome, Result, Ok, Err}
use Rattle.ports.specs.Port.{Appends}
use Rattle.word_parts.specs.Answer.{Writes, status_of, status_of_play}
use Rattle.word_parts.specs.Output.{AppendsPart}
use Rattle.word_parts.specs.declared.status.Status.{Status}
use Rattle.word_parts.specs.declared.status.Status.TheVariants.{BadTrace, WriteFault, Memory, TooLong}
use Rattle.word_parts.specs.declared.status.Status.TheVariants as status
use Rattle.word_parts.specs.declared.stop.Stop.{Stop}
use Rattle.word_parts.specs.declared.stop.Stop.TheVariants.{Full, Failed}
use Rattle.word_parts.specs.declared.stop.Stop.TheVariants as stop

-- ---- each status

-- the status is one, and no other
pub writes-named : (named : Status) (text : List ℕ) (result : Status) (old new : Option (List ℕ))
    → Writes named text result old new
    → (result ≡ WriteFault → ⊥) → (result ≡ Memory → ⊥) → (result ≡ named) × Appends old new text
writes-named named text result old new (inl whole) no_fault no_want = whole
writes-named named text result old new (inr ((inl fault), part)) no_fault no_want = absurd (no_fault fault)
writes-named named text result old new (inr ((inr want), part)) no_fault no_want = absurd (no_want want)

pub writes-part : (named : Status) (text : List ℕ) (result : Status) (old new : Option (List ℕ))
    → Writes named text result old new
    → (result ≡ named → ⊥) → AppendsPart old new text
writes-part named text result old new (inl whole) other = absurd (other whole.0)
writes-part named text result old new (inr part) other = part.1

pub ok-refused : (o : Option ℕ) → status.Ok ≡ status_of_play o → o ≡ None
ok-refused None e = refl
ok-refused (Some more) e = absurd cc

pub long-refused : (o : Option ℕ) → TooLong ≡ status_of_play o → IsSome o
long-refused None e = absurd cc
long-refused (Some more) e = refl

pub refused-status : (o : Option ℕ) → IsSome o → status_of_play o ≡ TooLong
refused-status (Some more) some = refl
refused-status None some = absurd cc

-- at WriteFault and Memory it is no other
pub is-short : (result : Status) → (result ≡ WriteFault) ⊎ (result ≡ Memory) → (result ≡ status.Ok → ⊥)
    × (result ≡ BadTrace → ⊥) × (result ≡ TooLong → ⊥)
is-short result (inl e) = (λ other. absurd cc, λ other. absurd cc, λ other. absurd cc)
is-short result (inr e) = (λ other. absurd cc, λ other. absurd cc, λ other. absurd cc)

pub other-status : (o : Option ℕ) (result : Status) → (result ≡ status.Ok → ⊥) × (result ≡ BadTrace → ⊥)
    × (result ≡ TooLong → ⊥) → result ≡ status_of_play o → ⊥
other-status None result other e = other.0 e
other-status (Some more) result other e = other.2 e

pub writes-whole : (text : List ℕ) (result : Status) (old new : Option (List ℕ)) → Writes status.Ok text result old new
    → (result ≡ WriteFault → ⊥)
    → ((result ≡ status.Ok) × Appends old new text) ⊎ (result ≡ Memory)
writes-whole text result old new (inl whole) no_fault = inl whole
writes-whole text result old new (inr ((inl fault), part)) no_fault = absurd (no_fault fault)
writes-whole text result old new (inr ((inr want), part)) no_fault = inr want

-- ---- statuses that don't come

pub not-usage : (stopped : Result (Unit {0}) Stop) → status_of stopped ≡ status.Usage → ⊥
not-usage (Ok done) e = absurd cc
not-usage (Err Full) e = absurd cc
not-usage (Err Failed) e = absurd cc
not-usage (Err stop.Memory) e = absurd cc

pub failed-only : (stopped : Result (Unit {0}) Stop) → status_of stopped ≡ WriteFault → stopped ≡ Err Failed
failed-only (Ok done) e = absurd cc
failed-only (Err Full) e = absurd cc
failed-only (Err Failed) e = refl
failed-only (Err stop.Memory) e = absurd cc
