-- A word that can't have ended otherwise has ended with 0 or for want of memory.
use Rattle.std.proofs.Common.{◌≡◌, ◌⊎◌, inl, inr, refl}
use Rattle.word_parts.specs.declared.status.Status.{Status}
use Rattle.word_parts.specs.declared.status.Status.TheVariants.{Memory}
use Rattle.word_parts.specs.declared.status.Status.TheVariants as status

pub ok_or_memory : (result : Status) → ((result ≡ status.Ok → ⊥) → (result ≡ Memory → ⊥) → ⊥)
    → (result ≡ status.Ok) ⊎ (result ≡ Memory)
ok_or_memory status.Ok nothing_else = inl refl
ok_or_memory status.Memory nothing_else = inr refl
ok_or_memory status.Usage nothing_else = absurd (nothing_else (λ e. absurd cc) (λ e. absurd cc))
ok_or_memory status.BadTrace nothing_else = absurd (nothing_else (λ e. absurd cc) (λ e. absurd cc))
ok_or_memory status.ReadFault nothing_else = absurd (nothing_else (λ e. absurd cc) (λ e. absurd cc))
ok_or_memory status.WriteFault nothing_else = absurd (nothing_else (λ e. absurd cc) (λ e. absurd cc))
ok_or_memory status.TooLong nothing_else = absurd (nothing_else (λ e. absurd cc) (λ e. absurd cc))
