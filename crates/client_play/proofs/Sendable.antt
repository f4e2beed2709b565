-- The operations of a script's calls can be sent.
use Rattle.std.proofs.Common.{ℕ, zero, suc, ◌≤◌, List, [], ◌∷◌, length, Option, refl, sym, subst, arith}
use Rattle.std.specs.Prelude.{All, IsTrue}
use Rattle.std.specs.List.{AllByRecursion}
use Rattle.std.proofs.lemmas.List.{length-replicate}
use Rattle.std.proofs.lemmas.List.Elements.{recursion_from_All}
use Rattle.client_play.specs.Calls.{operation_of, param_at, param_of}
use Rattle.client_text.specs.Forms.{has_length}
use Rattle.client_text.specs.declared.script.ScriptParam.{ScriptParam}
use Rattle.client_text.specs.declared.script.ScriptParam.TheVariants as script
use Rattle.teec.specs.Operation.{FitsItsPlace, IsSendable, Sends}
use Rattle.trace_text.specs.Limits.{is_within}

-- ---- bounds

pub is_short : (len : ℕ) → IsTrue (is_within 1 65536 len) → len ≤ 65536
is_short len within = grind arith

-- ---- a parameter

fits : (param : ScriptParam) → IsTrue (has_length param) → FitsItsPlace (param_of param)
fits script.Empty has = tt
fits (script.ValueIn a b) has = tt
fits script.ValueOut has = tt
fits (script.ValueInout a b) has = tt
fits (script.MemoryIn bytes) has = (is_short (length bytes) has, refl)
fits (script.MemoryOut len) has =
    let size = length-replicate len 0 in (subst (λ (n : ℕ). n ≤ 65536) (sym size) (is_short len has), sym size)
fits (script.MemoryInout bytes) has = (is_short (length bytes) has, refl)

fits_at : (params : List ScriptParam) (number : ℕ) → AllByRecursion (λ (param : ScriptParam). IsTrue (has_length param)) params
    → FitsItsPlace (param_at params number)
fits_at [] number all = tt
fits_at (param ∷ params) zero all = fits param all.0
fits_at (param ∷ params) (suc number) all = fits_at params number all.1

-- ---- all of them

pub sendable : (params : List ScriptParam) (cancel_after : Option ℕ) → All (λ param. IsTrue (has_length param)) params
    → IsSendable (operation_of params cancel_after)
sendable params cancel_after lengths =
    let all = recursion_from_All (λ (param : ScriptParam). IsTrue (has_length param)) params lengths in
    (fits_at params 0 all, (fits_at params 1 all, (fits_at params 2 all, (fits_at params 3 all, tt))))

pub sends : (params : List ScriptParam) (cancel_after : Option ℕ) → length params ≤ 4
    → Sends (operation_of params cancel_after) (length params)
sends [] cancel_after few = record { at_most_four = few; others_empty = (refl, (refl, (refl, (refl, tt)))) }
sends (one ∷ []) cancel_after few = record { at_most_four = few; others_empty = (refl, (refl, (refl, tt))) }
sends (one ∷ two ∷ []) cancel_after few = record { at_most_four = few; others_empty = (refl, (refl, tt)) }
sends (one ∷ two ∷ three ∷ []) cancel_after few = record { at_most_four = few; others_empty = (refl, tt) }
sends (one ∷ two ∷ three ∷ four ∷ []) cancel_after few = record { at_most_four = few; others_empty = tt }
sends (one ∷ two ∷ three ∷ four ∷ five ∷ params) cancel_after few = absurd (omega (arith, few))
