-- A range of addresses with other bytes in it: what it then has.
use Rattle.std.proofs.Common.{◌≡◌, ℕ, zero, suc, List, [], length, refl, ap, sym}
use Rattle.std.specs.Prelude.{slice_index_or}
use Rattle.std.proofs.lemmas.List.{nil_from_length}
use Rattle.ta_params.specs.declared.copied_params.CopiedParams.{CopiedParams}
use Rattle.ta_params.specs.declared.copied_params.GpParam.{GpParam}
use Rattle.ta_params.specs.declared.copied_params.GpParam.TheVariants.{Empty, Value, Memref}
use Rattle.ta_step.specs.Addresses.{ranges, with_range}
use Rattle.ta_step.specs.Parameters.{with_param, buffer, with_buffer}
use Rattle.ta_step.specs.State.{State}

-- the bytes of a range of this number, none where there is none
abbrev pub range : State → ℕ → List ℕ
range s number = slice_index_or (ranges s) number []

-- ---- a buffer

-- no bytes stay none
no_bytes : (bytes : List ℕ) → length bytes ≡ 0 → [] ≡ bytes
no_bytes bytes e = sym (nil_from_length bytes e)

buffer-with_buffer : (p : GpParam) (bytes : List ℕ) → length bytes ≡ length (buffer p) → buffer (with_buffer p bytes) ≡ bytes
buffer-with_buffer Empty bytes e = no_bytes bytes e
buffer-with_buffer (Value way a b) bytes e = no_bytes bytes e
buffer-with_buffer (Memref way buf size) bytes e = refl

with_buffer-twice : (p : GpParam) (first bytes : List ℕ) → with_buffer (with_buffer p first) bytes ≡ with_buffer p bytes
with_buffer-twice Empty first bytes = refl
with_buffer-twice (Value way a b) first bytes = refl
with_buffer-twice (Memref way buf size) first bytes = refl

with_buffer-same : (p : GpParam) → with_buffer p (buffer p) ≡ p
with_buffer-same Empty = refl
with_buffer-same (Value way a b) = refl
with_buffer-same (Memref way buf size) = refl

-- ---- a range

abbrev with_params : State → CopiedParams → State
with_params s ps = record s { params = ps }

pub range-with_range : (s : State) (number : ℕ) (bytes : List ℕ) → length bytes ≡ length (range s number)
    → range (with_range s number bytes) number ≡ bytes
range-with_range s zero bytes e = refl
range-with_range s (suc zero) bytes e = buffer-with_buffer s.params.p0 bytes e
range-with_range s (suc (suc zero)) bytes e = buffer-with_buffer s.params.p1 bytes e
range-with_range s (suc (suc (suc zero))) bytes e = buffer-with_buffer s.params.p2 bytes e
range-with_range s (suc (suc (suc (suc zero)))) bytes e = buffer-with_buffer s.params.p3 bytes e
range-with_range s (suc (suc (suc (suc (suc number))))) bytes e = no_bytes bytes e

with_param-twice : (s : State) (number : ℕ) (p q : GpParam) → p ≡ q → with_params s (with_param s.params number p) ≡ with_params s (with_param s.params number q)
with_param-twice s number p q e = ap (λ (x : GpParam). with_params s (with_param s.params number x)) e

pub with_range-twice : (s : State) (number : ℕ) (first bytes : List ℕ) → with_range (with_range s number first) number bytes ≡ with_range s number bytes
with_range-twice s zero first bytes = refl
with_range-twice s (suc zero) first bytes = with_param-twice s 0 _ _ (with_buffer-twice s.params.p0 first bytes)
with_range-twice s (suc (suc zero)) first bytes = with_param-twice s 1 _ _ (with_buffer-twice s.params.p1 first bytes)
with_range-twice s (suc (suc (suc zero))) first bytes = with_param-twice s 2 _ _ (with_buffer-twice s.params.p2 first bytes)
with_range-twice s (suc (suc (suc (suc zero)))) first bytes = with_param-twice s 3 _ _ (with_buffer-twice s.params.p3 first bytes)
with_range-twice s (suc (suc (suc (suc (suc number))))) first bytes = refl

pub with_range-same : (s : State) (number : ℕ) → with_range s number (range s number) ≡ s
with_range-same s zero = refl
with_range-same s (suc zero) = with_param-twice s 0 _ _ (with_buffer-same s.params.p0)
with_range-same s (suc (suc zero)) = with_param-twice s 1 _ _ (with_buffer-same s.params.p1)
with_range-same s (suc (suc (suc zero))) = with_param-twice s 2 _ _ (with_buffer-same s.params.p2)
with_range-same s (suc (suc (suc (suc zero)))) = with_param-twice s 3 _ _ (with_buffer-same s.params.p3)
with_range-same s (suc (suc (suc (suc (suc number))))) = refl
