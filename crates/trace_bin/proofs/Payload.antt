-- Bytes behind their number are read as they were written, wherever they stand.
use Rattle.std.proofs.Common.{◌≡◌, ℕ, ◌+◌, ◌-◌, ◌^◌, ◌<◌, Bool, true, cond, List, ◌++◌, length, take, drop, append_assoc, sym, ap, ◌∙◌, arith}
use Rattle.std.proofs.Math.Seq.{drop-append_seam, take-append_seam}
use Rattle.std.proofs.lemmas.Bool.{and_from, le-leb}
use Rattle.std.proofs.lemmas.List.{drop-drop, length-append}
use Rattle.byteorder.specs.Endian.{little_bytes, little_number}
use Rattle.byteorder.specs.Numbers.{little_number-reads_back}
use Rattle.trace_bin.specs.declared.record_kind.RecordKind.{RecordKind}
use Rattle.trace_bin.specs.Record.{body_len, bytes_in, fixed_len, has_bytes, is_whole, number}
use Rattle.trace_bin.specs.Spelling.{counted}

-- what stands behind a front of a body
pub drop_front : (front more rest : List ℕ) → drop (length front) ((front ++ more) ++ rest) ≡ more ++ rest
drop_front front more rest = ap (drop (length front)) (append_assoc front more rest) ∙ drop-append_seam front (more ++ rest)

number_there : (front bytes rest : List ℕ) → length bytes < 2 ^ 32 → little_number 4 (drop (length front) ((front ++ counted bytes) ++ rest)) ≡ length bytes
unfolding counted
number_there front bytes rest fits = ap (little_number 4) (drop_front front (counted bytes) rest) ∙ little_number-reads_back 4 (length bytes) (bytes ++ rest) fits

behind_number : (front bytes rest : List ℕ) → drop (length front + 4) ((front ++ counted bytes) ++ rest) ≡ bytes ++ rest
unfolding counted
behind_number front bytes rest = sym (drop-drop 4 (length front) ((front ++ counted bytes) ++ rest)) ∙ ap (drop 4) (drop_front front (counted bytes) rest)

length-counted : (bytes : List ℕ) → length (counted bytes) ≡ 4 + length bytes
unfolding counted
length-counted bytes = length-append (little_bytes 4 (length bytes)) bytes

-- a body that is a front, counted bytes, and what stands behind the record
pub record IsCounted (kind : RecordKind) (body bytes rest : List ℕ) : Type 0 where
  pub whole : is_whole kind body ≡ true
  pub bytes_are : bytes_in kind body ≡ bytes
  pub behind : drop (body_len kind body) body ≡ rest

pub counted_body : (kind : RecordKind) (front bytes rest : List ℕ) → has_bytes kind ≡ true → length front + 4 ≡ fixed_len kind → length bytes < 2 ^ 32 → IsCounted kind ((front ++ counted bytes) ++ rest) bytes rest
unfolding is_whole
counted_body kind front bytes rest has fixed fits =
    let body : List ℕ = (front ++ counted bytes) ++ rest in
    let place : fixed_len kind - 4 ≡ length front = omega arith in
    let said : number 4 (fixed_len kind - 4) body ≡ length bytes = ap (λ (n : ℕ). little_number 4 (drop n body)) place ∙ number_there front bytes rest fits in
    let len : body_len kind body ≡ fixed_len kind + length bytes = ap (λ (b : Bool). cond b (fixed_len kind + number 4 (fixed_len kind - 4) body) (fixed_len kind)) has ∙ ap (λ (n : ℕ). fixed_len kind + n) said in
    let all : length body ≡ fixed_len kind + length bytes + length rest = omega (arith, length-append (front ++ counted bytes) rest, length-append front (counted bytes), length-counted bytes, fixed) in
    let there : drop (fixed_len kind) body ≡ bytes ++ rest = ap (λ (n : ℕ). drop n body) (sym fixed) ∙ behind_number front bytes rest in
    let many : body_len kind body - fixed_len kind ≡ length bytes = omega (arith, len) in
    record {
      whole = and_from _ _ (le-leb (fixed_len kind) (length body) (omega (arith, all))) (le-leb (body_len kind body) (length body) (omega (arith, all, len)));
      bytes_are = ap (λ (n : ℕ). take n (drop (fixed_len kind) body)) many ∙ ap (take (length bytes)) there ∙ take-append_seam bytes rest;
      behind =
          ap (λ (n : ℕ). drop n body) len
          ∙ sym (drop-drop (length bytes) (fixed_len kind) body)
          ∙ ap (drop (length bytes)) there
          ∙ drop-append_seam bytes rest;
    }
