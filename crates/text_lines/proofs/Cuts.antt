-- Bytes cut at the first byte that a search has found.
use Rattle.std.proofs.Common.{◌≡◌, ℕ, ◌+◌, ◌-◌, ◌<◌, ◌≤◌, true, false, eqb, List, ◌∷◌, ◌++◌, length, get_or, take, drop, sym, ap, ◌∙◌, arith}
use Rattle.std.proofs.lemmas.Bool.{eqb-true, ne_eqb, false_from_ne_true}
use Rattle.std.proofs.lemmas.List.{take-append-drop, take_all, drop_more, take_rest, get_or-take, length-take}
use Rattle.std.proofs.lemmas.List.Elements.{All-from_get_or, All-more}
use Rattle.memchr.specs.Find.{NoneBefore}
use Rattle.text_lines.specs.Lines.{Lacks, IsCutAt}

-- no place before the end holds the byte
abbrev Misses : ℕ → List ℕ → ℕ → Type 0
Misses byte bytes end = (k : ℕ) → 0 ≤ k → k < end → eqb (get_or bytes k 0) byte ≡ true → ⊥

pub Lacks-from_misses : (byte : ℕ) (bytes : List ℕ) → Misses byte bytes (length bytes) → Lacks byte bytes
Lacks-from_misses byte bytes h = All-from_get_or (λ b. eqb b byte ≡ false) bytes 0 (λ i lt. false_from_ne_true _ (h i (omega arith) lt))

front_lacks : (byte : ℕ) (bytes : List ℕ) (end : ℕ) → Misses byte bytes end → Lacks byte (take end bytes)
front_lacks byte bytes end h =
    All-from_get_or (λ b. eqb b byte ≡ false) (take end bytes) 0
    (λ i lt. let before : i < end = omega (arith, lt, length-take end bytes) in rw (get_or-take end bytes i 0 before) (false_from_ne_true _ (h i (omega arith) before)))

pub IsCutAt-first : (byte : ℕ) (bytes : List ℕ) (end : ℕ) → NoneBefore (λ k. eqb (get_or bytes k 0) byte ≡ true) 0 (length bytes) end → eqb (get_or bytes end 0) byte ≡ true
    → IsCutAt byte bytes (take end bytes) (take (length bytes - (end + 1)) (drop (end + 1) bytes))
IsCutAt-first byte bytes end first hit =
    let here : get_or bytes end 0 ≡ byte = eqb-true _ _ hit in
    let behind : drop end bytes ≡ byte ∷ drop (end + 1) bytes = drop_more bytes end 0 first.high ∙ ap (λ (b : ℕ). b ∷ drop (end + 1) bytes) here in
    let parts : bytes ≡ take end bytes ++ byte ∷ drop (end + 1) bytes = sym (take-append-drop end bytes) ∙ ap (λ (bs : List ℕ). take end bytes ++ bs) behind in
    (front_lacks byte bytes end first.before, rw take_rest parts)

-- ---- byte by byte

pub Lacks-more : (byte : ℕ) (bytes : List ℕ) (end : ℕ) → end < length bytes → (get_or bytes end 0 ≡ byte → ⊥) → Lacks byte (take end bytes) → Lacks byte (take (end + 1) bytes)
Lacks-more byte bytes end lt here so_far = All-more (λ b. eqb b byte ≡ false) bytes end 0 lt so_far (ne_eqb _ _ here)

pub Lacks-all : (byte : ℕ) (bytes : List ℕ) (end : ℕ) → length bytes ≤ end → Lacks byte (take end bytes) → Lacks byte bytes
Lacks-all byte bytes end past so_far = rw (take_all end bytes past) at so_far
