-- Parts of a range, one behind the other.
use Rattle.std.proofs.Common.{◌≡◌, ℕ, ◌+◌, ◌≤◌, List, ◌++◌, length, take, drop, ap, sym, ◌∙◌, arith}
use Rattle.std.proofs.lemmas.List.{drop-take, take-append-drop, take-take}

-- so many bytes, and then of a part of those behind them
pub take_on : (bytes part : List ℕ) (done count : ℕ) → part ≡ take (length part) (drop done bytes) → count ≤ length part
    → take done bytes ++ take count part ≡ take (done + count) bytes
take_on bytes part done count is le =
    let same : take count part ≡ take count (drop done bytes) =
    ap (take count) is ∙ take-take count (length part) (drop done bytes) le in
    let next = take (done + count) bytes in
    ap (λ (l : List ℕ). take done bytes ++ l) (same ∙ sym (drop-take done count bytes))
    ∙ ap (λ (l : List ℕ). l ++ drop done next) (sym (take-take done (done + count) bytes (omega arith)))
    ∙ take-append-drop done next
