-- The bytes of the pages of a set, page by page.
use Rattle.std.proofs.Common.{◌≡◌, ℕ, suc, ◌+◌, ◌*◌, ◌<◌, Bool, false, List, [], ◌∷◌, ◌++◌, length, get_or, take, drop, refl, sym, ap, ◌∙◌, arith, append_assoc, append-nil}
use Rattle.std.specs.Prelude.{if◌then◌else◌}
use Rattle.std.proofs.Math.Seq.{drop-cons, drop-length}
use Rattle.std.proofs.lemmas.List.{drop-drop}
use Rattle.page_set.specs.Pages.{bytes_of_pages, is_in, page_at}

-- the bytes of a page, where it is one of them
abbrev pub kept_at : List Bool → List ℕ → ℕ → List ℕ
kept_at pages lane number = if is_in pages number then page_at lane number else []

-- those from a page on
abbrev pub kept_from : List Bool → List ℕ → ℕ → List ℕ
kept_from pages lane number = bytes_of_pages (drop number pages) (drop (4096 * number) lane)

pub kept_next : (pages : List Bool) (lane : List ℕ) (number : ℕ) → number < length pages
    → kept_from pages lane number ≡ kept_at pages lane number ++ kept_from pages lane (suc number)
unfolding bytes_of_pages
kept_next pages lane number within =
    let onward : drop 4096 (drop (4096 * number) lane) ≡ drop (4096 * suc number) lane =
    drop-drop 4096 (4096 * number) lane ∙ ap (λ (n : ℕ). drop n lane) (omega arith) in
    ap (λ (p : List Bool). bytes_of_pages p (drop (4096 * number) lane)) (drop-cons pages number false within)
    ∙ ap (λ (l : List ℕ). kept_at pages lane number ++ bytes_of_pages (drop (suc number) pages) l) onward

pub kept_none : (pages : List Bool) (lane : List ℕ) (number : ℕ) → length pages ≡ number → kept_from pages lane number ≡ []
unfolding bytes_of_pages
kept_none pages lane number all =
    ap (λ (n : ℕ). bytes_of_pages (drop n pages) (drop (4096 * number) lane)) (sym all)
    ∙ ap (λ (p : List Bool). bytes_of_pages p (drop (4096 * number) lane)) (drop-length pages)

pub kept_all : (pages : List Bool) (lane : List ℕ) → kept_from pages lane 0 ≡ bytes_of_pages pages lane
kept_all pages lane = refl

-- so far these bytes are kept, of the pages before a number
abbrev pub IsKeptTo : List Bool → List ℕ → ℕ → List ℕ → Type 0
IsKeptTo pages lane number bytes = bytes ++ kept_from pages lane number ≡ bytes_of_pages pages lane

pub kept_more : (pages : List Bool) (lane : List ℕ) (number : ℕ) (bytes next : List ℕ) → number < length pages
    → IsKeptTo pages lane number bytes → next ≡ bytes ++ kept_at pages lane number → IsKeptTo pages lane (number + 1) next
kept_more pages lane number bytes next within kept is =
    let one_more : number + 1 ≡ suc number = omega arith in
    rw (one_more, is)
    (append_assoc bytes (kept_at pages lane number) (kept_from pages lane (suc number))
    ∙ ap (λ (l : List ℕ). bytes ++ l) (sym (kept_next pages lane number within)) ∙ kept)

pub kept_whole : (pages : List Bool) (lane : List ℕ) (number : ℕ) (bytes : List ℕ) → length pages ≡ number
    → IsKeptTo pages lane number bytes → bytes ≡ bytes_of_pages pages lane
kept_whole pages lane number bytes all kept =
    sym (append-nil bytes) ∙ ap (λ (l : List ℕ). bytes ++ l) (sym (kept_none pages lane number all)) ∙ kept

-- a page more, which was kept if it is one of them
pub kept_pushed : (pages : List Bool) (lane : List ℕ) (number : ℕ) (bytes next : List ℕ) (has : Bool) (len start : ℕ) → number < length pages
    → has ≡ is_in pages number → len ≡ 4096 → start ≡ 4096 * number → IsKeptTo pages lane number bytes
    → next ≡ bytes ++ (if has then take len (drop start lane) else []) → IsKeptTo pages lane (number + 1) next
kept_pushed pages lane number bytes next has len start within is whole there kept pushed =
    kept_more pages lane number bytes next within kept
    (pushed
    ∙ ap (λ (mark : Bool). bytes ++ (if mark then take len (drop start lane) else [])) is
    ∙ ap (λ (n : ℕ). bytes ++ (if is_in pages number then take n (drop start lane) else [])) whole
    ∙ ap (λ (n : ℕ). bytes ++ (if is_in pages number then take 4096 (drop n lane) else [])) there)
