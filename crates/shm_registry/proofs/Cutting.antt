-- Pieces of pages, one after the other: where they lie, and how many bytes they have.
use Rattle.std.proofs.Common.{◌≡◌, ℕ, zero, suc, ◌+◌, ◌-◌, ◌*◌, ◌/◌, ◌%◌, ◌<◌, ◌≤◌, Bool, true, false, IsTrue, ◌&&◌, List, [], ◌∷◌, ◌++◌, Some, length, drop, take, get_or, min, sum_by, refl, ◌∙◌, arith, append-nil, add-one, drop-cons, length-drop, inl, inr}
use Rattle.std.proofs.lemmas.List.{take_all, drop_all}
use Rattle.std.proofs.lemmas.List.Sums.{sum_by-cons}
use Rattle.std.specs.Prelude.{slice_get}
use Rattle.std.specs.List.{AllByRecursion, list_all}
use Rattle.ns_ram.specs.Lane.{IsInRam}
use Rattle.ns_ram.specs.Pages.{is_page}
use Rattle.ns_ram.proofs.PageWalk.{is_page-inside}
use Rattle.shm_registry.specs.declared.piece.Piece.{Piece}
use Rattle.shm_registry.specs.Pieces.{IsBuffer, IsPieceOfRam, page_count, pieces_at, pieces_from}
use Rattle.shm_registry.specs.declared.page_buffer.PageBuffer.{PageBuffer}
use Rattle.std.proofs.lemmas.Bool.{cases_lt}
use Rattle.std.proofs.lemmas.Bool.Decides.{nat_tests}

truth : (b : Bool) → IsTrue b → b ≡ true
truth true h = refl
truth false h = absurd (cc)

both : (a b : Bool) → (a && b) ≡ true → (a ≡ true) × (b ≡ true)
both true b e = (refl, e)
both false b e = absurd (cc)

good_behind : (k : ℕ) (pages : List ℕ) → list_all is_page pages ≡ true → list_all is_page (drop k pages) ≡ true
good_behind zero pages h = h
good_behind (suc k) [] h = refl
good_behind (suc k) (page ∷ pages) h = good_behind k pages (both (is_page page) (list_all is_page pages) h).1

good_at : (k : ℕ) (pages : List ℕ) (d : ℕ) → list_all is_page pages ≡ true → k < length pages → is_page (get_or pages k d) ≡ true
good_at k [] d h q = absurd (omega arith)
good_at zero (page ∷ pages) d h q = (both (is_page page) (list_all is_page pages) h).0
good_at (suc k) (page ∷ pages) d h q = good_at k pages d (both (is_page page) (list_all is_page pages) h).1 (omega arith)

in_ram_at : (pages : List ℕ) (offset size : ℕ) → list_all is_page pages ≡ true → offset < 4096 → AllByRecursion IsPieceOfRam (pieces_at pages offset size)
in_ram_at pages offset zero h q = tt
in_ram_at [] offset (suc more) h q = tt
in_ram_at (page ∷ pages) offset (suc more) h q =
    let tests = both (is_page page) (list_all is_page pages) h in
    let inside : IsInRam page 4096 = is_page-inside page tests.0 in
    ((omega arith, omega arith), in_ram_at pages 0 (suc more - min (suc more) (4096 - offset)) tests.1 (omega arith))

pub pieces-in_ram : (pages : List ℕ) (start size : ℕ) → IsTrue (list_all is_page pages) → AllByRecursion IsPieceOfRam (pieces_from pages start size)
pieces-in_ram pages start size h =
    in_ram_at (drop (start / 4096) pages) (start % 4096) size (good_behind (start / 4096) pages (truth _ h)) (omega arith)

size_at : (pages : List ℕ) (offset size : ℕ) → offset < 4096 → offset + size ≤ 4096 * length pages →
    sum_by (λ piece. piece.len) (pieces_at pages offset size) ≡ size
size_at pages offset zero q h = refl
size_at [] offset (suc more) q h = absurd (omega arith)
size_at (page ∷ pages) offset (suc more) q h =
    let len : ℕ = min (suc more) (4096 - offset) in
    let rest = size_at pages 0 (suc more - len) (omega arith) (omega arith) in
    sum_by-cons (λ (piece : Piece). piece.len) (record { addr = page + offset; len = len }) (pieces_at pages 0 (suc more - len)) ∙ omega (arith, rest)

pub pieces-size : (pages : List ℕ) (start size : ℕ) → start + size ≤ 4096 * length pages →
    sum_by (λ piece. piece.len) (pieces_from pages start size) ≡ size
pieces-size pages start size h =
    size_at (drop (start / 4096) pages) (start % 4096) size (omega arith) (omega (arith, length-drop (start / 4096) pages))

-- the bytes of a buffer that can be registered have room in its pages
pub buffer-room : (buffer : PageBuffer) → IsBuffer buffer → 0 < buffer.size → buffer.offset + buffer.size ≤ 4096 * length buffer.pages
buffer-room buffer b some =
    let count : page_count buffer.offset buffer.size ≡ (buffer.offset + buffer.size + 4095) / 4096 = grind (arith, nat_tests) in
    omega (arith, b.count ∙ count)

pub buffer-small : (buffer : PageBuffer) → IsBuffer buffer → buffer.size ≤ 4096 * 1024
buffer-small buffer b = elim (cases_lt 0 buffer.size) [
  | inl some ↦ omega (arith, buffer-room buffer b some, b.few)
  | inr none ↦ omega arith
]

-- ---- page by page

-- these pieces were cut of the first pages, and so many bytes are left of the others
pub record Cut (pages : List ℕ) (start size : ℕ) (others : List ℕ) (index offset left : ℕ) (got : List Piece) : Type 0 where
  pub whole : pieces_from pages start size ≡ got ++ pieces_at (drop index others) offset left
  pub offset_in : offset < 4096
  pub good : list_all is_page others ≡ true

pub Cut-none : (pages : List ℕ) (start size : ℕ) → IsTrue (list_all is_page pages) →
    Cut pages start size (take (length pages - start / 4096) (drop (start / 4096) pages)) 0 (start % 4096) size []
Cut-none pages start size h =
    let all : take (length pages - start / 4096) (drop (start / 4096) pages) ≡ drop (start / 4096) pages =
    take_all (length pages - start / 4096) (drop (start / 4096) pages) (omega (arith, length-drop (start / 4096) pages)) in
    rw all record { whole = refl; offset_in = omega arith; good = good_behind (start / 4096) pages (truth _ h) }

one_page : (page : ℕ) (pages : List ℕ) (offset left : ℕ) → 0 < left → pieces_at (page ∷ pages) offset left
    ≡ record { addr = page + offset; len = min left (4096 - offset) } ∷ pieces_at pages 0 (left - min left (4096 - offset))
one_page page pages offset zero h = absurd (omega arith)
one_page page pages offset (suc more) h = refl

pub Cut-done : (pages : List ℕ) (start size : ℕ) (others : List ℕ) (index offset left : ℕ) (got : List Piece) →
    Cut pages start size others index offset left got → left ≡ 0 → pieces_from pages start size ≡ got
Cut-done pages start size others index offset left got c e = c.whole ∙ rw (e, append-nil got) refl

none_left : (offset left : ℕ) → pieces_at [] offset left ≡ []
none_left offset zero = refl
none_left offset (suc left) = refl

pub Cut-all : (pages : List ℕ) (start size : ℕ) (others : List ℕ) (index offset left : ℕ) (got : List Piece) →
    Cut pages start size others index offset left got → length others ≤ index → pieces_from pages start size ≡ got
Cut-all pages start size others index offset left got c h =
    c.whole ∙ rw (drop_all index others h, none_left offset left, append-nil got) refl

-- ---- the first piece alone

pub first_page : (pages : List ℕ) (start page d : ℕ) → IsTrue (list_all is_page pages) → start / 4096 < length pages → page ≡ get_or pages (start / 4096) d →
    IsInRam page 4096
first_page pages start page d h q e =
    is_page-inside page (rw (← e) at (good_at (start / 4096) pages d (truth _ h) q))

pub first_cut : (pages : List ℕ) (start size page d : ℕ) → 0 < size → start / 4096 < length pages → page ≡ get_or pages (start / 4096) d →
    Some (record { addr = page + start % 4096; len = min size (4096 - start % 4096) }) ≡ slice_get (pieces_from pages start size) 0
first_cut pages start size page d some q e =
    let index : ℕ = start / 4096 in
    let first : drop index pages ≡ page ∷ drop (index + 1) pages = rw (add-one, e) (drop-cons pages index d q) in
    rw (first, one_page page (drop (index + 1) pages) (start % 4096) size some) refl
