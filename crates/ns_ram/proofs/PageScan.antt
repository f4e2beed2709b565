-- The words of a list, scanned one by one up to the first that is no page.
use Rattle.std.proofs.Common.{◌≡◌, ℕ, suc, ◌+◌, ◌-◌, ◌*◌, ◌/◌, ◌<◌, ◌≤◌, Bool, true, false, List, [], ◌∷◌, ◌++◌, length, take, drop, Option, Some, None, IsSomeAnd, refl, sym, ◌∙◌, ap, subst, arith, append_assoc, append-nil, length-append, cond}
use Rattle.std.proofs.lemmas.List.{drop-drop, take-take, take-append-drop, length-drop}
use Rattle.std.proofs.lemmas.List.Folds.{list_all-append}
use Rattle.std.proofs.Math.Bool.{and-true}
use Rattle.std.specs.List.{list_all}
use Rattle.std.specs.Option.{option_map}
use Rattle.std.specs.Int.{from_le_bytes, w64}
use Rattle.ns_ram.specs.Pages.{AppendsEntries, is_page}
use Rattle.ns_ram.specs.declared.ram.TheConstants.{RAM_START, RAM_BYTES}
use Rattle.ns_ram.specs.declared.read.Read.{Read}
use Rattle.ns_ram.specs.Lane.{IsInRam, bytes_from, bytes_at}
use Rattle.ns_ram.specs.Reads.{listed}
use Rattle.ns_ram.specs.Reader.{words_of, words_in, up_to_failing, take_words, lane_words, over_lane}
use Rattle.ns_ram.proofs.LaneBytes.{bytes_from-is}
use Rattle.ns_ram.proofs.WordList.{length-words_of, words_of-take, take-words_of, up_to_failing-append, up_to_failing-front}

-- what comes of the words from the i-th on
abbrev pub rest_of : List ℕ → ℕ → ℕ → Option (List ℕ)
rest_of bytes count i = up_to_failing is_page (words_of (count - i) (drop (8 * i) bytes)) (count - i)

-- the words that were got, all of them pages, and what comes of the others, make the whole
pub record Scanned (bytes : List ℕ) (count i : ℕ) (got : List ℕ) : Type 0 where
  pub whole : up_to_failing is_page (words_of count bytes) count ≡ option_map (λ more. got ++ more) (rest_of bytes count i)
  pub many : length got ≡ i

-- the first of them, and the others
rest_of-next : (bytes : List ℕ) (count i w : ℕ) → i < count → w ≡ from_le_bytes w64 (take 8 (drop (8 * i) bytes)) →
    rest_of bytes count i ≡ cond (is_page w) (option_map (λ more. w ∷ more) (rest_of bytes count (i + 1))) (Some (w ∷ []))
rest_of-next bytes count i w h e =
    let n : count - i ≡ suc (count - (i + 1)) = omega arith in
    let m : 8 * (i + 1) ≡ 8 * i + 8 = omega arith in
    rw (n, m, e, drop-drop 8 (8 * i) bytes) refl

behind : (got : List ℕ) (w : ℕ) (o : Option (List ℕ)) →
    option_map (λ more. got ++ more) (option_map (λ more. w ∷ more) o) ≡ option_map (λ more. (got ++ w ∷ []) ++ more) o
behind got w None = refl
behind got w (Some more) = ap Some (sym (append_assoc got (w ∷ []) more))

Scanned-next : (bytes : List ℕ) (count i w : ℕ) (got : List ℕ) → Scanned bytes count i got → i < count →
    w ≡ from_le_bytes w64 (take 8 (drop (8 * i) bytes)) → is_page w ≡ true → Scanned bytes count (i + 1) (got ++ w ∷ [])
Scanned-next bytes count i w got s h e passes = record {
  whole = s.whole ∙ rw (rest_of-next bytes count i w h e, passes) (behind got w (rest_of bytes count (i + 1)));
  many = simp length-append (omega (arith, s.many));
}

Scanned-fails : (bytes : List ℕ) (count i w : ℕ) (got : List ℕ) → Scanned bytes count i got → i < count →
    w ≡ from_le_bytes w64 (take 8 (drop (8 * i) bytes)) → is_page w ≡ false →
    up_to_failing is_page (words_of count bytes) count ≡ Some (got ++ w ∷ [])
Scanned-fails bytes count i w got s h e fails = s.whole ∙ rw (rest_of-next bytes count i w h e, fails) refl

-- a word of a back part of the bytes, up to their end
pub word_from : (bytes : List ℕ) (at w : ℕ) → at + 8 ≤ length bytes →
    w ≡ from_le_bytes w64 (take 8 (take (length bytes - at) (drop at bytes))) →
    w ≡ from_le_bytes w64 (take 8 (drop at bytes))
word_from bytes at w h e = e ∙ ap (from_le_bytes w64) (take-take 8 (length bytes - at) (drop at bytes) (omega arith))

unchanged : (o : Option (List ℕ)) → o ≡ option_map (λ more. [] ++ more) o
unchanged None = refl
unchanged (Some more) = refl

Scanned-none : (bytes : List ℕ) (count : ℕ) → Scanned bytes count 0 []
Scanned-none bytes count =
    let all : count - 0 ≡ count = omega arith in
    record {
      whole = rw all (unchanged (up_to_failing is_page (words_of count bytes) count));
      many = refl;
    }

Scanned-all : (bytes : List ℕ) (count : ℕ) (got : List ℕ) → Scanned bytes count count got →
    up_to_failing is_page (words_of count bytes) count ≡ Some got
Scanned-all bytes count got s =
    let none : count - count ≡ 0 = omega arith in
    s.whole ∙ rw none (ap Some (append-nil got))

-- ---- the words put behind the pages that were found

-- those that were got so far, each a page
pub record Pushed (bytes : List ℕ) (count i : ℕ) (found pages : List ℕ) : Type 0 where
  pub got : List ℕ
  pub scanned : Scanned bytes count i got
  pub added : pages ≡ found ++ got
  pub good : list_all is_page got ≡ true

pub Pushed-none : (bytes : List ℕ) (count : ℕ) (found : List ℕ) → Pushed bytes count 0 found found
Pushed-none bytes count found = record {
  got = [];
  scanned = Scanned-none bytes count;
  added = sym (append-nil found);
  good = refl;
}

pushed_behind : (found got pages : List ℕ) (w : ℕ) → pages ≡ found ++ got → pages ++ w ∷ [] ≡ found ++ (got ++ w ∷ [])
pushed_behind found got pages w e = ap (λ xs. xs ++ w ∷ []) e ∙ append_assoc found got (w ∷ [])

one_more : (got : List ℕ) (w : ℕ) → list_all is_page got ≡ true → list_all is_page (got ++ w ∷ []) ≡ is_page w
one_more got w good = list_all-append is_page got (w ∷ []) ∙ rw good (and-true (is_page w))

pub Pushed-next : (bytes : List ℕ) (count i w : ℕ) (found pages : List ℕ) → Pushed bytes count i found pages → i < count →
    w ≡ from_le_bytes w64 (take 8 (drop (8 * i) bytes)) → is_page w ≡ true →
    Pushed bytes count (i + 1) found (pages ++ w ∷ [])
Pushed-next bytes count i w found pages p h e passes = record {
  got = p.got ++ w ∷ [];
  scanned = Scanned-next bytes count i w p.got p.scanned h e passes;
  added = pushed_behind found p.got pages w p.added;
  good = one_more p.got w p.good ∙ passes;
}

-- the words that were got are those that the bytes make
abbrev pub Puts : List ℕ → ℕ → Bool → List ℕ → List ℕ → Type 0
Puts bytes count are_pages found pages =
    IsSomeAnd (up_to_failing is_page (words_of count bytes) count) (λ words. AppendsEntries words are_pages found pages)

puts : (bytes : List ℕ) (count : ℕ) (words : List ℕ) (are_pages : Bool) (found pages : List ℕ) →
    up_to_failing is_page (words_of count bytes) count ≡ Some words → AppendsEntries words are_pages found pages →
    Puts bytes count are_pages found pages
puts bytes count words are_pages found pages is appended =
    subst (λ (o : Option (List ℕ)). IsSomeAnd o (λ ws. AppendsEntries ws are_pages found pages)) (sym is) appended

pub Pushed-fails : (bytes : List ℕ) (count i w : ℕ) (found pages : List ℕ) → Pushed bytes count i found pages → i < count →
    w ≡ from_le_bytes w64 (take 8 (drop (8 * i) bytes)) → is_page w ≡ false →
    Puts bytes count false found (pages ++ w ∷ [])
Pushed-fails bytes count i w found pages p h e fails =
    puts bytes count (p.got ++ w ∷ []) false found (pages ++ w ∷ []) (Scanned-fails bytes count i w p.got p.scanned h e fails)
    (record {
      added = pushed_behind found p.got pages w p.added;
      tested = sym (one_more p.got w p.good ∙ fails);
    })

pub Pushed-all : (bytes : List ℕ) (count : ℕ) (found pages : List ℕ) → Pushed bytes count count found pages →
    Puts bytes count true found pages
Pushed-all bytes count found pages p =
    puts bytes count p.got true found pages (Scanned-all bytes count p.got p.scanned) (record { added = p.added; tested = sym p.good })

-- ---- the words of a lane

length-bytes_from : (lane : List ℕ) (addr len : ℕ) → length lane ≡ RAM_BYTES → IsInRam addr len →
    len ≤ length (bytes_from lane addr)
length-bytes_from lane addr len whole h =
    rw (bytes_from-is lane addr h.0) (omega (arith, length-drop (addr - RAM_START) lane))

-- the words that a list begins with
pub lane_words-from : (lane : List ℕ) (list most : ℕ) (words : List ℕ) → length lane ≡ RAM_BYTES →
    IsInRam list 4096 → most ≤ 511 → up_to_failing is_page (words_of most (bytes_from lane list)) most ≡ Some words →
    lane_words lane list most is_page ≡ Some words
lane_words-from lane list most words whole inside few found =
    let all : List ℕ = bytes_from lane list in
    let enough : 4096 ≤ length all = length-bytes_from lane list 4096 whole inside in
    let front : words_of most all ≡ take most (words_in all) = sym (take-words_of most (length all / 8) all (omega arith)) in
    rw (take-append-drop most (words_in all)) at (up_to_failing-append is_page (take most (words_in all)) most words (drop most (words_in all)) (rw front at found))

-- the words at the list's address are those of its first bytes
over_lane-take_words : (lane : List ℕ) (list most : ℕ) (before after : List Read) (words : List ℕ) →
    length lane ≡ RAM_BYTES → IsInRam list 4096 → most ≤ 511 → length words ≤ most →
    up_to_failing is_page (words_of most (bytes_at lane list (8 * most))) most ≡ Some words →
    after ≡ before ++ listed list (take (8 * length words) (bytes_at lane list (8 * most))) →
    over_lane (take_words list most is_page) lane before ≡ Some (words, after)
over_lane-take_words lane list most before after words whole inside few fewer found added =
    let all : List ℕ = bytes_from lane list in
    let words_there : lane_words lane list most is_page ≡ Some words =
    lane_words-from lane list most words whole inside few (rw (words_of-take most all) at found) in
    let bytes_there : take (8 * length words) (take (8 * most) all) ≡ take (8 * length words) all =
    take-take (8 * length words) (8 * most) all (omega arith) in
    rw (words_there, added, bytes_there) refl

up_to_failing-fewer : (ws : List ℕ) (most : ℕ) (got : List ℕ) → up_to_failing is_page ws most ≡ Some got → length got ≤ length ws
up_to_failing-fewer ws most got e =
    let front = up_to_failing-front is_page ws most got e in
    omega (arith, ap length front.1, length-append got front.0)

-- the words that were put behind the pages are those that the lane has at the list's address
pub taken-from_lane : (lane : List ℕ) (list most : ℕ) (before after : List Read) (bytes found found_then : List ℕ) (are_pages : Bool) (many : ℕ) →
    length lane ≡ RAM_BYTES → IsInRam list 4096 → most ≤ 511 → bytes ≡ bytes_at lane list (8 * most) →
    many ≡ length found_then - length found → after ≡ before ++ listed list (take (8 * many) bytes) →
    Puts bytes most are_pages found found_then →
    IsSomeAnd (over_lane (take_words list most is_page) lane before) (λ taken. (taken.1 ≡ after) × AppendsEntries taken.0 are_pages found found_then)
taken-from_lane lane list most before after bytes found found_then are_pages many whole inside few there count added put =
    let Goal : Option (List ℕ) → Type 0 = λ o. up_to_failing is_page (words_of most bytes) most ≡ o → IsSomeAnd o (λ words. AppendsEntries words are_pages found found_then) → IsSomeAnd (over_lane (take_words list most is_page) lane before) (λ taken. (taken.1 ≡ after) × AppendsEntries taken.0 are_pages found found_then) in
    let by_cases : (o : Option (List ℕ)) → Goal o =
    elim [
      | None ↦ λ is none. absurd none
      | Some words ↦ λ is appended.
          let all : many ≡ length words = omega (arith, ap length appended.added, length-append found words) in
          let fewer : length words ≤ most = omega (arith, up_to_failing-fewer (words_of most bytes) most words is, length-words_of most bytes) in
          let taken = over_lane-take_words lane list most before after words whole inside few fewer (rw there at is) (rw (all, there) at added) in
          subst (λ (o : Option (List ℕ × List Read)). IsSomeAnd o (λ taken. (taken.1 ≡ after) × AppendsEntries taken.0 are_pages found found_then)) (sym taken) (refl, appended)
    ] in
    by_cases (up_to_failing is_page (words_of most bytes) most) refl put
