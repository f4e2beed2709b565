-- What a walk finds in all of RAM: the pages of the chain, or the first bad one.
use Rattle.std.proofs.Common.{◌≡◌, ℕ, zero, suc, ◌+◌, ◌-◌, ◌*◌, ◌<◌, ◌≤◌, true, false, nat_le, List, [], ◌∷◌, ◌++◌, length, map, min, Option, Some, None, Result, Ok, Err, IfOk, IfErr, refl, sym, ◌∙◌, ap, arith, append_assoc, append-nil, length-append, inl, inr}
use Rattle.std.proofs.lemmas.Bool.{cases_Bool, leb-true, leb-false}
use Rattle.std.specs.List.{list_all, position_from}
use Rattle.ns_ram.specs.declared.ram.TheConstants.{RAM_BYTES}
use Rattle.ns_ram.specs.declared.read.Read.{Read}
use Rattle.ns_ram.specs.Lane.{IsInRam, bytes_from, bytes_at}
use Rattle.ns_ram.specs.Reads.{listed}
use Rattle.ns_ram.specs.Reader.{words_of, up_to_failing, take_bytes, take_words, lane_bytes, over_lane}
use Rattle.ns_ram.specs.Pages.{Page, Walk, is_page, is_bad, lists_of, link_of_list, pages_of_lists, page_addresses, first_bad_page, walk, walk_lists, walk_by, FindsPages, IfBadPage}
use Rattle.ns_ram.specs.declared.pages.WalkFault.{WalkFault}
use Rattle.ns_ram.specs.declared.pages.WalkFault.TheVariants.{BadPage, Memory}
use Rattle.ns_ram.proofs.LaneBytes.{length-bytes_at}
use Rattle.ns_ram.proofs.ReaderSteps.{lane_bytes-held}
use Rattle.ns_ram.proofs.WordList.{length-words_of}
use Rattle.ns_ram.proofs.PageScan.{lane_words-from}
use Rattle.ns_ram.proofs.PageWalk.{is_page-inside, lists_of-suc, walk-bad_list, walk-list, after_list-bad, after_list-last, after_list-more}

-- ---- the words of a good list, and the pages that they name

abbrev named : ℕ → List ℕ → List Page
named list words = map (λ addr. record { list = list; addr = addr }) words

-- all are pages; or the first that is none ends what is got
data Names (list : ℕ) (words : List ℕ) (others : List Page) (n : ℕ) : Type 0 where
  all : list_all is_page words ≡ true → up_to_failing is_page words (length words) ≡ Some words →
      position_from is_bad n (named list words ++ others) ≡ position_from is_bad (n + length words) others →
      Names list words others n
  ends : (got : List ℕ) → list_all is_page got ≡ false → up_to_failing is_page words (length words) ≡ Some got →
      0 < length got → position_from is_bad n (named list words ++ others) ≡ Some (n + length got - 1) →
      Names list words others n

names : (list : ℕ) (words : List ℕ) (others : List Page) (n : ℕ) → is_page list ≡ true → Names list words others n
names list [] others n good = let same : n + 0 ≡ n = omega arith in all refl refl (rw same refl)
names list (w ∷ ws) others n good =
    elim (cases_Bool (is_page w)) [
      | inl p ↦ elim (names list ws others (n + 1) good) [
        | all q r s ↦
            let m : n + suc (length ws) ≡ n + 1 + length ws = omega arith in
            all (rw (p, q) refl) (rw (p, r) refl) (rw (m, good, p) s)
        | ends got q r k s ↦
            let m : n + suc (length got) - 1 ≡ n + 1 + length got - 1 = omega (arith, k) in
            ends (w ∷ got) (rw (p, q) refl) (rw (p, r) refl) (omega arith) (rw (m, good, p) s)
      ]
      | inr p ↦
          let m : n + 1 - 1 ≡ n = omega arith in
          ends (w ∷ []) (rw p refl) (rw p refl) (omega arith) (rw (m, good, p) refl)
    ]

addresses-named : (list : ℕ) (words : List ℕ) (others : List Page) →
    map (λ page. page.addr) (named list words ++ others) ≡ words ++ map (λ page. page.addr) others
addresses-named list [] others = refl
addresses-named list (w ∷ ws) others = ap (λ xs. w ∷ xs) (addresses-named list ws others)

bad_at_once : (list : ℕ) (words : List ℕ) (others : List Page) (n : ℕ) → is_page list ≡ false → 0 < length words →
    position_from is_bad n (named list words ++ others) ≡ Some n
bad_at_once list [] others n bad h = absurd (omega arith)
bad_at_once list (w ∷ ws) others n bad h = rw bad refl

-- ---- one list

pages-suc : (lane : List ℕ) (list count : ℕ) → 0 < count → pages_of_lists (lists_of count) lane list count
    ≡ named list (words_of (min count 511) (bytes_from lane list)) ++ pages_of_lists (lists_of (count - 511)) lane (link_of_list lane list) (count - 511)
pages-suc lane list count h = rw (lists_of-suc count h) refl

no_pages : (lane : List ℕ) (list count : ℕ) → count ≡ 0 → pages_of_lists (lists_of count) lane list count ≡ []
no_pages lane list count e = rw e refl

lane_bytes-whole : (lane : List ℕ) (addr len : ℕ) → length lane ≡ RAM_BYTES → IsInRam addr len →
    lane_bytes lane addr len ≡ Some (bytes_at lane addr len)
lane_bytes-whole lane addr len whole h =
    let n : length (bytes_at lane addr len) ≡ len = length-bytes_at lane addr len whole h in
    lane_bytes-held lane addr len (bytes_at lane addr len) n (ap (λ k. bytes_at lane addr k) n)

-- ---- all lists

-- a walk from a list on, behind these pages, comes to an end with this
abbrev Comes : List ℕ → ℕ → ℕ → List ℕ → List Read → List Page → Type 0
Comes lane list count found reads pages =
    (after : List Read) × (over_lane (walk_lists (lists_of count) list count found) lane reads ≡ Some (walk_by (position_from is_bad (length found) pages) (found ++ map (λ page. page.addr) pages), after))

bad_list : (lane : List ℕ) (list count : ℕ) (found : List ℕ) (reads : List Read) (others : List Page) → 0 < count →
    is_page list ≡ false → Comes lane list count found reads (named list (words_of (min count 511) (bytes_from lane list)) ++ others)
bad_list lane list count found reads others h bad =
    let words : List ℕ = words_of (min count 511) (bytes_from lane list) in
    let some : 0 < length words = rw (length-words_of (min count 511) (bytes_from lane list)) (omega arith) in
    (reads, rw (bad_at_once list words others (length found) bad some) (walk-bad_list list count found lane reads h bad))

-- the reads of a list and of its link
abbrev with_list : List ℕ → ℕ → List ℕ → List Read → List Read
with_list lane list words reads = reads ++ listed list (bytes_at lane list (8 * length words))

abbrev with_link : List ℕ → ℕ → List Read → List Read
with_link lane list reads = reads ++ listed (list + 4088) (bytes_at lane (list + 4088) 8)

taken : (lane : List ℕ) (list most : ℕ) (words : List ℕ) (reads : List Read) → length lane ≡ RAM_BYTES →
    is_page list ≡ true → most ≤ 511 →
    up_to_failing is_page (words_of most (bytes_from lane list)) (length (words_of most (bytes_from lane list))) ≡ Some words →
    over_lane (take_words list most is_page) lane reads ≡ Some (words, with_list lane list words reads)
taken lane list most words reads whole good few e =
    rw (lane_words-from lane list most words whole (is_page-inside list good) few (rw (length-words_of most (bytes_from lane list)) at e)) refl

link_taken : (lane : List ℕ) (list : ℕ) (reads : List Read) → length lane ≡ RAM_BYTES → is_page list ≡ true →
    over_lane (take_bytes (list + 4088) 8) lane reads ≡ Some (bytes_at lane (list + 4088) 8, with_link lane list reads)
link_taken lane list reads whole good =
    let inside : IsInRam list 4096 = is_page-inside list good in
    rw (lane_bytes-whole lane (list + 4088) 8 whole (omega arith, omega arith)) refl

comes : (lists : ℕ) (lane : List ℕ) (list count : ℕ) (found : List ℕ) (reads : List Read) → length lane ≡ RAM_BYTES →
    lists ≡ lists_of count → Comes lane list count found reads (pages_of_lists (lists_of count) lane list count)
comes zero lane list count found reads whole e = (reads, rw (← e, append-nil found) refl)
comes (suc lists) lane list count found reads whole e =
    let some : 0 < count = omega arith in
    let fewer : lists ≡ lists_of (count - 511) = omega (arith, lists_of-suc count some) in
    let most : ℕ = min count 511 in
    let few : most ≤ 511 = omega arith in
    let words : List ℕ = words_of most (bytes_from lane list) in
    let link : ℕ = link_of_list lane list in
    let others : List Page = pages_of_lists (lists_of (count - 511)) lane link (count - 511) in
    rw (pages-suc lane list count some)
    (elim (cases_Bool (is_page list)) [
      | inr bad ↦ bad_list lane list count found reads others some bad
      | inl good ↦ elim (names list words others (length found) good) [
        | ends got q r k s ↦
            let between : List Read = with_list lane list got reads in
            let many : length (found ++ got) - 1 ≡ length found + length got - 1 = omega (arith, length-append found got) in (
              between,
              rw (s, ← many)
                  (walk-list list count found lane reads between got some good (taken lane list most got reads whole good few r)
                  ∙ after_list-bad (lists_of (count - 511)) list count found got lane between q),
            )
        | all q r s ↦
            let between : List Read = with_list lane list words reads in
            let onward = walk-list list count found lane reads between words some good (taken lane list most words reads whole good few r) in
            elim (cases_Bool (nat_le count 511)) [
              | inl last ↦
                  let at_most : count ≤ 511 = leb-true count 511 last in
                  let none : others ≡ [] = no_pages lane link (count - 511) (omega arith) in (
                    between,
                    rw (s, addresses-named list words others, none, append-nil words)
                        (onward ∙ after_list-last (lists_of (count - 511)) list count found words lane between q at_most),
                  )
              | inr further ↦
                  let more : 511 < count = omega (arith, leb-false) in
                  let after : List Read = with_link lane list between in
                  let rest = comes lists lane link (count - 511) (found ++ words) after whole fewer in
                  let many : length found + length words ≡ length (found ++ words) = sym (length-append found words) in (
                    rest.0,
                    rw (s, addresses-named list words others, many, ← append_assoc found words (map (λ page. page.addr) others))
                        (onward ∙ after_list-more (lists_of (count - 511)) list count found words lane between after (bytes_at lane (list + 4088) 8) q more (link_taken lane list between whole good) ∙ rest.1),
                  )
            ]
      ]
    ])

same : {A : Type 0} {x y : A} → Some x ≡ Some y → x ≡ y
same e = cc

ended : (bad : Option ℕ) (addresses pages : List ℕ) → walk_by bad addresses ≡ Ok pages → (bad ≡ None) × (pages ≡ addresses)
ended None addresses pages e = (refl, cc)
ended (Some page) addresses pages e = absurd (cc)

ended_bad : (bad : Option ℕ) (addresses : List ℕ) (page : ℕ) → walk_by bad addresses ≡ Err page → bad ≡ Some page
ended_bad None addresses page e = absurd (cc)
ended_bad (Some n) addresses page e = cc

pub walk-finds : FindsPages
walk-finds lane list count before whole = comes (lists_of count) lane list count [] before whole refl

-- what a walk has found says which pages the chain has
pub found-pages : (lane : List ℕ) (list count : ℕ) (before after : List Read) (pages : List ℕ) → length lane ≡ RAM_BYTES →
    over_lane (walk list count) lane before ≡ Some (Ok pages, after) →
    (first_bad_page lane list count ≡ None) × (pages ≡ page_addresses lane list count)
found-pages lane list count before after pages whole e =
    let f = walk-finds lane list count before whole in
    ended (first_bad_page lane list count) (page_addresses lane list count) pages (ap (λ (o : Walk × List Read). o.0) (same (sym f.1 ∙ e)))

pub found-bad : (lane : List ℕ) (list count : ℕ) (before after : List Read) (page : ℕ) → length lane ≡ RAM_BYTES →
    over_lane (walk list count) lane before ≡ Some (Err page, after) → first_bad_page lane list count ≡ Some page
found-bad lane list count before after page whole e =
    let f = walk-finds lane list count before whole in
    ended_bad (first_bad_page lane list count) (page_addresses lane list count) page (ap (λ (o : Walk × List Read). o.0) (same (sym f.1 ∙ e)))

-- ---- and says so of a call's answer

pub answer-pages : {V : Type 0} (items : V → List ℕ) (lane : List ℕ) (list count : ℕ) (before after : List Read) → length lane ≡ RAM_BYTES →
    (answer : Result V WalkFault) → IfOk answer (λ pages. over_lane (walk list count) lane before ≡ Some (Ok (items pages), after)) →
    IfOk answer (λ pages. items pages ≡ page_addresses lane list count)
answer-pages items lane list count before after whole (Ok pages) e = (found-pages lane list count before after (items pages) whole e).1
answer-pages items lane list count before after whole (Err fault) e = tt

pub answer-none_bad : {V : Type 0} (items : V → List ℕ) (lane : List ℕ) (list count : ℕ) (before after : List Read) → length lane ≡ RAM_BYTES →
    (answer : Result V WalkFault) → IfOk answer (λ pages. over_lane (walk list count) lane before ≡ Some (Ok (items pages), after)) →
    IfOk answer (λ _. first_bad_page lane list count ≡ None)
answer-none_bad items lane list count before after whole (Ok pages) e = (found-pages lane list count before after (items pages) whole e).0
answer-none_bad items lane list count before after whole (Err fault) e = tt

pub answer-bad : {V : Type 0} (lane : List ℕ) (list count : ℕ) (before after : List Read) → length lane ≡ RAM_BYTES →
    (answer : Result V WalkFault) → IfErr answer (λ fault. IfBadPage fault (λ page. over_lane (walk list count) lane before ≡ Some (Err page, after))) →
    IfErr answer (λ fault. IfBadPage fault (λ page. first_bad_page lane list count ≡ Some page))
answer-bad lane list count before after whole (Ok pages) e = tt
answer-bad lane list count before after whole (Err (BadPage page)) e = found-bad lane list count before after page whole e
answer-bad lane list count before after whole (Err Memory) e = tt
