-- A walk over a chain of lists: list by list, and what it finds in all of RAM.
use Rattle.std.proofs.Common.{◌≡◌, ℕ, zero, suc, ◌+◌, ◌-◌, ◌%◌, ◌<◌, ◌≤◌, Bool, true, false, ◌&&◌, ◌==◌, nat_le, List, [], ◌∷◌, ◌++◌, length, take, min, Option, Some, None, Ok, Err, IsSomeAnd, refl, sym, ◌∙◌, ap, arith, append_assoc, append-nil, length-append, cond}
use Rattle.std.proofs.lemmas.Bool.{leb-true, le-leb}
use Rattle.std.proofs.lemmas.Bool.Decides.{nat_tests}
use Rattle.std.proofs.lemmas.Option.{option_and_then_some}
use Rattle.std.proofs.Math.Seq.{take-append_seam}
use Rattle.std.specs.List.{list_all}
use Rattle.std.specs.Option.{option_map}
use Rattle.std.specs.Int.{from_le_bytes, w64}
use Rattle.ns_ram.specs.declared.ram.TheConstants.{RAM_START, RAM_BYTES}
use Rattle.ns_ram.specs.declared.read.Read.{Read}
use Rattle.ns_ram.specs.Lane.{IsInRam}
use Rattle.ns_ram.specs.Reader.{Reader, done, ◌>>=◌, up_to_failing, take_bytes, take_words, lane_words, over_lane}
use Rattle.ns_ram.specs.Pages.{AppendsEntries, AppendsReads, Walk, is_page, lists_of, walk, walk_lists}
use Rattle.ns_ram.proofs.ReaderLaws.{over_lane-bind, over_lane-taken}
use Rattle.ns_ram.proofs.ReaderSteps.{HoldsReads-append}

some-is : {A : Type 0} {x y : A} → Some x ≡ Some y → x ≡ y
some-is e = cc

-- ---- a page

both : (a b : Bool) → (a && b) ≡ true → (a ≡ true) × (b ≡ true)
both true b e = (refl, e)
both false b e = absurd (cc)

pub is_page-inside : (addr : ℕ) → is_page addr ≡ true → IsInRam addr 4096
is_page-inside addr e =
    let tests = both (addr % 4096 == 0) _ e in
    let ends = both (nat_le RAM_START addr) _ tests.1 in
    (leb-true RAM_START addr ends.0, leb-true (addr + 4096) (RAM_START + RAM_BYTES) ends.1)

lt-leb : (a b : ℕ) → b < a → nat_le a b ≡ false
lt-leb a b h = grind (arith, nat_tests)

-- ---- one list of a walk

-- one list more than the pages behind it take
pub lists_of-suc : (count : ℕ) → 0 < count → lists_of count ≡ suc (lists_of (count - 511))
lists_of-suc count h = omega arith

onward : {A B : Type 0} (reader : Reader A) (next : A → Reader B) (lane : List ℕ) (before between : List Read) (value : A) →
    over_lane reader lane before ≡ Some (value, between) →
    over_lane (reader >>= next) lane before ≡ over_lane (next value) lane between
onward reader next lane before between value p = rw (over_lane-bind reader next lane before, p) refl

-- what follows on the entries of a list
abbrev pub after_list : ℕ → ℕ → ℕ → List ℕ → List ℕ → Reader Walk
after_list lists list count found entries =
    cond (list_all is_page entries) (cond (nat_le count 511) (done (Ok (found ++ entries))) (take_bytes (list + 4088) 8 >>= (λ word. walk_lists lists (from_le_bytes w64 word) (count - 511) (found ++ entries)))) (done (Err (length (found ++ entries) - 1)))

pub walk-bad_list : (list count : ℕ) (found lane : List ℕ) (reads : List Read) → 0 < count → is_page list ≡ false →
    over_lane (walk_lists (lists_of count) list count found) lane reads ≡ Some (Err (length found), reads)
walk-bad_list list count found lane reads h bad = rw (lists_of-suc count h, bad) refl

pub walk-list : (list count : ℕ) (found lane : List ℕ) (before between : List Read) (entries : List ℕ) → 0 < count →
    is_page list ≡ true → over_lane (take_words list (min count 511) is_page) lane before ≡ Some (entries, between) →
    over_lane (walk_lists (lists_of count) list count found) lane before ≡ over_lane (after_list (lists_of (count - 511)) list count found entries) lane between
walk-list list count found lane before between entries h good taken =
    rw (lists_of-suc count h, good)
    (onward (take_words list (min count 511) is_page) (after_list (lists_of (count - 511)) list count found) lane before between entries taken)

-- where all words that were got pass the test, none is missing
passed : (test : ℕ → Bool) (ws : List ℕ) (most : ℕ) (got : List ℕ) → up_to_failing test ws most ≡ Some got →
    list_all test got ≡ true → length got ≡ most
passed test [] zero got e p = let none : got ≡ [] = cc in ap length none
passed test [] (suc n) got e p = absurd (cc)
passed test (w ∷ ws) zero got e p = let none : got ≡ [] = cc in ap length none
passed test (w ∷ ws) (suc n) got e p =
    let Goal : Bool → Option (List ℕ) → Type 0 = λ b others. b ≡ test w → others ≡ up_to_failing test ws n → cond b (option_map (λ more. w ∷ more) others) (Some (w ∷ [])) ≡ Some got → length got ≡ suc n in
    let by_cases : (b : Bool) (others : Option (List ℕ)) → Goal b others =
    elim [
      | true ↦ elim [
        | None ↦ λ q r t. absurd (cc)
        | Some more ↦ λ q r t.
            let is : got ≡ w ∷ more = cc in
            let tests = both (test w) (list_all test more) (rw is at p) in
            ap length is ∙ ap (λ k. suc k) (passed test ws n more (sym r) tests.1)
      ]
      | false ↦ λ others q r t.
          let is : got ≡ w ∷ [] = cc in
          let tests = both (test w) true (rw is at p) in absurd (let wrong : false ≡ true = q ∙ tests.0 in cc)
    ] in
    by_cases (test w) (up_to_failing test ws n) refl refl e

pub take_words-passed : (lane : List ℕ) (list most : ℕ) (before between : List Read) (entries : List ℕ) →
    over_lane (take_words list most is_page) lane before ≡ Some (entries, between) → list_all is_page entries ≡ true →
    length entries ≡ most
take_words-passed lane list most before between entries e p =
    option_and_then_some _ (lane_words lane list most is_page) (entries, between) e
    (λ (got : List ℕ) there ended.
    let same : got ≡ entries = ap (λ (o : List ℕ × List Read). o.0) (some-is ended) in
    rw same at (passed is_page _ most got there (rw (← same) at p)))

-- ---- a whole walk

pub AppendsReads-none : (lane : List ℕ) (reads : List Read) → AppendsReads lane reads reads
AppendsReads-none lane reads = record { taken = []; appended = sym (append-nil reads); held = tt }

-- a list that was appended to and is cut back is as it was
pub cut-is : (before after taken : List Read) → after ≡ before ++ taken → take (length before) after ≡ before
cut-is before after taken e = rw e (take-append_seam before taken)

pub AppendsReads-cut : (lane : List ℕ) (before after : List Read) → AppendsReads lane before after →
    take (length before) after ≡ before
AppendsReads-cut lane before after a = cut-is before after a.taken a.appended

pub AppendsReads-same : (lane : List ℕ) (before after : List Read) → after ≡ before → AppendsReads lane before after
AppendsReads-same lane before after same = rw same (AppendsReads-none lane before)

pub ruleset reads_cut_back = (AppendsReads-cut, AppendsReads-same)

-- a reader goes on
pub AppendsReads-step : {A : Type 0} (reader : Reader A) (lane : List ℕ) (before between after : List Read) (value : A) →
    AppendsReads lane before between → over_lane reader lane between ≡ Some (value, after) → AppendsReads lane before after
AppendsReads-step reader lane before between after value a e =
    let t = over_lane-taken reader lane between after value e in
    record {
      taken = a.taken ++ t.taken;
      appended = t.appended ∙ ap (λ xs. xs ++ t.taken) a.appended ∙ append_assoc before a.taken t.taken;
      held = HoldsReads-append lane a.taken t.taken a.held t.held;
    }

-- these entries of a list were taken, and stand behind the pages that were found before
pub record Taken (lane : List ℕ) (list most : ℕ) (before after : List Read) (are_pages : Bool) (found found_then : List ℕ) : Type 0 where
  pub entries : List ℕ
  pub taken : over_lane (take_words list most is_page) lane before ≡ Some (entries, after)
  pub appended : AppendsEntries entries are_pages found found_then

pub taken_there : (lane : List ℕ) (list most : ℕ) (before after : List Read) (are_pages : Bool) (found found_then : List ℕ) →
    IsSomeAnd (over_lane (take_words list most is_page) lane before) (λ taken. (taken.1 ≡ after) × AppendsEntries taken.0 are_pages found found_then) →
    Taken lane list most before after are_pages found found_then
taken_there lane list most before after are_pages found found_then h =
    let Goal : Option (List ℕ × List Read) → Type 0 = λ o. over_lane (take_words list most is_page) lane before ≡ o → IsSomeAnd o (λ taken. (taken.1 ≡ after) × AppendsEntries taken.0 are_pages found found_then) → Taken lane list most before after are_pages found found_then in
    let by_cases : (o : Option (List ℕ × List Read)) → Goal o =
    elim [
      | None ↦ λ is none. absurd none
      | Some taken ↦ λ is there. record { entries = taken.0; taken = is ∙ ap (λ reads. Some (taken.0, reads)) there.0; appended = there.1 }
    ] in
    by_cases (over_lane (take_words list most is_page) lane before) refl h

-- so far the pages were found, and the walk goes on with this list
pub record Walked (lane : List ℕ) (chain count : ℕ) (before : List Read) (list : ℕ) (found : List ℕ) (reads : List Read) : Type 0 where
  pub whole : over_lane (walk chain count) lane before ≡ over_lane (walk_lists (lists_of (count - length found)) list (count - length found) found) lane reads
  pub more : length found < count
  pub added : AppendsReads lane before reads

pub Walked-bad_list : (lane : List ℕ) (chain count : ℕ) (before : List Read) (list : ℕ) (found : List ℕ) (reads : List Read) →
    Walked lane chain count before list found reads → is_page list ≡ false →
    over_lane (walk chain count) lane before ≡ Some (Err (length found), reads)
Walked-bad_list lane chain count before list found reads w bad =
    let some : 0 < count - length found = omega (arith, w.more) in
    w.whole ∙ walk-bad_list list (count - length found) found lane reads some bad

-- the list was taken
Walked-list : (lane : List ℕ) (chain count : ℕ) (before : List Read) (list : ℕ) (found : List ℕ) (reads between : List Read) (entries : List ℕ) →
    Walked lane chain count before list found reads → is_page list ≡ true →
    over_lane (take_words list (min (count - length found) 511) is_page) lane reads ≡ Some (entries, between) →
    over_lane (walk chain count) lane before ≡ over_lane (after_list (lists_of (count - length found - 511)) list (count - length found) found entries) lane between
Walked-list lane chain count before list found reads between entries w good taken =
    let some : 0 < count - length found = omega (arith, w.more) in
    w.whole ∙ walk-list list (count - length found) found lane reads between entries some good taken

pub after_list-bad : (lists list count : ℕ) (found entries lane : List ℕ) (reads : List Read) → list_all is_page entries ≡ false →
    over_lane (after_list lists list count found entries) lane reads ≡ Some (Err (length (found ++ entries) - 1), reads)
after_list-bad lists list count found entries lane reads bad = rw bad refl

-- its last entry is no page
pub Walked-bad_page : (lane : List ℕ) (chain count : ℕ) (before : List Read) (list : ℕ) (found : List ℕ) (reads between : List Read) (entries : List ℕ) →
    Walked lane chain count before list found reads → is_page list ≡ true →
    over_lane (take_words list (min (count - length found) 511) is_page) lane reads ≡ Some (entries, between) →
    list_all is_page entries ≡ false →
    over_lane (walk chain count) lane before ≡ Some (Err (length (found ++ entries) - 1), between)
Walked-bad_page lane chain count before list found reads between entries w good taken bad =
    Walked-list lane chain count before list found reads between entries w good taken
    ∙ after_list-bad (lists_of (count - length found - 511)) list (count - length found) found entries lane between bad

pub after_list-last : (lists list count : ℕ) (found entries lane : List ℕ) (reads : List Read) → list_all is_page entries ≡ true →
    count ≤ 511 → over_lane (after_list lists list count found entries) lane reads ≡ Some (Ok (found ++ entries), reads)
after_list-last lists list count found entries lane reads good last = rw (good, le-leb count 511 last) refl

pub after_list-more : (lists list count : ℕ) (found entries lane : List ℕ) (reads between : List Read) (word : List ℕ) →
    list_all is_page entries ≡ true → 511 < count →
    over_lane (take_bytes (list + 4088) 8) lane reads ≡ Some (word, between) →
    over_lane (after_list lists list count found entries) lane reads ≡ over_lane (walk_lists lists (from_le_bytes w64 word) (count - 511) (found ++ entries)) lane between
after_list-more lists list count found entries lane reads between word good more taken =
    rw (good, lt-leb count 511 more)
    (onward (take_bytes (list + 4088) 8) (λ word. walk_lists lists (from_le_bytes w64 word) (count - 511) (found ++ entries)) lane reads between word taken)

pub Walked-next : (lane : List ℕ) (chain count : ℕ) (before : List Read) (list : ℕ) (found : List ℕ) (reads between after : List Read) (entries word : List ℕ) →
    Walked lane chain count before list found reads → is_page list ≡ true →
    over_lane (take_words list (min (count - length found) 511) is_page) lane reads ≡ Some (entries, between) →
    list_all is_page entries ≡ true → 511 < count - length found →
    over_lane (take_bytes (list + 4088) 8) lane between ≡ Some (word, after) →
    Walked lane chain count before (from_le_bytes w64 word) (found ++ entries) after
Walked-next lane chain count before list found reads between after entries word w good taken pages more link =
    let many : length entries ≡ 511 =
    take_words-passed lane list _ reads between entries taken pages ∙ omega arith in
    let found_then : length (found ++ entries) ≡ length found + 511 = omega (arith, length-append found entries) in
    let left : count - length (found ++ entries) ≡ count - length found - 511 = omega arith in
    record {
      whole = Walked-list lane chain count before list found reads between entries w good taken
          ∙ after_list-more (lists_of (count - length found - 511)) list (count - length found) found entries lane between after word pages more link
          ∙ rw left refl;
      more = omega arith;
      added = AppendsReads-step (take_bytes (list + 4088) 8) lane before between after word (AppendsReads-step (take_words list (min (count - length found) 511) is_page) lane before reads between entries w.added taken) link;
    }
