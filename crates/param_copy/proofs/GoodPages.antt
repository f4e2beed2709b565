-- A walk that finds no bad page gives pages of RAM, as many as were asked for.
use Rattle.std.proofs.Common.{◌≡◌, ℕ, zero, suc, ◌+◌, ◌-◌, ◌*◌, ◌≤◌, Bool, true, false, nat_le, List, [], ◌∷◌, ◌++◌, length, min, Option, Some, Ok, Err, ◌⊎◌, inl, inr, refl, arith, length-append}
use Rattle.std.proofs.lemmas.Bool.{leb-true}
use Rattle.std.proofs.lemmas.Option.{option_and_then_some, some_pair_parts}
use Rattle.std.specs.List.{list_all}
use Rattle.std.specs.Int.{from_le_bytes, w64}
use Rattle.ns_ram.specs.declared.read.Read.{Read}
use Rattle.ns_ram.specs.Lane.{bytes_at}
use Rattle.ns_ram.specs.Reads.{listed}
use Rattle.ns_ram.specs.Reader.{lane_bytes, lane_words, over_lane, take_words}
use Rattle.ns_ram.specs.Pages.{Walk, is_page, lists_of, walk, walk_lists}
use Rattle.ns_ram.proofs.PageWalk.{take_words-passed}

pub truth : (b : Bool) → (b ≡ true) ⊎ (b ≡ false)
truth true = inl refl
truth false = inr refl

pub list_all-append : {A : Type 0} (p : A → Bool) (xs ys : List A) → list_all p xs ≡ true → list_all p ys ≡ true → list_all p (xs ++ ys) ≡ true
list_all-append p [] ys e f = f
list_all-append p (x ∷ xs) ys e f = elim (truth (p x)) [
  | inl passes ↦ rw passes (list_all-append p xs ys (rw passes at e) f)
  | inr fails ↦ absurd (let wrong : false ≡ true = rw fails at e in cc)
]

-- what a walk answers
pages_are : (found pages : List ℕ) (before after : List Read) →
    ◌≡◌ {A = Option (Walk × List Read)} (Some (Ok found, before)) (Some (Ok pages, after)) → found ≡ pages
pages_are found pages before after e = let same : Ok found ≡ Ok pages = (some_pair_parts (Ok found) (Ok pages) before after e).0 in cc

no_pages : {P : Type 0} (page : ℕ) (pages : List ℕ) (before after : List Read) →
    ◌≡◌ {A = Option (Walk × List Read)} (Some (Err page, before)) (Some (Ok pages, after)) → P
no_pages page pages before after e = let same : Err page ≡ Ok pages = (some_pair_parts (Err page) (Ok pages) before after e).0 in absurd (cc)

-- pages of RAM behind those that were found, so many more
pub record AreGood (count : ℕ) (found pages : List ℕ) : Type 0 where
  pub all : list_all is_page pages ≡ true
  pub many : length pages ≡ length found + count

pub walk_lists-good : (lists list count : ℕ) (found lane : List ℕ) (before after : List Read) (pages : List ℕ) →
    count ≤ 511 * lists → list_all is_page found ≡ true →
    over_lane (walk_lists lists list count found) lane before ≡ Some (Ok pages, after) → AreGood count found pages
walk_lists-good zero list count found lane before after pages enough good e =
    let same = pages_are found pages before after e in
    record { all = rw (← same) good; many = rw (← same) (omega arith) }
walk_lists-good (suc lists) list count found lane before after pages enough good e = elim (truth (is_page list)) [
  | inr bad ↦ no_pages (length found) pages before after (rw bad at e)
  | inl page ↦
      option_and_then_some _ (lane_words lane list (min count 511) is_page) (Ok pages, after) (rw page at e)
      (λ (entries : List ℕ) there onward.
      elim (truth (list_all is_page entries)) [
        | inr bad ↦ no_pages _ pages _ after (rw bad at onward)
        | inl passed ↦
            let between : List Read = before ++ listed list (bytes_at lane list (8 * length entries)) in
            let taken : over_lane (take_words list (min count 511) is_page) lane before ≡ Some (entries, between) = rw there refl in
            let many : length entries ≡ min count 511 = take_words-passed lane list (min count 511) before between entries taken passed in
            elim (truth (nat_le count 511)) [
              | inl last ↦
                  let same = pages_are (found ++ entries) pages _ after (rw (passed, last) at onward) in
                  record {
                    all = rw (← same) (list_all-append is_page found entries good passed);
                    many = rw (← same) (omega (arith, length-append found entries, leb-true count 511 last));
                  }
              | inr more ↦
                  option_and_then_some _ (lane_bytes lane (list + 4088) 8) (Ok pages, after) (rw (passed, more) at onward)
                  (λ (word : List ℕ) there_too next.
                  let rest = walk_lists-good lists (from_le_bytes w64 word) (count - 511) (found ++ entries) lane _ after pages (omega arith) (list_all-append is_page found entries good passed) next in
                  record { all = rest.all; many = omega (arith, rest.many, length-append found entries, many) })
            ]
      ])
]

-- a whole walk
pub walk-good : (list count : ℕ) (lane : List ℕ) (before after : List Read) (pages : List ℕ) →
    over_lane (walk list count) lane before ≡ Some (Ok pages, after) → AreGood count [] pages
walk-good list count lane before after pages e = walk_lists-good (lists_of count) list count [] lane before after pages (omega arith) refl e
