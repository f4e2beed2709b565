-- The blocks of pages that have changed, and of those that haven't.
use Rattle.std.proofs.Common.{◌≡◌, ℕ, zero, suc, ◌+◌, ◌-◌, ◌*◌, ◌/◌, ◌<◌, ◌≤◌, Bool, true, false, List, [], ◌++◌, length, take, drop, refl, sym, ap, ◌∙◌, append-nil, arith}
use Rattle.std.specs.Prelude.{if◌then◌else◌}
use Rattle.std.specs.Str.{bytes_eq}
use Rattle.std.proofs.Math.Seq.{drop-append_seam, take-append_seam}
use Rattle.std.proofs.lemmas.List.{drop-drop, drop-take, length-append, length-drop, length-take-le, take-take}
use Rattle.std.proofs.lemmas.Slice.Eq.{bytes_eq-Decides}
use Rattle.live_play.specs.Changes.{block_at, change_at, changes, changes_below, text_of_changes}
use Rattle.ns_ram.specs.Writes.{Write}
use Rattle.page_set.specs.Keeping.{AreKept}
use Rattle.page_set.specs.Pages.{is_in, page_at}
use Rattle.page_set.specs.declared.kept.KeptPages.{KeptPages}
use Rattle.page_set.proofs.PagesKept.{kept_from, kept_next}

-- a block of a page
pub block_of_page : (lane : List ℕ) (page block : ℕ) → block < 64
    → take 64 (drop (64 * block) (page_at lane page)) ≡ block_at lane (64 * page + block)
block_of_page lane page block few =
    let rest : List ℕ = drop (4096 * page) lane in
    let left : ℕ = 4096 - 64 * block in
    let whole : 64 * block + left ≡ 4096 = omega (arith, few) in
    let number : 4096 * page + 64 * block ≡ 64 * (64 * page + block) = omega arith in
    ap (λ (n : ℕ). take 64 (drop (64 * block) (take n rest))) (sym whole)
    ∙ ap (take 64) (drop-take (64 * block) left rest)
    ∙ take-take 64 left (drop (64 * block) rest) (omega (arith, few))
    ∙ ap (take 64) (drop-drop (64 * block) (4096 * page) lane)
    ∙ ap (λ (n : ℕ). take 64 (drop n lane)) number

same_block : (before after : List ℕ) (page block : ℕ) → block < 64 → page_at after page ≡ page_at before page
    → block_at before (64 * page + block) ≡ block_at after (64 * page + block)
same_block before after page block few same =
    sym (block_of_page before page block few)
    ∙ ap (λ (p : List ℕ). take 64 (drop (64 * block) p)) (sym same)
    ∙ block_of_page after page block few

-- ---- blocks that haven't changed

pub no_change : (before after : List ℕ) (number : ℕ) → block_at before number ≡ block_at after number → change_at before after number ≡ []
no_change before after number same =
    let so : bytes_eq (block_at before number) (block_at after number) ≡ true =
    (bytes_eq-Decides (block_at before number) (block_at after number)).1 same in
    rw so refl

no_changes : (before after : List ℕ) (page count : ℕ) → count ≤ 64 → page_at after page ≡ page_at before page
    → changes_below (64 * page + count) before after ≡ changes_below (64 * page) before after
unfolding changes_below
no_changes before after page zero few same =
    let none : 64 * page + 0 ≡ 64 * page = omega arith in ap (λ (n : ℕ). changes_below n before after) none
no_changes before after page (suc count) few same =
    let next : 64 * page + suc count ≡ suc (64 * page + count) = omega arith in
    let none : change_at before after (64 * page + count) ≡ [] =
    no_change before after (64 * page + count) (same_block before after page count (omega (arith, few)) same) in
    ap (λ (n : ℕ). changes_below n before after) next
    ∙ ap (λ (writes : List Write). changes_below (64 * page + count) before after ++ writes) none
    ∙ append-nil (changes_below (64 * page + count) before after)
    ∙ no_changes before after page count (omega (arith, few)) same

-- ---- pages

-- so far the changes of the pages before this one are told, and these bytes are left of those that were kept
pub record AreTold (kept : KeptPages) (before after : List ℕ) (cpu page : ℕ) (start text left : List ℕ) : Type 0 where
  pub told : text ≡ start ++ text_of_changes cpu (changes_below (64 * page) before after)
  pub rest : left ≡ kept_from kept.pages before page

-- the bytes of a page that was kept stand in front of those that are left
pub kept_here : (kept : KeptPages) (before after : List ℕ) (cpu page : ℕ) (start text left : List ℕ) → page < length kept.pages
    → is_in kept.pages page ≡ true → AreTold kept before after cpu page start text left
    → left ≡ page_at before page ++ kept_from kept.pages before (suc page)
kept_here kept before after cpu page start text left within has told =
    told.rest ∙ kept_next kept.pages before page within
    ∙ ap (λ (mark : Bool). (if mark then page_at before page else []) ++ kept_from kept.pages before (suc page)) has

page_long : (lane : List ℕ) (page : ℕ) → length lane ≡ 0x400000 → page < 1024 → length (page_at lane page) ≡ 4096
page_long lane page whole few =
    let rest = length-drop (4096 * page) lane in
    length-take-le 4096 (drop (4096 * page) lane) (omega (arith, rest, whole, few))

pub front_is : (before left others : List ℕ) (page : ℕ) → length before ≡ 0x400000 → page < 1024
    → left ≡ page_at before page ++ others → take 4096 left ≡ page_at before page
front_is before left others page whole few is =
    ap (λ (n : ℕ). take n left) (sym (page_long before page whole few)) ∙ ap (take (length (page_at before page))) is
    ∙ take-append_seam (page_at before page) others

pub behind_is : (before left others : List ℕ) (page : ℕ) → length before ≡ 0x400000 → page < 1024
    → left ≡ page_at before page ++ others → drop 4096 left ≡ others
behind_is before left others page whole few is =
    ap (λ (n : ℕ). drop n left) (sym (page_long before page whole few)) ∙ ap (drop (length (page_at before page))) is
    ∙ drop-append_seam (page_at before page) others

pub long_enough : (before left others : List ℕ) (page : ℕ) → length before ≡ 0x400000 → page < 1024
    → left ≡ page_at before page ++ others → 4096 ≤ length left
long_enough before left others page whole few is =
    let front = ap length is in
    let both = length-append (page_at before page) others in
    let long = page_long before page whole few in
    omega (arith, front, both, long)

-- a page more, of those that were kept
pub told_page : (kept : KeptPages) (before after : List ℕ) (cpu page : ℕ) (start text left next : List ℕ) → length before ≡ 0x400000
    → page < 1024 → page < length kept.pages → is_in kept.pages page ≡ true → AreTold kept before after cpu page start text left
    → next ≡ start ++ text_of_changes cpu (changes_below (64 * page + 64) before after)
    → AreTold kept before after cpu (page + 1) start next (drop 4096 left)
told_page kept before after cpu page start text left next whole few within has told more =
    let one_more : page + 1 ≡ suc page = omega arith in
    let count : 64 * page + 64 ≡ 64 * (page + 1) = omega arith in
    record {
      told = more ∙ ap (λ (n : ℕ). start ++ text_of_changes cpu (changes_below n before after)) count;
      rest = behind_is before left (kept_from kept.pages before (suc page)) page whole few
          (kept_here kept before after cpu page start text left within has told)
          ∙ ap (λ (n : ℕ). kept_from kept.pages before n) (sym one_more);
    }

-- and of the others, in which nothing has changed
pub passed_page : (kept : KeptPages) (before after : List ℕ) (cpu page : ℕ) (start text left : List ℕ) → AreKept kept before after
    → page < 1024 → page < length kept.pages → is_in kept.pages page ≡ false → AreTold kept before after cpu page start text left
    → AreTold kept before after cpu (page + 1) start text left
passed_page kept before after cpu page start text left are few within has told =
    let one_more : page + 1 ≡ suc page = omega arith in
    let count : 64 * (page + 1) ≡ 64 * page + 64 = omega arith in
    record {
      told = told.told ∙ ap (λ (writes : List Write). start ++ text_of_changes cpu writes)
          (sym (ap (λ (n : ℕ). changes_below n before after) count
          ∙ no_changes before after page 64 (omega arith) (are.stays page few has)));
      rest = told.rest ∙ kept_next kept.pages before page within
          ∙ ap (λ (mark : Bool). (if mark then page_at before page else []) ++ kept_from kept.pages before (suc page)) has
          ∙ ap (λ (n : ℕ). kept_from kept.pages before n) (sym one_more);
    }

-- all pages
pub told_all : (kept : KeptPages) (before after : List ℕ) (cpu : ℕ) (start text left : List ℕ) → length after ≡ 0x400000
    → AreTold kept before after cpu 1024 start text left → text ≡ start ++ text_of_changes cpu (changes before after)
told_all kept before after cpu start text left whole told =
    let count : 64 * 1024 ≡ (length after + 63) / 64 = ap (λ (n : ℕ). (n + 63) / 64) (sym whole) in
    told.told ∙ ap (λ (n : ℕ). start ++ text_of_changes cpu (changes_below n before after)) count

-- so many bytes of a page are one of its blocks
pub block_in : (lane bytes : List ℕ) (page block len start number : ℕ) → block < 64 → len ≡ 64 → start ≡ 64 * block → number ≡ 64 * page + block
    → bytes ≡ page_at lane page → take len (drop start bytes) ≡ block_at lane number
block_in lane bytes page block len start number few whole there same is =
    ap (λ (n : ℕ). take n (drop start bytes)) whole
    ∙ ap (λ (n : ℕ). take 64 (drop n bytes)) there
    ∙ ap (λ (b : List ℕ). take 64 (drop (64 * block) b)) is
    ∙ block_of_page lane page block few
    ∙ ap (λ (n : ℕ). block_at lane n) (sym same)

-- a number of blocks that is the same
pub as_many : (cpu number other : ℕ) (before after start text : List ℕ) → number ≡ other
    → text ≡ start ++ text_of_changes cpu (changes_below number before after)
    → text ≡ start ++ text_of_changes cpu (changes_below other before after)
as_many cpu number other before after start text same is =
    is ∙ ap (λ (n : ℕ). start ++ text_of_changes cpu (changes_below n before after)) same

-- nothing is told yet
pub none_told : (kept : KeptPages) (before after : List ℕ) (cpu : ℕ) (start left : List ℕ) → left ≡ kept.bytes.items → AreKept kept before after
    → AreTold kept before after cpu 0 start start left
unfolding changes_below
none_told kept before after cpu start left all are = record {
  told = sym (append-nil start);
  rest = all ∙ are.bytes;
}

-- so many bytes of a lane are one of its pages
pub page_in : (lane : List ℕ) (page len start : ℕ) → len ≡ 4096 → start ≡ 4096 * page → take len (drop start lane) ≡ page_at lane page
page_in lane page len start whole there =
    ap (λ (n : ℕ). take n (drop start lane)) whole ∙ ap (λ (n : ℕ). take 4096 (drop n lane)) there
