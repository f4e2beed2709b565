-- The changes of an exit, laid over what RAM was, give what it is.
use Rattle.std.proofs.Common.{◌≡◌, ℕ, ◌+◌, ◌-◌, ◌*◌, ◌/◌, ◌≤◌, Bool, true, false, List, ◌++◌, length, take, drop, zero, suc, refl, sym, ap, ◌∙◌, append_assoc, append-nil, arith}
use Rattle.std.specs.Prelude.{nat_le}
use Rattle.std.specs.Str.{bytes_eq}
use Rattle.std.proofs.Math.Seq.{drop-append-add, take-add, take-append_seam}
use Rattle.std.proofs.lemmas.Bool.{leb-false, leb-true}
use Rattle.std.proofs.lemmas.List.{drop-drop, drop_all, length-drop, length-take, length-take-le, take-append-drop, take_all}
use Rattle.std.proofs.lemmas.Slice.Eq.{bytes_eq-Decides}
use Rattle.ns_ram.specs.Lane.{bytes_put}
use Rattle.ns_ram.specs.Writes.{lane_after}
use Rattle.ns_ram.proofs.WriteList.{lane_after-append}
use Rattle.live_play.specs.Changes.{ChangesTellAll, block_at, change_at, changes_below}

-- the first bytes of what RAM is, and the others of what it was
abbrev pub half : ℕ → List ℕ → List ℕ → List ℕ
half n before after = take (64 * n) after ++ drop (64 * n) before

-- the next block
next_drop : (n : ℕ) (xs : List ℕ) → drop 64 (drop (64 * n) xs) ≡ drop (64 * (n + 1)) xs
next_drop n xs =
    let e : 64 * n + 64 ≡ 64 * (n + 1) = omega arith in
    drop-drop 64 (64 * n) xs ∙ ap (λ k. drop k xs) e

next_take : (n : ℕ) (xs : List ℕ) → take (64 * n) xs ++ block_at xs n ≡ take (64 * (n + 1)) xs
next_take n xs =
    let e : 64 * n + 64 ≡ 64 * (n + 1) = omega arith in
    sym (take-add (64 * n) 64 xs) ∙ ap (λ k. take k xs) e

same_block : (n : ℕ) (before after : List ℕ) → block_at before n ≡ block_at after n → half n before after ≡ half (n + 1) before after
same_block n before after e =
    ap (λ (xs : List ℕ). take (64 * n) after ++ xs) (sym (take-append-drop 64 (drop (64 * n) before)))
    ∙ ap (λ (xs : List ℕ). take (64 * n) after ++ (xs ++ drop 64 (drop (64 * n) before))) e
    ∙ sym (append_assoc (take (64 * n) after) (block_at after n) (drop 64 (drop (64 * n) before)))
    ∙ ap (λ (xs : List ℕ). xs ++ drop 64 (drop (64 * n) before)) (next_take n after)
    ∙ ap (λ (xs : List ℕ). take (64 * (n + 1)) after ++ xs) (next_drop n before)

put_behind : (front block back : List ℕ) → bytes_put (front ++ back) (0x40000000 + length front) block ≡ front ++ block ++ drop (length block) back
put_behind front block back =
    let off : 0x40000000 + length front - 0x40000000 ≡ length front = omega arith in
    rw (off, take-append_seam front back, drop-append-add front back (length block)) refl

-- behind a block stands what stood behind it, and nothing where it is the last one and shorter
behind_block : (n : ℕ) (before after : List ℕ) → length before ≤ length after
    → drop (length (block_at after n)) (drop (64 * n) before) ≡ drop (64 * (n + 1)) before
behind_block n before after longer = by (nat_le (64 * n + 64) (length after)) refl
  where
    by : (b : Bool) → nat_le (64 * n + 64) (length after) ≡ b
        → drop (length (block_at after n)) (drop (64 * n) before) ≡ drop (64 * (n + 1)) before
    by true is =
        let within = leb-true (64 * n + 64) (length after) is in
        let block : length (block_at after n) ≡ 64 =
        length-take-le 64 (drop (64 * n) after) (omega (arith, within, length-drop (64 * n) after)) in
        ap (λ k. drop k (drop (64 * n) before)) block ∙ next_drop n before
    by false is =
        let short = leb-false (64 * n + 64) (length after) is in
        let block = length-take 64 (drop (64 * n) after) in
        let left = length-drop (64 * n) after in
        drop-drop (length (block_at after n)) (64 * n) before
        ∙ drop_all (64 * n + length (block_at after n)) before (omega (arith, longer, short, block, left))
        ∙ sym (drop_all (64 * (n + 1)) before (omega (arith, longer, short)))

put_block : (n : ℕ) (before after : List ℕ) → length before ≤ length after → 64 * n ≤ length after
    → bytes_put (half n before after) (0x40000000 + 64 * n) (block_at after n) ≡ half (n + 1) before after
put_block n before after longer there =
    let front : length (take (64 * n) after) ≡ 64 * n = length-take-le (64 * n) after there in
    ap (λ k. bytes_put (half n before after) (0x40000000 + k) (block_at after n)) (sym front)
    ∙ put_behind (take (64 * n) after) (block_at after n) (drop (64 * n) before)
    ∙ ap (λ (xs : List ℕ). take (64 * n) after ++ block_at after n ++ xs) (behind_block n before after longer)
    ∙ ap (λ (xs : List ℕ). xs ++ drop (64 * (n + 1)) before) (next_take n after)

abbrev LaysBlock : Bool → ℕ → List ℕ → List ℕ → Type 0
LaysBlock same n before after = bytes_eq (block_at before n) (block_at after n) ≡ same
    → lane_after (half n before after) (change_at before after n) ≡ half (n + 1) before after

lays_block : (same : Bool) (n : ℕ) (before after : List ℕ) → length before ≤ length after → 64 * n ≤ length after
    → LaysBlock same n before after
lays_block true n before after longer there e =
    rw e (same_block n before after ((bytes_eq-Decides (block_at before n) (block_at after n)).0 e))
lays_block false n before after longer there e = rw e (put_block n before after longer there)

lays : (n : ℕ) (before after : List ℕ) → length before ≤ length after → 64 * n ≤ length after + 63
    → lane_after before (changes_below n before after) ≡ half n before after
unfolding changes_below
lays zero before after longer there = refl
lays (suc n) before after longer there =
    let next : n + 1 ≡ suc n = omega arith in
    lane_after-append before (changes_below n before after) (change_at before after n)
    ∙ ap (λ (lane : List ℕ). lane_after lane (change_at before after n)) (lays n before after longer (omega (arith, there)))
    ∙ lays_block (bytes_eq (block_at before n) (block_at after n)) n before after longer (omega (arith, there)) refl
    ∙ ap (λ k. half k before after) next

half_all : (n : ℕ) (before after : List ℕ) → length before ≤ length after → length after ≤ 64 * n → half n before after ≡ after
half_all n before after longer all =
    ap (λ (xs : List ℕ). take (64 * n) after ++ xs) (drop_all (64 * n) before (omega (arith, longer, all)))
    ∙ append-nil (take (64 * n) after)
    ∙ take_all (64 * n) after all

pub changes_tell_all : ChangesTellAll
changes_tell_all before after longer =
    let blocks = (length after + 63) / 64 in
    lays blocks before after longer (omega arith) ∙ half_all blocks before after longer (omega arith)
