-- The pieces of memory lie in RAM, and have as many bytes as its size.
use Rattle.std.proofs.Common.{◌≡◌, ℕ, zero, suc, ◌+◌, ◌-◌, ◌/◌, ◌%◌, ◌<◌, ◌≤◌, Bool, true, false, ◌==◌, nat_lt, List, [], ◌∷◌, length, Option, Some, None, Result, Ok, Err, inl, inr, refl, cond, arith}
use Rattle.std.proofs.lemmas.Bool.Decides.{nat_tests}
use Rattle.std.proofs.lemmas.Option.{option_and_then_some, some_pair_parts}
use Rattle.std.specs.List.{AllByRecursion, list_all}
use Rattle.std.specs.Option.{option_map_or}
use Rattle.std.specs.Ordering.{nat_cmp, eq_by_cmp}
use Rattle.base.specs.NumberMap.{NumberMap, get}
use Rattle.msg_args.specs.declared.param.MsgParam.{MsgParam}
use Rattle.ns_ram.specs.declared.read.Read.{Read}
use Rattle.ns_ram.specs.Attempt.{Attempt, passes, refuses}
use Rattle.ns_ram.specs.Pages.{is_page, walk}
use Rattle.ns_ram.specs.Reader.{over_lane}
use Rattle.ns_ram.proofs.ReaderLaws.{over_lane-bind}
use Rattle.shm_registry.specs.declared.page_buffer.PageBuffer.{PageBuffer}
use Rattle.shm_registry.specs.declared.piece.Piece.{Piece}
use Rattle.shm_registry.specs.Pieces.{IsBuffer, IsPieceOfRam, page_count, pieces_from}
use Rattle.shm_registry.proofs.Cutting.{buffer-room, pieces-in_ram, pieces-size}
use Rattle.param_copy.specs.declared.fault.CopyFault.{CopyFault}
use Rattle.param_copy.specs.declared.fault.CopyFault.TheVariants.{Cookie}
use Rattle.ns_ram.specs.Lane.{is_in_ram}
use Rattle.param_copy.specs.Memory.{HaveSize, bytes_in, chained_pieces, contiguous_pieces, cut_at_pages, one_piece, part_of_buffer, rmem_pieces, tmem_pieces, tmem_size, within_limit}
use Rattle.param_copy.proofs.GoodPages.{truth, walk-good}

-- ---- what is found

found-is : (pieces others : List Piece) (before after : List Read) →
    ◌≡◌ {A = Option (Result (List Piece) CopyFault × List Read)} (Some (Ok pieces, before)) (Some (Ok others, after)) → pieces ≡ others
found-is pieces others before after e = let same : Ok pieces ≡ Ok others = (some_pair_parts (Ok pieces) (Ok others) before after e).0 in cc

refused-not : {P : Type 0} (fault : CopyFault) (others : List Piece) (before after : List Read) →
    ◌≡◌ {A = Option (Result (List Piece) CopyFault × List Read)} (Some (Err fault, before)) (Some (Ok others, after)) → P
refused-not fault others before after e = let same : Err fault ≡ Ok others = (some_pair_parts (Err fault) (Ok others) before after e).0 in absurd (cc)

refuses-size : (fault : CopyFault) (size : ℕ) → HaveSize (refuses fault) size
refuses-size fault size = record {
  sum = λ lane before after pieces e. refused-not fault pieces before after e;
  in_ram = λ lane before after pieces e. refused-not fault pieces before after e;
}

passes-size : (pieces : List Piece) (size : ℕ) → bytes_in pieces ≡ size → AllByRecursion IsPieceOfRam pieces → HaveSize (passes pieces) size
passes-size pieces size sum in_ram = record {
  sum = λ lane before after others e. rw (← found-is pieces others before after e) sum;
  in_ram = λ lane before after others e. rw (← found-is pieces others before after e) in_ram;
}

choice-size : (b : Bool) (first second : Attempt CopyFault (List Piece)) (size : ℕ) →
    (b ≡ true → HaveSize first size) → (b ≡ false → HaveSize second size) → HaveSize (cond b first second) size
choice-size true first second size f s = f refl
choice-size false first second size f s = s refl

-- ---- a registered buffer

All-get : (m : NumberMap PageBuffer) (k : ℕ) (buffer : PageBuffer) → AllByRecursion (λ kept. IsBuffer kept.1) m → get m k ≡ Some buffer → IsBuffer buffer
All-get [] k buffer all e = absurd (cc)
All-get (kept ∷ m) k buffer all e = elim (truth (eq_by_cmp nat_cmp k kept.0)) [
  | inl here ↦
      let found : Some kept.1 ≡ Some buffer = rw here at e in
      let same : kept.1 ≡ buffer = cc in
      rw same at all.0
  | inr other ↦ All-get m k buffer all.1 (rw other at e)
]

part-size : (number : ℕ) (param : MsgParam) (buffer : PageBuffer) → IsBuffer buffer → HaveSize (part_of_buffer number param buffer) param.q
part-size number param buffer b =
    choice-size (nat_lt buffer.size (param.p + param.q)) _ _ param.q (λ _. refuses-size _ param.q)
    (λ (inside : nat_lt buffer.size (param.p + param.q) ≡ false).
    let ends : param.p + param.q ≤ buffer.size = grind (arith, nat_tests) in
    passes-size (pieces_from buffer.pages (buffer.offset + param.p) param.q) param.q
    (enough param.q ends) (pieces-in_ram buffer.pages (buffer.offset + param.p) param.q b.pages))
  where
    enough : (size : ℕ) → param.p + size ≤ buffer.size → bytes_in (pieces_from buffer.pages (buffer.offset + param.p) size) ≡ size
    enough zero ends = refl
    enough (suc more) ends =
        let some : 0 < buffer.size = omega arith in
        pieces-size buffer.pages (buffer.offset + param.p) (suc more) (omega (arith, buffer-room buffer b some))

pub rmem-size : (buffers : NumberMap PageBuffer) (number : ℕ) (param : MsgParam) → AllByRecursion (λ kept. IsBuffer kept.1) buffers →
    HaveSize (rmem_pieces buffers number param) param.q
rmem-size buffers number param all =
    choice-size (nat_lt 65536 param.q) _ _ param.q (λ _. refuses-size _ param.q) (λ _. of_buffer (get buffers param.s) refl)
  where
    of_buffer : (found : Option PageBuffer) → get buffers param.s ≡ found → HaveSize (option_map_or (part_of_buffer number param) found (refuses (Cookie number))) param.q
    of_buffer None e = refuses-size (Cookie number) param.q
    of_buffer (Some buffer) e = part-size number param buffer (All-get buffers param.s buffer all e)

-- ---- named by address

one-size : (addr size : ℕ) → bytes_in (one_piece addr size) ≡ size
one-size addr zero = refl
one-size addr (suc more) = omega arith

pub one-in_ram : (addr size : ℕ) → is_in_ram addr size ≡ true → AllByRecursion IsPieceOfRam (one_piece addr size)
one-in_ram addr zero e = tt
one-in_ram addr (suc more) e = ((grind (arith, nat_tests), grind (arith, nat_tests)), tt)

contiguous-size : (number : ℕ) (param : MsgParam) → HaveSize (contiguous_pieces number param) param.q
contiguous-size number param =
    choice-size (is_in_ram param.p param.q) _ _ param.q
    (λ (inside : is_in_ram param.p param.q ≡ true). passes-size (one_piece param.p param.q) param.q (one-size param.p param.q) (one-in_ram param.p param.q inside))
    (λ _. refuses-size _ param.q)

pages-size : (offset size : ℕ) (pages : List ℕ) → offset < 4096 → list_all is_page pages ≡ true → length pages ≡ page_count offset size →
    bytes_in (pieces_from pages offset size) ≡ size
pages-size offset zero pages h good many = refl
pages-size offset (suc more) pages h good many =
    let count : page_count offset (suc more) ≡ (offset + suc more + 4095) / 4096 = grind (arith, nat_tests) in
    pieces-size pages offset (suc more) (omega (arith, many, count))

chained-size : (number : ℕ) (param : MsgParam) → HaveSize (chained_pieces number param) param.q
chained-size number param = record {
  sum = λ lane before after pieces e. (of_pages lane before after pieces e).0;
  in_ram = λ lane before after pieces e. (of_pages lane before after pieces e).1;
}
  where
    of_pages : (lane : List ℕ) (before after : List Read) (pieces : List Piece) → over_lane (chained_pieces number param) lane before ≡ Some (Ok pieces, after) →
        (bytes_in pieces ≡ param.q) × AllByRecursion IsPieceOfRam pieces
    of_pages lane before after pieces e =
        let offset : ℕ = param.p % 4096 in
        let chain = walk (param.p - offset) (page_count offset param.q) in
        option_and_then_some _ (over_lane chain lane before) (Ok pieces, after) (rw (over_lane-bind chain (cut_at_pages number param) lane before) at e)
        (λ (step : Result (List ℕ) ℕ × List Read) there onward. cut step.0 step.1 lane before there onward)
      where
        cut : (walked : Result (List ℕ) ℕ) (between : List Read) (lane : List ℕ) (before : List Read) →
            over_lane (walk (param.p - param.p % 4096) (page_count (param.p % 4096) param.q)) lane before ≡ Some (walked, between) →
            over_lane (cut_at_pages number param walked) lane between ≡ Some (Ok pieces, after) → (bytes_in pieces ≡ param.q) × AllByRecursion IsPieceOfRam pieces
        cut (Err page) between lane before there onward = refused-not _ pieces between after onward
        cut (Ok pages) between lane before there onward =
            let good = walk-good (param.p - param.p % 4096) (page_count (param.p % 4096) param.q) lane before between pages there in
            let same = found-is (pieces_from pages (param.p % 4096) param.q) pieces between after onward in
            let many : length pages ≡ page_count (param.p % 4096) param.q = omega (arith, good.many) in
            rw (← same)
            (pages-size (param.p % 4096) param.q pages (omega arith) good.all many, pieces-in_ram pages (param.p % 4096) param.q (rw good.all refl))

limited-size : (number : ℕ) (param : MsgParam) (located : Attempt CopyFault (List Piece)) → HaveSize located param.q → HaveSize (within_limit number param located) param.q
limited-size number param located h = choice-size (nat_lt 65536 param.q) _ _ param.q (λ _. refuses-size _ param.q) (λ _. h)

pub tmem-size : (number : ℕ) (param : MsgParam) → HaveSize (tmem_pieces number param) (tmem_size param)
tmem-size number param = elim (truth param.noncontig) [
  | inl chained ↦ rw chained (limited-size number param (chained_pieces number param) (chained-size number param))
  | inr contiguous ↦ elim (truth (param.p == 0)) [
    | inl null ↦ rw (contiguous, null) (passes-size [] 0 refl tt)
    | inr named ↦ rw (contiguous, named) (limited-size number param (contiguous_pieces number param) (contiguous-size number param))
  ]
]
