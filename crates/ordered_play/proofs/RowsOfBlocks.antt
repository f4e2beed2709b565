-- The text of blocks, line by line: each line shows the numbers that stand in it.
use Rattle.std.proofs.Common.{◌≡◌, ℕ, zero, suc, ◌+◌, ◌/◌, ◌%◌, ◌==◌, ◌<◌, ◌≤◌, Bool, true, false, List, [], ◌∷◌, ◌++◌, Option, Some, None, length, map}
use Rattle.std.proofs.Common.{refl, sym, ◌∙◌, ap, arith, append_assoc, append-nil, drop}
use Rattle.std.specs.Prelude.{◌||◌, ◌^◌, codes, if◌then◌else◌, not, slice_get, slice_index}
use Rattle.std.specs.Fmt.{decimal, digit_glyph, digits, digits_onto}
use Rattle.std.specs.Int.{to_be_bytes, w32}
use Rattle.std.specs.List.{AllByRecursion, flat_map, list_all, list_any}
use Rattle.std.specs.Option.{is_some, option_map_or}
use Rattle.std.proofs.lemmas.Bool.{and_parts}
use Rattle.std.proofs.lemmas.Bool.Decides.{nat_tests}
use Rattle.std.proofs.lemmas.Fmt.{decimal_injective}
use Rattle.std.proofs.lemmas.Grind.{flat_map-append}
use Rattle.std.proofs.lemmas.List.{length-append, map-append}
use Rattle.std.proofs.lemmas.List.Folds.{list_any-append}
use Rattle.hex.specs.Hex.{encode_lower, encode_with, lower_digits}
use Rattle.play_model.specs.Line.{mem_line, register_text}
use Rattle.ordered_play.proofs.Events.{same_some}
use Rattle.ordered_play.specs.Blocks.{block_of, blocks_from, full_line, placed_ret_line, text_of_placed}
use Rattle.ordered_play.specs.Places.{printed_places}
use Rattle.ordered_play.specs.Seat.{PlacedLine, Refusal, Seat, Shown, Told}

-- ---- texts without a byte

abbrev pub HasNo : ℕ → List ℕ → Type 0
HasNo byte text = AllByRecursion (λ x. x ≡ byte → ⊥) text

HasNo-append : (byte : ℕ) (one other : List ℕ) → HasNo byte one → HasNo byte other → HasNo byte (one ++ other)
HasNo-append byte [] other none more = more
HasNo-append byte (x ∷ one) other none more = (none.0, HasNo-append byte one other none.1 more)

-- of a text that is written down it can be computed
no_byte : (byte : ℕ) (text : List ℕ) → list_all (λ x. not (x == byte)) text ≡ true → HasNo byte text
no_byte byte [] e = tt
no_byte byte (x ∷ text) e =
    let both = and_parts (not (x == byte)) (list_all (λ y. not (y == byte)) text) e in
    let apart = both.0 in
    (λ same. absurd (grind (arith, nat_tests)), no_byte byte text both.1)

-- two texts that go up to the same byte are one
pub record SameCut (one other behind after : List ℕ) : Type 0 where
  pub before : one ≡ other
  pub rest : behind ≡ after

pub same_cut : (byte : ℕ) (one other behind after : List ℕ) → HasNo byte one → HasNo byte other
    → one ++ byte ∷ behind ≡ other ++ byte ∷ after → SameCut one other behind after
same_cut byte [] [] behind after none no_other e = record { before = refl; rest = cc }
same_cut byte [] (y ∷ other) behind after none no_other e = let same : y ≡ byte = cc in absurd (no_other.0 same)
same_cut byte (x ∷ one) [] behind after none no_other e = let same : x ≡ byte = cc in absurd (none.0 same)
same_cut byte (x ∷ one) (y ∷ other) behind after none no_other e =
    let first : x ≡ y = cc in
    let later : one ++ byte ∷ behind ≡ other ++ byte ∷ after = cc in
    let cut = same_cut byte one other behind after none.1 no_other.1 later in
    record { before = ap (λ (n : ℕ). n ∷ one) first ∙ ap (λ (l : List ℕ). y ∷ l) cut.before; rest = cut.rest }

-- ---- numbers and bytes in a line

-- a byte that is no decimal digit
abbrev IsNoDigit : ℕ → Type 0
IsNoDigit byte = (d : ℕ) → d < 10 → 48 + d ≡ byte → ⊥

glyph_not : (byte n : ℕ) → IsNoDigit byte → digit_glyph false (n % 10) ≡ byte → ⊥
glyph_not byte n no_digit e =
    let low : n % 10 < 10 = omega arith in
    let glyph : digit_glyph false (n % 10) ≡ 48 + n % 10 = grind (arith, nat_tests) in
    no_digit (n % 10) low (sym glyph ∙ e)

onto_not : (byte count n : ℕ) (behind : List ℕ) → IsNoDigit byte → HasNo byte behind
    → HasNo byte (digits_onto count 10 false n behind)
onto_not byte zero n behind no_digit none = none
onto_not byte (suc count) n behind no_digit none =
    by (n / 10 == 0) (onto_not byte count (n / 10) (digit_glyph false (n % 10) ∷ behind) no_digit (glyph_not byte n no_digit, none))
  where
    by : (test : Bool) → HasNo byte (digits_onto count 10 false (n / 10) (digit_glyph false (n % 10) ∷ behind))
        → HasNo byte (if test then digit_glyph false (n % 10) ∷ behind
        else digits_onto count 10 false (n / 10) (digit_glyph false (n % 10) ∷ behind))
    by true rest = (glyph_not byte n no_digit, none)
    by false rest = rest

decimal_not : (byte n : ℕ) → IsNoDigit byte → HasNo byte (decimal n)
unfolding digits
decimal_not byte n no_digit = onto_not byte 64 n [] no_digit tt

-- no digit of a table is the byte, and nothing behind it
index_not : (byte : ℕ) (table : List ℕ) (i : ℕ) → HasNo byte table → (0 ≡ byte → ⊥) → slice_index table i ≡ byte → ⊥
index_not byte [] i none no_zero = no_zero
index_not byte (x ∷ table) zero none no_zero = none.0
index_not byte (x ∷ table) (suc i) none no_zero = index_not byte table i none.1 no_zero

hex_not : (byte : ℕ) (bytes : List ℕ) → HasNo byte lower_digits → (0 ≡ byte → ⊥) → HasNo byte (encode_lower bytes)
unfolding encode_with
hex_not byte [] none no_zero = tt
hex_not byte (b ∷ bytes) none no_zero = (
  index_not byte lower_digits (b / 16) none no_zero,
  (index_not byte lower_digits (b % 16) none no_zero, hex_not byte bytes none no_zero),
)

registers_not : (byte : ℕ) (regs : List ℕ) → HasNo byte lower_digits → (0 ≡ byte → ⊥) → (32 ≡ byte → ⊥)
    → HasNo byte (flat_map register_text regs)
registers_not byte [] none no_zero no_space = tt
registers_not byte (r ∷ regs) none no_zero no_space = HasNo-append byte (register_text r) (flat_map register_text regs)
    (no_space, hex_not byte (to_be_bytes w32 r) none no_zero) (registers_not byte regs none no_zero no_space)

-- ---- rows

-- a line of a block
pub data Row : Type 0 where
  Heads : (cpu : ℕ) → Row
  Tells : (cpu : ℕ) (regs : List ℕ) (entry_at exit_at : ℕ) → Row
  Shows : (cpu addr : ℕ) (bytes : List ℕ) → Row
  Refuses : (refusal : Refusal) → Row

-- without its line feed
abbrev pub body : Row → List ℕ
body (Heads cpu) = codes "cpu " ++ decimal cpu
body (Tells cpu regs entry_at exit_at) =
    codes "ret " ++ decimal cpu ++ flat_map register_text regs ++ codes " at " ++ decimal entry_at ++ 32 ∷ [] ++ decimal exit_at
body (Shows cpu addr bytes) = codes "mem " ++ decimal cpu ++ register_text addr ++ 32 ∷ encode_lower bytes
body (Refuses refusal) = codes "full " ++ decimal refusal.copied ++ 32 ∷ [] ++ decimal refusal.more

abbrev line_of : Row → List ℕ
line_of row = body row ++ 10 ∷ []

abbrev row_of : ℕ → PlacedLine → Row
row_of cpu (Told regs entry_at exit_at) = Tells cpu regs entry_at exit_at
row_of cpu (Shown addr bytes) = Shows cpu addr bytes

abbrev refusal_row : Option Refusal → List Row
refusal_row None = []
refusal_row (Some refusal) = Refuses refusal ∷ []

abbrev rows_of : ℕ → Seat → List Row
rows_of cpu seat = Heads cpu ∷ map (row_of cpu) seat.lines ++ refusal_row seat.refused

abbrev pub rows_from : ℕ → List Seat → List Row
rows_from cpu [] = []
rows_from cpu (seat ∷ seats) = rows_of cpu seat ++ rows_from (cpu + 1) seats

line_is : (cpu : ℕ) (line : PlacedLine) → line_of (row_of cpu line) ≡ text_of_placed cpu line
line_is cpu (Told regs entry_at exit_at) = refl
line_is cpu (Shown addr bytes) = refl

lines_are : (cpu : ℕ) (lines : List PlacedLine) → flat_map line_of (map (row_of cpu) lines) ≡ flat_map (text_of_placed cpu) lines
lines_are cpu [] = refl
lines_are cpu (line ∷ lines) =
    ap (λ (l : List ℕ). l ++ flat_map line_of (map (row_of cpu) lines)) (line_is cpu line)
    ∙ ap (λ (l : List ℕ). text_of_placed cpu line ++ l) (lines_are cpu lines)

refusal_is : (refused : Option Refusal) → flat_map line_of (refusal_row refused) ≡ option_map_or full_line refused []
refusal_is None = refl
refusal_is (Some refusal) = append-nil (full_line refusal)

block_is : (cpu : ℕ) (seat : Seat) → flat_map line_of (rows_of cpu seat) ≡ block_of cpu seat
block_is cpu seat =
    let rest : flat_map line_of (map (row_of cpu) seat.lines ++ refusal_row seat.refused)
    ≡ flat_map (text_of_placed cpu) seat.lines ++ option_map_or full_line seat.refused [] =
    flat_map-append line_of (map (row_of cpu) seat.lines) (refusal_row seat.refused)
    ∙ ap (λ (l : List ℕ). l ++ flat_map line_of (refusal_row seat.refused)) (lines_are cpu seat.lines)
    ∙ ap (λ (l : List ℕ). flat_map (text_of_placed cpu) seat.lines ++ l) (refusal_is seat.refused) in
    ap (λ (l : List ℕ). line_of (Heads cpu) ++ l) rest
    ∙ sym (append_assoc (line_of (Heads cpu)) (flat_map (text_of_placed cpu) seat.lines) (option_map_or full_line seat.refused []))

-- blocks are the lines of their rows
pub rows_are : (cpu : ℕ) (seats : List Seat) → flat_map line_of (rows_from cpu seats) ≡ blocks_from cpu seats
rows_are cpu [] = refl
rows_are cpu (seat ∷ seats) =
    flat_map-append line_of (rows_of cpu seat) (rows_from (cpu + 1) seats)
    ∙ ap (λ (l : List ℕ). l ++ flat_map line_of (rows_from (cpu + 1) seats)) (block_is cpu seat)
    ∙ ap (λ (l : List ℕ). block_of cpu seat ++ l) (rows_are (cpu + 1) seats)

-- ---- a text shows its lines

no_feed : IsNoDigit 10
no_feed = λ d low e. absurd (omega (arith, low, e))

-- two bytes are not the same
abbrev IsOther : ℕ → ℕ → Type 0
IsOther one other = one ≡ other → ⊥

no_zero : IsOther 0 10
no_zero = λ e. absurd (omega (arith, e))

no_space_in : IsOther 32 10
no_space_in = λ e. absurd (omega (arith, e))

no_hex : HasNo 10 lower_digits
no_hex = no_byte 10 lower_digits refl

-- a word, and a number
worded : (word : List ℕ) (n : ℕ) → HasNo 10 word → HasNo 10 (word ++ decimal n)
worded word n none = HasNo-append 10 word (decimal n) none (decimal_not 10 n no_feed)

body_not : (row : Row) → HasNo 10 (body row)
body_not (Heads cpu) = worded (codes "cpu ") cpu (no_byte 10 (codes "cpu ") refl)
body_not (Tells cpu regs entry_at exit_at) =
    let word = codes "ret " ++ decimal cpu in
    let told = word ++ flat_map register_text regs in
    let at = told ++ codes " at " in
    let entered = at ++ decimal entry_at in
    worded (entered ++ 32 ∷ []) exit_at
    (HasNo-append 10 entered (32 ∷ []) (worded at entry_at
    (HasNo-append 10 told (codes " at ") (HasNo-append 10 word (flat_map register_text regs)
    (worded (codes "ret ") cpu (no_byte 10 (codes "ret ") refl)) (registers_not 10 regs no_hex no_zero no_space_in))
    (no_byte 10 (codes " at ") refl))) (no_byte 10 (32 ∷ []) refl))
body_not (Shows cpu addr bytes) =
    let word = codes "mem " ++ decimal cpu in
    HasNo-append 10 (word ++ register_text addr) (32 ∷ encode_lower bytes)
    (HasNo-append 10 word (register_text addr) (worded (codes "mem ") cpu (no_byte 10 (codes "mem ") refl))
    (no_space_in, hex_not 10 (to_be_bytes w32 addr) no_hex no_zero))
    (no_space_in, hex_not 10 bytes no_hex no_zero)
body_not (Refuses refusal) =
    let word = codes "full " ++ decimal refusal.copied in
    worded (word ++ 32 ∷ []) refusal.more
    (HasNo-append 10 word (32 ∷ []) (worded (codes "full ") refusal.copied (no_byte 10 (codes "full ") refl))
    (no_byte 10 (32 ∷ []) refl))

-- behind its first row
row_first : (row : Row) (rows : List Row) → flat_map line_of (row ∷ rows) ≡ body row ++ 10 ∷ flat_map line_of rows
row_first row rows = append_assoc (body row) (10 ∷ []) (flat_map line_of rows)

not_empty : (text more : List ℕ) → text ++ 10 ∷ more ≡ [] → ⊥
not_empty [] more e = absurd cc
not_empty (x ∷ text) more e = absurd cc

pub same_bodies : (rows others : List Row) → flat_map line_of rows ≡ flat_map line_of others → map body rows ≡ map body others
same_bodies [] [] e = refl
same_bodies [] (other ∷ others) e =
    absurd (not_empty (body other) (flat_map line_of others) (sym (row_first other others) ∙ sym e))
same_bodies (row ∷ rows) [] e = absurd (not_empty (body row) (flat_map line_of rows) (sym (row_first row rows) ∙ e))
same_bodies (row ∷ rows) (other ∷ others) e =
    let cut = same_cut 10 (body row) (body other) (flat_map line_of rows) (flat_map line_of others) (body_not row)
    (body_not other) (sym (row_first row rows) ∙ e ∙ row_first other others) in
    ap (λ (l : List ℕ). l ∷ map body rows) cut.before
    ∙ ap (λ (l : List (List ℕ)). body other ∷ l) (same_bodies rows others cut.rest)

-- ---- refusals

-- a line that begins with f
abbrev pub is_full : List ℕ → Bool
is_full text = slice_index text 0 == 102

lines_not_full : (cpu : ℕ) (lines : List PlacedLine) → list_any is_full (map body (map (row_of cpu) lines)) ≡ false
lines_not_full cpu [] = refl
lines_not_full cpu (Told regs entry_at exit_at ∷ lines) = lines_not_full cpu lines
lines_not_full cpu (Shown addr bytes ∷ lines) = lines_not_full cpu lines

refusal_full : (refused : Option Refusal) → list_any is_full (map body (refusal_row refused)) ≡ is_some refused
refusal_full None = refl
refusal_full (Some refusal) = refl

seat_full : (cpu : ℕ) (seat : Seat) → list_any is_full (map body (rows_of cpu seat)) ≡ is_some seat.refused
seat_full cpu seat =
    ap (list_any is_full) (map-append body (map (row_of cpu) seat.lines) (refusal_row seat.refused))
    ∙ list_any-append is_full (map body (map (row_of cpu) seat.lines)) (map body (refusal_row seat.refused))
    ∙ ap (λ (b : Bool). b || list_any is_full (map body (refusal_row seat.refused))) (lines_not_full cpu seat.lines)
    ∙ refusal_full seat.refused

-- there is one just where a seat was refused
pub some_full : (cpu : ℕ) (seats : List Seat)
    → list_any is_full (map body (rows_from cpu seats)) ≡ list_any (λ (seat : Seat). is_some seat.refused) seats
some_full cpu [] = refl
some_full cpu (seat ∷ seats) =
    ap (list_any is_full) (map-append body (rows_of cpu seat) (rows_from (cpu + 1) seats))
    ∙ list_any-append is_full (map body (rows_of cpu seat)) (map body (rows_from (cpu + 1) seats))
    ∙ ap (λ (b : Bool). b || list_any is_full (map body (rows_from (cpu + 1) seats))) (seat_full cpu seat)
    ∙ ap (λ (b : Bool). is_some seat.refused || b) (some_full (cpu + 1) seats)

-- ---- places

-- the numbers of a row that tells places have at most twenty digits
abbrev pub IsShort : Row → Type 0
IsShort (Heads cpu) = Unit {0}
IsShort (Tells cpu regs entry_at exit_at) = (cpu < 2 ^ 64) × (entry_at < 2 ^ 64) × (exit_at < 2 ^ 64)
IsShort (Shows cpu addr bytes) = Unit {0}
IsShort (Refuses refusal) = Unit {0}

-- the places that a row tells of a processor
abbrev pub told_of : ℕ → Row → List ℕ
told_of own (Heads cpu) = []
told_of own (Tells cpu regs entry_at exit_at) = if cpu == own then entry_at ∷ exit_at ∷ [] else []
told_of own (Shows cpu addr bytes) = []
told_of own (Refuses refusal) = []

-- the registers, up to the t behind them, begin with a space
registers_begin : (regs : List ℕ) → (rest : List ℕ) × (flat_map register_text regs ++ 32 ∷ 97 ∷ [] ≡ 32 ∷ rest)
registers_begin [] = (97 ∷ [], refl)
registers_begin (r ∷ regs) = (_, refl)

module _ (regs : List ℕ) (cpu entry_at exit_at : ℕ) where
  -- up to the t of `at`, and behind it
  abbrev front : List ℕ
  front = decimal cpu ++ (flat_map register_text regs ++ 32 ∷ 97 ∷ [])

  abbrev back : List ℕ
  back = decimal entry_at ++ 32 ∷ decimal exit_at

  halves : drop 4 (body (Tells cpu regs entry_at exit_at)) ≡ front ++ 116 ∷ 32 ∷ back
  halves = simp append_assoc

  no_t : IsNoDigit 116
  no_t = λ d low e. absurd (omega (arith, low, e))

  front_not : HasNo 116 front
  front_not = HasNo-append 116 (decimal cpu) (flat_map register_text regs ++ 32 ∷ 97 ∷ []) (decimal_not 116 cpu no_t)
      (HasNo-append 116 (flat_map register_text regs) (32 ∷ 97 ∷ [])
      (registers_not 116 regs (no_byte 116 lower_digits refl) (λ e. absurd (omega (arith, e))) (λ e. absurd (omega (arith, e))))
      (no_byte 116 (32 ∷ 97 ∷ []) refl))

no_space : IsNoDigit 32
no_space = λ d low e. absurd (omega (arith, low, e))

-- two that tell the same line tell the same places
pub record SameTold (cpu entry_at exit_at other_cpu other_entry other_exit : ℕ) : Type 0 where
  pub cpus : cpu ≡ other_cpu
  pub entries : entry_at ≡ other_entry
  pub exits : exit_at ≡ other_exit

same_told : (regs others : List ℕ) (cpu entry_at exit_at other_cpu other_entry other_exit : ℕ)
    → IsShort (Tells cpu regs entry_at exit_at) → IsShort (Tells other_cpu others other_entry other_exit)
    → body (Tells cpu regs entry_at exit_at) ≡ body (Tells other_cpu others other_entry other_exit)
    → SameTold cpu entry_at exit_at other_cpu other_entry other_exit
same_told regs others cpu entry_at exit_at other_cpu other_entry other_exit short other_short e =
    let whole = sym (halves regs cpu entry_at exit_at) ∙ ap (drop 4) e ∙ halves others other_cpu other_entry other_exit in
    let cut = same_cut 116 (front regs cpu entry_at exit_at) (front others other_cpu other_entry other_exit)
    (32 ∷ back regs cpu entry_at exit_at) (32 ∷ back others other_cpu other_entry other_exit)
    (front_not regs cpu entry_at exit_at) (front_not others other_cpu other_entry other_exit) whole in
    let one = registers_begin regs in
    let other = registers_begin others in
    let numbers = same_cut 32 (decimal cpu) (decimal other_cpu) one.0 other.0 (decimal_not 32 cpu no_space)
    (decimal_not 32 other_cpu no_space)
    (ap (λ (l : List ℕ). decimal cpu ++ l) (sym one.1) ∙ cut.before ∙ ap (λ (l : List ℕ). decimal other_cpu ++ l) other.1) in
    let places = same_cut 32 (decimal entry_at) (decimal other_entry) (decimal exit_at) (decimal other_exit)
    (decimal_not 32 entry_at no_space) (decimal_not 32 other_entry no_space) (ap (drop 1) cut.rest) in
    record {
      cpus = decimal_injective cpu other_cpu short.0 other_short.0 numbers.before;
      entries = decimal_injective entry_at other_entry short.1 other_short.1 places.before;
      exits = decimal_injective exit_at other_exit short.2 other_short.2 places.rest;
    }

-- a line that doesn't begin with r tells no places
tells_none : (own : ℕ) (row : Row) → (slice_index (body row) 0 ≡ 114 → ⊥) → told_of own row ≡ []
tells_none own (Heads cpu) not_ret = refl
tells_none own (Tells cpu regs entry_at exit_at) not_ret = absurd (not_ret refl)
tells_none own (Shows cpu addr bytes) not_ret = refl
tells_none own (Refuses refusal) not_ret = refl

-- rows of other lines than returns
module _ (own : ℕ) (row other : Row) (e : body row ≡ body other) where
  none_in_other : (first : ℕ) → slice_index (body row) 0 ≡ first → (first ≡ 114 → ⊥) → [] ≡ told_of own other
  none_in_other first is not_ret =
      sym (tells_none own other (λ ret. not_ret (sym is ∙ ap (λ (l : List ℕ). slice_index l 0) e ∙ ret)))

alike : (own : ℕ) (row other : Row) → IsShort row → IsShort other → body row ≡ body other → told_of own row ≡ told_of own other
alike own (Heads cpu) other short other_short e =
    none_in_other own (Heads cpu) other e 99 refl (λ f. absurd (omega (arith, f)))
alike own (Shows cpu addr bytes) other short other_short e =
    none_in_other own (Shows cpu addr bytes) other e 109 refl (λ f. absurd (omega (arith, f)))
alike own (Refuses refusal) other short other_short e =
    none_in_other own (Refuses refusal) other e 102 refl (λ f. absurd (omega (arith, f)))
alike own (Tells cpu regs entry_at exit_at) (Heads n) short other_short e =
    sym (none_in_other own (Heads n) (Tells cpu regs entry_at exit_at) (sym e) 99 refl (λ f. absurd (omega (arith, f))))
alike own (Tells cpu regs entry_at exit_at) (Shows n addr bytes) short other_short e =
    sym (none_in_other own (Shows n addr bytes) (Tells cpu regs entry_at exit_at) (sym e) 109 refl (λ f. absurd (omega (arith, f))))
alike own (Tells cpu regs entry_at exit_at) (Refuses refusal) short other_short e =
    sym (none_in_other own (Refuses refusal) (Tells cpu regs entry_at exit_at) (sym e) 102 refl (λ f. absurd (omega (arith, f))))
alike own (Tells cpu regs entry_at exit_at) (Tells n others other_entry other_exit) short other_short e =
    let same = same_told regs others cpu entry_at exit_at n other_entry other_exit short other_short e in
    ap (λ (c : ℕ). if c == own then entry_at ∷ exit_at ∷ [] else []) same.cpus
    ∙ ap (λ (at : ℕ). if n == own then at ∷ exit_at ∷ [] else []) same.entries
    ∙ ap (λ (at : ℕ). if n == own then other_entry ∷ at ∷ [] else []) same.exits

pub same_places : (own : ℕ) (rows others : List Row) → AllByRecursion IsShort rows → AllByRecursion IsShort others
    → map body rows ≡ map body others → flat_map (told_of own) rows ≡ flat_map (told_of own) others
same_places own [] [] short other_short e = refl
same_places own [] (other ∷ others) short other_short e = absurd cc
same_places own (row ∷ rows) [] short other_short e = absurd cc
same_places own (row ∷ rows) (other ∷ others) short other_short e =
    let first : body row ≡ body other = cc in
    let later : map body rows ≡ map body others = cc in
    ap (λ (l : List ℕ). l ++ flat_map (told_of own) rows) (alike own row other short.0 other_short.0 first)
    ∙ ap (λ (l : List ℕ). told_of own other ++ l) (same_places own rows others short.1 other_short.1 later)

-- ---- what rows tell of a processor is what its seat has printed

lines_tell : (own cpu : ℕ) (lines : List PlacedLine) → (cpu == own) ≡ true
    → flat_map (told_of own) (map (row_of cpu) lines) ≡ printed_places lines
lines_tell own cpu [] is = refl
lines_tell own cpu (Told regs entry_at exit_at ∷ lines) is =
    ap (λ (test : Bool). (if test then entry_at ∷ exit_at ∷ [] else []) ++ flat_map (told_of own) (map (row_of cpu) lines)) is
    ∙ ap (λ (l : List ℕ). entry_at ∷ exit_at ∷ l) (lines_tell own cpu lines is)
lines_tell own cpu (Shown addr bytes ∷ lines) is = lines_tell own cpu lines is

lines_tell_none : (own cpu : ℕ) (lines : List PlacedLine) → (cpu == own) ≡ false
    → flat_map (told_of own) (map (row_of cpu) lines) ≡ []
lines_tell_none own cpu [] is = refl
lines_tell_none own cpu (Told regs entry_at exit_at ∷ lines) is =
    ap (λ (test : Bool). (if test then entry_at ∷ exit_at ∷ [] else []) ++ flat_map (told_of own) (map (row_of cpu) lines)) is
    ∙ lines_tell_none own cpu lines is
lines_tell_none own cpu (Shown addr bytes ∷ lines) is = lines_tell_none own cpu lines is

refusal_tells : (own : ℕ) (refused : Option Refusal) → flat_map (told_of own) (refusal_row refused) ≡ []
refusal_tells own None = refl
refusal_tells own (Some refusal) = refl

seat_tells : (own cpu : ℕ) (seat : Seat) (told : List ℕ) → flat_map (told_of own) (map (row_of cpu) seat.lines) ≡ told
    → flat_map (told_of own) (rows_of cpu seat) ≡ told
seat_tells own cpu seat told lines =
    flat_map-append (told_of own) (map (row_of cpu) seat.lines) (refusal_row seat.refused)
    ∙ ap (λ (l : List ℕ). flat_map (told_of own) (map (row_of cpu) seat.lines) ++ l) (refusal_tells own seat.refused)
    ∙ append-nil (flat_map (told_of own) (map (row_of cpu) seat.lines)) ∙ lines

none_behind : (own cpu : ℕ) (seats : List Seat) → own < cpu → flat_map (told_of own) (rows_from cpu seats) ≡ []
none_behind own cpu [] low = refl
none_behind own cpu (seat ∷ seats) low =
    let apart : (cpu == own) ≡ false = grind (arith, nat_tests) in
    let later : own < cpu + 1 = omega arith in
    flat_map-append (told_of own) (rows_of cpu seat) (rows_from (cpu + 1) seats)
    ∙ ap (λ (l : List ℕ). l ++ flat_map (told_of own) (rows_from (cpu + 1) seats))
    (seat_tells own cpu seat [] (lines_tell_none own cpu seat.lines apart))
    ∙ none_behind own (cpu + 1) seats later

pub rows_tell : (own cpu k : ℕ) (seats : List Seat) (seat : Seat) → own ≡ cpu + k → slice_get seats k ≡ Some seat
    → flat_map (told_of own) (rows_from cpu seats) ≡ printed_places seat.lines
rows_tell own cpu k [] seat is there = absurd cc
rows_tell own cpu zero (first ∷ seats) seat is there =
    let same = same_some first seat there in
    let own_row : (cpu == own) ≡ true = grind (arith, nat_tests) in
    let low : own < cpu + 1 = omega (arith, is) in
    flat_map-append (told_of own) (rows_of cpu first) (rows_from (cpu + 1) seats)
    ∙ ap (λ (l : List ℕ). flat_map (told_of own) (rows_of cpu first) ++ l) (none_behind own (cpu + 1) seats low)
    ∙ append-nil (flat_map (told_of own) (rows_of cpu first))
    ∙ seat_tells own cpu first (printed_places first.lines) (lines_tell own cpu first.lines own_row)
    ∙ ap (λ (s : Seat). printed_places s.lines) same
rows_tell own cpu (suc k) (first ∷ seats) seat is there =
    let apart : (cpu == own) ≡ false = grind (arith, nat_tests) in
    let next : own ≡ cpu + 1 + k = omega (arith, is) in
    flat_map-append (told_of own) (rows_of cpu first) (rows_from (cpu + 1) seats)
    ∙ ap (λ (l : List ℕ). l ++ flat_map (told_of own) (rows_from (cpu + 1) seats))
    (seat_tells own cpu first [] (lines_tell_none own cpu first.lines apart))
    ∙ rows_tell own (cpu + 1) k seats seat next there

-- ---- short rows

lines_short : (cpu most : ℕ) (lines : List PlacedLine) → cpu < 2 ^ 64 → most ≤ 2 ^ 64
    → AllByRecursion (λ place. place < most) (printed_places lines) → AllByRecursion IsShort (map (row_of cpu) lines)
lines_short cpu most [] few fits below = tt
lines_short cpu most (Told regs entry_at exit_at ∷ lines) few fits below =
    let entry_below = below.0 in
    let exit_below = below.1.0 in
    ((few, omega (arith, fits, entry_below), omega (arith, fits, exit_below)), lines_short cpu most lines few fits below.1.1)
lines_short cpu most (Shown addr bytes ∷ lines) few fits below = (tt, lines_short cpu most lines few fits below)

short-append : (rows more : List Row) → AllByRecursion IsShort rows → AllByRecursion IsShort more → AllByRecursion IsShort (rows ++ more)
short-append [] more short later = later
short-append (row ∷ rows) more short later = (short.0, short-append rows more short.1 later)

refusal_short : (refused : Option Refusal) → AllByRecursion IsShort (refusal_row refused)
refusal_short None = tt
refusal_short (Some refusal) = (tt, tt)

pub rows_short : (cpu most : ℕ) (seats : List Seat) → cpu + length seats ≤ 2 ^ 64 → most ≤ 2 ^ 64
    → ((k : ℕ) (seat : Seat) → slice_get seats k ≡ Some seat → AllByRecursion (λ place. place < most) (printed_places seat.lines))
    → AllByRecursion IsShort (rows_from cpu seats)
rows_short cpu most [] few fits each = tt
rows_short cpu most (seat ∷ seats) few fits each =
    short-append (rows_of cpu seat) (rows_from (cpu + 1) seats) (
      tt,
      short-append (map (row_of cpu) seat.lines) (refusal_row seat.refused)
          (lines_short cpu most seat.lines (omega (arith, few)) fits (each 0 seat refl)) (refusal_short seat.refused),
    )
    (rows_short (cpu + 1) most seats (omega (arith, few)) fits (λ k other there. each (suc k) other there))

-- ---- a text is longer than its places are many

lines_long : (cpu : ℕ) (lines : List PlacedLine) → length (printed_places lines) ≤ length (flat_map (text_of_placed cpu) lines)
lines_long cpu [] = omega arith
lines_long cpu (Told regs entry_at exit_at ∷ lines) =
    let rest = lines_long cpu lines in
    let both = length-append (placed_ret_line cpu regs entry_at exit_at) (flat_map (text_of_placed cpu) lines) in
    omega (arith, rest, both)
lines_long cpu (Shown addr bytes ∷ lines) =
    let rest = lines_long cpu lines in
    let both = length-append (mem_line cpu addr bytes) (flat_map (text_of_placed cpu) lines) in
    omega (arith, rest, both)

block_long : (cpu : ℕ) (seat : Seat) → length (printed_places seat.lines) ≤ length (block_of cpu seat)
block_long cpu seat =
    let text = flat_map (text_of_placed cpu) seat.lines in
    let refused = option_map_or full_line seat.refused [] in
    let lines = lines_long cpu seat.lines in
    let head = line_of (Heads cpu) in
    let first = length-append head text in
    let rest = length-append (head ++ text) refused in
    omega (arith, lines, first, rest)

pub blocks_long : (cpu : ℕ) (seats : List Seat)
    → length (flat_map (λ (seat : Seat). printed_places seat.lines) seats) ≤ length (blocks_from cpu seats)
blocks_long cpu [] = omega arith
blocks_long cpu (seat ∷ seats) =
    let first = block_long cpu seat in
    let rest = blocks_long (cpu + 1) seats in
    let places = length-append (printed_places seat.lines) (flat_map (λ (seat : Seat). printed_places seat.lines) seats) in
    let texts = length-append (block_of cpu seat) (blocks_from (cpu + 1) seats) in
    omega (arith, first, rest, places, texts)
