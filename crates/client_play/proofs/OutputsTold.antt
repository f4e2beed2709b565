-- The outputs that the end of a call writes to RAM are what its client then finds there.
use Rattle.std.proofs.Common.{◌≡◌, ℕ, zero, suc, ◌+◌, ◌^◌, ◌≤◌, ◌<◌, Bool, true, false, List, [], ◌∷◌, ◌++◌, length, take, drop, inl, inr, refl, ap, subst, sym, ◌∙◌, arith}
use Rattle.std.specs.Prelude.{◌⊎◌, nat_le, if◌then◌else◌}
use Rattle.std.specs.Int.{from_le_bytes, to_le_bytes, w32, w64}
use Rattle.std.specs.List.{AllByRecursion}
use Rattle.std.proofs.lemmas.Bool.Decides.{nat_tests}
use Rattle.std.proofs.lemmas.List.{length-take, length-take-le, take_all}
use Rattle.msg_args.specs.Layout.{p_at, param_place, q_at}
use Rattle.ns_ram.specs.Lane.{IsInRam, bytes_at, bytes_put}
use Rattle.ns_ram.specs.Writes.{IsApart, IsWriteOfRam, Write, lane_after}
use Rattle.ns_ram.proofs.WriteList.{lane_after-append}
use Rattle.own_model.specs.Parameters.{bytes_told, output_of}
use Rattle.param_copy.specs.Memory.{one_piece}
use Rattle.param_copy.specs.WritingBack.{bytes_to, memory_to, param_writes, word_to, writes_of}
use Rattle.param_copy.specs.declared.copied.Place.{Place}
use Rattle.shm_registry.specs.declared.piece.Piece.{Piece}
use Rattle.ta_params.specs.CopiedParams.{way_bits}
use Rattle.ta_params.specs.declared.copied_params.GpParam.{GpParam}
use Rattle.ta_params.specs.declared.copied_params.GpParam.TheVariants.{Empty, Memref, Value}
use Rattle.ta_params.specs.declared.copied_params.Way.{Way}
use Rattle.ta_params.specs.declared.copied_params.Way.TheVariants.{In, Inout, Out}
use Rattle.ta_step.specs.Shape.{shape}
use Rattle.teec.specs.Operation.{FitsItsPlace, low_word, param_back}
use Rattle.teec.specs.Places.{argument_at, memory_at}
use Rattle.client_play.specs.Outputs.{TellsOutput, in_word}
use Rattle.client_play.proofs.Ending.{word_told}
use Rattle.client_play.proofs.LaneReads.{apart_of_all, fewer_there, length_there, put_apart, put_there}
use Rattle.client_play.proofs.NoFaults.{whole_after}

-- ---- parameters of one shape

few_bits : (way : Way) → (1 ≤ way_bits way) × (way_bits way ≤ 3)
few_bits In = (omega arith, omega arith)
few_bits Out = (omega arith, omega arith)
few_bits Inout = (omega arith, omega arith)

same_way : (one other : Way) → way_bits one ≡ way_bits other → one ≡ other
same_way In In e = refl
same_way In Out e = absurd (omega (arith, e))
same_way In Inout e = absurd (omega (arith, e))
same_way Out In e = absurd (omega (arith, e))
same_way Out Out e = refl
same_way Out Inout e = absurd (omega (arith, e))
same_way Inout In e = absurd (omega (arith, e))
same_way Inout Out e = absurd (omega (arith, e))
same_way Inout Inout e = refl

-- no bits are the type of an empty parameter, nor those of a value that of memory
no_bits : (way : Way) → way_bits way ≡ 0 → ⊥
no_bits way e = let few = few_bits way in omega (arith, few.0, e)

no_memory : (way other : Way) → 4 + way_bits other ≡ way_bits way → ⊥
no_memory way other e = let few = few_bits way in omega (arith, few.1, e)

type_same : (one other : ℕ × ℕ) → one ≡ other → one.0 ≡ other.0
type_same one other e = ap (λ (x : ℕ × ℕ). x.0) e

length_same : (one other : ℕ × ℕ) → one ≡ other → one.1 ≡ other.1
length_same one other e = ap (λ (x : ℕ × ℕ). x.1) e

-- both are empty, values of one way, or memory of one way and with as many bytes
pub by_shape : (P : GpParam → GpParam → Type 0) → P Empty Empty → ((way : Way) (a b c d : ℕ) → P (Value way a b) (Value way c d))
    → ((way : Way) (buf : List ℕ) (size : ℕ) (bytes : List ℕ) (n : ℕ) → length bytes ≡ length buf → P (Memref way buf size) (Memref way bytes n))
    → (sent told : GpParam) → shape told ≡ shape sent → P sent told
by_shape P on_empty on_value on_memory Empty Empty e = on_empty
by_shape P on_empty on_value on_memory Empty (Value way c d) e =
    absurd (no_bits way (type_same (shape (Value way c d)) (shape Empty) e))
by_shape P on_empty on_value on_memory Empty (Memref way bytes n) e =
    let type : 4 + way_bits way ≡ 0 = type_same (shape (Memref way bytes n)) (shape Empty) e in absurd (omega (arith, type))
by_shape P on_empty on_value on_memory (Value way a b) Empty e =
    absurd (no_bits way (sym (type_same (shape Empty) (shape (Value way a b)) e)))
by_shape P on_empty on_value on_memory (Value way a b) (Value other c d) e =
    let same = same_way other way (type_same (shape (Value other c d)) (shape (Value way a b)) e) in
    subst (λ (w : Way). P (Value way a b) (Value w c d)) (sym same) (on_value way a b c d)
by_shape P on_empty on_value on_memory (Value way a b) (Memref other bytes n) e =
    absurd (no_memory way other (type_same (shape (Memref other bytes n)) (shape (Value way a b)) e))
by_shape P on_empty on_value on_memory (Memref way buf size) Empty e =
    let type : 0 ≡ 4 + way_bits way = type_same (shape Empty) (shape (Memref way buf size)) e in absurd (omega (arith, type))
by_shape P on_empty on_value on_memory (Memref way buf size) (Value other c d) e =
    absurd (no_memory other way (sym (type_same (shape (Value other c d)) (shape (Memref way buf size)) e)))
by_shape P on_empty on_value on_memory (Memref way buf size) (Memref other bytes n) e =
    let type : 4 + way_bits other ≡ 4 + way_bits way = type_same (shape (Memref other bytes n)) (shape (Memref way buf size)) e in
    let same = same_way other way (omega (arith, type)) in
    subst (λ (w : Way). P (Memref way buf size) (Memref w bytes n)) (sym same)
    (on_memory way buf size bytes n (length_same (shape (Memref other bytes n)) (shape (Memref way buf size)) e))

-- ---- where a client has its parameters

-- the pieces of the memory that it sends for the parameter of a number
abbrev pub pieces_for : ℕ → GpParam → List Piece
pieces_for number Empty = []
pieces_for number (Value way a b) = []
pieces_for number (Memref way buf size) = one_piece (memory_at number) (length buf)

abbrev pub place_for : ℕ → ℕ → GpParam → Place
place_for place number param = record { number = place; pieces = pieces_for number param }

-- those of the parameters from a number on, which the argument has from another number on
abbrev pub places_for : ℕ → ℕ → List GpParam → List Place
places_for place number [] = []
places_for place number (param ∷ params) = place_for place number param ∷ places_for (suc place) (suc number) params

-- ---- what one parameter's writes leave in RAM

-- the low word of a number of eight bytes
low_told : (number : ℕ) → from_le_bytes w32 (take 4 (to_le_bytes w64 number)) ≡ in_word number
low_told number = word_told number

-- where its number was written
word_put : (lane : List ℕ) (addr number : ℕ) → 0x400000 ≤ length lane → IsInRam addr 8
    → low_word (lane_after lane (word_to addr number ∷ [])) addr ≡ in_word number
word_put lane addr number whole h =
    let after = bytes_put lane addr (to_le_bytes w64 number) in
    let four : 4 ≤ 8 = omega arith in
    ap (from_le_bytes w32) (sym (fewer_there after addr 4 8 h.0 four)
    ∙ ap (λ (bytes : List ℕ). take 4 bytes) (put_there lane addr (to_le_bytes w64 number) whole h))
    ∙ low_told number

-- bytes that fit the piece are read there
piece_put : (lane : List ℕ) (addr len : ℕ) (bytes : List ℕ) → 0x400000 ≤ length lane → IsInRam addr len → length bytes ≤ len
    → bytes_at (lane_after lane (bytes_to (one_piece addr len) bytes)) addr (length bytes) ≡ bytes
piece_put lane addr len [] whole h few = refl
piece_put lane addr zero (byte ∷ bytes) whole h few = absurd (omega (arith, few))
piece_put lane addr (suc more) (byte ∷ bytes) whole h few =
    let all = byte ∷ bytes in
    let inside : IsInRam addr (length all) = (h.0, omega (arith, few, h.1)) in
    let nothing_left : (rest : List ℕ) → bytes_to [] rest ≡ [] = none_left in
    ap (λ (writes : List Write). bytes_at (lane_after (bytes_put lane addr (take (suc more) all)) writes) addr (length all))
    (nothing_left (drop (suc more) all))
    ∙ ap (λ (put : List ℕ). bytes_at (bytes_put lane addr put) addr (length all)) (take_all (suc more) all few)
    ∙ put_there lane addr all whole inside
  where
    none_left : (rest : List ℕ) → bytes_to [] rest ≡ []
    none_left [] = refl
    none_left (byte ∷ bytes) = refl

-- the writes to a piece lie in it
piece_alone : (addr len : ℕ) (bytes : List ℕ) (P : Write → Type 0)
    → ((put : List ℕ) → length put ≤ len → P (record { addr = addr; bytes = put }))
    → AllByRecursion P (bytes_to (one_piece addr len) bytes)
piece_alone addr zero [] P all = tt
piece_alone addr (suc more) [] P all = tt
piece_alone addr zero (byte ∷ bytes) P all = tt
piece_alone addr (suc more) (byte ∷ bytes) P all =
    let len = length-take (suc more) (byte ∷ bytes) in
    (all (take (suc more) (byte ∷ bytes)) (omega (arith, len)), none (drop (suc more) (byte ∷ bytes)))
  where
    none : (rest : List ℕ) → AllByRecursion P (bytes_to [] rest)
    none [] = tt
    none (byte ∷ bytes) = tt

-- as many bytes as the size says are written, if there are so many
abbrev byte_writes : Bool → ℕ → ℕ → List ℕ → ℕ → List Write
byte_writes test addr len bytes n = if test then bytes_to (one_piece addr len) (take n bytes) else []

bytes_alone : (test : Bool) (addr len : ℕ) (bytes : List ℕ) (n : ℕ) (P : Write → Type 0)
    → ((put : List ℕ) → length put ≤ len → P (record { addr = addr; bytes = put }))
    → AllByRecursion P (byte_writes test addr len bytes n)
bytes_alone true addr len bytes n P all = piece_alone addr len (take n bytes) P all
bytes_alone false addr len bytes n P all = tt

-- a parameter of these numbers has its place
pub record IsPlace (place number : ℕ) : Type 0 where
  pub in_argument : place ≤ 5
  pub in_memory : number ≤ 3

module _ (lane : List ℕ) (whole : 0x400000 ≤ length lane) (place number : ℕ) (here : IsPlace place number) where
  abbrev p : ℕ
  p = p_at argument_at place

  abbrev q : ℕ
  q = q_at argument_at place

  p_in_ram : IsInRam p 8
  p_in_ram = (omega arith, let few = here.in_argument in omega (arith, few))

  q_in_ram : IsInRam q 8
  q_in_ram = (omega arith, let few = here.in_argument in omega (arith, few))

  -- ---- a value

  -- both of its numbers
  values_told : (c d : ℕ)
      → (let ram = lane_after lane (word_to p c ∷ word_to q d ∷ []) in (low_word ram p ≡ in_word c) × (low_word ram q ≡ in_word d))
  values_told c d =
      let between = lane_after lane (word_to p c ∷ []) in
      let still = whole_after lane (word_to p c ∷ []) whole in
      let inside : IsInRam p 4 = (omega arith, let few = here.in_argument in omega (arith, few)) in (
        ap (from_le_bytes w32) (put_apart between q (to_le_bytes w64 d) p 4 still q_in_ram inside (inl (omega arith)))
            ∙ word_put lane p c whole p_in_ram,
        word_put between q d still q_in_ram,
      )

  -- ---- memory

  module _ (len : ℕ) (short : len ≤ 65536) (bytes : List ℕ) (n : ℕ) (fits : length bytes ≡ len) where
    abbrev memory : ℕ
    memory = memory_at number

    memory_in_ram : IsInRam memory len
    memory_in_ram = (omega arith, let few = here.in_memory in omega (arith, few, short))

    abbrev sized : List ℕ
    sized = lane_after lane (word_to q n ∷ [])

    sized_whole : 0x400000 ≤ length sized
    sized_whole = whole_after lane (word_to q n ∷ []) whole

    abbrev written : Bool → List ℕ
    written test = lane_after sized (byte_writes test memory len bytes n)

    -- its size
    size_told : (test : Bool) → low_word (written test) q ≡ in_word n
    size_told test =
        let inside : IsInRam q 4 = (omega arith, let few = here.in_argument in omega (arith, few)) in
        let few = here.in_argument in
        let many = here.in_memory in
        ap (from_le_bytes w32) (apart_of_all sized (byte_writes test memory len bytes n) q 4 sized_whole inside
        (bytes_alone test memory len bytes n IsWriteOfRam (λ put le. (omega arith, omega (arith, le, many, short))))
        (bytes_alone test memory len bytes n (IsApart q 4) (λ put le. inl (omega (arith, few)))))
        ∙ word_put lane q n whole q_in_ram

    -- and its bytes
    bytes_back : (test : Bool) → nat_le n (length bytes) ≡ test
        → bytes_told (bytes_at (written test) memory len) n ≡ bytes_told bytes n
    bytes_back test e =
        let there : length (bytes_at (written test) memory len) ≡ length bytes =
        length_there (written test) memory len (whole_after sized (byte_writes test memory len bytes n) sized_whole) memory_in_ram
        ∙ sym fits in
        ap (λ (k : ℕ). if nat_le n k then take n (bytes_at (written test) memory len) else []) there
        ∙ ap (λ (b : Bool). if b then take n (bytes_at (written test) memory len) else []) e
        ∙ by test e
        ∙ ap (λ (b : Bool). if b then take n bytes else []) (sym e)
      where
        by : (t : Bool) → nat_le n (length bytes) ≡ t
            → (if t then take n (bytes_at (written t) memory len) else []) ≡ (if t then take n bytes else [])
        by false e = refl
        by true e =
            let enough : n ≤ length bytes = grind (arith, nat_tests) in
            let many : length (take n bytes) ≡ n = length-take-le n bytes enough in
            let le : n ≤ len = omega (arith, enough, fits) in
            let room : length (take n bytes) ≤ len = omega (arith, many, le) in
            fewer_there (written true) memory n len memory_in_ram.0 le
            ∙ ap (λ (k : ℕ). bytes_at (written true) memory k) (sym many)
            ∙ piece_put sized memory len (take n bytes) sized_whole memory_in_ram room

  -- ---- by what it is

  abbrev IsTold : GpParam → GpParam → Type 0
  IsTold sent told =
      FitsItsPlace sent → TellsOutput (param_back (lane_after lane (param_writes argument_at (place_for place number sent) told)) place number sent)
      (output_of told)

  value_told : (way : Way) (a b c d : ℕ) → IsTold (Value way a b) (Value way c d)
  value_told In a b c d fits has = refl
  value_told Out a b c d fits has = let e = values_told c d in λ i. Value Out (e.0 i) (e.1 i)
  value_told Inout a b c d fits has = let e = values_told c d in λ i. Value Inout (e.0 i) (e.1 i)

  out_told : (way : Way) (len : ℕ) (short : len ≤ 65536) (bytes : List ℕ) (n : ℕ) (fits : length bytes ≡ len) → n < 2 ^ 32
      → (let ram = written len short bytes n fits (nat_le n (length bytes)) in
      Memref way (bytes_told (bytes_at ram (memory_at number) len) (low_word ram q)) (low_word ram q)
      ≡ Memref way (bytes_told bytes n) (in_word n))
  out_told way len short bytes n fits small =
      let ram = written len short bytes n fits (nat_le n (length bytes)) in
      let size_is = size_told len short bytes n fits (nat_le n (length bytes)) in
      let is_small : in_word n ≡ n = omega (arith, small) in
      let bytes_are = bytes_back len short bytes n fits (nat_le n (length bytes)) refl in
      let told = ap (λ (k : ℕ). bytes_told (bytes_at ram (memory_at number) len) k) (size_is ∙ is_small) ∙ bytes_are in
      λ i. Memref way (told i) (size_is i)

  memory_told : (way : Way) (buf : List ℕ) (size : ℕ) (bytes : List ℕ) (n : ℕ) → length bytes ≡ length buf
      → IsTold (Memref way buf size) (Memref way bytes n)
  memory_told In buf size bytes n same fits has = refl
  memory_told Out buf size bytes n same fits has = out_told Out (length buf) fits.0 bytes n same has
  memory_told Inout buf size bytes n same fits has = out_told Inout (length buf) fits.0 bytes n same has

  one_told : (sent told : GpParam) → shape told ≡ shape sent → IsTold sent told
  one_told sent told same = by_shape IsTold (λ fits has. refl) value_told memory_told sent told same

-- ---- what other writes leave alone

-- a write beyond those of the parameters before this one: in the argument behind them, or in memory behind theirs
pub record IsBeyond (place number : ℕ) (write : Write) : Type 0 where
  pub in_ram : IsWriteOfRam write
  pub behind : param_place argument_at place ≤ write.addr
  pub memory : (write.addr + length write.bytes ≤ argument_at + 4096) ⊎ (memory_at number ≤ write.addr)

-- and one to the head of the argument
pub record IsInHead (write : Write) : Type 0 where
  pub above : argument_at ≤ write.addr
  pub below : write.addr + length write.bytes ≤ argument_at + 32

-- what holds of each holds of both lists
pub all_both : {A : Type 0} (P : A → Type 0) (xs ys : List A) → AllByRecursion P xs → AllByRecursion P ys → AllByRecursion P (xs ++ ys)
all_both P [] ys on_xs on_ys = on_ys
all_both P (x ∷ xs) ys on_xs on_ys = (on_xs.0, all_both P xs ys on_xs.1 on_ys)

all_onward : {A : Type 0} (P Q : A → Type 0) (xs : List A) → ((x : A) → P x → Q x) → AllByRecursion P xs → AllByRecursion Q xs
all_onward P Q [] onward all = tt
all_onward P Q (x ∷ xs) onward all = (onward x all.0, all_onward P Q xs onward all.1)

-- the writes of one parameter
module _ (place number : ℕ) (here : IsPlace place number) where
  few : place ≤ 5
  few = here.in_argument

  many : number ≤ 3
  many = here.in_memory

  word_beyond : (offset value : ℕ) → offset ≤ 24 → IsBeyond place number (word_to (param_place argument_at place + offset) value)
  word_beyond offset value le = record {
    in_ram = (omega arith, omega (arith, few, le));
    behind = omega arith;
    memory = inl (omega (arith, few, le));
  }

  memory_beyond : (len : ℕ) → len ≤ 65536 → (put : List ℕ) → length put ≤ len → IsBeyond place number (record { addr = memory_at number; bytes = put })
  memory_beyond len short put le = record {
    in_ram = (omega arith, omega (arith, many, le, short));
    behind = omega (arith, few);
    memory = inr (omega arith);
  }

  abbrev AreBeyond : GpParam → GpParam → Type 0
  AreBeyond sent told = FitsItsPlace sent → AllByRecursion (IsBeyond place number) (param_writes argument_at (place_for place number sent) told)

  value_beyond : (way : Way) (a b c d : ℕ) → AreBeyond (Value way a b) (Value way c d)
  value_beyond In a b c d fits = tt
  value_beyond Out a b c d fits = (word_beyond 8 c (omega arith), (word_beyond 16 d (omega arith), tt))
  value_beyond Inout a b c d fits = (word_beyond 8 c (omega arith), (word_beyond 16 d (omega arith), tt))

  out_beyond : (len : ℕ) (bytes : List ℕ) (n : ℕ) → len ≤ 65536
      → AllByRecursion (IsBeyond place number) (memory_to (q_at argument_at place) (one_piece (memory_at number) len) bytes n)
  out_beyond len bytes n short = (
    word_beyond 16 n (omega arith),
    bytes_alone (nat_le n (length bytes)) (memory_at number) len bytes n (IsBeyond place number) (memory_beyond len short),
  )

  out_memory_beyond : (way : Way) (buf : List ℕ) (size : ℕ) (bytes : List ℕ) (n : ℕ) → length bytes ≡ length buf
      → AreBeyond (Memref way buf size) (Memref way bytes n)
  out_memory_beyond In buf size bytes n same fits = tt
  out_memory_beyond Out buf size bytes n same fits = out_beyond (length buf) bytes n fits.0
  out_memory_beyond Inout buf size bytes n same fits = out_beyond (length buf) bytes n fits.0

  one_beyond : (sent told : GpParam) → shape told ≡ shape sent → AreBeyond sent told
  one_beyond sent told same = by_shape AreBeyond (λ fits. tt) value_beyond out_memory_beyond sent told same

-- one parameter behind the other has one shape
abbrev pub AreAlike : List GpParam → List GpParam → Type 0
AreAlike [] told = Unit {0}
AreAlike (sent ∷ others) [] = ⊥
AreAlike (sent ∷ others) (told ∷ more) = (shape told ≡ shape sent) × AreAlike others more

beyond_before : (place number : ℕ) (write : Write) → IsBeyond (suc place) (suc number) write → IsBeyond place number write
beyond_before place number write is =
    let behind = is.behind in
    record {
      in_ram = is.in_ram;
      behind = omega (arith, behind);
      memory = elim is.memory [ inl front ↦ inl front | inr memory ↦ inr (omega (arith, memory)) ];
    }

-- so many places from these numbers on
abbrev pub HaveRoom : ℕ → ℕ → ℕ → Type 0
HaveRoom count place number = (place + count ≤ 6) × (number + count ≤ 4)

here_of : (count place number : ℕ) → HaveRoom (suc count) place number → IsPlace place number
here_of count place number room =
    let in_argument = room.0 in
    let in_memory = room.1 in
    record { in_argument = omega (arith, in_argument); in_memory = omega (arith, in_memory) }

room_left : (count place number : ℕ) → HaveRoom (suc count) place number → HaveRoom count (suc place) (suc number)
room_left count place number room =
    let in_argument = room.0 in
    let in_memory = room.1 in
    (omega (arith, in_argument), omega (arith, in_memory))

all_beyond : (count place number : ℕ) (sent told : List GpParam) → HaveRoom count place number → AllByRecursion FitsItsPlace sent
    → AreAlike sent told → AllByRecursion (IsBeyond place number) (writes_of argument_at (places_for place number (take count sent)) told)
all_beyond zero place number sent told room fits alike = tt
all_beyond (suc count) place number [] told room fits alike = tt
all_beyond (suc count) place number (sent ∷ others) [] room fits alike = absurd alike
all_beyond (suc count) place number (sent ∷ others) (told ∷ more) room fits alike =
    let here = here_of count place number room in
    all_both (IsBeyond place number) (param_writes argument_at (place_for place number sent) told)
    (writes_of argument_at (places_for (suc place) (suc number) (take count others)) more)
    (one_beyond place number here sent told alike.0 fits.0)
    (all_onward (IsBeyond (suc place) (suc number)) (IsBeyond place number)
    (writes_of argument_at (places_for (suc place) (suc number) (take count others)) more) (beyond_before place number)
    (all_beyond count (suc place) (suc number) others more (room_left count place number room) fits.1 alike.1))

-- ---- one parameter, behind the writes of those after it

module _ (lane : List ℕ) (whole : 0x400000 ≤ length lane) (place number : ℕ) (here : IsPlace place number) (writes last : List Write)
    (beyond : AllByRecursion (IsBeyond (suc place) (suc number)) writes) (in_head : AllByRecursion IsInHead last) where
  abbrev then_there : List ℕ
  then_there = lane_after (lane_after lane writes) last

  head_in_ram : (write : Write) → IsInHead write → IsWriteOfRam write
  head_in_ram write is =
      let above = is.above in
      let below = is.below in
      (omega (arith, above), omega (arith, below))

  -- bytes that both leave alone
  stays : (addr len : ℕ) → IsInRam addr len → ((write : Write) → IsBeyond (suc place) (suc number) write → IsApart addr len write)
      → ((write : Write) → IsInHead write → IsApart addr len write) → bytes_at then_there addr len ≡ bytes_at lane addr len
  stays addr len inside apart_one apart_other =
      apart_of_all (lane_after lane writes) last addr len (whole_after lane writes whole) inside
      (all_onward IsInHead IsWriteOfRam last head_in_ram in_head) (all_onward IsInHead (IsApart addr len) last apart_other in_head)
      ∙ apart_of_all lane writes addr len whole inside
      (all_onward (IsBeyond (suc place) (suc number)) IsWriteOfRam writes (λ write is. is.in_ram) beyond)
      (all_onward (IsBeyond (suc place) (suc number)) (IsApart addr len) writes apart_one beyond)

  word_stays : (offset : ℕ) → 8 ≤ offset → offset ≤ 16
      → low_word then_there (param_place argument_at place + offset) ≡ low_word lane (param_place argument_at place + offset)
  word_stays offset low high =
      let few = here.in_argument in
      ap (from_le_bytes w32) (stays (param_place argument_at place + offset) 4 (omega arith, omega (arith, few, high))
      (λ write is. let behind = is.behind in inl (omega (arith, behind, high)))
      (λ write is. let below = is.below in inr (omega (arith, below))))

  memory_stays : (len : ℕ) → len ≤ 65536 → bytes_at then_there (memory_at number) len ≡ bytes_at lane (memory_at number) len
  memory_stays len short =
      let many = here.in_memory in
      stays (memory_at number) len (omega arith, omega (arith, many, short))
      (λ write is. elim is.memory [
        | inl front ↦ inr (omega (arith, front))
        | inr behind ↦ inl (omega (arith, behind, short))
      ])
      (λ write is. let below = is.below in inr (omega (arith, below)))

  param_stays : (sent : GpParam) → FitsItsPlace sent → param_back then_there place number sent ≡ param_back lane place number sent
  param_stays Empty fits = refl
  param_stays (Value In a b) fits = refl
  param_stays (Value Out a b) fits =
      let p = word_stays 8 (omega arith) (omega arith) in
      let q = word_stays 16 (omega arith) (omega arith) in
      λ i. Value Out (p i) (q i)
  param_stays (Value Inout a b) fits =
      let p = word_stays 8 (omega arith) (omega arith) in
      let q = word_stays 16 (omega arith) (omega arith) in
      λ i. Value Inout (p i) (q i)
  param_stays (Memref In buf size) fits = refl
  param_stays (Memref Out buf size) fits =
      let bytes = memory_stays (length buf) fits.0 in
      let q = word_stays 16 (omega arith) (omega arith) in
      λ i. Memref Out (bytes i) (q i)
  param_stays (Memref Inout buf size) fits =
      let bytes = memory_stays (length buf) fits.0 in
      let q = word_stays 16 (omega arith) (omega arith) in
      λ i. Memref Inout (bytes i) (q i)

-- ---- all parameters

-- each is told
abbrev pub AreTold : List ℕ → ℕ → ℕ → List GpParam → List GpParam → Type 0
AreTold ram place number [] told = Unit {0}
AreTold ram place number (sent ∷ others) [] = ⊥
AreTold ram place number (sent ∷ others) (told ∷ more) =
    TellsOutput (param_back ram place number sent) (output_of told) × AreTold ram (suc place) (suc number) others more

-- of one that wasn't sent nothing comes back
empty_told : (ram : List ℕ) (place number : ℕ) (sent told : GpParam) → shape told ≡ shape sent → sent ≡ Empty
    → TellsOutput (param_back ram place number sent) (output_of told)
empty_told ram place number sent told same is =
    by_shape (λ (s t : GpParam). s ≡ Empty → TellsOutput (param_back ram place number s) (output_of t))
    (λ none has. refl) (λ way a b c d none. absurd cc) (λ way buf size bytes n len none. absurd cc) sent told same is

empties_told : (ram : List ℕ) (place number : ℕ) (sent told : List GpParam) → AreAlike sent told
    → AllByRecursion (λ (param : GpParam). param ≡ Empty) sent → AreTold ram place number sent told
empties_told ram place number [] told alike none = tt
empties_told ram place number (sent ∷ others) [] alike none = absurd alike
empties_told ram place number (sent ∷ others) (told ∷ more) alike none =
    (empty_told ram place number sent told alike.0 none.0, empties_told ram (suc place) (suc number) others more alike.1 none.1)

-- behind the writes of all that were sent, and those to the head of the argument
pub all_told : (count place number : ℕ) (sent told : List GpParam) (lane : List ℕ) (last : List Write) → 0x400000 ≤ length lane
    → HaveRoom count place number → AllByRecursion FitsItsPlace sent → AreAlike sent told
    → AllByRecursion (λ (param : GpParam). param ≡ Empty) (drop count sent) → AllByRecursion IsInHead last
    → AreTold (lane_after (lane_after lane (writes_of argument_at (places_for place number (take count sent)) told)) last) place number sent told
all_told zero place number sent told lane last whole room fits alike none in_head =
    empties_told (lane_after lane last) place number sent told alike none
all_told (suc count) place number [] told lane last whole room fits alike none in_head = tt
all_told (suc count) place number (sent ∷ others) [] lane last whole room fits alike none in_head = absurd alike
all_told (suc count) place number (sent ∷ others) (told ∷ more) lane last whole room fits alike none in_head =
    let here = here_of count place number room in
    let first = param_writes argument_at (place_for place number sent) told in
    let writes = writes_of argument_at (places_for (suc place) (suc number) (take count others)) more in
    let between = lane_after lane first in
    let still = whole_after lane first whole in
    let beyond = all_beyond count (suc place) (suc number) others more (room_left count place number room) fits.1 alike.1 in
    let one : TellsOutput (param_back (lane_after (lane_after between writes) last) place number sent) (output_of told) =
    λ sized. ap output_of (param_stays between still place number here writes last beyond in_head sent fits.0)
    ∙ one_told lane whole place number here sent told alike.0 fits.0 sized in
    subst (λ (after : List ℕ). AreTold (lane_after after last) place number (sent ∷ others) (told ∷ more))
    (sym (lane_after-append lane first writes)) (
      one,
      all_told count (suc place) (suc number) others more between last still (room_left count place number room) fits.1 alike.1 none in_head,
    )
