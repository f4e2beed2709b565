-- A lane that has the bytes of a read has them still, once those of another read that agrees with it are written.
use Rattle.std.proofs.Common.{◌≡◌, ℕ, zero, suc, ◌+◌, ◌-◌, ◌<◌, ◌≤◌, List, [], ◌∷◌, ◌++◌, length, take, drop, get_or, Option, Some, None, refl, sym, ap, ◌∙◌, inl, inr, arith, length-append}
use Rattle.std.proofs.lemmas.Bool.{cases_lt}
use Rattle.std.proofs.lemmas.List.{get_or-take, get_or_append_left, get_or-append-add, length-take-le}
use Rattle.std.proofs.lemmas.Option.{get_or_from_slice_get, slice_get-get_or, slice_get_within}
use Rattle.std.specs.Prelude.{slice_get}
use Rattle.ns_ram.proofs.LaneBytes.{bytes_at-is, length-bytes_at, length-bytes_put}
use Rattle.ns_ram.specs.Lane.{IsInRam, bytes_at, bytes_put}
use Rattle.ns_ram.specs.Reads.{HoldsRead}
use Rattle.ns_ram.specs.declared.ram.TheConstants.{RAM_START, RAM_BYTES}
use Rattle.ns_ram.specs.declared.read.Read.{Read}
use Rattle.kernel_model.specs.Turns.{IsReadOfRam}
use Rattle.kernel_state.specs.Reads.{Agree}

-- ---- lists, element by element

got_drop : (k : ℕ) (xs : List ℕ) (i at : ℕ) → at ≡ k + i → get_or (drop k xs) i 0 ≡ get_or xs at 0
got_drop zero xs i at is = let same : i ≡ at = omega (arith, is) in ap (λ (n : ℕ). get_or xs n 0) same
got_drop (suc k) [] i at is = refl
got_drop (suc k) (x ∷ xs) i zero is = absurd (omega (arith, is))
got_drop (suc k) (x ∷ xs) i (suc at) is = got_drop k xs i at (omega (arith, is))

same_lists : (xs ys : List ℕ) → length xs ≡ length ys → ((i : ℕ) → i < length xs → get_or xs i 0 ≡ get_or ys i 0) → xs ≡ ys
same_lists [] [] many each = refl
same_lists [] (y ∷ ys) many each = absurd (omega (arith, many))
same_lists (x ∷ xs) [] many each = absurd (omega (arith, many))
same_lists (x ∷ xs) (y ∷ ys) many each =
    let first : x ≡ y = each 0 (omega arith) in
    let rest : xs ≡ ys = same_lists xs ys (omega (arith, many)) (λ i below. each (suc i) (omega (arith, below))) in
    cc

-- ---- bytes of a lane

-- the byte at an address
abbrev byte_at : List ℕ → ℕ → ℕ
byte_at lane addr = get_or lane (addr - RAM_START) 0

got_there : (lane : List ℕ) (addr len i : ℕ) → RAM_START ≤ addr → i < len → get_or (bytes_at lane addr len) i 0 ≡ byte_at lane (addr + i)
got_there lane addr len i above below =
    ap (λ (xs : List ℕ). get_or xs i 0) (bytes_at-is lane addr len above)
    ∙ get_or-take len (drop (addr - RAM_START) lane) i 0 below
    ∙ got_drop (addr - RAM_START) lane i (addr + i - RAM_START) (omega (arith, above))

module _ (lane : List ℕ) (addr : ℕ) (bytes : List ℕ) (whole : length lane ≡ RAM_BYTES) (lies : IsInRam addr (length bytes)) where
  abbrev offset : ℕ
  offset = addr - RAM_START

  abbrev front : List ℕ
  front = take offset lane

  abbrev behind : List ℕ
  behind = drop (offset + length bytes) lane

  abbrev now : List ℕ
  now = bytes_put lane addr bytes

  length-front : length front ≡ offset
  length-front = length-take-le offset lane (omega (arith, whole, lies.0, lies.1))

  length-written : length (front ++ bytes) ≡ offset + length bytes
  length-written = length-append front bytes ∙ ap (λ (n : ℕ). n + length bytes) length-front

  put_below : (at : ℕ) → at < offset → get_or now at 0 ≡ get_or lane at 0
  put_below at below =
      get_or_append_left (front ++ bytes) behind 0 at (omega (arith, length-written, below))
      ∙ get_or_append_left front bytes 0 at (omega (arith, length-front, below))
      ∙ get_or-take offset lane at 0 below

  put_there : (i at : ℕ) → i < length bytes → at ≡ offset + i → get_or now at 0 ≡ get_or bytes i 0
  put_there i at below is =
      get_or_append_left (front ++ bytes) behind 0 at (omega (arith, length-written, below, is))
      ∙ ap (λ (n : ℕ). get_or (front ++ bytes) n 0) (omega (arith, length-front, is))
      ∙ get_or-append-add front bytes i 0

  put_above : (at more : ℕ) → at ≡ offset + length bytes + more → get_or now at 0 ≡ get_or lane at 0
  put_above at more is =
      ap (λ (n : ℕ). get_or now n 0) (omega (arith, length-written, is))
      ∙ get_or-append-add (front ++ bytes) behind more 0
      ∙ got_drop (offset + length bytes) lane more at is

module _ (lane : List ℕ) (read other : Read) (whole : length lane ≡ RAM_BYTES) (lies : IsReadOfRam read) (lies_too : IsReadOfRam other)
    (agree : Agree other read) (held : HoldsRead lane other) where
  abbrev after : List ℕ
  after = bytes_put lane read.addr read.bytes

  was : (i : ℕ) → i < length other.bytes → byte_at lane (other.addr + i) ≡ get_or other.bytes i 0
  was i below =
      sym (got_there lane other.addr (length other.bytes) i lies_too.in_ram.0 below) ∙ ap (λ (xs : List ℕ). get_or xs i 0) held

  -- the byte that both have
  shared : (i k : ℕ) → i < length other.bytes → k < length read.bytes → other.addr + i ≡ read.addr + k
      → get_or read.bytes k 0 ≡ get_or other.bytes i 0
  shared i k below inside same =
      sym (agree i k (get_or other.bytes i 0) (get_or read.bytes k 0) same (slice_get-get_or other.bytes i 0 below)
      (slice_get-get_or read.bytes k 0 inside))

  is_still : (i : ℕ) → i < length other.bytes → byte_at after (other.addr + i) ≡ get_or other.bytes i 0
  is_still i below =
      let at = other.addr + i - RAM_START in
      let from = read.addr - RAM_START in
      let above = lies_too.in_ram.0 in
      let over = lies.in_ram.0 in
      elim (cases_lt at from) [
        | inl before ↦ put_below lane read.addr read.bytes whole lies.in_ram at before ∙ was i below
        | inr behind ↦
            elim (cases_lt at (from + length read.bytes)) [
              | inl inside ↦
                  put_there lane read.addr read.bytes whole lies.in_ram (at - from) at (omega (arith, behind, inside)) (omega (arith, behind))
                  ∙ shared i (at - from) below (omega (arith, behind, inside)) (omega (arith, behind, above, over))
              | inr past ↦
                  put_above lane read.addr read.bytes whole lies.in_ram at (at - (from + length read.bytes)) (omega (arith, past))
                  ∙ was i below
            ]
      ]

  pub still_held : HoldsRead after other
  still_held =
      let len = length other.bytes in
      let as_many = length-bytes_at after other.addr len (length-bytes_put lane read.addr read.bytes whole lies.in_ram) lies_too.in_ram in
      same_lists (bytes_at after other.addr len) other.bytes as_many
      (λ i below.
      let inside : i < length other.bytes = omega (arith, below, as_many) in
      got_there after other.addr len i lies_too.in_ram.0 inside ∙ is_still i inside)
