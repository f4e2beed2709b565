-- Writes to the pages of a set leave the others as they were.
use Rattle.std.proofs.Common.{◌≡◌, ℕ, ◌+◌, ◌-◌, ◌*◌, ◌<◌, ◌≤◌, Bool, true, false, List, [], ◌∷◌, length, take, drop, inl, inr, refl, sym, ap, ◌∙◌, arith}
use Rattle.std.specs.List.{AllByRecursion}
use Rattle.std.proofs.lemmas.Bool.Decides.{leb_tells}
use Rattle.ns_ram.specs.Lane.{IsInRam, bytes_at}
use Rattle.ns_ram.specs.Writes.{IsApart, IsWriteOfRam, Write, lane_after}
use Rattle.ns_ram.proofs.LaneBytes.{bytes_at-is}
use Rattle.ns_ram.proofs.WriteList.{lane_after-alone}
use Rattle.page_set.specs.Pages.{HasBytes, IsWithin, IsWriteTo, StaysElsewhere, is_in, page_at}

-- a write lies apart from a page that it doesn't touch
apart : (pages : List Bool) (write : Write) (number : ℕ) → HasBytes pages write.addr (length write.bytes) → is_in pages number ≡ false
    → IsApart (0x40000000 + 4096 * number) 4096 write
apart pages write number has none =
    let start : ℕ = 0x40000000 + 4096 * number in
    elim (leb_tells (start + 4096) write.addr) [
      | inl below ↦ inl below.1
      | inr above ↦ elim (leb_tells (write.addr + length write.bytes) start) [
        | inl behind ↦ inr behind.1
        | inr inside ↦ let is : is_in pages number ≡ true = has number inside.1 above.1 in absurd cc
      ]
    ]

all_apart : (pages : List Bool) (writes : List Write) (number : ℕ) → AllByRecursion (IsWriteTo pages) writes → is_in pages number ≡ false
    → AllByRecursion (IsApart (0x40000000 + 4096 * number) 4096) writes
all_apart pages [] number all none = tt
all_apart pages (write ∷ writes) number all none =
    (apart pages write number all.0.there none, all_apart pages writes number all.1 none)

pub all_in_ram : (pages : List Bool) (writes : List Write) → AllByRecursion (IsWriteTo pages) writes → AllByRecursion IsWriteOfRam writes
all_in_ram pages [] all = tt
all_in_ram pages (write ∷ writes) all = (all.0.ram, all_in_ram pages writes all.1)

-- the bytes at the address of a page
page_read : (lane : List ℕ) (number : ℕ) → bytes_at lane (0x40000000 + 4096 * number) 4096 ≡ page_at lane number
page_read lane number =
    let start : 0x40000000 + 4096 * number - 0x40000000 ≡ 4096 * number = omega arith in
    bytes_at-is lane (0x40000000 + 4096 * number) 4096 (omega arith) ∙ ap (λ (n : ℕ). take 4096 (drop n lane)) start

pub stays : (pages : List Bool) (lane : List ℕ) (writes : List Write) → length lane ≡ 0x400000 → AllByRecursion (IsWriteTo pages) writes
    → StaysElsewhere pages lane (lane_after lane writes)
stays pages lane writes whole all = λ number few none.
    let alone = lane_after-alone lane writes whole (all_in_ram pages writes all) in
    sym (page_read (lane_after lane writes) number)
    ∙ alone.others (0x40000000 + 4096 * number) 4096 (omega arith, omega (arith, few)) (all_apart pages writes number all none)
    ∙ page_read lane number

-- and the lane is as long as before
pub still_long : (pages : List Bool) (lane : List ℕ) (writes : List Write) → length lane ≡ 0x400000
    → AllByRecursion (IsWriteTo pages) writes → length (lane_after lane writes) ≡ length lane
still_long pages lane writes whole all = (lane_after-alone lane writes whole (all_in_ram pages writes all)).whole

-- a write of bytes of RAM that lie in these pages
pub write_within : (pages : List Bool) (addr len : ℕ) (write : Write) → IsInRam addr len → HasBytes pages addr len → addr ≤ write.addr
    → write.addr + length write.bytes ≤ addr + len → IsWriteTo pages write
write_within pages addr len write inside has low high = record {
  ram = (omega (arith, inside.0, low), omega (arith, inside.1, high));
  there = λ number below above. has number (omega (arith, below, high)) (omega (arith, above, low));
}

-- more pages stay out of it, too
pub stays_outside : (pages more : List Bool) (before after : List ℕ) → IsWithin pages more → StaysElsewhere pages before after
    → StaysElsewhere more before after
stays_outside pages more before after within same = λ number few none. by (is_in pages number) number refl few none
  where
    by : (has : Bool) (number : ℕ) → is_in pages number ≡ has → number < 1024 → is_in more number ≡ false
        → page_at after number ≡ page_at before number
    by true number is few none = let too : is_in more number ≡ true = within number is in absurd cc
    by false number is few none = same number few is
