-- Writes to a lane, one after the other.
use Rattle.std.proofs.Common.{◌≡◌, ℕ, List, [], ◌∷◌, ◌++◌, length, inl, inr, refl, sym, ◌∙◌}
use Rattle.std.specs.List.{AllByRecursion}
use Rattle.ns_ram.specs.declared.ram.TheConstants.{RAM_BYTES}
use Rattle.ns_ram.specs.Lane.{bytes_put}
use Rattle.ns_ram.specs.Writes.{ChangeTheirBytesAlone, IsWriteOfRam, Write, lane_after}
use Rattle.ns_ram.proofs.LaneBytes.{bytes_at-bytes_put_above, bytes_at-bytes_put_below, length-bytes_put}

pub lane_after-append : (lane : List ℕ) (first second : List Write) → lane_after lane (first ++ second) ≡ lane_after (lane_after lane first) second
lane_after-append lane [] second = refl
lane_after-append lane (write ∷ first) second = lane_after-append (bytes_put lane write.addr write.bytes) first second

pub AllInRam-append : (xs ys : List Write) → AllByRecursion IsWriteOfRam xs → AllByRecursion IsWriteOfRam ys → AllByRecursion IsWriteOfRam (xs ++ ys)
AllInRam-append [] ys p q = q
AllInRam-append (x ∷ xs) ys p q = (p.0, AllInRam-append xs ys p.1 q)

pub lane_after-alone : (lane : List ℕ) (writes : List Write) → length lane ≡ RAM_BYTES → AllByRecursion IsWriteOfRam writes → ChangeTheirBytesAlone lane writes
lane_after-alone lane [] whole h = record { others = λ addr len inside apart. refl; whole = refl }
lane_after-alone lane (write ∷ writes) whole h =
    let still : length (bytes_put lane write.addr write.bytes) ≡ RAM_BYTES = length-bytes_put lane write.addr write.bytes whole h.0 in
    let rest = lane_after-alone (bytes_put lane write.addr write.bytes) writes still h.1 in
    record {
      others = λ addr len inside apart. rest.others addr len inside apart.1 ∙ elim apart.0 [
        | inl below ↦ bytes_at-bytes_put_below lane write.addr write.bytes addr len whole h.0 inside below
        | inr above ↦ bytes_at-bytes_put_above lane write.addr write.bytes addr len whole h.0 above
      ];
      whole = rest.whole ∙ still ∙ sym whole;
    }
