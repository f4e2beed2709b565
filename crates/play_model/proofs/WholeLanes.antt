-- What an entry asks for lies in RAM, and so it has a decision over each lane with all of RAM's bytes.
use Rattle.std.proofs.Common.{◌≡◌, ℕ, zero, suc, ◌-◌, ◌*◌, ◌/◌, ◌≤◌, Bool, true, false, List, [], ◌∷◌, ◌++◌}
use Rattle.std.proofs.Common.{length, drop, Option, Some, None, refl, ap, subst, sym, ◌∙◌, arith, length-drop}
use Rattle.std.specs.Prelude.{IsSome, if◌then◌else◌}
use Rattle.std.specs.Option.{option_and_then, option_map}
use Rattle.std.proofs.lemmas.List.{length-take-le}
use Rattle.base.specs.Zeros.{zeros}
use Rattle.base.proofs.ZeroLemmas.{length-zeros}
use Rattle.event_journal.specs.declared.event.Event.{Event}
use Rattle.kernel_model.specs.Application.{Booted, IsBooted}
use Rattle.kernel_model.specs.Entry.{entry}
use Rattle.kernel_model.specs.History.{kernel_after}
use Rattle.kernel_model.specs.Kernel.{Kernel, Visit}
use Rattle.kernel_model.proofs.Asking.{LiesInRam}
use Rattle.kernel_model.proofs.EntriesAsk.{entry_asks}
use Rattle.kernel_model.proofs.Parts.{some_of}
use Rattle.ns_ram.specs.Lane.{IsInRam, bytes_at, bytes_from}
use Rattle.ns_ram.specs.Reader.{Reader, done, lane_words, over_lane, up_to_failing, want_bytes, want_words, words_in}
use Rattle.ns_ram.specs.Reads.{listed}
use Rattle.ns_ram.specs.declared.read.Read.{Read}
use Rattle.ns_ram.proofs.LaneBytes.{bytes_at-is, bytes_from-is}
use Rattle.ns_ram.proofs.ReaderSteps.{lane_bytes-held}
use Rattle.ns_ram.proofs.WordList.{length-words_of}
use Rattle.play_model.specs.Coming.{IsWhole}

-- RAM of zeros has each byte
pub zeros-whole : IsWhole (zeros 0x400000)
zeros-whole = let size = length-zeros 0x400000 in omega (arith, size)

-- the reader has a value over the lane, whatever was listed before
pub record Gives {A : Type 0} (lane : List ℕ) (reader : Reader A) : Type 0 where
  pub has : (before : List Read) → IsSome (over_lane reader lane before)

-- ---- one wish

gives_bytes : {A : Type 0} (lane : List ℕ) (addr len : ℕ) (next : List ℕ → Reader A) → IsWhole lane
    → IsInRam addr len
    → ((got : List ℕ) → Gives lane (next got)) → Gives lane (want_bytes addr len next)
gives_bytes lane addr len next whole inside rest = record {
  has = λ before.
      let got = bytes_at lane addr len in
      let back = length-drop (addr - 0x40000000) lane in
      let low = inside.0 in
      let high = inside.1 in
      let size : length got ≡ len =
      ap length (bytes_at-is lane addr len inside.0)
      ∙ length-take-le len (drop (addr - 0x40000000) lane) (omega (arith, back, whole, low, high)) in
      let there = lane_bytes-held lane addr len got size (ap (λ (n : ℕ). bytes_at lane addr n) size) in
      let onward = λ (found : Option (List ℕ)). option_and_then
      (λ bytes. over_lane (next bytes) lane (before ++ listed addr bytes)) found in
      subst (λ (found : Option (List ℕ)). IsSome (onward found)) (sym there)
      ((rest got).has (before ++ listed addr got));
}

enough_words : (test : ℕ → Bool) (words : List ℕ) (most : ℕ) → most ≤ length words
    → IsSome (up_to_failing test words most)
enough_words test [] zero few = refl
enough_words test [] (suc most) few = absurd (omega (arith, few))
enough_words test (word ∷ words) zero few = refl
enough_words test (word ∷ words) (suc most) few = one (test word) (enough_words test words most (omega (arith, few)))
  where
    one : (b : Bool) → IsSome (up_to_failing test words most)
        → IsSome (if b then option_map (λ more. word ∷ more) (up_to_failing test words most) else Some (word ∷ []))
    one true some = mapped (up_to_failing test words most) some
      where
        mapped : (o : Option (List ℕ)) → IsSome o → IsSome (option_map (λ more. word ∷ more) o)
        mapped None some = absurd cc
        mapped (Some more) some = refl
    one false some = refl

gives_words : {A : Type 0} (lane : List ℕ) (addr most : ℕ) (test : ℕ → Bool) (next : List ℕ → Reader A)
    → IsWhole lane → IsInRam addr (8 * most)
    → ((got : List ℕ) → Gives lane (next got)) → Gives lane (want_words addr most test next)
gives_words lane addr most test next whole inside rest = record {
  has = λ before.
      let back = length-drop (addr - 0x40000000) lane in
      let low = inside.0 in
      let high = inside.1 in
      let from = ap length (bytes_from-is lane addr inside.0) in
      let many = length-words_of (length (bytes_from lane addr) / 8) (bytes_from lane addr) in
      let found = some_of (lane_words lane addr most test)
      (enough_words test (words_in (bytes_from lane addr)) most
      (omega (arith, back, whole, low, high, from, many))) in
      let onward = λ (o : Option (List ℕ)).
      option_and_then (λ words. over_lane (next words) lane
      (before ++ listed addr (bytes_at lane addr (8 * length words)))) o in
      subst (λ (o : Option (List ℕ)). IsSome (onward o)) (sym found.1)
      ((rest found.0).has (before ++ listed addr (bytes_at lane addr (8 * length found.0))));
}

-- ---- a reader

-- of which each wish lies in RAM
gives_asked : {A : Type 0} (lane : List ℕ) (reader : Reader A) → IsWhole lane → LiesInRam reader → Gives lane reader
gives_asked lane (done value) whole lies = record { has = λ before. refl }
gives_asked lane (want_bytes addr len next) whole lies =
    gives_bytes lane addr len next whole lies.0 (λ got. gives_asked lane (next got) whole (lies.1 got))
gives_asked lane (want_words addr most test next) whole lies =
    gives_words lane addr most test next whole lies.0 (λ got. gives_asked lane (next got) whole (lies.1 got))

-- ---- entries

pub entry_given : (lane : List ℕ) → IsWhole lane → (boot : Booted) (history : List Event) (kernel : Kernel)
    → IsBooted boot → kernel_after boot history ≡ Some kernel → (visit : Visit)
    → Gives lane (entry boot kernel visit)
entry_given lane whole boot history kernel boots comes visit =
    gives_asked lane (entry boot kernel visit) whole (entry_asks boot history kernel boots comes visit).of_ram
