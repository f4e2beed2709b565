-- All reads of a legal history lie in RAM.
use Rattle.std.proofs.Common.{◌≡◌, ℕ, zero, suc, ◌*◌, ◌≤◌, Bool, true, false, List, [], ◌∷◌, ◌++◌, length, Option}
use Rattle.std.proofs.Common.{Some, None, refl, ap, subst, sym, ◌∙◌, arith}
use Rattle.std.specs.Prelude.{◌==◌, ◌&&◌, if◌then◌else◌, slice_get}
use Rattle.std.specs.List.{AllByRecursion}
use Rattle.std.specs.Option.{option_and_then, option_map}
use Rattle.std.proofs.lemmas.Bool.{and_parts}
use Rattle.std.proofs.lemmas.Bool.Decides.{nat_tests}
use Rattle.std.proofs.lemmas.Option.{option_and_then_some}
use Rattle.event_journal.specs.declared.event.Event.{Event}
use Rattle.event_journal.specs.declared.event.Event.TheVariants.{Entry, Exit}
use Rattle.kernel_model.specs.Application.{Booted, IsBooted}
use Rattle.kernel_model.specs.Entry.{entry}
use Rattle.kernel_model.specs.History.{after_event, after_events, entry_from, kernel_after}
use Rattle.kernel_model.specs.Kernel.{Kernel, Processor, Visit, first_kernel}
use Rattle.kernel_model.specs.Turns.{HistoriesReadRam, IsReadOfRam, ReadsRam}
use Rattle.kernel_model.proofs.Asking.{LiesInRam}
use Rattle.kernel_model.proofs.EntriesAsk.{entry_asks}
use Rattle.kernel_model.proofs.Parts.{option_map_some, some_of}
use Rattle.kernel_model.proofs.Past.{after_events-append}
use Rattle.kernel_model.proofs.StandingBy.{entry_followed}
use Rattle.ns_ram.specs.Lane.{IsInRam}
use Rattle.ns_ram.specs.Reader.{Reader, done, if_used_up, next_bytes, next_words, over_reads, reading, up_to_failing}
use Rattle.ns_ram.specs.Reader.{want_bytes, want_words, words_in}
use Rattle.ns_ram.specs.declared.read.Read.{Read}

-- ---- one wish

where_so : {A : Type 0} (test : Bool) (found value : A) → (if test then Some found else None) ≡ Some value
    → (test ≡ true) × (found ≡ value)
where_so true found value e = (refl, cc)
where_so false found value e = absurd cc

-- the reads behind a wish, and those before it
abbrev AreOfRam : List Read → Type 0
AreOfRam reads = AllByRecursion IsReadOfRam reads

bytes_of_ram : (addr len : ℕ) (reads : List Read) (step : List ℕ × List Read) → IsInRam addr len
    → next_bytes addr len reads ≡ Some step → AreOfRam step.1 → AreOfRam reads
bytes_of_ram addr zero reads step inside e behind =
    let here : List ℕ × List Read = ([], reads) in
    let same : here ≡ step = cc in
    subst AreOfRam (ap (λ (s : List ℕ × List Read). s.1) (sym same)) behind
bytes_of_ram addr (suc len) [] step inside e behind = absurd cc
bytes_of_ram addr (suc len) (read ∷ reads) step inside e behind =
    let here : List ℕ × List Read = (read.bytes, reads) in
    let found = where_so ((read.addr == addr) && (length read.bytes == suc len)) here step e in
    let both = and_parts (read.addr == addr) (length read.bytes == suc len) found.0 in
    let at_addr = both.0 in
    let of_len = both.1 in
    let there : read.addr ≡ addr = grind (arith, nat_tests) in
    let long : length read.bytes ≡ suc len = grind (arith, nat_tests) in
    let low = inside.0 in
    let high = inside.1 in (
      record { some = omega arith; in_ram = (omega arith, omega arith) },
      subst AreOfRam (ap (λ (s : List ℕ × List Read). s.1) (sym found.1)) behind,
    )

few_words : (test : ℕ → Bool) (words : List ℕ) (most : ℕ) (got : List ℕ) → up_to_failing test words most ≡ Some got
    → length got ≤ most
few_words test [] zero got e = let none : [] ≡ got = cc in subst (λ (g : List ℕ). length g ≤ 0) none (omega arith)
few_words test [] (suc most) got e = absurd cc
few_words test (word ∷ words) zero got e =
    let none : [] ≡ got = cc in
    subst (λ (g : List ℕ). length g ≤ 0) none (omega arith)
few_words test (word ∷ words) (suc most) got e = by (test word) (few_words test words most) e
  where
    by : (passed : Bool)
        → ((more : List ℕ) → up_to_failing test words most ≡ Some more → length more ≤ most)
        → (if passed then option_map (λ more. word ∷ more) (up_to_failing test words most) else Some (word ∷ [])) ≡ Some got
        → length got ≤ suc most
    by true fewer is =
        let rest = option_map_some (λ more. word ∷ more) (up_to_failing test words most) got is in
        let few = fewer rest.0 rest.1 in
        subst (λ (g : List ℕ). length g ≤ suc most) rest.2 (omega (arith, few))
    by false fewer is =
        let one : word ∷ [] ≡ got = cc in
        subst (λ (g : List ℕ). length g ≤ suc most) one (omega arith)

some_words : (test : ℕ → Bool) (words : List ℕ) (most : ℕ) (got : List ℕ)
    → up_to_failing test words (suc most) ≡ Some got → 1 ≤ length got
some_words test [] most got e = absurd cc
some_words test (word ∷ words) most got e = by (test word) e
  where
    by : (passed : Bool)
        → (if passed then option_map (λ more. word ∷ more) (up_to_failing test words most) else Some (word ∷ [])) ≡ Some got
        → 1 ≤ length got
    by true is =
        let rest = option_map_some (λ more. word ∷ more) (up_to_failing test words most) got is in
        subst (λ (g : List ℕ). 1 ≤ length g) rest.2 (omega arith)
    by false is =
        let one : word ∷ [] ≡ got = cc in
        subst (λ (g : List ℕ). 1 ≤ length g) one (omega arith)

words_of_ram : (addr most : ℕ) (test : ℕ → Bool) (reads : List Read) (step : List ℕ × List Read)
    → IsInRam addr (8 * most) → next_words addr most test reads ≡ Some step → AreOfRam step.1 → AreOfRam reads
words_of_ram addr zero test reads step inside e behind =
    let here : List ℕ × List Read = ([], reads) in
    let same : here ≡ step = cc in
    subst AreOfRam (ap (λ (s : List ℕ × List Read). s.1) (sym same)) behind
words_of_ram addr (suc most) test [] step inside e behind = absurd cc
words_of_ram addr (suc most) test (read ∷ reads) step inside e behind =
    option_and_then_some _ (up_to_failing test (words_in read.bytes) (suc most)) step e
    (λ (got : List ℕ) there onward.
    let here : List ℕ × List Read = (got, reads) in
    let found = where_so ((read.addr == addr) && (length read.bytes == 8 * length got)) here step onward in
    let both = and_parts (read.addr == addr) (length read.bytes == 8 * length got) found.0 in
    let at_addr = both.0 in
    let of_len = both.1 in
    let there_is : read.addr ≡ addr = grind (arith, nat_tests) in
    let long : length read.bytes ≡ 8 * length got = grind (arith, nat_tests) in
    let few = few_words test (words_in read.bytes) (suc most) got there in
    let some = some_words test (words_in read.bytes) most got there in
    let low = inside.0 in
    let high = inside.1 in (
      record { some = omega arith; in_ram = (omega arith, omega arith) },
      subst AreOfRam (ap (λ (s : List ℕ × List Read). s.1) (sym found.1)) behind,
    ))

-- ---- a reader

over_ram : {A : Type 0} (reader : Reader A) (reads : List Read) (step : A × List Read) → LiesInRam reader
    → over_reads reader reads ≡ Some step → AreOfRam step.1 → AreOfRam reads
over_ram {A} (done value) reads step lies e behind =
    let here : A × List Read = (value, reads) in
    let same : here ≡ step = cc in
    subst AreOfRam (ap (λ (s : A × List Read). s.1) (sym same)) behind
over_ram (want_bytes addr len next) reads step lies e behind =
    option_and_then_some _ (next_bytes addr len reads) step e (λ got there onward.
    bytes_of_ram addr len reads got lies.0 there (over_ram (next got.0) got.1 step (lies.1 got.0) onward behind))
over_ram (want_words addr most test next) reads step lies e behind =
    option_and_then_some _ (next_words addr most test reads) step e (λ got there onward.
    words_of_ram addr most test reads got lies.0 there (over_ram (next got.0) got.1 step (lies.1 got.0) onward behind))

none_left : {A : Type 0} (step : A × List Read) (value : A) → if_used_up step ≡ Some value → AreOfRam step.1
none_left (found, []) value e = tt
none_left (found, read ∷ reads) value e = absurd cc

pub reading-of_ram : {A : Type 0} (reader : Reader A) (reads : List Read) (value : A) → LiesInRam reader
    → reading reader reads ≡ Some value → AreOfRam reads
reading-of_ram {A} reader reads value lies e =
    option_and_then_some if_used_up (over_reads reader reads) value e
    (λ (step : A × List Read) there onward. over_ram reader reads step lies there (none_left step value onward))

-- ---- histories

module _ (boot : Booted) (boots : IsBooted boot) where
  event_reads : (before : List Event) (kernel next : Kernel) (event : Event) → kernel_after boot before ≡ Some kernel
      → after_event boot kernel event ≡ Some next → ReadsRam event
  event_reads before kernel next (Entry cpu regs steps reads) comes e =
      let visit : Visit = record { cpu = cpu; regs = regs.a; steps = steps } in
      option_and_then_some (entry_from boot kernel visit reads) (slice_get kernel.processors cpu) next e
      (λ (processor : Processor) there onward.
      reading-of_ram (entry boot kernel visit) reads next (entry_asks boot before kernel boots comes visit).of_ram
      (entry_followed boot kernel next visit reads processor onward))
  event_reads before kernel next (Exit cpu regs) comes e = tt

  events_read : (before : List Event) (kernel last : Kernel) (events : List Event)
      → kernel_after boot before ≡ Some kernel → after_events boot kernel events ≡ Some last
      → AllByRecursion ReadsRam events
  events_read before kernel last [] comes e = tt
  events_read before kernel last (event ∷ events) comes e =
      option_and_then_some (λ k. after_events boot k events) (after_event boot kernel event) last e
      (λ (next : Kernel) there onward.
      let once : kernel_after boot (before ++ event ∷ []) ≡ Some next =
      after_events-append boot (first_kernel boot) before (event ∷ [])
      ∙ ap (λ (o : Option Kernel). option_and_then (λ k. after_events boot k (event ∷ [])) o) comes
      ∙ ap (λ (o : Option Kernel). option_and_then (λ k. after_events boot k []) o) there in (
        event_reads before kernel next event comes there,
        events_read (before ++ event ∷ []) next last events once onward,
      ))

pub histories_read_ram : HistoriesReadRam
histories_read_ram boot history legal =
    let end = some_of (kernel_after boot history) legal.follows in
    events_read boot legal.boots [] (first_kernel boot) end.0 history refl end.1
