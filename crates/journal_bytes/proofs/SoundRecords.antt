-- A journal that bytes spell is within its limits: record by record.
use Rattle.std.proofs.Common.{◌≡◌, ℕ, zero, suc, ◌+◌, ◌^◌, ◌≤◌, Bool, true, false, cond, List, [], ◌∷◌, length, take, drop, length-drop, Option, Some, None, refl, subst, sym, arith}
use Rattle.std.specs.Prelude.{All, IfNone, IfSome}
use Rattle.std.specs.List.{AllByRecursion, list_all}
use Rattle.std.specs.Option.{option_map}
use Rattle.std.proofs.lemmas.Bool.{and_parts, ltb-true}
use Rattle.std.proofs.lemmas.List.Elements.{All-from_recursion, All-nil, All-push}
use Rattle.std.proofs.lemmas.List.Sums.{sum_by_push}
use Rattle.base.proofs.Numbers.{IsBytes, IsBytes-drop, IsBytes-take}
use Rattle.ta_isa.specs.declared.boot.Boot.{Boot}
use Rattle.ns_ram.specs.declared.read.Read.{Read}
use Rattle.event_journal.specs.declared.event.Event.{Event}
use Rattle.event_journal.specs.Event.{copied_by}
use Rattle.event_journal.specs.Journal.{copied_bytes}
use Rattle.trace_text.specs.Limits.{cpus_of, first_broken}
use Rattle.trace_text.specs.Sound.{IsSoundBoot}
use Rattle.trace_text.proofs.SoundLaws.{are_kept, AreKept, at_first as no_line, keyed_boot, sound_apps, sound_boot, with_boot}
use Rattle.trace_text.proofs.SoundWords.{in_ram, valid_bytes, within}
use Rattle.trace_bin.specs.declared.record_kind.RecordKind.TheVariants as trace
use Rattle.trace_bin.specs.Record.{body_len, bytes_in, is_whole as is_whole_body, number}
use Rattle.trace_bin.specs.Rules.{boot_in}
use Rattle.journal_bytes.specs.declared.record_kind.RecordKind.{RecordKind}
use Rattle.journal_bytes.specs.declared.record_kind.RecordKind.TheVariants as kind
use Rattle.journal_bytes.specs.Record.{behind, behind_read, cpu_in, is_read, listed_in, read_in, reads_at, reads_in, rest_of, steps_in, with_read}
use Rattle.journal_bytes.specs.Recording.{nothing, Told}
use Rattle.journal_bytes.specs.Rules.{added, added_by_kind, after_record, behind_kind, behind_record, body_of, entry_in, exit_in, kind_of, record_rules, rules_by_kind, rules_of}
use Rattle.journal_bytes.specs.Grammar.{Leads, Spells, Whole}
use Rattle.journal_bytes.specs.Sound.{IsSoundEvent, IsSoundJournal, IsSoundRead}
use Rattle.journal_bytes.proofs.Shrinks.{listed_within}

-- ---- reads

sound_reads : (reads : List Read) → list_all is_read reads ≡ true → AllByRecursion IsSoundRead reads
sound_reads [] e = tt
sound_reads (read ∷ reads) e =
    let p = and_parts (is_read read) (list_all is_read reads) e in
    let q = and_parts _ _ p.0 in
    (record { some = ltb-true 0 (length read.bytes) q.0; in_ram = in_ram read.addr (length read.bytes) q.1 }, sound_reads reads p.1)

-- ---- what the records so far tell

pub record IsSoFar (natives : List (List ℕ)) (boot : Option Boot) (events : List Event) : Type 0 where
  pub no_boot : IfNone boot (events ≡ [])
  pub is_boot : IfSome boot (IsSoundBoot natives)
  pub each : All (IsSoundEvent (cpus_of boot)) events

abbrev pub IsSoFarOf : List (List ℕ) → Told → Type 0
IsSoFarOf natives told = IsSoFar natives told.boot told.events

at_first : (natives : List (List ℕ)) → IsSoFarOf natives nothing
at_first natives = record { no_boot = refl; is_boot = tt; each = All-nil (IsSoundEvent 0) }

-- the record adds to what was told within the limits
abbrev Adds : RecordKind → List (List ℕ) → Option Boot → Bool → List Event → List ℕ → Type 0
Adds kind natives boot keyed events body =
    let before : Told = record { boot = boot; keyed = keyed; events = events } in
    AreKept (rules_of kind natives before body) → IsBytes body → IsSoFar natives boot events → IsSoFarOf natives (added kind before body)

after_boot : (natives : List (List ℕ)) (boot : Option Boot) (keyed : Bool) (events : List Event) (body : List ℕ) → Adds kind.Boot natives boot keyed events body
unfolding rules_of added
after_boot natives None keyed events body (_, said) fit so_far =
    record {
      no_boot = tt;
      is_boot = sound_boot natives _ _ _ said;
      each = subst (λ (es : List Event). All (IsSoundEvent (boot_in body).cpus) es) (sym so_far.no_boot) (All-nil (IsSoundEvent (boot_in body).cpus));
    }
after_boot natives (Some boot) keyed events body (first, _) fit so_far = absurd cc

after_ta : (natives : List (List ℕ)) (boot : Option Boot) (keyed : Bool) (events : List Event) (body : List ℕ) → Adds kind.Ta natives boot keyed events body
unfolding rules_of added
after_ta natives None keyed events body (_, (booted, _)) fit so_far = absurd cc
after_ta natives (Some boot) keyed events body (_, (_, (_, (_, said)))) fit so_far =
    let fits : IsBytes (bytes_in trace.Ta body) = IsBytes-take _ _ (IsBytes-drop 20 body fit) in
    record {
      no_boot = tt;
      is_boot = sound_apps natives boot (take 16 body) (bytes_in trace.Ta body) said (valid_bytes (bytes_in trace.Ta body) fits said.1.1.0) so_far.is_boot;
      each = so_far.each;
    }

-- another key changes no limit
sound_key : (natives : List (List ℕ)) (boot : Boot) (key : List ℕ) → IsSoundBoot natives boot → IsSoundBoot natives (record boot { key = key })
sound_key natives boot key sound = (keyed_boot natives boot key [] [] (with_boot natives boot [] [] sound (no_line natives))).is_boot

after_key : (natives : List (List ℕ)) (boot : Option Boot) (keyed : Bool) (events : List Event) (body : List ℕ) → Adds kind.Key natives boot keyed events body
unfolding rules_of added
after_key natives None keyed events body (_, (booted, _)) fit so_far = absurd cc
after_key natives (Some boot) keyed events body said fit so_far =
    record { no_boot = tt; is_boot = sound_key natives boot (take 32 body) so_far.is_boot; each = so_far.each }

after_entry : (natives : List (List ℕ)) (boot : Option Boot) (keyed : Bool) (events : List Event) (body : List ℕ) → Adds kind.Entry natives boot keyed events body
unfolding rules_of added
after_entry natives None keyed events body (booted, _) fit so_far = absurd cc
after_entry natives (Some boot) keyed events body (_, (granted, (reads, (there, _)))) fit so_far =
    let steps = within 1 1000000 (steps_in body) granted in
    record {
      no_boot = tt;
      is_boot = so_far.is_boot;
      each =
          All-push (IsSoundEvent boot.cpus) events (entry_in body) so_far.each
          (record {
            processor = ltb-true (cpu_in body) boot.cpus there;
            some_step = steps.0;
            few_steps = steps.1;
            are_reads = All-from_recursion IsSoundRead (reads_in body) (sound_reads (reads_in body) reads);
          });
    }

after_exit : (natives : List (List ℕ)) (boot : Option Boot) (keyed : Bool) (events : List Event) (body : List ℕ) → Adds kind.Exit natives boot keyed events body
unfolding rules_of added
after_exit natives None keyed events body (booted, _) fit so_far = absurd cc
after_exit natives (Some boot) keyed events body (_, (there, _)) fit so_far =
    record {
      no_boot = tt;
      is_boot = so_far.is_boot;
      each = All-push (IsSoundEvent boot.cpus) events (exit_in body) so_far.each (ltb-true (cpu_in body) boot.cpus there);
    }

after_any : (kind : RecordKind) (natives : List (List ℕ)) (boot : Option Boot) (keyed : Bool) (events : List Event) (body : List ℕ) → Adds kind natives boot keyed events body
after_any kind.Boot = after_boot
after_any kind.Ta = after_ta
after_any kind.Key = after_key
after_any kind.Entry = after_entry
after_any kind.Exit = after_exit

by_kind : (named : Option RecordKind) (natives : List (List ℕ)) (before : Told) (body : List ℕ) → first_broken (rules_by_kind named natives before body) ≡ None → IsBytes body → IsSoFarOf natives before → IsSoFarOf natives (added_by_kind named before body)
by_kind None natives before body e fit so_far = absurd cc
by_kind (Some kind) natives before body e fit so_far =
    let kept = are_kept (rules_by_kind (Some kind) natives before body) e in
    after_any kind natives before.boot before.keyed before.events body kept.1 fit so_far

one_record : (natives : List (List ℕ)) (before : Told) (bytes : List ℕ) → first_broken (record_rules natives before bytes) ≡ None → IsBytes bytes → IsSoFarOf natives before → IsSoFarOf natives (after_record before bytes)
unfolding record_rules after_record
one_record natives before bytes e fit so_far = by_kind (kind_of bytes) natives before (body_of bytes) e (IsBytes-drop 1 bytes fit) so_far

-- ---- what stands behind a record

none_fit : IsBytes []
none_fit i = omega arith

with_one : (bytes : List ℕ) (more : Option (List Read × List ℕ)) → IsBytes (rest_of more) → IsBytes (rest_of (option_map (with_read (read_in bytes)) more))
with_one bytes None fit = fit
with_one bytes (Some (reads, rest)) fit = fit

rest_fits : (count : ℕ) (bytes : List ℕ) → IsBytes bytes → IsBytes (rest_of (reads_at count bytes))
rest_fits zero bytes fit = fit
rest_fits (suc count) bytes fit =
    by_whole (is_whole_body trace.Mem bytes) (with_one bytes (reads_at count (behind_read bytes)) (rest_fits count (behind_read bytes) (IsBytes-drop (body_len trace.Mem bytes) bytes fit)))
  where
    by_whole : (there : Bool) → IsBytes (rest_of (option_map (with_read (read_in bytes)) (reads_at count (behind_read bytes))))
        → IsBytes (rest_of (cond there (option_map (with_read (read_in bytes)) (reads_at count (behind_read bytes))) None))
    by_whole true more = more
    by_whole false more = none_fit

tail_fits : (kind : RecordKind) (body : List ℕ) → IsBytes body → IsBytes (behind kind body)
unfolding behind listed_in
tail_fits kind.Boot body fit = IsBytes-drop (body_len trace.Boot body) body fit
tail_fits kind.Ta body fit = IsBytes-drop (body_len trace.Ta body) body fit
tail_fits kind.Key body fit = IsBytes-drop (body_len trace.Key body) body fit
tail_fits kind.Entry body fit = rest_fits (number 4 37 body) (drop 41 body) (IsBytes-drop 41 body fit)
tail_fits kind.Exit body fit = IsBytes-drop 33 body fit

behind_fits : (bytes : List ℕ) → IsBytes bytes → IsBytes (behind_record bytes)
unfolding behind_record
behind_fits bytes fit = by_tag (kind_of bytes) (body_of bytes) (IsBytes-drop 1 bytes fit)
  where
    by_tag : (named : Option RecordKind) (body : List ℕ) → IsBytes body → IsBytes (behind_kind named body)
    by_tag None body fits = fits
    by_tag (Some kind) body fits = tail_fits kind body fits

-- ---- the bytes that were read

-- the bytes that events tell were read, and what stands behind the records, are no more than before
abbrev pub IsCovered : Told → List ℕ → Told → List ℕ → Type 0
IsCovered before bytes after rest = copied_bytes after.events + length rest ≤ copied_bytes before.events + length bytes

kind_covered : (kind : RecordKind) (before : Told) (body : List ℕ) → IsCovered before body (added kind before body) (behind kind body)
unfolding added behind
kind_covered kind.Boot before body = omega (arith, length-drop (body_len trace.Boot body) body)
kind_covered kind.Ta before body = omega (arith, length-drop (body_len trace.Ta body) body)
kind_covered kind.Key before body = omega (arith, length-drop (body_len trace.Key body) body)
kind_covered kind.Entry before body = let r = listed_within body in omega (arith, r, sum_by_push copied_by before.events (entry_in body))
kind_covered kind.Exit before body = omega (arith, length-drop 33 body, sum_by_push copied_by before.events (exit_in body))

pub record_covered : (before : Told) (bytes : List ℕ) → IsCovered before bytes (after_record before bytes) (behind_record bytes)
unfolding after_record behind_record
record_covered before bytes = by_tag (kind_of bytes) (body_of bytes) (omega (arith, length-drop 1 bytes))
  where
    by_tag : (named : Option RecordKind) (body : List ℕ) → length body ≤ length bytes → IsCovered before bytes (added_by_kind named before body) (behind_kind named body)
    by_tag None body fewer = omega arith
    by_tag (Some kind) body fewer = let h = kind_covered kind before body in omega (arith, h)

-- ---- all records

record AreSound (natives : List (List ℕ)) (before : Told) (bytes : List ℕ) (after : Told) (rest : List ℕ) : Type 0 where
  so_far : IsSoFarOf natives after
  covered : IsCovered before bytes after rest

all_records : (natives : List (List ℕ)) (before : Told) (bytes : List ℕ) (count : ℕ) (after : Told) (rest : List ℕ) → Leads natives before bytes count after rest → IsBytes bytes → IsSoFarOf natives before → AreSound natives before bytes after rest
all_records natives before bytes zero after rest (same, is) fit so_far =
    subst (λ (t : Told). AreSound natives before bytes t rest) same (subst (λ (b : List ℕ). AreSound natives before bytes before b) is (record { so_far = so_far; covered = omega arith }))
all_records natives before bytes (suc count) after rest (kept, more) fit so_far =
    let later = all_records natives (after_record before bytes) (behind_record bytes) count after rest more (behind_fits bytes fit) (one_record natives before bytes kept fit so_far) in
    let here = record_covered before bytes in
    let further = later.covered in
    record { so_far = later.so_far; covered = omega (arith, here, further) }

-- a core can be booted so, and the events are within their limits
pub record IsWithin (natives : List (List ℕ)) (whole : Whole) : Type 0 where
  pub boot : IsSoundBoot natives whole.boot
  pub journal : IsSoundJournal whole.boot.cpus whole.events

pub spelled_within : (natives : List (List ℕ)) (bytes : List ℕ) (whole : Whole) → IsBytes bytes → length bytes ≤ 2 ^ 28 → Spells natives bytes whole → IsWithin natives whole
spelled_within natives bytes whole fit few s =
    let all = all_records natives nothing (drop 4 bytes) s.count _ _ s.spelled (IsBytes-drop 4 bytes fit) (at_first natives) in
    let covered = all.covered in
    record { boot = all.so_far.is_boot; journal = record { each = all.so_far.each; few_bytes = omega (arith, covered, length-drop 4 bytes) } }
