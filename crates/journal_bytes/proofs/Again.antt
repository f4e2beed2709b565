-- Each record that is written keeps the rules where its journal is within its limits, and is read as what it was written of.
use Rattle.std.proofs.Common.{◌≡◌, ℕ, suc, ◌^◌, ◌<◌, ◌≤◌, Bool, true, false, cond, leb, ltb, List, [], ◌∷◌, ◌++◌, length, get_or, append_assoc, Option, Some, None, refl, sym, subst, ap, ◌∙◌, arith}
use Rattle.std.specs.Prelude.{is_some}
use Rattle.std.specs.List.{AllByRecursion, flat_map, list_all}
use Rattle.std.specs.Option.{option_map}
use Rattle.std.proofs.lemmas.Bool.{and_from, le-leb, lt-ltb}
use Rattle.std.proofs.lemmas.List.Elements.{recursion_from_All}
use Rattle.byteorder.specs.Endian.{little_bytes, little_number}
use Rattle.byteorder.specs.Numbers.{little_number-reads_back}
use Rattle.ta_isa.specs.declared.boot.App.{App}
use Rattle.ta_isa.specs.declared.boot.Boot.{Boot}
use Rattle.ta_isa.specs.Reading.{image_of}
use Rattle.ta_isa.specs.Spelling.{spelling as image_spelling}
use Rattle.ns_ram.specs.declared.read.Read.{Read}
use Rattle.smc_abi.specs.declared.regs.Regs.{Regs}
use Rattle.event_journal.specs.declared.event.Event.{Event}
use Rattle.event_journal.specs.declared.event.Event.TheVariants.{Entry, Exit}
use Rattle.event_journal.specs.Event.{copied_by}
use Rattle.trace_text.specs.declared.fault.BadKind.TheVariants as bad
use Rattle.trace_text.specs.Limits.{first_broken, Front, is_image, is_known, is_within, no_key, uuids_of}
use Rattle.trace_bin.specs.declared.record_kind.RecordKind.TheVariants as trace
use Rattle.trace_bin.specs.Record.{is_whole as is_whole_body, kind_tagged as trace_tagged, number}
use Rattle.trace_bin.specs.Rules.{added as trace_added, after_record as after_trace, behind_record as behind_trace, record_rules as trace_rules, rules_of as trace_rules_of}
use Rattle.trace_bin.specs.Spelling.{app_record, boot_record, counted}
use Rattle.trace_bin.proofs.Again.{app_read, boot_read, in_ram, key_read, none_broken, within}
use Rattle.trace_bin.proofs.Payload.{counted_body}
use Rattle.trace_bin.proofs.Registers.{eight_are}
use Rattle.journal_bytes.specs.declared.record_kind.RecordKind.TheVariants as kind
use Rattle.journal_bytes.specs.Record.{behind, behind_read, is_read, is_whole, kind_tagged, listed_in, read_in, reads_at, reads_in, reads_of, regs_in, rest_of, steps_in, with_read}
use Rattle.journal_bytes.specs.Recording.{nothing, Told}
use Rattle.journal_bytes.specs.Rules.{added, after_record, behind_record, entry_rules, exit_rules, record_rules, rules_of, with_event}
use Rattle.journal_bytes.specs.Sound.{HasRegs, IsSoundEntry, IsSoundEvent, IsSoundRead}
use Rattle.journal_bytes.specs.Spelling.{event_record, read_bytes, regs_bytes}
use Rattle.journal_bytes.proofs.Writes.{few_reads}

-- the record in front of these bytes keeps its rules and leads to what is told after it, and the rest stands behind it
pub record IsTold (natives : List (List ℕ)) (before : Told) (bytes rest : List ℕ) (after : Told) : Type 0 where
  pub kept : first_broken (record_rules natives before bytes) ≡ None
  pub adds : after_record before bytes ≡ after
  pub behind : behind_record bytes ≡ rest

abbrev pub booted : Boot → Bool → List Event → Told
booted boot keyed events = record { boot = Some boot; keyed = keyed; events = events }

-- what the records of a trace tell of its boot
abbrev header : Front → Told
header front = record { boot = front.boot; keyed = front.keyed; events = [] }

-- ---- the boot, its applications and its key, which are read as in a trace

pub boot_told : (natives : List (List ℕ)) (cpus threads frames : ℕ) (rest : List ℕ) → 1 ≤ cpus → cpus ≤ 8 → 1 ≤ threads → threads ≤ 16 → 1 ≤ frames → frames ≤ 1024
    → IsTold natives nothing (boot_record (record { cpus = cpus; threads = threads; frames = frames; apps = []; key = no_key }) ++ rest) rest (booted (record { cpus = cpus; threads = threads; frames = frames; apps = []; key = no_key }) false [])
unfolding record_rules after_record behind_record kind_tagged is_whole behind rules_of added trace_rules after_trace behind_trace trace_tagged trace_rules_of trace_added
boot_told natives cpus threads frames rest c0 c1 t0 t1 f0 f1 =
    let read = boot_read natives cpus threads frames rest c0 c1 t0 t1 f0 f1 in
    record { kept = read.kept; adds = ap header read.adds; behind = read.behind }

pub app_told : (natives : List (List ℕ)) (boot : Boot) (app : App) (rest : List ℕ) → length app.uuid ≡ 16 → 0 < length (image_spelling app.image) → length (image_spelling app.image) < 2 ^ 32
    → ltb (length boot.apps) 16 ≡ true → is_known natives (uuids_of boot.apps) app.uuid ≡ false → is_image (image_spelling app.image) ≡ true → image_of (image_spelling app.image) ≡ app.image
    → IsTold natives (booted boot false []) (app_record app ++ rest) rest (booted (record boot { apps = boot.apps ++ app ∷ [] }) false [])
unfolding app_record record_rules after_record behind_record kind_tagged is_whole behind rules_of added trace_rules after_trace behind_trace trace_tagged trace_rules_of trace_added
app_told natives boot app rest sixteen some few room new loads same =
    let read = app_read natives boot app rest sixteen some few room new loads same in
    record { kept = read.kept; adds = ap header read.adds; behind = read.behind }

pub key_told : (natives : List (List ℕ)) (boot : Boot) (key rest : List ℕ) → length key ≡ 32 → IsTold natives (booted boot false []) (0x04 ∷ key ++ rest) rest (booted (record boot { key = key }) true [])
unfolding record_rules after_record behind_record kind_tagged is_whole behind rules_of added trace_rules after_trace behind_trace trace_tagged trace_rules_of trace_added
key_told natives boot key rest whole =
    let read = key_read natives boot key rest whole in
    record { kept = read.kept; adds = ap header read.adds; behind = read.behind }

-- ---- reads

record IsReadBack (bytes : List ℕ) (read : Read) (rest : List ℕ) : Type 0 where
  whole : is_whole_body trace.Mem bytes ≡ true
  read_is : read_in bytes ≡ read
  rest_is : behind_read bytes ≡ rest

read_back : (read : Read) (rest : List ℕ) → IsSoundRead read → IsReadBack (read_bytes read ++ rest) read rest
unfolding read_bytes
read_back read rest sound =
    let high = sound.in_ram.1 in
    let body : List ℕ = (little_bytes 8 read.addr ++ counted read.bytes) ++ rest in
    let said = counted_body trace.Mem (little_bytes 8 read.addr) read.bytes rest refl refl (omega (arith, high)) in
    let at : number 8 0 body ≡ read.addr = little_number-reads_back 8 read.addr [] (omega (arith, high)) in
    record {
      whole = said.whole;
      read_is = ap (λ (b : List ℕ). record { addr = number 8 0 body; bytes = b }) said.bytes_are ∙ ap (λ (a : ℕ). record { addr = a; bytes = read.bytes }) at;
      rest_is = said.behind;
    }

-- one more read in front
one_more : (count : ℕ) (bytes : List ℕ) (read : Read) (reads : List Read) (rest end : List ℕ) → IsReadBack bytes read rest → reads_at count rest ≡ Some (reads, end) → reads_at (suc count) bytes ≡ Some (read ∷ reads, end)
one_more count bytes read reads rest end back more =
    ap (λ (b : Bool). cond b (option_map (with_read (read_in bytes)) (reads_at count (behind_read bytes))) None) back.whole
    ∙ ap (λ (r : Read). option_map (with_read r) (reads_at count (behind_read bytes))) back.read_is
    ∙ ap (λ (b : List ℕ). option_map (with_read read) (reads_at count b)) back.rest_is
    ∙ ap (λ (o : Option (List Read × List ℕ)). option_map (with_read read) o) more

pub reads_back : (reads : List Read) (rest : List ℕ) → AllByRecursion IsSoundRead reads → reads_at (length reads) (flat_map read_bytes reads ++ rest) ≡ Some (reads, rest)
reads_back [] rest all = refl
reads_back (read ∷ reads) rest (sound, all) =
    let more : List ℕ = flat_map read_bytes reads ++ rest in
    let P : List ℕ → Type 0 = λ bytes. reads_at (suc (length reads)) bytes ≡ Some (read ∷ reads, rest) in
    subst P (sym (append_assoc (read_bytes read) (flat_map read_bytes reads) rest))
    (one_more (length reads) (read_bytes read ++ more) read reads more rest (read_back read more sound) (reads_back reads rest all))

some_reads : (reads : List Read) → AllByRecursion IsSoundRead reads → list_all is_read reads ≡ true
some_reads [] all = refl
some_reads (read ∷ reads) (sound, all) =
    and_from _ _ (and_from _ _ (lt-ltb 0 (length read.bytes) sound.some) (in_ram read.addr (length read.bytes) sound)) (some_reads reads all)

-- ---- registers

eight_same : (x0 x1 x2 x3 x4 x5 x6 x7 y0 y1 y2 y3 y4 y5 y6 y7 : ℕ) → x0 ≡ y0 → x1 ≡ y1 → x2 ≡ y2 → x3 ≡ y3 → x4 ≡ y4 → x5 ≡ y5 → x6 ≡ y6 → x7 ≡ y7
    → x0 ∷ x1 ∷ x2 ∷ x3 ∷ x4 ∷ x5 ∷ x6 ∷ x7 ∷ [] ≡ y0 ∷ y1 ∷ y2 ∷ y3 ∷ y4 ∷ y5 ∷ y6 ∷ y7 ∷ []
eight_same x0 x1 x2 x3 x4 x5 x6 x7 y0 y1 y2 y3 y4 y5 y6 y7 e0 e1 e2 e3 e4 e5 e6 e7 = cc

abbrev regs_of : ℕ → ℕ → ℕ → ℕ → ℕ → ℕ → ℕ → ℕ → Regs
regs_of r0 r1 r2 r3 r4 r5 r6 r7 = record { a = r0 ∷ r1 ∷ r2 ∷ r3 ∷ r4 ∷ r5 ∷ r6 ∷ r7 ∷ [] }

abbrev AreWords : List ℕ → Type 0
AreWords words = AllByRecursion (λ word. word < 2 ^ 32) words

again : (n : ℕ) → n < 2 ^ 32 → little_number 4 (little_bytes 4 n) ≡ n
again n fits = little_number-reads_back 4 n [] fits

regs_back : (cpu r0 r1 r2 r3 r4 r5 r6 r7 : ℕ) (rest : List ℕ) → AreWords (r0 ∷ r1 ∷ r2 ∷ r3 ∷ r4 ∷ r5 ∷ r6 ∷ r7 ∷ []) → regs_in (cpu ∷ regs_bytes (regs_of r0 r1 r2 r3 r4 r5 r6 r7) ++ rest) ≡ regs_of r0 r1 r2 r3 r4 r5 r6 r7
unfolding regs_in
regs_back cpu r0 r1 r2 r3 r4 r5 r6 r7 rest (f0, (f1, (f2, (f3, (f4, (f5, (f6, (f7, _)))))))) =
    ap (λ (words : List ℕ). record { a = words }) (eight_same _ _ _ _ _ _ _ _ r0 r1 r2 r3 r4 r5 r6 r7 (again r0 f0) (again r1 f1) (again r2 f2) (again r3 f3) (again r4 f4) (again r5 f5) (again r6 f6) (again r7 f7))

-- ---- events

entry_told : (natives : List (List ℕ)) (boot : Boot) (keyed : Bool) (events : List Event) (cpu r0 r1 r2 r3 r4 r5 r6 r7 steps : ℕ) (reads : List Read) (rest : List ℕ) → AreWords (r0 ∷ r1 ∷ r2 ∷ r3 ∷ r4 ∷ r5 ∷ r6 ∷ r7 ∷ []) → IsSoundEntry boot.cpus cpu steps reads → length reads < 2 ^ 32
    → IsTold natives (booted boot keyed events) (event_record (Entry cpu (regs_of r0 r1 r2 r3 r4 r5 r6 r7) steps reads) ++ rest) rest (booted boot keyed (events ++ Entry cpu (regs_of r0 r1 r2 r3 r4 r5 r6 r7) steps reads ∷ []))
unfolding event_record record_rules after_record behind_record kind_tagged is_whole behind rules_of added listed_in
entry_told natives boot keyed events cpu r0 r1 r2 r3 r4 r5 r6 r7 steps reads rest words sound few =
    let regs : Regs = regs_of r0 r1 r2 r3 r4 r5 r6 r7 in
    let before : Told = booted boot keyed events in
    let flat : List ℕ = flat_map read_bytes reads in
    let body : List ℕ = ((((cpu ∷ regs_bytes regs) ++ little_bytes 4 steps) ++ little_bytes 4 (length reads)) ++ flat) ++ rest in
    let all = recursion_from_All IsSoundRead reads sound.are_reads in
    let top = sound.few_steps in
    let count_is : number 4 37 body ≡ length reads = again (length reads) few in
    let listed : reads_at (number 4 37 body) (flat ++ rest) ≡ Some (reads, rest) = ap (λ (n : ℕ). reads_at n (flat ++ rest)) count_is ∙ reads_back reads rest all in
    let steps_are : steps_in body ≡ steps = again steps (omega (arith, top)) in
    let regs_are : regs_in body ≡ regs = regs_back cpu r0 r1 r2 r3 r4 r5 r6 r7 (((little_bytes 4 steps ++ little_bytes 4 (length reads)) ++ flat) ++ rest) words in
    let long : leb 41 (length body) ≡ true = le-leb 41 (length body) (omega arith) in
    let there : is_whole kind.Entry body ≡ true = and_from _ _ long (ap (λ (o : Option (List Read × List ℕ)). is_some o) listed) in
    let granted : is_within 1 1000000 (steps_in body) ≡ true = ap (is_within 1 1000000) steps_are ∙ within 1 1000000 steps sound.some_step sound.few_steps in
    let are : list_all is_read (reads_in body) ≡ true = ap (λ (o : Option (List Read × List ℕ)). list_all is_read (reads_of o)) listed ∙ some_reads reads all in
    record {
      kept = none_broken ((bad.Cut, is_whole kind.Entry body) ∷ entry_rules before body) (there, (refl, (granted, (are, (lt-ltb cpu boot.cpus sound.processor, tt)))));
      adds =
          ap (λ (rs : Regs). with_event before (Entry cpu rs (steps_in body) (reads_in body))) regs_are
          ∙ ap (λ (n : ℕ). with_event before (Entry cpu regs n (reads_in body))) steps_are
          ∙ ap (λ (o : Option (List Read × List ℕ)). with_event before (Entry cpu regs steps (reads_of o))) listed;
      behind = ap rest_of listed;
    }

exit_told : (natives : List (List ℕ)) (boot : Boot) (keyed : Bool) (events : List Event) (cpu r0 r1 r2 r3 r4 r5 r6 r7 : ℕ) (rest : List ℕ) → AreWords (r0 ∷ r1 ∷ r2 ∷ r3 ∷ r4 ∷ r5 ∷ r6 ∷ r7 ∷ []) → cpu < boot.cpus
    → IsTold natives (booted boot keyed events) (event_record (Exit cpu (regs_of r0 r1 r2 r3 r4 r5 r6 r7)) ++ rest) rest (booted boot keyed (events ++ Exit cpu (regs_of r0 r1 r2 r3 r4 r5 r6 r7) ∷ []))
unfolding event_record record_rules after_record behind_record kind_tagged is_whole behind rules_of added
exit_told natives boot keyed events cpu r0 r1 r2 r3 r4 r5 r6 r7 rest words there =
    let regs : Regs = regs_of r0 r1 r2 r3 r4 r5 r6 r7 in
    let before : Told = booted boot keyed events in
    let body : List ℕ = (cpu ∷ regs_bytes regs) ++ rest in
    let regs_are : regs_in body ≡ regs = regs_back cpu r0 r1 r2 r3 r4 r5 r6 r7 rest words in
    let long : leb 33 (length body) ≡ true = le-leb 33 (length body) (omega arith) in
    record {
      kept = none_broken ((bad.Cut, is_whole kind.Exit body) ∷ exit_rules before body) (long, (refl, (lt-ltb cpu boot.cpus there, tt)));
      adds = ap (λ (rs : Regs). with_event before (Exit cpu rs)) regs_are;
      behind = refl;
    }

-- an event of one of the boot's processors, within its limits
pub record CanBeTold (cpus : ℕ) (event : Event) : Type 0 where
  pub sound : IsSoundEvent cpus event
  pub regs : HasRegs event
  pub few_bytes : copied_by event ≤ 2 ^ 28

abbrev Tells : List (List ℕ) → Boot → Bool → List Event → Event → List ℕ → Type 0
Tells natives boot keyed events event rest = IsTold natives (booted boot keyed events) (event_record event ++ rest) rest (booted boot keyed (events ++ event ∷ []))

pub event_told : (natives : List (List ℕ)) (boot : Boot) (keyed : Bool) (events : List Event) (event : Event) (rest : List ℕ) → CanBeTold boot.cpus event → Tells natives boot keyed events event rest
event_told natives boot keyed events (Entry cpu regs steps reads) rest can =
    let w : List ℕ = regs.a in
    let eight = eight_are w 0 can.regs.eight in
    let words : AreWords (get_or w 0 0 ∷ get_or w 1 0 ∷ get_or w 2 0 ∷ get_or w 3 0 ∷ get_or w 4 0 ∷ get_or w 5 0 ∷ get_or w 6 0 ∷ get_or w 7 0 ∷ []) = subst (λ (ws : List ℕ). AreWords ws) eight (recursion_from_All (λ word. word < 2 ^ 32) w can.regs.words) in
    let few = few_reads reads (recursion_from_All IsSoundRead reads can.sound.are_reads) in
    let bytes = can.few_bytes in
    let fewer : length reads < 2 ^ 32 = omega (arith, few, bytes) in
    subst (λ (ws : List ℕ). Tells natives boot keyed events (Entry cpu (record { a = ws }) steps reads) rest) (sym eight)
    (entry_told natives boot keyed events cpu _ _ _ _ _ _ _ _ steps reads rest words can.sound fewer)
event_told natives boot keyed events (Exit cpu regs) rest can =
    let w : List ℕ = regs.a in
    let eight = eight_are w 0 can.regs.eight in
    let words : AreWords (get_or w 0 0 ∷ get_or w 1 0 ∷ get_or w 2 0 ∷ get_or w 3 0 ∷ get_or w 4 0 ∷ get_or w 5 0 ∷ get_or w 6 0 ∷ get_or w 7 0 ∷ []) = subst (λ (ws : List ℕ). AreWords ws) eight (recursion_from_All (λ word. word < 2 ^ 32) w can.regs.words) in
    subst (λ (ws : List ℕ). Tells natives boot keyed events (Exit cpu (record { a = ws })) rest) (sym eight)
    (exit_told natives boot keyed events cpu _ _ _ _ _ _ _ _ rest words can.sound)
