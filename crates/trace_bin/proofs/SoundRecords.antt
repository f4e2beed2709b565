-- A trace that bytes spell is within its limits: record by record.
use Rattle.std.proofs.Common.{◌≡◌, ℕ, zero, suc, ◌+◌, ◌^◌, ◌<◌, ◌≤◌, Bool, true, false, cond, leb, List, [], ◌∷◌, length, map, take, drop, Option, Some, None, refl, subst, arith}
use Rattle.std.specs.Prelude.{◌||◌}
use Rattle.std.specs.List.{AllByRecursion, list_all}
use Rattle.std.proofs.lemmas.Bool.{and_parts, leb-true, ltb-true}
use Rattle.std.proofs.lemmas.List.Elements.{All-from_recursion}
use Rattle.ta_isa.specs.declared.boot.Boot.{Boot}
use Rattle.base.proofs.Numbers.{IsBytes, IsBytes-drop, IsBytes-take}
use Rattle.trace_text.specs.declared.item.Item.{Item}
use Rattle.trace_text.specs.declared.item.Item.TheVariants as item
use Rattle.trace_text.specs.declared.item.Reg.TheVariants.{Num, Last}
use Rattle.trace_text.specs.declared.trace.Fill.{Fill}
use Rattle.trace_text.specs.declared.trace.Trace.{Trace}
use Rattle.trace_text.specs.Limits.{Front, first_broken, is_within, lies_in_ram, no_front}
use Rattle.trace_text.specs.Sound.{IsPartOfRam, IsSound, IsSoundCall, IsSoundReg}
use Rattle.trace_text.proofs.SoundLaws.{are_kept, AreKept, at_first, at_last, IsSoFar, IsSoFarOf, keyed_boot, sound_apps, sound_boot, with_apps, with_boot, with_fill, with_one}
use Rattle.trace_text.proofs.SoundWords.{in_ram, valid_bytes, within}
use Rattle.trace_bin.specs.declared.record_kind.RecordKind.{RecordKind}
use Rattle.trace_bin.specs.declared.record_kind.RecordKind.TheVariants as kind
use Rattle.trace_bin.specs.Record.{body_len, bytes_in, fixed_len, is_register, number, register, register_places}
use Rattle.trace_bin.specs.Rules.{added, added_by_kind, after_record, app_in, behind_kind, behind_record, boot_in, body_of, cpu_in, fill_in, kind_of, record_rules, registers_in, rules_by_kind, rules_of, steps_in}
use Rattle.trace_bin.specs.Grammar.{Leads, Spells}

-- ---- bytes and registers

bytes_fit : (kind : RecordKind) (body : List ℕ) → IsBytes body → IsBytes (bytes_in kind body)
bytes_fit kind body fit = IsBytes-take _ _ (IsBytes-drop (fixed_len kind) body fit)

number_fits : (place : ℕ) (body : List ℕ) → IsBytes body → number 4 place body < 2 ^ 32
number_fits place body fit = let h = IsBytes-drop place body fit in omega (arith, h 0, h 1, h 2, h 3)

by_form : (is_number : Bool) (n : ℕ) → n < 2 ^ 32 → (is_number || leb n 7) ≡ true → IsSoundReg (cond is_number (Num n) (Last n))
by_form true n fits e = fits
by_form false n fits e = let few = leb-true n 7 e in omega (arith, few)

sound_register : (body : List ℕ) (place : ℕ) → IsBytes body → is_register body place ≡ true → IsSoundReg (register body place)
unfolding is_register register
sound_register body place fit e = by_form _ (number 4 (place + 1) body) (number_fits (place + 1) body fit) e

sound_registers : (body places : List ℕ) → IsBytes body → list_all (is_register body) places ≡ true → AllByRecursion IsSoundReg (map (register body) places)
sound_registers body [] fit e = tt
sound_registers body (place ∷ places) fit e =
    let p = and_parts (is_register body place) (list_all (is_register body) places) e in
    (sound_register body place fit p.0, sound_registers body places fit p.1)

sound_entry : (cpus : ℕ) (body : List ℕ) → IsBytes body → list_all (is_register body) register_places ≡ true → is_within 1 1000000 (steps_in body) ≡ true → cpu_in body < cpus → IsSoundCall cpus (cpu_in body) (steps_in body) (registers_in body)
unfolding registers_in
sound_entry cpus body fit regs granted there =
    let steps = within 1 1000000 (steps_in body) granted in
    record {
      processor = there;
      some_step = steps.0;
      few_steps = steps.1;
      eight = refl;
      registers = All-from_recursion IsSoundReg (map (register body) register_places) (sound_registers body register_places fit regs);
    }

part_of_ram : (addr len : ℕ) → 1 ≤ len → lies_in_ram addr len ≡ true → IsPartOfRam addr len
part_of_ram addr len some ram = record { some = some; in_ram = in_ram addr len ram }

-- ---- one lemma for each kind of record, where its rules are kept

-- the record adds to the trace within its limits
abbrev Adds : RecordKind → List (List ℕ) → Option Boot → List Fill → List Item → Bool → List ℕ → List ℕ → Type 0
Adds kind natives boot fills items keyed body bytes =
    let before : Front = record { boot = boot; fills = fills; items = items; keyed = keyed } in
    AreKept (rules_of kind natives before body bytes) → IsBytes body → IsBytes bytes → IsSoFar natives boot fills items → IsSoFarOf natives (added kind before body bytes)

after_boot : (natives : List (List ℕ)) (boot : Option Boot) (fills : List Fill) (items : List Item) (keyed : Bool) (body bytes : List ℕ) → Adds kind.Boot natives boot fills items keyed body bytes
unfolding rules_of added
after_boot natives None fills items keyed body bytes (_, said) fit fits so_far = with_boot natives (boot_in body) fills items (sound_boot natives _ _ _ said) so_far
after_boot natives (Some boot) fills items keyed body bytes (first, _) fit fits so_far = absurd cc

after_ta : (natives : List (List ℕ)) (boot : Option Boot) (fills : List Fill) (items : List Item) (keyed : Bool) (body bytes : List ℕ) → Adds kind.Ta natives boot fills items keyed body bytes
unfolding rules_of added
after_ta natives None fills items keyed body bytes (booted, _) fit fits so_far = absurd cc
after_ta natives (Some boot) fills items keyed body bytes (_, (_, (_, said))) fit fits so_far =
    with_apps natives boot (app_in body bytes) fills items (sound_apps natives boot (take 16 body) bytes said (valid_bytes bytes fits said.1.1.0) so_far.is_boot) so_far

after_mem : (natives : List (List ℕ)) (boot : Option Boot) (fills : List Fill) (items : List Item) (keyed : Bool) (body bytes : List ℕ) → Adds kind.Mem natives boot fills items keyed body bytes
unfolding rules_of added
after_mem natives None fills items keyed body bytes (booted, _) fit fits so_far = absurd cc
after_mem natives (Some boot) fills items keyed body bytes (_, (_, (some, (ram, _)))) fit fits so_far =
    with_fill natives boot fills (fill_in body bytes) items (part_of_ram (number 8 0 body) (length bytes) (ltb-true 0 (length bytes) some) ram) so_far

after_key : (natives : List (List ℕ)) (boot : Option Boot) (fills : List Fill) (items : List Item) (keyed : Bool) (body bytes : List ℕ) → Adds kind.Key natives boot fills items keyed body bytes
unfolding rules_of added
after_key natives None fills items keyed body bytes (booted, _) fit fits so_far = absurd cc
after_key natives (Some boot) fills items keyed body bytes said fit fits so_far = keyed_boot natives boot (take 32 body) fills items so_far

after_smc : (natives : List (List ℕ)) (boot : Option Boot) (fills : List Fill) (items : List Item) (keyed : Bool) (body bytes : List ℕ) → Adds kind.Smc natives boot fills items keyed body bytes
unfolding rules_of added
after_smc natives None fills items keyed body bytes (booted, _) fit fits so_far = absurd cc
after_smc natives (Some boot) fills items keyed body bytes (_, (_, (regs, (granted, (there, (outside, _)))))) fit fits so_far =
    with_one natives boot fills items (item.Smc (cpu_in body) (steps_in body) (registers_in body)) (sound_entry boot.cpus body fit regs granted (ltb-true (cpu_in body) boot.cpus there)) outside so_far

after_enter : (natives : List (List ℕ)) (boot : Option Boot) (fills : List Fill) (items : List Item) (keyed : Bool) (body bytes : List ℕ) → Adds kind.Enter natives boot fills items keyed body bytes
unfolding rules_of added
after_enter natives None fills items keyed body bytes (booted, _) fit fits so_far = absurd cc
after_enter natives (Some boot) fills items keyed body bytes (_, (_, (regs, (granted, (there, (outside, _)))))) fit fits so_far =
    with_one natives boot fills items (item.Enter (cpu_in body) (steps_in body) (registers_in body)) (sound_entry boot.cpus body fit regs granted (ltb-true (cpu_in body) boot.cpus there)) outside so_far

after_leave : (natives : List (List ℕ)) (boot : Option Boot) (fills : List Fill) (items : List Item) (keyed : Bool) (body bytes : List ℕ) → Adds kind.Leave natives boot fills items keyed body bytes
unfolding rules_of added
after_leave natives None fills items keyed body bytes (booted, _) fit fits so_far = absurd cc
after_leave natives (Some boot) fills items keyed body bytes (_, (there, (inside, _))) fit fits so_far =
    with_one natives boot fills items (item.Leave (cpu_in body)) (ltb-true (cpu_in body) boot.cpus there) inside so_far

after_write : (natives : List (List ℕ)) (boot : Option Boot) (fills : List Fill) (items : List Item) (keyed : Bool) (body bytes : List ℕ) → Adds kind.Write natives boot fills items keyed body bytes
unfolding rules_of added
after_write natives None fills items keyed body bytes (booted, _) fit fits so_far = absurd cc
after_write natives (Some boot) fills items keyed body bytes (_, (some, (ram, (there, _)))) fit fits so_far =
    with_one natives boot fills items (item.Write (cpu_in body) (number 8 1 body) bytes)
    (ltb-true (cpu_in body) boot.cpus there, part_of_ram (number 8 1 body) (length bytes) (ltb-true 0 (length bytes) some) ram) refl so_far

after_show : (natives : List (List ℕ)) (boot : Option Boot) (fills : List Fill) (items : List Item) (keyed : Bool) (body bytes : List ℕ) → Adds kind.Show natives boot fills items keyed body bytes
unfolding rules_of added
after_show natives None fills items keyed body bytes (booted, _) fit fits so_far = absurd cc
after_show natives (Some boot) fills items keyed body bytes (_, (few, (ram, (there, _)))) fit fits so_far =
    let shown = within 1 4096 (number 4 9 body) few in
    with_one natives boot fills items (item.Show (cpu_in body) (number 8 1 body) (number 4 9 body))
    (ltb-true (cpu_in body) boot.cpus there, part_of_ram (number 8 1 body) (number 4 9 body) shown.0 ram, shown.1) refl so_far

after_any : (kind : RecordKind) (natives : List (List ℕ)) (boot : Option Boot) (fills : List Fill) (items : List Item) (keyed : Bool) (body bytes : List ℕ) → Adds kind natives boot fills items keyed body bytes
after_any kind.Boot = after_boot
after_any kind.Ta = after_ta
after_any kind.Mem = after_mem
after_any kind.Key = after_key
after_any kind.Smc = after_smc
after_any kind.Enter = after_enter
after_any kind.Leave = after_leave
after_any kind.Write = after_write
after_any kind.Show = after_show

-- ---- all records

by_kind : (named : Option RecordKind) (natives : List (List ℕ)) (before : Front) (body : List ℕ) → first_broken (rules_by_kind named natives before body) ≡ None → IsBytes body → IsSoFarOf natives before → IsSoFarOf natives (added_by_kind named before body)
by_kind None natives before body e fit so_far = absurd cc
by_kind (Some kind) natives before body e fit so_far =
    let kept = are_kept (rules_by_kind (Some kind) natives before body) e in
    after_any kind natives before.boot before.fills before.items before.keyed body (bytes_in kind body) kept.1 fit (bytes_fit kind body fit) so_far

one_record : (natives : List (List ℕ)) (before : Front) (bytes : List ℕ) → first_broken (record_rules natives before bytes) ≡ None → IsBytes bytes → IsSoFarOf natives before → IsSoFarOf natives (after_record before bytes)
unfolding record_rules after_record
one_record natives before bytes e fit so_far = by_kind (kind_of bytes) natives before (body_of bytes) e (IsBytes-drop 1 bytes fit) so_far

behind_fits : (named : Option RecordKind) (body : List ℕ) → IsBytes body → IsBytes (behind_kind named body)
behind_fits None body fit = fit
behind_fits (Some kind) body fit = IsBytes-drop (body_len kind body) body fit

rest_fits : (bytes : List ℕ) → IsBytes bytes → IsBytes (behind_record bytes)
unfolding behind_record
rest_fits bytes fit = behind_fits (kind_of bytes) (body_of bytes) (IsBytes-drop 1 bytes fit)

all_records : (natives : List (List ℕ)) (before : Front) (bytes : List ℕ) (count : ℕ) (after : Front) (rest : List ℕ) → Leads natives before bytes count after rest → IsBytes bytes → IsSoFarOf natives before → IsSoFarOf natives after
all_records natives before bytes zero after rest (same, _) fit so_far = subst (λ (t : Front). IsSoFarOf natives t) same so_far
all_records natives before bytes (suc count) after rest (kept, more) fit so_far =
    all_records natives (after_record before bytes) (behind_record bytes) count after rest more (rest_fits bytes fit) (one_record natives before bytes kept fit so_far)

pub IsSound-spelled : (natives : List (List ℕ)) (bytes : List ℕ) (trace : Trace) → IsBytes bytes → Spells natives bytes trace → IsSound natives trace
IsSound-spelled natives bytes trace fit s =
    let last = all_records natives no_front (drop 4 bytes) s.count s.end [] s.spelled (IsBytes-drop 4 bytes fit) (at_first natives) in
    subst (λ (t : Trace). IsSound natives t) s.trace_is (record {
      no_boot = last.no_boot;
      boot = last.is_boot;
      fills = last.are_fills;
      items = last.are_items;
      in_turn = last.in_turn;
      ended = at_last s.end s.no_end_fault;
    })
