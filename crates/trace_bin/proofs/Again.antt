-- Each record that is written keeps the rules where its trace is within its limits, and is read as what it was written of.
use Rattle.std.proofs.Common.{◌≡◌, ℕ, ◌+◌, ◌^◌, ◌<◌, ◌≤◌, Bool, true, false, cond, leb, ltb, List, [], ◌∷◌, ◌++◌, length, take, append_assoc, Some, None, refl, sym, subst, ap, ◌∙◌, arith}
use Rattle.std.specs.Prelude.{not}
use Rattle.std.specs.List.{AllByRecursion}
use Rattle.std.proofs.Math.Seq.{take-append_seam}
use Rattle.std.proofs.lemmas.Bool.{and_from, le-leb, lt-ltb, not_from_false}
use Rattle.std.proofs.lemmas.List.{drop_at, length-append, length-map, take_at}
use Rattle.std.proofs.lemmas.List.Elements.{recursion_from_All}
use Rattle.byteorder.specs.Endian.{little_bytes}
use Rattle.byteorder.specs.Numbers.{little_number-reads_back}
use Rattle.ta_isa.specs.declared.boot.App.{App}
use Rattle.ta_isa.specs.declared.boot.Boot.{Boot}
use Rattle.ta_isa.specs.Reading.{image_of}
use Rattle.ta_isa.specs.Spelling.{spelling as image_spelling}
use Rattle.trace_text.specs.declared.fault.BadKind.{BadKind}
use Rattle.trace_text.specs.declared.fault.BadKind.TheVariants as bad
use Rattle.trace_text.specs.declared.item.Item.{Item}
use Rattle.trace_text.specs.declared.item.Item.TheVariants as item
use Rattle.trace_text.specs.declared.item.Reg.{Reg}
use Rattle.trace_text.specs.declared.item.Reg.TheVariants.{Num}
use Rattle.trace_text.specs.declared.trace.Fill.{Fill}
use Rattle.trace_text.specs.Limits.{Front, first_broken, inside_after, is_image, is_inside, is_known, is_within, key_place, lies_in_ram, no_front, no_key, scene_of, uuids_of, with_item}
use Rattle.trace_text.specs.Sound.{can_come, IsPartOfRam, IsSoundFill, IsSoundItem, IsSoundReg}
use Rattle.trace_bin.specs.declared.record_kind.RecordKind.{RecordKind}
use Rattle.trace_bin.specs.declared.record_kind.RecordKind.TheVariants as kind
use Rattle.trace_bin.specs.Record.{is_whole, kind_tagged, number}
use Rattle.trace_bin.specs.Rules.{added, after_record, app_in, behind_record, boot_rules, entry_rules, fill_in, leave_rules, mem_rules, record_rules, registers_in, rules_of, show_rules, steps_in, ta_rules, write_rules}
use Rattle.trace_bin.specs.Spelling.{app_record, boot_record, call_bytes, counted, fill_record, item_record}
use Rattle.trace_bin.proofs.Payload.{counted_body}
use Rattle.trace_bin.proofs.Registers.{eight_are, entry_body}

-- ---- rules that are kept

abbrev pub IsKept : BadKind × Bool → Type 0
IsKept rule = rule.1 ≡ true

pub none_broken : (rules : List (BadKind × Bool)) → AllByRecursion IsKept rules → first_broken rules ≡ None
none_broken [] h = refl
none_broken ((kind, passed) ∷ rules) (e, more) = ap (λ (b : Bool). cond b (first_broken rules) (Some kind)) e ∙ none_broken rules more

pub within : (least most n : ℕ) → least ≤ n → n ≤ most → is_within least most n ≡ true
within least most n low high = and_from _ _ (le-leb least n low) (le-leb n most high)

pub in_ram : (addr len : ℕ) → IsPartOfRam addr len → lies_in_ram addr len ≡ true
unfolding lies_in_ram
in_ram addr len part = and_from _ _ (le-leb 0x4000_0000 addr part.in_ram.0) (le-leb (addr + len) 0x4040_0000 part.in_ram.1)

-- ---- records in front of others

abbrev pub front_of : Boot → Bool → List Fill → List Item → Front
front_of boot keyed fills items = record { boot = Some boot; fills = fills; items = items; keyed = keyed }

-- the record in front of these bytes keeps its rules and leads to this trace, and the rest stands behind it
pub record IsRead (natives : List (List ℕ)) (before : Front) (bytes rest : List ℕ) (after : Front) : Type 0 where
  pub kept : first_broken (record_rules natives before bytes) ≡ None
  pub adds : after_record before bytes ≡ after
  pub behind : behind_record bytes ≡ rest

pub boot_read : (natives : List (List ℕ)) (cpus threads frames : ℕ) (rest : List ℕ) → 1 ≤ cpus → cpus ≤ 8 → 1 ≤ threads → threads ≤ 16 → 1 ≤ frames → frames ≤ 1024
    → IsRead natives no_front (boot_record (record { cpus = cpus; threads = threads; frames = frames; apps = []; key = no_key }) ++ rest) rest (front_of (record { cpus = cpus; threads = threads; frames = frames; apps = []; key = no_key }) false [] [])
unfolding record_rules after_record behind_record kind_tagged is_whole rules_of added
boot_read natives cpus threads frames rest c0 c1 t0 t1 f0 f1 =
    let body : List ℕ = cpus ∷ threads ∷ little_bytes 2 frames ++ rest in
    let said : number 2 2 body ≡ frames = little_number-reads_back 2 frames [] (omega arith) in
    let long : leb 4 (length body) ≡ true = le-leb 4 (length body) (omega arith) in
    record {
      kept =
          none_broken ((bad.Cut, is_whole kind.Boot body) ∷ boot_rules no_front body)
          (and_from _ _ long long, (refl, (within 1 8 cpus c0 c1, (within 1 16 threads t0 t1, (within 1 1024 (number 2 2 body) (omega (arith, said)) (omega (arith, said)), tt)))));
      adds = ap (λ (n : ℕ). front_of (record { cpus = cpus; threads = threads; frames = n; apps = []; key = no_key }) false [] []) said;
      behind = refl;
    }

pub app_read : (natives : List (List ℕ)) (boot : Boot) (app : App) (rest : List ℕ) → length app.uuid ≡ 16 → 0 < length (image_spelling app.image) → length (image_spelling app.image) < 2 ^ 32
    → ltb (length boot.apps) 16 ≡ true → is_known natives (uuids_of boot.apps) app.uuid ≡ false → is_image (image_spelling app.image) ≡ true → image_of (image_spelling app.image) ≡ app.image
    → IsRead natives (front_of boot false [] []) (app_record app ++ rest) rest (front_of (record boot { apps = boot.apps ++ app ∷ [] }) false [] [])
unfolding app_record record_rules after_record behind_record kind_tagged rules_of added
app_read natives boot app rest sixteen some few room new loads same =
    let image : List ℕ = image_spelling app.image in
    let body : List ℕ = (app.uuid ++ counted image) ++ rest in
    let whole = counted_body kind.Ta app.uuid image rest refl (omega (arith, sixteen)) few in
    let id : take 16 body ≡ app.uuid = ap (λ (n : ℕ). take n body) (sym sixteen) ∙ ap (take (length app.uuid)) (append_assoc app.uuid (counted image) rest) ∙ take-append_seam app.uuid (counted image ++ rest) in
    let before : Front = front_of boot false [] [] in
    let unknown : not (is_known natives (uuids_of boot.apps) (take 16 body)) ≡ true = ap (λ (u : List ℕ). not (is_known natives (uuids_of boot.apps) u)) id ∙ not_from_false _ new in
    let few_apps : ltb (length (uuids_of boot.apps)) 16 ≡ true = ap (λ (n : ℕ). ltb n 16) (length-map boot.apps (λ (a : App). a.uuid)) ∙ room in
    record {
      kept =
          ap (λ (p : List ℕ). first_broken ((bad.Cut, is_whole kind.Ta body) ∷ ta_rules natives before body p)) whole.bytes_are
          ∙ none_broken ((bad.Cut, is_whole kind.Ta body) ∷ ta_rules natives before body image) (whole.whole, (refl, (refl, (lt-ltb 0 (length image) some, (few_apps, (unknown, (loads, tt)))))));
      adds =
          ap (λ (p : List ℕ). front_of (record boot { apps = boot.apps ++ app_in body p ∷ [] }) false [] []) whole.bytes_are
          ∙ ap (λ (u : List ℕ). front_of (record boot { apps = boot.apps ++ record { uuid = u; image = image_of image } ∷ [] }) false [] []) id
          ∙ ap (λ (i : _). front_of (record boot { apps = boot.apps ++ record { uuid = app.uuid; image = i } ∷ [] }) false [] []) same;
      behind = whole.behind;
    }

pub fill_read : (natives : List (List ℕ)) (boot : Boot) (keyed : Bool) (fills : List Fill) (fill : Fill) (rest : List ℕ) → IsSoundFill fill → IsRead natives (front_of boot keyed fills []) (fill_record fill ++ rest) rest (front_of boot keyed (fills ++ fill ∷ []) [])
unfolding fill_record record_rules after_record behind_record kind_tagged rules_of added
fill_read natives boot keyed fills fill rest sound =
    let bytes : List ℕ = fill.bytes in
    let body : List ℕ = (little_bytes 8 fill.addr ++ counted bytes) ++ rest in
    let high = sound.in_ram.1 in
    let whole = counted_body kind.Mem (little_bytes 8 fill.addr) bytes rest refl refl (omega (arith, high)) in
    let at : number 8 0 body ≡ fill.addr = little_number-reads_back 8 fill.addr [] (omega (arith, high)) in
    let before : Front = front_of boot keyed fills [] in
    let there : lies_in_ram (number 8 0 body) (length bytes) ≡ true = ap (λ (a : ℕ). lies_in_ram a (length bytes)) at ∙ in_ram fill.addr (length bytes) sound in
    record {
      kept =
          ap (λ (p : List ℕ). first_broken ((bad.Cut, is_whole kind.Mem body) ∷ mem_rules before body p)) whole.bytes_are
          ∙ none_broken ((bad.Cut, is_whole kind.Mem body) ∷ mem_rules before body bytes) (whole.whole, (refl, (refl, (lt-ltb 0 (length bytes) sound.some, (there, tt)))));
      adds =
          ap (λ (p : List ℕ). front_of boot keyed (fills ++ fill_in body p ∷ []) []) whole.bytes_are
          ∙ ap (λ (a : ℕ). front_of boot keyed (fills ++ record { addr = a; bytes = bytes } ∷ []) []) at;
      behind = whole.behind;
    }

-- a key of 32 bytes, behind a boot without one
pub key_read : (natives : List (List ℕ)) (boot : Boot) (key rest : List ℕ) → length key ≡ 32 → IsRead natives (front_of boot false [] []) (0x04 ∷ key ++ rest) rest (front_of (record boot { key = key }) true [] [])
unfolding record_rules after_record behind_record kind_tagged is_whole rules_of added
key_read natives boot key rest whole =
    let body : List ℕ = key ++ rest in
    let long : leb 32 (length body) ≡ true = le-leb 32 (length body) (omega (arith, length-append key rest)) in
    let is : take 32 body ≡ key = take_at key rest 32 whole in
    record {
      kept = none_broken ((bad.Cut, is_whole kind.Key body) ∷ key_place (scene_of (front_of boot false [] []))) (and_from _ _ long long, (refl, (refl, (refl, tt))));
      adds = ap (λ (k : List ℕ). front_of (record boot { key = k }) true [] []) is;
      behind = drop_at key rest 32 whole;
    }

-- ---- items

abbrev ReadsItem : List (List ℕ) → Boot → Bool → List Fill → List Item → Item → List ℕ → Type 0
ReadsItem natives boot keyed fills items i rest = IsRead natives (front_of boot keyed fills items) (item_record i ++ rest) rest (front_of boot keyed fills (items ++ i ∷ []))

-- a call that comes in keeps the rules of its record, of either kind, and adds the item that is made of it
record IsEntryRead (boot : Boot) (keyed : Bool) (fills : List Fill) (items : List Item) (kind : RecordKind) (body : List ℕ) (make : ℕ → List Reg → Item) (steps : ℕ) (regs : List Reg) : Type 0 where
  pub kept : first_broken ((bad.Cut, is_whole kind body) ∷ entry_rules (front_of boot keyed fills items) body) ≡ None
  pub adds : with_item (front_of boot keyed fills items) (make (steps_in body) (registers_in body)) ≡ with_item (front_of boot keyed fills items) (make steps regs)

entry_read : (boot : Boot) (keyed : Bool) (fills : List Fill) (items : List Item) (kind : RecordKind) (make : ℕ → List Reg → Item) (cpu steps : ℕ) (r0 r1 r2 r3 r4 r5 r6 r7 : Reg) (rest : List ℕ) → cpu < boot.cpus → 1 ≤ steps → steps ≤ 1000000 → AllByRecursion IsSoundReg (r0 ∷ r1 ∷ r2 ∷ r3 ∷ r4 ∷ r5 ∷ r6 ∷ r7 ∷ [])
    → not (is_inside items cpu) ≡ true → (leb 45 (length (call_bytes cpu steps (r0 ∷ r1 ∷ r2 ∷ r3 ∷ r4 ∷ r5 ∷ r6 ∷ r7 ∷ []) ++ rest)) ≡ true → is_whole kind (call_bytes cpu steps (r0 ∷ r1 ∷ r2 ∷ r3 ∷ r4 ∷ r5 ∷ r6 ∷ r7 ∷ []) ++ rest) ≡ true)
    → IsEntryRead boot keyed fills items kind (call_bytes cpu steps (r0 ∷ r1 ∷ r2 ∷ r3 ∷ r4 ∷ r5 ∷ r6 ∷ r7 ∷ []) ++ rest) make steps (r0 ∷ r1 ∷ r2 ∷ r3 ∷ r4 ∷ r5 ∷ r6 ∷ r7 ∷ [])
entry_read boot keyed fills items kind make cpu steps r0 r1 r2 r3 r4 r5 r6 r7 rest there some few sound outside is_long =
    let regs : List Reg = r0 ∷ r1 ∷ r2 ∷ r3 ∷ r4 ∷ r5 ∷ r6 ∷ r7 ∷ [] in
    let body : List ℕ = call_bytes cpu steps regs ++ rest in
    let said = entry_body cpu steps r0 r1 r2 r3 r4 r5 r6 r7 rest (omega arith) sound in
    let long : leb 45 (length body) ≡ true = le-leb 45 (length body) said.long in
    let granted : is_within 1 1000000 (steps_in body) ≡ true = ap (is_within 1 1000000) said.steps_are ∙ within 1 1000000 steps some few in
    let before : Front = front_of boot keyed fills items in
    record {
      kept =
          none_broken ((bad.Cut, is_whole kind body) ∷ entry_rules before body)
          (is_long long, (refl, (said.forms, (said.fit, (granted, (lt-ltb cpu boot.cpus there, (outside, tt)))))));
      adds = ap (λ (n : ℕ). with_item before (make n (registers_in body))) said.steps_are ∙ ap (λ (rs : List Reg). with_item before (make steps rs)) said.regs_are;
    }

smc_read : (natives : List (List ℕ)) (boot : Boot) (keyed : Bool) (fills : List Fill) (items : List Item) (cpu steps : ℕ) (r0 r1 r2 r3 r4 r5 r6 r7 : Reg) (rest : List ℕ) → cpu < boot.cpus → 1 ≤ steps → steps ≤ 1000000 → AllByRecursion IsSoundReg (r0 ∷ r1 ∷ r2 ∷ r3 ∷ r4 ∷ r5 ∷ r6 ∷ r7 ∷ [])
    → not (is_inside items cpu) ≡ true → ReadsItem natives boot keyed fills items (item.Smc cpu steps (r0 ∷ r1 ∷ r2 ∷ r3 ∷ r4 ∷ r5 ∷ r6 ∷ r7 ∷ [])) rest
unfolding item_record record_rules after_record behind_record kind_tagged is_whole rules_of added
smc_read natives boot keyed fills items cpu steps r0 r1 r2 r3 r4 r5 r6 r7 rest there some few sound outside =
    let read = entry_read boot keyed fills items kind.Smc (item.Smc cpu) cpu steps r0 r1 r2 r3 r4 r5 r6 r7 rest there some few sound outside (λ long. and_from _ _ long long) in
    record { kept = read.kept; adds = read.adds; behind = refl }

enter_read : (natives : List (List ℕ)) (boot : Boot) (keyed : Bool) (fills : List Fill) (items : List Item) (cpu steps : ℕ) (r0 r1 r2 r3 r4 r5 r6 r7 : Reg) (rest : List ℕ) → cpu < boot.cpus → 1 ≤ steps → steps ≤ 1000000 → AllByRecursion IsSoundReg (r0 ∷ r1 ∷ r2 ∷ r3 ∷ r4 ∷ r5 ∷ r6 ∷ r7 ∷ [])
    → not (is_inside items cpu) ≡ true → ReadsItem natives boot keyed fills items (item.Enter cpu steps (r0 ∷ r1 ∷ r2 ∷ r3 ∷ r4 ∷ r5 ∷ r6 ∷ r7 ∷ [])) rest
unfolding item_record record_rules after_record behind_record kind_tagged is_whole rules_of added
enter_read natives boot keyed fills items cpu steps r0 r1 r2 r3 r4 r5 r6 r7 rest there some few sound outside =
    let read = entry_read boot keyed fills items kind.Enter (item.Enter cpu) cpu steps r0 r1 r2 r3 r4 r5 r6 r7 rest there some few sound outside (λ long. and_from _ _ long long) in
    record { kept = read.kept; adds = read.adds; behind = refl }

leave_read : (natives : List (List ℕ)) (boot : Boot) (keyed : Bool) (fills : List Fill) (items : List Item) (cpu : ℕ) (rest : List ℕ) → cpu < boot.cpus → is_inside items cpu ≡ true → ReadsItem natives boot keyed fills items (item.Leave cpu) rest
unfolding item_record record_rules after_record behind_record kind_tagged is_whole rules_of added
leave_read natives boot keyed fills items cpu rest there inside =
    let body : List ℕ = cpu ∷ rest in
    let long : leb 1 (length body) ≡ true = le-leb 1 (length body) (omega arith) in
    record {
      kept = none_broken ((bad.Cut, is_whole kind.Leave body) ∷ leave_rules (front_of boot keyed fills items) body) (and_from _ _ long long, (refl, (lt-ltb cpu boot.cpus there, (inside, tt))));
      adds = refl;
      behind = refl;
    }

write_read : (natives : List (List ℕ)) (boot : Boot) (keyed : Bool) (fills : List Fill) (items : List Item) (cpu addr : ℕ) (bytes rest : List ℕ) → cpu < boot.cpus → IsPartOfRam addr (length bytes) → ReadsItem natives boot keyed fills items (item.Write cpu addr bytes) rest
unfolding item_record record_rules after_record behind_record kind_tagged rules_of added
write_read natives boot keyed fills items cpu addr bytes rest there part =
    let front : List ℕ = cpu ∷ little_bytes 8 addr in
    let body : List ℕ = (front ++ counted bytes) ++ rest in
    let high = part.in_ram.1 in
    let whole = counted_body kind.Write front bytes rest refl refl (omega (arith, high)) in
    let at : number 8 1 body ≡ addr = little_number-reads_back 8 addr [] (omega (arith, high)) in
    let before : Front = front_of boot keyed fills items in
    let lies : lies_in_ram (number 8 1 body) (length bytes) ≡ true = ap (λ (a : ℕ). lies_in_ram a (length bytes)) at ∙ in_ram addr (length bytes) part in
    record {
      kept =
          ap (λ (p : List ℕ). first_broken ((bad.Cut, is_whole kind.Write body) ∷ write_rules before body p)) whole.bytes_are
          ∙ none_broken ((bad.Cut, is_whole kind.Write body) ∷ write_rules before body bytes) (whole.whole, (refl, (lt-ltb 0 (length bytes) part.some, (lies, (lt-ltb cpu boot.cpus there, tt)))));
      adds =
          ap (λ (p : List ℕ). with_item before (item.Write cpu (number 8 1 body) p)) whole.bytes_are
          ∙ ap (λ (a : ℕ). with_item before (item.Write cpu a bytes)) at;
      behind = whole.behind;
    }

show_read : (natives : List (List ℕ)) (boot : Boot) (keyed : Bool) (fills : List Fill) (items : List Item) (cpu addr len : ℕ) (rest : List ℕ) → cpu < boot.cpus → IsPartOfRam addr len → len ≤ 4096 → ReadsItem natives boot keyed fills items (item.Show cpu addr len) rest
unfolding item_record record_rules after_record behind_record kind_tagged is_whole rules_of added
show_read natives boot keyed fills items cpu addr len rest there part few =
    let body : List ℕ = (cpu ∷ little_bytes 8 addr ++ little_bytes 4 len) ++ rest in
    let long : leb 13 (length body) ≡ true = le-leb 13 (length body) (omega arith) in
    let high = part.in_ram.1 in
    let at : number 8 1 body ≡ addr = little_number-reads_back 8 addr [] (omega (arith, high)) in
    let many : number 4 9 body ≡ len = little_number-reads_back 4 len [] (omega (arith, few)) in
    let before : Front = front_of boot keyed fills items in
    let lies : lies_in_ram (number 8 1 body) (number 4 9 body) ≡ true = ap (λ (a : ℕ). lies_in_ram a (number 4 9 body)) at ∙ ap (lies_in_ram addr) many ∙ in_ram addr len part in
    let shown : is_within 1 4096 (number 4 9 body) ≡ true = ap (is_within 1 4096) many ∙ within 1 4096 len part.some few in
    record {
      kept = none_broken ((bad.Cut, is_whole kind.Show body) ∷ show_rules before body) (and_from _ _ long long, (refl, (shown, (lies, (lt-ltb cpu boot.cpus there, tt)))));
      adds = ap (λ (a : ℕ). with_item before (item.Show cpu a (number 4 9 body))) at ∙ ap (λ (n : ℕ). with_item before (item.Show cpu addr n)) many;
      behind = refl;
    }

-- an item that can come where these processors are inside
pub item_read : (natives : List (List ℕ)) (boot : Boot) (keyed : Bool) (fills : List Fill) (items : List Item) (i : Item) (rest : List ℕ) → IsSoundItem boot.cpus i → can_come (inside_after items) i ≡ true → ReadsItem natives boot keyed fills items i rest
item_read natives boot keyed fills items (item.Smc cpu steps regs) rest sound comes =
    let none : Reg = Num 0 in
    let eight = eight_are regs none sound.eight in
    let P : List Reg → Type 0 = λ rs. ReadsItem natives boot keyed fills items (item.Smc cpu steps rs) rest in
    let all : AllByRecursion IsSoundReg regs = recursion_from_All IsSoundReg regs sound.registers in
    let Q : List Reg → Type 0 = λ rs. AllByRecursion IsSoundReg rs in
    subst P (sym eight) (smc_read natives boot keyed fills items cpu steps _ _ _ _ _ _ _ _ rest sound.processor sound.some_step sound.few_steps (subst Q eight all) comes)
item_read natives boot keyed fills items (item.Enter cpu steps regs) rest sound comes =
    let none : Reg = Num 0 in
    let eight = eight_are regs none sound.eight in
    let P : List Reg → Type 0 = λ rs. ReadsItem natives boot keyed fills items (item.Enter cpu steps rs) rest in
    let all : AllByRecursion IsSoundReg regs = recursion_from_All IsSoundReg regs sound.registers in
    let Q : List Reg → Type 0 = λ rs. AllByRecursion IsSoundReg rs in
    subst P (sym eight) (enter_read natives boot keyed fills items cpu steps _ _ _ _ _ _ _ _ rest sound.processor sound.some_step sound.few_steps (subst Q eight all) comes)
item_read natives boot keyed fills items (item.Leave cpu) rest sound comes = leave_read natives boot keyed fills items cpu rest sound comes
item_read natives boot keyed fills items (item.Write cpu addr bytes) rest sound comes = write_read natives boot keyed fills items cpu addr bytes rest sound.0 sound.1
item_read natives boot keyed fills items (item.Show cpu addr len) rest sound comes = show_read natives boot keyed fills items cpu addr len rest sound.0 sound.1 sound.2
