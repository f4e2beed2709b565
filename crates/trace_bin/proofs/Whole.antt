-- The bytes that are written of a trace within its limits are read as that trace.
use Rattle.std.proofs.Common.{◌≡◌, ℕ, suc, ◌+◌, ◌^◌, ◌<◌, Bool, true, false, cond, ltb, List, [], ◌∷◌, ◌++◌, length, get_or, append_assoc, Option, Some, None, is_none, Ok, refl, sym, subst, ap, ◌∙◌, arith}
use Rattle.std.specs.Prelude.{not, All, IsSomeAnd, nat_eq, ◌||◌}
use Rattle.std.specs.List.{AllByRecursion, flat_map, list_any, starts_with}
use Rattle.std.specs.Str.{bytes_eq}
use Rattle.std.proofs.Math.Seq.{get_or-append_seam}
use Rattle.std.proofs.lemmas.Bool.{le-ltb, lt-ltb, not-true}
use Rattle.std.proofs.lemmas.List.{append-nil, get_or_append_left, length-append}
use Rattle.std.proofs.lemmas.List.Elements.{recursion_from_All}
use Rattle.std.proofs.lemmas.List.Folds.{list_any_none}
use Rattle.std.proofs.lemmas.Slice.Eq.{bytes_eq-Decides}
use Rattle.ta_isa.specs.declared.boot.App.{App}
use Rattle.ta_isa.specs.declared.boot.Boot.{Boot}
use Rattle.ta_isa.specs.declared.image.Image.{Image}
use Rattle.ta_isa.specs.declared.image_fault.ImageFault.{ImageFault}
use Rattle.ta_isa.specs.Reading.{answer, fault_of, image_of}
use Rattle.ta_isa.specs.Spelling.{IsValid, spelling as image_spelling}
use Rattle.ta_isa.proofs.Again.{spelling-again}
use Rattle.trace_text.specs.declared.fault.BadKind.TheVariants as bad
use Rattle.trace_text.specs.declared.item.Item.{Item}
use Rattle.trace_text.specs.declared.trace.Fill.{Fill}
use Rattle.trace_text.specs.declared.trace.Trace.{Trace}
use Rattle.trace_text.specs.Limits.{Front, apps_of, inside_after, is_image, is_known, no_front, no_key, uuids_of}
use Rattle.trace_text.proofs.SoundLaws.{any_uuid}
use Rattle.trace_text.specs.Sound.{ComeInTurn, IsSound, IsSoundBoot, IsSoundFill, IsSoundItem}
use Rattle.trace_text.proofs.Inside.{inside_push}
use Rattle.trace_bin.specs.Rules.{behind_record}
use Rattle.trace_bin.specs.Grammar.{front_fault, Leads, magic, magic_fault, Spells}
use Rattle.trace_bin.specs.Spelling.{app_record, boot_record, fill_record, HasKey, item_record, IsIdentified, key_records, spelling, WrittenIsRead}
use Rattle.trace_bin.proofs.Lengths.{few_bytes, some_bytes}
use Rattle.trace_bin.proofs.Again.{app_read, boot_read, fill_read, front_of, IsRead, item_read, key_read}

-- records lead from a trace to the last one, and nothing stands behind them
abbrev LeadsTo : List (List ℕ) → Front → List ℕ → Front → Type 0
LeadsTo natives before bytes last = (count : ℕ) × Leads natives before bytes count last []

-- a record in front of others
in_front : (natives : List (List ℕ)) (before mid last : Front) (bytes rest : List ℕ) → IsRead natives before bytes rest mid → LeadsTo natives mid rest last → LeadsTo natives before bytes last
in_front natives before mid last bytes rest r (count, more) =
    let P : Front → Type 0 = λ t. Leads natives t (behind_record bytes) count last [] in
    let Q : List ℕ → Type 0 = λ b. Leads natives mid b count last [] in
    (suc count, (r.kept, subst P (sym r.adds) (subst Q (sym r.behind) more)))

-- ---- items

items_lead : (natives : List (List ℕ)) (boot : Boot) (keyed : Bool) (fills : List Fill) (done items : List Item) → AllByRecursion (IsSoundItem boot.cpus) items → ComeInTurn (inside_after done) items
    → LeadsTo natives (front_of boot keyed fills done) (flat_map item_record items) (front_of boot keyed fills (done ++ items))
items_lead natives boot keyed fills done [] all turn = (0, (ap (λ (is : List Item). front_of boot keyed fills is) (sym (append-nil done)), refl))
items_lead natives boot keyed fills done (i ∷ items) (sound, all) (comes, turn) =
    let T : List Bool → Type 0 = λ inside. ComeInTurn inside items in
    let later = items_lead natives boot keyed fills (done ++ i ∷ []) items all (subst T (sym (inside_push done i)) turn) in
    let L : List Item → Type 0 = λ is. LeadsTo natives (front_of boot keyed fills (done ++ i ∷ [])) (flat_map item_record items) (front_of boot keyed fills is) in
    in_front natives (front_of boot keyed fills done) (front_of boot keyed fills (done ++ i ∷ [])) (front_of boot keyed fills (done ++ i ∷ items)) (item_record i ++ flat_map item_record items) (flat_map item_record items)
    (item_read natives boot keyed fills done i (flat_map item_record items) sound comes) (subst L (append_assoc done (i ∷ []) items) later)

-- ---- fills

fills_lead : (natives : List (List ℕ)) (boot : Boot) (keyed : Bool) (done fills : List Fill) (more : List ℕ) (last : Front) → AllByRecursion IsSoundFill fills → LeadsTo natives (front_of boot keyed (done ++ fills) []) more last
    → LeadsTo natives (front_of boot keyed done []) (flat_map fill_record fills ++ more) last
fills_lead natives boot keyed done [] more last all later =
    let L : List Fill → Type 0 = λ fs. LeadsTo natives (front_of boot keyed fs []) more last in
    subst L (append-nil done) later
fills_lead natives boot keyed done (fill ∷ fills) more last (sound, all) later =
    let L : List Fill → Type 0 = λ fs. LeadsTo natives (front_of boot keyed fs []) more last in
    let behind : List ℕ = flat_map fill_record fills ++ more in
    let next = fills_lead natives boot keyed (done ++ fill ∷ []) fills more last all (subst L (sym (append_assoc done (fill ∷ []) fills)) later) in
    let B : List ℕ → Type 0 = λ bytes. LeadsTo natives (front_of boot keyed done []) bytes last in
    subst B (sym (append_assoc (fill_record fill) (flat_map fill_record fills) more))
    (in_front natives (front_of boot keyed done []) (front_of boot keyed (done ++ fill ∷ []) []) last (fill_record fill ++ behind) behind (fill_read natives boot keyed done fill behind sound) next)

-- ---- applications

answered : (fault : Option ImageFault) (read image : Image) → answer fault read ≡ Ok image → (is_none fault ≡ true) × (read ≡ image)
answered None read image e = (refl, cc)
answered (Some fault) read image e = absurd cc

pub record IsLoaded (image : Image) : Type 0 where
  pub loads : is_image (image_spelling image) ≡ true
  pub same : image_of (image_spelling image) ≡ image
  pub some : 0 < length (image_spelling image)
  pub few : length (image_spelling image) < 2 ^ 32

pub loaded : (image : Image) → IsValid image → IsLoaded image
unfolding is_image
loaded image valid =
    let p = answered (fault_of (image_spelling image)) (image_of (image_spelling image)) image (spelling-again image valid) in
    record { loads = p.0; same = p.1; some = some_bytes image valid; few = few_bytes image valid }

-- an application can stand behind these
pub record Follows (natives : List (List ℕ)) (done : List App) (app : App) : Type 0 where
  pub id : length app.uuid ≡ 16
  pub valid : IsValid app.image
  pub room : ltb (length done) 16 ≡ true
  pub new : is_known natives (uuids_of done) app.uuid ≡ false

abbrev pub FollowInTurn : List (List ℕ) → List App → List App → Type 0
FollowInTurn natives done [] = Unit {0}
FollowInTurn natives done (app ∷ apps) = Follows natives done app × FollowInTurn natives (done ++ app ∷ []) apps

-- the boot with these applications, before its key
abbrev pub with_apps : Boot → List App → Boot
with_apps boot apps = record { cpus = boot.cpus; threads = boot.threads; frames = boot.frames; apps = apps; key = no_key }

apps_lead : (natives : List (List ℕ)) (boot : Boot) (done apps : List App) (more : List ℕ) (last : Front) → FollowInTurn natives done apps → LeadsTo natives (front_of (with_apps boot (done ++ apps)) false [] []) more last
    → LeadsTo natives (front_of (with_apps boot done) false [] []) (flat_map app_record apps ++ more) last
apps_lead natives boot done [] more last all later =
    let L : List App → Type 0 = λ list. LeadsTo natives (front_of (with_apps boot list) false [] []) more last in
    subst L (append-nil done) later
apps_lead natives boot done (app ∷ apps) more last (f, all) later =
    let L : List App → Type 0 = λ list. LeadsTo natives (front_of (with_apps boot list) false [] []) more last in
    let behind : List ℕ = flat_map app_record apps ++ more in
    let next = apps_lead natives boot (done ++ app ∷ []) apps more last all (subst L (sym (append_assoc done (app ∷ []) apps)) later) in
    let B : List ℕ → Type 0 = λ bytes. LeadsTo natives (front_of (with_apps boot done) false [] []) bytes last in
    let image = loaded app.image f.valid in
    subst B (sym (append_assoc (app_record app) (flat_map app_record apps) more))
    (in_front natives (front_of (with_apps boot done) false [] []) (front_of (with_apps boot (done ++ app ∷ [])) false [] []) last (app_record app ++ behind) behind
    (app_read natives (with_apps boot done) app behind f.id image.some image.few f.room f.new image.loads image.same) next)

or_false : (a b : Bool) → a ≡ false → b ≡ false → (a || b) ≡ false
or_false a b e f = ap (λ (x : Bool). x || b) e ∙ f

-- the application at a place of all of them
follows : (natives : List (List ℕ)) (boot : Boot) (done : List App) (app : App) (apps : List App) → IsSoundBoot natives boot → All IsIdentified boot.apps → boot.apps ≡ done ++ app ∷ apps → Follows natives done app
unfolding is_known
follows natives boot done app apps sound ids is =
    let all : List App = done ++ app ∷ apps in
    let len : length boot.apps ≡ length done + length (app ∷ apps) = ap (λ (list : List App). length list) is ∙ length-append done (app ∷ apps) in
    let below : length done < length boot.apps = omega (arith, len) in
    let here : (d : App) → get_or boot.apps (length done) d ≡ app = λ d. ap (λ (list : List App). get_or list (length done) d) is ∙ get_or-append_seam done app apps d in
    let before : (k : ℕ) (d : App) → k < length done → get_or boot.apps k d ≡ get_or done k d = λ k d lt. ap (λ (list : List App). get_or list k d) is ∙ get_or_append_left done (app ∷ apps) d k lt in
    let I : App → Type 0 = λ a. length a.uuid ≡ 16 in
    let V : App → Type 0 = λ a. IsValid a.image in
    let N : App → Type 0 = λ a. not (list_any (λ native. bytes_eq native a.uuid) natives) ≡ true in
    let few = sound.boots.few_apps in
    let others : list_any (λ a. bytes_eq a.uuid app.uuid) done ≡ false =
    list_any_none (λ a. bytes_eq a.uuid app.uuid) done (λ k d lt.
    let apart : not (bytes_eq (get_or boot.apps k d).uuid (get_or boot.apps (length done) d).uuid) ≡ true = sound.boots.apart k (length done) d lt below in
    let moved_one : not (bytes_eq (get_or done k d).uuid (get_or boot.apps (length done) d).uuid) ≡ true = subst (λ (a : App). not (bytes_eq a.uuid (get_or boot.apps (length done) d).uuid) ≡ true) (before k d lt) apart in
    not-true _ (subst (λ (a : App). not (bytes_eq (get_or done k d).uuid a.uuid) ≡ true) (here d) moved_one)) in
    record {
      id = subst I (here app) (ids (length done) app below);
      valid = subst V (here app) (sound.boots.valid (length done) app below);
      room = lt-ltb (length done) 16 (omega (arith, len, few));
      new = or_false _ _ (any_uuid done app.uuid ∙ others) (not-true _ (subst N (here app) (sound.no_native (length done) app below)));
    }

pub follow_in_turn : (natives : List (List ℕ)) (boot : Boot) (done apps : List App) → IsSoundBoot natives boot → All IsIdentified boot.apps → boot.apps ≡ done ++ apps → FollowInTurn natives done apps
follow_in_turn natives boot done [] sound ids is = tt
follow_in_turn natives boot done (app ∷ apps) sound ids is =
    (follows natives boot done app apps sound ids is, follow_in_turn natives boot (done ++ app ∷ []) apps sound ids (is ∙ sym (append_assoc done (app ∷ []) apps)))

-- ---- the whole

begins : (rest : List ℕ) → magic_fault (magic ++ rest) ≡ None
unfolding front_fault
begins rest =
    let bytes : List ℕ = magic ++ rest in
    ap (λ (b : Bool). cond b (Some bad.Cut) (cond (starts_with nat_eq bytes magic) None (Some bad.Item))) (le-ltb (length bytes) 4 (omega arith))

abbrev trace_of : Boot → List Fill → List Item → Trace
trace_of boot fills items = record { boot = Some boot; fills = fills; items = items }

-- a key of zeros has no record
pub zero_key : (boot : Boot) → boot.key ≡ no_key → with_apps boot boot.apps ≡ boot
zero_key boot zeros = ap (λ (key : List ℕ). record boot { key = key }) (sym zeros)

-- the key stands behind the applications
key_leads : (natives : List (List ℕ)) (boot : Boot) (same : Bool) (more : List ℕ) (last : Front) → HasKey boot → (same ≡ true → boot.key ≡ no_key)
    → LeadsTo natives (front_of boot (not same) [] []) more last → LeadsTo natives (front_of (with_apps boot boot.apps) false [] []) (cond same [] (0x04 ∷ boot.key) ++ more) last
key_leads natives boot true more last whole zeros later =
    let L : Boot → Type 0 = λ b. LeadsTo natives (front_of b false [] []) more last in
    subst L (sym (zero_key boot (zeros refl))) later
key_leads natives boot false more last whole zeros later =
    in_front natives (front_of (with_apps boot boot.apps) false [] []) (front_of boot true [] []) last (0x04 ∷ boot.key ++ more) more
    (key_read natives (with_apps boot boot.apps) boot.key more whole) later

written : (natives : List (List ℕ)) (boot : Boot) (fills : List Fill) (items : List Item) → IsSound natives (trace_of boot fills items) → HasKey boot → All IsIdentified boot.apps → Spells natives (spelling (trace_of boot fills items)) (trace_of boot fills items)
unfolding inside_after
written natives boot fills items sound whole ids =
    let limits = sound.boot.boots in
    let same : Bool = bytes_eq boot.key no_key in
    let keyed : Bool = not same in
    let apps_bytes : List ℕ = flat_map app_record boot.apps in
    let key_bytes : List ℕ = key_records boot.key in
    let fills_bytes : List ℕ = flat_map fill_record fills in
    let items_bytes : List ℕ = flat_map item_record items in
    let last : Front = front_of boot keyed fills items in
    let by_items = items_lead natives boot keyed fills [] items (recursion_from_All (IsSoundItem boot.cpus) items sound.items) sound.in_turn in
    let by_fills = fills_lead natives boot keyed [] fills items_bytes last (recursion_from_All IsSoundFill fills sound.fills) by_items in
    let by_key = key_leads natives boot same (fills_bytes ++ items_bytes) last whole (bytes_eq-Decides boot.key no_key).0 by_fills in
    let by_apps = apps_lead natives boot [] boot.apps (key_bytes ++ (fills_bytes ++ items_bytes)) last (follow_in_turn natives boot [] boot.apps sound.boot ids refl) by_key in
    let behind : List ℕ = apps_bytes ++ (key_bytes ++ (fills_bytes ++ items_bytes)) in
    let all = in_front natives no_front (front_of (with_apps boot []) false [] []) last (boot_record boot ++ behind) behind
    (boot_read natives boot.cpus boot.threads boot.frames behind limits.some_processor limits.few_processors limits.some_thread limits.few_threads limits.some_frame limits.few_frames) by_apps in
    let front : List ℕ = boot_record boot ++ apps_bytes ++ key_bytes in
    let grouped : boot_record boot ++ behind ≡ front ++ fills_bytes ++ items_bytes =
    sym (append_assoc (boot_record boot) apps_bytes (key_bytes ++ (fills_bytes ++ items_bytes)))
    ∙ sym (append_assoc (boot_record boot ++ apps_bytes) key_bytes (fills_bytes ++ items_bytes))
    ∙ sym (append_assoc front fills_bytes items_bytes) in
    let B : List ℕ → Type 0 = λ bytes. LeadsTo natives no_front bytes last in
    let leads = subst B grouped all in
    record {
      begins = begins (front ++ fills_bytes ++ items_bytes);
      count = leads.0;
      end = last;
      spelled = leads.1;
      trace_is = refl;
      no_end_fault = ap (λ (inside : List Bool). cond (list_any (λ i. i) inside) (Some bad.Unended) None) sound.ended;
    }

by_boot : (natives : List (List ℕ)) (boot : Option Boot) (fills : List Fill) (items : List Item) → IsSound natives (record { boot = boot; fills = fills; items = items }) → IsSomeAnd boot HasKey → All IsIdentified (apps_of boot)
    → Spells natives (spelling (record { boot = boot; fills = fills; items = items })) (record { boot = boot; fills = fills; items = items })
by_boot natives None fills items sound booted ids = absurd booted
by_boot natives (Some boot) fills items sound whole ids = written natives boot fills items sound whole ids

pub written_is_read : WrittenIsRead
written_is_read natives trace = by_boot natives trace.boot trace.fills trace.items
