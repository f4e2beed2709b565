-- The bytes that are written of a boot and events within their limits are read as them.
use Rattle.std.proofs.Common.{◌≡◌, ℕ, suc, ◌+◌, Bool, true, false, cond, List, [], ◌∷◌, ◌++◌, length, append_assoc, Some, None, refl, sym, subst, ap, ◌∙◌, arith}
use Rattle.std.specs.Prelude.{All, nat_eq, not}
use Rattle.std.specs.List.{AllByRecursion, flat_map, starts_with}
use Rattle.std.specs.Str.{bytes_eq}
use Rattle.std.proofs.lemmas.Bool.{le-ltb}
use Rattle.std.proofs.lemmas.List.{append-nil, length-append}
use Rattle.std.proofs.lemmas.List.Elements.{recursion_from_All}
use Rattle.std.proofs.lemmas.List.Sums.{get_or-le-sum_by}
use Rattle.std.proofs.lemmas.Slice.Eq.{bytes_eq-Decides}
use Rattle.ta_isa.specs.declared.boot.App.{App}
use Rattle.ta_isa.specs.declared.boot.Boot.{Boot}
use Rattle.event_journal.specs.declared.event.Event.{Event}
use Rattle.event_journal.specs.Event.{copied_by}
use Rattle.trace_text.specs.declared.fault.BadKind.TheVariants as bad
use Rattle.trace_text.specs.Limits.{no_key}
use Rattle.trace_bin.specs.Grammar.{front_fault}
use Rattle.trace_bin.specs.Spelling.{app_record, boot_record, HasKey, IsIdentified, key_records}
use Rattle.trace_bin.proofs.Whole.{follow_in_turn, FollowInTurn, loaded, with_apps, zero_key}
use Rattle.journal_bytes.specs.Record.{end_tag}
use Rattle.journal_bytes.specs.Recording.{nothing, Told}
use Rattle.journal_bytes.specs.Rules.{behind_record}
use Rattle.journal_bytes.specs.Grammar.{Leads, magic, magic_fault, Spells}
use Rattle.journal_bytes.specs.Sound.{HasRegs, IsSoundJournal}
use Rattle.journal_bytes.specs.Spelling.{event_record, key_count, spelling, SpellsBack, whole_with, WrittenIsRead}
use Rattle.journal_bytes.proofs.Again.{app_told, booted, boot_told, CanBeTold, event_told, IsTold, key_told}

-- a record in front of others
in_front : (natives : List (List ℕ)) (before mid last : Told) (bytes more rest : List ℕ) (count : ℕ) → IsTold natives before bytes more mid → Leads natives mid more count last rest → Leads natives before bytes (suc count) last rest
in_front natives before mid last bytes more rest count r later =
    let P : Told → Type 0 = λ t. Leads natives t (behind_record bytes) count last rest in
    let Q : List ℕ → Type 0 = λ b. Leads natives mid b count last rest in
    (r.kept, subst P (sym r.adds) (subst Q (sym r.behind) later))

events_lead : (natives : List (List ℕ)) (boot : Boot) (keyed : Bool) (done events : List Event) (rest : List ℕ) → AllByRecursion (CanBeTold boot.cpus) events
    → Leads natives (booted boot keyed done) (flat_map event_record events ++ rest) (length events) (booted boot keyed (done ++ events)) rest
events_lead natives boot keyed done [] rest all = (ap (booted boot keyed) (sym (append-nil done)), refl)
events_lead natives boot keyed done (event ∷ events) rest (can, all) =
    let more : List ℕ = flat_map event_record events ++ rest in
    let count = length events in
    let later = events_lead natives boot keyed (done ++ event ∷ []) events rest all in
    let E : List Event → Type 0 = λ es. Leads natives (booted boot keyed (done ++ event ∷ [])) more count (booted boot keyed es) rest in
    let B : List ℕ → Type 0 = λ bytes. Leads natives (booted boot keyed done) bytes (suc count) (booted boot keyed (done ++ event ∷ events)) rest in
    subst B (sym (append_assoc (event_record event) (flat_map event_record events) rest))
    (in_front natives (booted boot keyed done) (booted boot keyed (done ++ event ∷ [])) (booted boot keyed (done ++ event ∷ events)) (event_record event ++ more) more rest count (event_told natives boot keyed done event more can)
    (subst E (append_assoc done (event ∷ []) events) later))

apps_lead : (natives : List (List ℕ)) (boot : Boot) (done apps : List App) (more : List ℕ) (count : ℕ) (last : Told) (rest : List ℕ) → FollowInTurn natives done apps → Leads natives (booted (with_apps boot (done ++ apps)) false []) more count last rest
    → Leads natives (booted (with_apps boot done) false []) (flat_map app_record apps ++ more) (length apps + count) last rest
apps_lead natives boot done [] more count last rest all later =
    let L : List App → Type 0 = λ list. Leads natives (booted (with_apps boot list) false []) more count last rest in
    let C : ℕ → Type 0 = λ n. Leads natives (booted (with_apps boot done) false []) more n last rest in
    let none : count ≡ length {A = App} [] + count = omega arith in
    subst C none (subst L (append-nil done) later)
apps_lead natives boot done (app ∷ apps) more count last rest (f, all) later =
    let L : List App → Type 0 = λ list. Leads natives (booted (with_apps boot list) false []) more count last rest in
    let behind : List ℕ = flat_map app_record apps ++ more in
    let next = apps_lead natives boot (done ++ app ∷ []) apps more count last rest all (subst L (sym (append_assoc done (app ∷ []) apps)) later) in
    let many : suc (length apps + count) ≡ length (app ∷ apps) + count = omega arith in
    let B : List ℕ → Type 0 = λ bytes. Leads natives (booted (with_apps boot done) false []) bytes (length (app ∷ apps) + count) last rest in
    let C : ℕ → Type 0 = λ n. Leads natives (booted (with_apps boot done) false []) (app_record app ++ behind) n last rest in
    let image = loaded app.image f.valid in
    subst B (sym (append_assoc (app_record app) (flat_map app_record apps) more))
    (subst C many
    (in_front natives (booted (with_apps boot done) false []) (booted (with_apps boot (done ++ app ∷ [])) false []) last (app_record app ++ behind) behind rest (length apps + count)
    (app_told natives (with_apps boot done) app behind f.id image.some image.few f.room f.new image.loads image.same) next))

-- the key stands behind the applications; one of zeros has no record
key_leads : (natives : List (List ℕ)) (boot : Boot) (same : Bool) (more : List ℕ) (count : ℕ) (last : Told) (rest : List ℕ) → HasKey boot → (same ≡ true → boot.key ≡ no_key)
    → Leads natives (booted boot (not same) []) more count last rest → Leads natives (booted (with_apps boot boot.apps) false []) (cond same [] (0x04 ∷ boot.key) ++ more) (cond same 0 1 + count) last rest
key_leads natives boot true more count last rest whole zeros later =
    let L : Boot → Type 0 = λ b. Leads natives (booted b false []) more count last rest in
    let C : ℕ → Type 0 = λ n. Leads natives (booted (with_apps boot boot.apps) false []) more n last rest in
    let none : count ≡ 0 + count = omega arith in
    subst C none (subst L (sym (zero_key boot (zeros refl))) later)
key_leads natives boot false more count last rest whole zeros later =
    let C : ℕ → Type 0 = λ n. Leads natives (booted (with_apps boot boot.apps) false []) (0x04 ∷ boot.key ++ more) n last rest in
    let one : suc count ≡ 1 + count = omega arith in
    subst C one
    (in_front natives (booted (with_apps boot boot.apps) false []) (booted boot true []) last (0x04 ∷ boot.key ++ more) more rest count
    (key_told natives (with_apps boot boot.apps) boot.key more whole) later)

begins : (rest : List ℕ) → magic_fault (magic ++ rest) ≡ None
unfolding front_fault
begins rest =
    let bytes : List ℕ = magic ++ rest in
    ap (λ (b : Bool). cond b (Some bad.Cut) (cond (starts_with nat_eq bytes magic) None (Some bad.Item))) (le-ltb (length bytes) 4 (omega arith))

-- each event of the list can be told
each_told : (cpus : ℕ) (events : List Event) → IsSoundJournal cpus events → All HasRegs events → All (CanBeTold cpus) events
each_told cpus events sound regs i d lt =
    let bytes = get_or-le-sum_by copied_by events i d lt in
    let few = sound.few_bytes in
    record { sound = sound.each i d lt; regs = regs i d lt; few_bytes = omega (arith, bytes, few) }

-- the parts of a spelling, with what stands behind it, one in front of the other
regrouped : (boot_bytes apps_bytes key_bytes events_bytes behind : List ℕ)
    → ((((boot_bytes ++ apps_bytes) ++ key_bytes) ++ events_bytes) ++ end_tag ∷ []) ++ behind ≡ boot_bytes ++ (apps_bytes ++ (key_bytes ++ (events_bytes ++ end_tag ∷ behind)))
regrouped boot_bytes apps_bytes key_bytes events_bytes behind =
    append_assoc (((boot_bytes ++ apps_bytes) ++ key_bytes) ++ events_bytes) (end_tag ∷ []) behind
    ∙ append_assoc ((boot_bytes ++ apps_bytes) ++ key_bytes) events_bytes (end_tag ∷ behind)
    ∙ append_assoc (boot_bytes ++ apps_bytes) key_bytes (events_bytes ++ end_tag ∷ behind)
    ∙ append_assoc boot_bytes apps_bytes (key_bytes ++ (events_bytes ++ end_tag ∷ behind))

pub written_is_read : WrittenIsRead
written_is_read natives boot events behind sound whole ids journal regs =
    let limits = sound.boots in
    let same : Bool = bytes_eq boot.key no_key in
    let keyed : Bool = not same in
    let apps_bytes : List ℕ = flat_map app_record boot.apps in
    let key_bytes : List ℕ = key_records boot.key in
    let events_bytes : List ℕ = flat_map event_record events in
    let rest : List ℕ = end_tag ∷ behind in
    let last : Told = booted boot keyed events in
    let count = length boot.apps + (key_count boot.key + length events) in
    let by_events = events_lead natives boot keyed [] events rest (recursion_from_All (CanBeTold boot.cpus) events (each_told boot.cpus events journal regs)) in
    let by_key = key_leads natives boot same (events_bytes ++ rest) (length events) last rest whole (bytes_eq-Decides boot.key no_key).0 by_events in
    let by_apps = apps_lead natives boot [] boot.apps (key_bytes ++ (events_bytes ++ rest)) (key_count boot.key + length events) last rest (follow_in_turn natives boot [] boot.apps sound ids refl) by_key in
    let header : List ℕ = apps_bytes ++ (key_bytes ++ (events_bytes ++ rest)) in
    let all = in_front natives nothing (booted (with_apps boot []) false []) last (boot_record boot ++ header) header rest count
    (boot_told natives boot.cpus boot.threads boot.frames header limits.some_processor limits.few_processors limits.some_thread limits.few_threads limits.some_frame limits.few_frames) by_apps in
    let B : List ℕ → Type 0 = λ bytes. Leads natives nothing bytes (suc count) last rest in
    let leads = subst B (sym (regrouped (boot_record boot) apps_bytes key_bytes events_bytes behind)) all in
    record {
      begins = begins ((((((boot_record boot ++ apps_bytes) ++ key_bytes) ++ events_bytes) ++ end_tag ∷ [])) ++ behind);
      count = suc count;
      keyed = keyed;
      behind = behind;
      spelled = leads;
      used_is = sym (length-append (spelling boot events) behind);
      records_is = omega arith;
    }

-- with nothing behind it
pub spelled_back : (boot : Boot) (events : List Event) (bytes : List ℕ) → bytes ≡ spelling boot events → HasKey boot → All IsIdentified boot.apps → IsSoundJournal boot.cpus events → All HasRegs events → SpellsBack boot events bytes
spelled_back boot events bytes is key ids journal regs = record {
  spelled = λ natives sound.
      subst (λ (b : List ℕ). Spells natives b (whole_with boot events)) (append-nil (spelling boot events) ∙ sym is)
      (written_is_read natives boot events [] sound key ids journal regs);
}
