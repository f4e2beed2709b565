-- What can come comes, and so each sound trace has a play.
use Rattle.std.proofs.Common.{◌≡◌, ℕ, ◌+◌, ◌<◌, Bool, true, false, List, [], ◌∷◌, ◌++◌, Option, Some, None, refl, ap}
use Rattle.std.proofs.Common.{subst, sym, ◌∙◌, arith}
use Rattle.std.specs.Prelude.{IfSome, IsSome, if◌then◌else◌, nat_lt, slice_get}
use Rattle.std.specs.List.{AllByRecursion}
use Rattle.std.specs.Option.{option_and_then, option_map, option_map_or}
use Rattle.std.proofs.lemmas.Bool.Decides.{nat_tests}
use Rattle.std.proofs.lemmas.List.Elements.{All-get_or, recursion_from_All}
use Rattle.base.specs.Zeros.{zeros}
use Rattle.event_journal.specs.Journal.{copied_bytes}
use Rattle.kernel_model.specs.Application.{Booted, IsBooted, Native, booted}
use Rattle.kernel_model.specs.Entry.{after_entry, entry}
use Rattle.kernel_model.specs.Exit.{exit}
use Rattle.kernel_model.specs.History.{after_event, can_be_granted, entry_from, kernel_after}
use Rattle.kernel_model.specs.Kernel.{Kernel, Outside, Processor, Visit}
use Rattle.kernel_model.proofs.Parts.{option_map_some, set_found, some_of}
use Rattle.kernel_model.proofs.SoundRunning as running
use Rattle.kernel_model.proofs.SoundSteps.{as_many}
use Rattle.ns_ram.specs.Reader.{over_lane}
use Rattle.ns_ram.specs.Reads.{total_bytes}
use Rattle.ns_ram.specs.declared.read.Read.{Read}
use Rattle.ns_ram.proofs.ReaderLaws.{over_lane-reading}
use Rattle.ta_isa.specs.declared.boot.Boot.{Boot}
use Rattle.trace_text.specs.Limits.{cpus_of, moved, outside}
use Rattle.trace_text.specs.Sound.{ComeInTurn, IsSound, IsSoundCall, IsSoundItem}
use Rattle.trace_text.specs.declared.item.Item.{Item}
use Rattle.trace_text.specs.declared.item.Item.TheVariants as item
use Rattle.trace_text.specs.declared.item.Reg.{Reg}
use Rattle.trace_text.specs.declared.trace.Trace.{Trace}
use Rattle.play_model.specs.Coming.{AreLanes, CanCome, IsInside, IsWhole, TracesHavePlays}
use Rattle.play_model.specs.Play.{Play, after_item, after_items, enters, enters_with, entry_event, first_play, lane_of}
use Rattle.play_model.specs.Play.{leaves, played_over, unless_refused, visit_of, with_event}
use Rattle.play_model.specs.Text.{text_by, text_of_play}
use Rattle.play_model.proofs.Coming.{Stands, comes_in, comes_more, few_cpus, first_stands, inside_there, is_ready}
use Rattle.play_model.proofs.Coming.{item_stands}
use Rattle.play_model.proofs.Entries.{CameIn, Entered, WasRefused, entered}
use Rattle.play_model.proofs.WholeLanes.{entry_given, zeros-whole}
use Rattle.play_model.proofs.EventsCome.{exits_come}

-- ---- an entry

-- a processor that is outside comes in, where its entry has a decision
comes_after : (boot : Booted) (kernel next : Kernel) (visit : Visit) (reads : List Read)
    → slice_get kernel.processors visit.cpu ≡ Some Outside
    → can_be_granted visit.steps ≡ true → after_entry boot kernel visit reads ≡ Some next
    → after_event boot kernel (entry_event visit reads) ≡ Some next
comes_after boot kernel next visit reads there granted decided =
    ap (λ (o : Option Processor). option_and_then (entry_from boot kernel visit reads) o) there
    ∙ ap (λ (b : Bool). if b then after_entry boot kernel visit reads else None) granted ∙ decided

-- it comes, or is refused
comes_with : (boot : Booted) (play : Play) (next : Kernel) (visit : Visit) (reads : List Read)
    → after_event boot play.kernel (entry_event visit reads) ≡ Some next → IsSome (enters_with boot play visit reads)
comes_with boot play next visit reads came = by (nat_lt play.most_bytes (copied_bytes play.history + total_bytes reads))
  where
    there : IsSome (with_event boot (entry_event visit reads) play)
    there = subst (λ (o : Option Kernel). IsSome
        (option_map (λ (k : Kernel). record play
        { kernel = k; history = play.history ++ entry_event visit reads ∷ [] }) o)) (sym came) refl

    by : (much : Bool) → IsSome
        (if much then Some (record play { refused = Some (total_bytes reads) }) else with_event boot
        (entry_event visit reads) play)
    by true = refl
    by false = there

pub entry_comes : (boot : Booted) (play : Play) (visit : Visit) → IsBooted boot
    → kernel_after boot play.history ≡ Some play.kernel
    → slice_get play.kernel.processors visit.cpu ≡ Some Outside → can_be_granted visit.steps ≡ true
    → IsWhole (lane_of play visit.cpu)
    → IsSome (enters boot play visit)
entry_comes boot play visit boots comes there granted whole =
    let lane = lane_of play visit.cpu in
    let reader = entry boot play.kernel visit in
    let given = some_of (over_lane reader lane [])
    ((entry_given lane whole boot play.history play.kernel boots comes visit).has []) in
    let decided = ((over_lane-reading reader lane given.0.1 given.0.0).0 given.1).0 in
    let came = comes_after boot play.kernel given.0.0 visit given.0.1 there granted decided in
    subst (λ (o : Option (Kernel × List Read)). IsSome
    (option_and_then (enters_with boot play visit) (option_map (λ end. end.1) o))) (sym given.1)
    (comes_with boot play given.0.0 visit given.0.1 came)

-- ---- an exit

pub exit_comes : (boot : Booted) (play : Play) (cpu : ℕ) → IsBooted boot
    → kernel_after boot play.history ≡ Some play.kernel
    → IsInside play.kernel cpu → IsSome (leaves boot cpu play)
exit_comes boot play cpu boots comes is =
    let out = some_of (exit play.kernel cpu)
    (running.exits_come boot play.history play.kernel boots comes cpu is.steps is.regs is.errand is.inside) in
    subst IsSome (sym (exits_come boot play cpu out.0 out.1)) refl

-- behind an entry that came, its processor is inside
pub record HasComeIn (boot : Booted) (cpu : ℕ) (play : Play) : Type 0 where
  pub comes : kernel_after boot play.history ≡ Some play.kernel
  pub inside : IsInside play.kernel cpu

pub came_inside : (boot : Booted) (visit : Visit) (before after : Play)
    → kernel_after boot before.history ≡ Some before.kernel
    → after.refused ≡ None → Entered boot visit before after → HasComeIn boot visit.cpu after
came_inside boot visit before after comes going (CameIn reads few came) =
    let made = λ (next : Kernel). record before
    { kernel = next; history = before.history ++ entry_event visit reads ∷ [] } in
    let event = option_map_some made (after_event boot before.kernel (entry_event visit reads)) after came in
    let next = event.0 in
    let move = comes_in boot before.kernel next visit reads event.1 in
    let there = ap (λ (ps : List Processor). slice_get ps visit.cpu) move.set
    ∙ set_found before.kernel.processors visit.cpu move.now move.was move.there in
    let here : HasComeIn boot visit.cpu (made next) = record {
      comes = comes_more boot before.history (entry_event visit reads) before.kernel next comes event.1;
      inside = inside_there next visit.cpu (Some move.now) there move.is;
    } in
    subst (HasComeIn boot visit.cpu) event.2 here
came_inside boot visit before after comes going (WasRefused reads much is) =
    let no = ap (λ (p : Play). p.refused) is ∙ going in absurd cc

-- ---- an item

unless_none : (onward : Play → Option Play) (play : Play) → play.refused ≡ None
    → unless_refused onward play ≡ onward play
unless_none onward play is = ap (λ (o : Option ℕ). option_map_or (λ more. Some play) o (onward play)) is

unless_some : (onward : Play → Option Play) (play : Play) (more : ℕ) → play.refused ≡ Some more
    → unless_refused onward play ≡ Some play
unless_some onward play more is = ap (λ (o : Option ℕ). option_map_or (λ more. Some play) o (onward play)) is

-- an exit behind an entry, which may have been refused
then_comes : (boot : Booted) (visit : Visit) (before between : Play) → IsBooted boot
    → kernel_after boot before.history ≡ Some before.kernel
    → Entered boot visit before between → (refused : Option ℕ) → between.refused ≡ refused
    → IsSome (unless_refused (leaves boot visit.cpu) between)
then_comes boot visit before between boots comes came None is =
    let inside = came_inside boot visit before between comes is came in
    subst IsSome (sym (unless_none (leaves boot visit.cpu) between is))
    (exit_comes boot between visit.cpu boots inside.comes inside.inside)
then_comes boot visit before between boots comes came (Some more) is =
    subst IsSome (sym (unless_some (leaves boot visit.cpu) between more is)) refl

pub lane_whole : (cpus cpu : ℕ) (lanes : List (List ℕ)) (play : Play) → AreLanes cpus play.lanes → cpu < cpus
    → IsWhole (lane_of play cpu)
lane_whole cpus cpu lanes play are there =
    All-get_or IsWhole play.lanes cpu [] (subst (λ (n : ℕ). cpu < n) (sym are.count) there) are.whole

pub granted : (cpus cpu steps : ℕ) (regs : List Reg) → IsSoundCall cpus cpu steps regs → can_be_granted steps ≡ true
granted cpus cpu steps regs sound = let some = sound.some_step in let few = sound.few_steps in grind (arith, nat_tests)

item_enters : (boot : Booted) (cpu steps : ℕ) (regs : List Reg) (play : Play)
    → CanCome boot (item.Enter cpu steps regs) play
    → IsSome (enters boot play (visit_of play.history cpu steps regs))
item_enters boot cpu steps regs play can =
    entry_comes boot play (visit_of play.history cpu steps regs) can.legal.boots can.kernel can.ready
    (granted boot.cpus cpu steps regs can.sound)
    (lane_whole boot.cpus cpu play.lanes play can.lanes can.sound.processor)

item_comes : (boot : Booted) (i : Item) (play : Play) → CanCome boot i play → IsSome (after_item boot i play)
item_comes boot (item.Smc cpu steps regs) play can =
    let visit = visit_of play.history cpu steps regs in
    let first = some_of (enters boot play visit) (item_enters boot cpu steps regs play
    (record { legal = can.legal; kernel = can.kernel; ready = can.ready; sound = can.sound; lanes = can.lanes })) in
    subst (λ (o : Option Play). IsSome (option_and_then (unless_refused (leaves boot cpu)) o)) (sym first.1)
    (then_comes boot visit play first.0 can.legal.boots can.kernel
    (entered boot visit play first.0 first.1) first.0.refused refl)
item_comes boot (item.Enter cpu steps regs) play can = item_enters boot cpu steps regs play can
item_comes boot (item.Leave cpu) play can = exit_comes boot play cpu can.legal.boots can.kernel can.ready
item_comes boot (item.Write cpu addr bytes) play can = refl
item_comes boot (item.Show cpu addr len) play can = refl

-- ---- items in a row

ended_all : (boot : Booted) (items : List Item) (play : Play) (more : ℕ) → play.refused ≡ Some more
    → after_items boot items play ≡ Some play
ended_all boot [] play more is = refl
ended_all boot (first ∷ items) play more is =
    ap (λ (o : Option Play). option_and_then (λ next. after_items boot items next) o)
    (unless_some (after_item boot first) play more is)
    ∙ ended_all boot items play more is

-- behind an item that came, where its entry may have been refused
others_come : (boot : Booted) (items : List Item) (next : Play) (refused : Option ℕ) → next.refused ≡ refused
    → (next.refused ≡ None → IsSome (after_items boot items next)) → IsSome (after_items boot items next)
others_come boot items next None is rest = rest is
others_come boot items next (Some more) is rest = subst IsSome (sym (ended_all boot items next more is)) refl

items_come : (boot : Booted) (items : List Item) (inside : List Bool) (before : Play) → IsBooted boot
    → AllByRecursion (IsSoundItem boot.cpus) items → ComeInTurn inside items → before.refused ≡ None
    → Stands boot inside before
    → IsSome (after_items boot items before)
items_come boot [] inside before boots sound turn going stands = refl
items_come boot (first ∷ items) inside before boots sound turn going stands =
    let many = (as_many boot before.history before.kernel boots stands.comes).processors in
    let here = some_of (after_item boot first before) (item_comes boot first before (record {
      legal = record { boots = boots; follows = subst IsSome (sym stands.comes) refl };
      kernel = stands.comes;
      ready = is_ready boot.cpus before.kernel first inside many stands.tells sound.0 turn.0;
      sound = sound.0;
      lanes = stands.lanes;
    })) in
    subst (λ (o : Option Play). IsSome (option_and_then (λ next. after_items boot items next) o))
    (sym (unless_none (after_item boot first) before going ∙ here.1))
    (others_come boot items here.0 here.0.refused refl (λ still.
    items_come boot items (moved inside first) here.0 boots sound.1 turn.1 still
    (item_stands boot first inside before here.0 (few_cpus boot boots) sound.0 turn.0 stands here.1 still)))

-- ---- traces

trace_played : (ram : List ℕ) (natives : List Native) (uuids : List (List ℕ)) (boot : Boot) (trace : Trace)
    → IsWhole ram
    → IsBooted (booted boot natives) → IsSound uuids trace → trace.boot ≡ Some boot
    → IsSome (played_over ram natives boot trace)
trace_played ram natives uuids boot trace whole boots sound is =
    let on = booted boot natives in
    let each : AllByRecursion (IsSoundItem boot.cpus) trace.items =
    subst (λ (b : Option Boot). AllByRecursion (IsSoundItem (cpus_of b)) trace.items) is
    (recursion_from_All (IsSoundItem (cpus_of trace.boot)) trace.items sound.items) in
    items_come on trace.items outside (first_play ram on trace.fills) boots each sound.in_turn refl
    (first_stands ram on trace.fills whole)

text_there : (natives : List Native) (uuids : List (List ℕ)) (trace : Trace) → (boot : Option Boot) → trace.boot ≡ boot
    → IfSome boot (λ boot. IsBooted (booted boot natives)) → IsSound uuids trace → IsSome (text_by natives trace boot)
text_there natives uuids trace None is boots sound = refl
text_there natives uuids trace (Some boot) is boots sound =
    let play = some_of (played_over (zeros 0x400000) natives boot trace)
    (trace_played (zeros 0x400000) natives uuids boot trace zeros-whole boots sound is) in
    subst (λ (o : Option Play). IsSome (option_map text_of_play o)) (sym play.1) refl

pub traces_have_plays : TracesHavePlays
traces_have_plays = record {
  comes = item_comes;
  played = trace_played;
  told = λ natives uuids trace boots sound. text_there natives uuids trace trace.boot refl boots sound;
}
