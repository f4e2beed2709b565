-- The next item of a sound trace can come, where all before it were taken.
use Rattle.std.proofs.Common.{◌≡◌, ℕ, zero, suc, ◌<◌, ◌≤◌, Bool, true, false, List, [], ◌∷◌, ◌++◌, length}
use Rattle.std.proofs.Common.{replicate, Option, Some, None, refl, ap, subst, sym, ◌∙◌, arith}
use Rattle.std.specs.Prelude.{IsSome, IsTrue, slice_get, slice_index_or, slice_set}
use Rattle.std.specs.List.{AllByRecursion, fold}
use Rattle.std.specs.Option.{option_and_then}
use Rattle.std.proofs.lemmas.Bool.{not-true}
use Rattle.std.proofs.lemmas.List.{get_or-set_other, get_or-set_same, length-set}
use Rattle.std.proofs.lemmas.List.Elements.{All-get_or, All-set, recursion_from_All}
use Rattle.std.proofs.lemmas.Option.{option_and_then_some, slice_get-get_or}
use Rattle.event_journal.specs.declared.event.Event.{Event}
use Rattle.event_journal.specs.declared.event.Event.TheVariants.{Exit}
use Rattle.kernel_model.specs.Application.{Booted, IsBooted, booted}
use Rattle.kernel_model.specs.Exit.{Exited, exit_of, goes_out, goes_out_from, progress_in_slot}
use Rattle.kernel_model.specs.History.{after_event, after_events, kernel_after}
use Rattle.kernel_model.specs.Kernel.{Fixed, InSlot, Inside, Kernel, Outside, Processor, Visit, first_kernel}
use Rattle.kernel_model.proofs.FixedAnswer.{decides, inside_for, processors_after}
use Rattle.kernel_model.proofs.Parts.{option_map_some, set_found, set_other, set_twice}
use Rattle.kernel_model.proofs.Past.{after_events-append}
use Rattle.kernel_model.proofs.SoundSlots.{by_number}
use Rattle.kernel_model.proofs.SoundSteps.{as_many}
use Rattle.ns_ram.specs.Writes.{Write, lane_after}
use Rattle.ns_ram.specs.declared.read.Read.{Read}
use Rattle.own_model.proofs.FixedAnswers as fixed
use Rattle.own_model.proofs.OtherResumes.{visitor_there}
use Rattle.smc_abi.specs.declared.regs.Regs.{Regs}
use Rattle.ta_isa.specs.declared.boot.Boot.{Boot}
use Rattle.trace_text.specs.Limits.{cpus_of, moved, outside}
use Rattle.trace_text.specs.Sound.{ComeInTurn, IsSoundItem, can_come}
use Rattle.trace_text.specs.declared.item.Item.{Item}
use Rattle.trace_text.specs.declared.item.Item.TheVariants as item
use Rattle.trace_text.specs.declared.trace.Fill.{Fill}
use Rattle.play_model.specs.Coming.{AreLanes, IsInside, IsReadyFor, IsWhole, ItemsCanCome}
use Rattle.play_model.specs.Play.{Play, after_item, after_items, enters, entry_event, first_play, leaves}
use Rattle.play_model.specs.Play.{unless_refused, visit_of, with_event, with_writes}
use Rattle.play_model.proofs.Adds.{Ended, GoesOn, Onward, goes_on, some_is}
use Rattle.play_model.proofs.Entries.{CameIn, Entered, Left, WasRefused, entered, left}
use Rattle.play_model.proofs.Items.{ended_stays}
use Rattle.play_model.proofs.RamKept.{first_lanes, still_whole}

-- ---- RAM

pub lanes_written : (cpus cpu : ℕ) (lanes : List (List ℕ)) (writes : List Write) → cpu < cpus → AreLanes cpus lanes
    → AreLanes cpus (slice_set lanes cpu (lane_after (slice_index_or lanes cpu []) writes))
lanes_written cpus cpu lanes writes there are =
    let within : cpu < length lanes = subst (λ (n : ℕ). cpu < n) (sym are.count) there in
    let whole = All-get_or IsWhole lanes cpu [] within are.whole in
    let now = lane_after (slice_index_or lanes cpu []) writes in
    record {
      count = length-set lanes cpu now ∙ are.count;
      whole = All-set IsWhole lanes cpu now (still_whole (slice_index_or lanes cpu []) writes whole) are.whole;
    }

-- ---- processors

-- the processor is inside
abbrev pub is_in : Option Processor → Bool
is_in None = false
is_in (Some Outside) = false
is_in (Some (Inside regs steps errand)) = true

-- these processors are inside, by their number
abbrev pub Tells : List Bool → List Processor → Type 0
Tells inside processors = (cpu : ℕ) → slice_index_or inside cpu false ≡ is_in (slice_get processors cpu)

one_tells : (inside : List Bool) (processors : List Processor) (cpu : ℕ) (was now : Processor) → cpu < length inside
    → slice_get processors cpu ≡ Some was → Tells inside processors
    → Tells (slice_set inside cpu (is_in (Some now))) (slice_set processors cpu now)
one_tells inside processors cpu was now within there tells = λ other. by_number cpu other
    (λ same. subst (λ (n : ℕ). slice_index_or (slice_set inside cpu (is_in (Some now))) n false ≡ is_in
    (slice_get (slice_set processors cpu now) n)) same
    (get_or-set_same inside cpu (is_in (Some now)) false within
    ∙ ap is_in (sym (set_found processors cpu now was there))))
    (λ apart.
    get_or-set_other inside cpu other (is_in (Some now)) false (λ same. apart (sym same)) ∙ tells other
    ∙ ap is_in (sym (set_other processors cpu other now apart)))

none_inside : (cpus cpu : ℕ) → slice_index_or outside cpu false ≡ is_in (slice_get (replicate cpus Outside) cpu)
none_inside cpus cpu = all_false 8 cpu ∙ sym (all_outside cpus cpu)
  where
    all_false : (count n : ℕ) → slice_index_or (replicate count false) n false ≡ false
    all_false zero n = refl
    all_false (suc count) zero = refl
    all_false (suc count) (suc n) = all_false count n

    all_outside : (count n : ℕ) → is_in (slice_get (replicate count Outside) n) ≡ false
    all_outside zero n = refl
    all_outside (suc count) zero = refl
    all_outside (suc count) (suc n) = all_outside count n

-- one that comes in was there, and is inside
pub record Moves (kernel next : Kernel) (cpu : ℕ) (inside : Bool) : Type 0 where
  pub was : Processor
  pub now : Processor
  pub there : slice_get kernel.processors cpu ≡ Some was
  pub set : next.processors ≡ slice_set kernel.processors cpu now
  pub is : is_in (Some now) ≡ inside

pub comes_in : (boot : Booted) (kernel next : Kernel) (visit : Visit) (reads : List Read)
    → after_event boot kernel (entry_event visit reads) ≡ Some next → Moves kernel next visit.cpu true
comes_in boot kernel next visit reads e =
    let regs : Regs = record { a = visit.regs } in
    let found = decides boot kernel next visit reads
    (fixed.entered boot kernel next visit.cpu visit.steps regs reads e) in
    let there = visitor_there boot kernel next visit.cpu visit.steps regs reads e in
    record {
      was = there.0;
      now = inside_for visit found.value;
      there = there.1;
      set = ap (λ (k : Kernel). k.processors) (sym found.gives) ∙ processors_after kernel visit found.value;
      is = refl;
    }

exited_from : (kernel : Kernel) (cpu : ℕ) (was : Processor) (exited : Exited) → exit_of kernel cpu was ≡ Some exited
    → exited.kernel.processors ≡ slice_set kernel.processors cpu Outside
exited_from kernel cpu Outside exited e = absurd cc
exited_from kernel cpu (Inside regs steps (Fixed told)) exited e =
    let made : Exited = goes_out kernel (record { cpu = cpu; regs = regs; steps = steps }) told [] in
    let same : made ≡ exited = cc in
    ap (λ (x : Exited). x.kernel.processors) (sym same)
exited_from kernel cpu (Inside regs steps (InSlot slot)) exited e =
    let visit : Visit = record { cpu = cpu; regs = regs; steps = steps } in
    let came = option_map_some (goes_out_from kernel visit slot) (progress_in_slot kernel steps slot) exited e in
    ap (λ (x : Exited). x.kernel.processors) (sym came.2)

goes_outside : (boot : Booted) (kernel next : Kernel) (cpu : ℕ) (regs : Regs)
    → after_event boot kernel (Exit cpu regs) ≡ Some next
    → Moves kernel next cpu false
goes_outside boot kernel next cpu regs e =
    let out = fixed.left boot kernel next cpu regs e in
    option_and_then_some (exit_of kernel cpu) (slice_get kernel.processors cpu) out.0 out.1
    (λ (was : Processor) there onward. record {
      was = was;
      now = Outside;
      there = there;
      set = ap (λ (k : Kernel). k.processors) (sym out.2) ∙ exited_from kernel cpu was out.0 onward;
      is = refl;
    })

-- ---- what stands behind items that were all taken

pub record Stands (boot : Booted) (inside : List Bool) (play : Play) : Type 0 where
  pub comes : kernel_after boot play.history ≡ Some play.kernel
  pub eight : length inside ≡ 8
  pub tells : Tells inside play.kernel.processors
  pub lanes : AreLanes boot.cpus play.lanes

pub comes_more : (boot : Booted) (before : List Event) (event : Event) (kernel next : Kernel)
    → kernel_after boot before ≡ Some kernel
    → after_event boot kernel event ≡ Some next → kernel_after boot (before ++ event ∷ []) ≡ Some next
comes_more boot before event kernel next comes came =
    after_events-append boot (first_kernel boot) before (event ∷ [])
    ∙ ap (λ (o : Option Kernel). option_and_then (λ k. after_events boot k (event ∷ [])) o) comes
    ∙ ap (λ (o : Option Kernel). option_and_then (λ k. Some k) o) came

pub event_stands : (boot : Booted) (event : Event) (cpu : ℕ) (now : Bool) (inside : List Bool) (before after : Play)
    → cpu < 8
    → ((next : Kernel) → after_event boot before.kernel event ≡ Some next → Moves before.kernel next cpu now)
    → Stands boot inside before → with_event boot event before ≡ Some after
    → Stands boot (slice_set inside cpu now) after
event_stands boot event cpu now inside before after few moves stands e =
    let made = λ (next : Kernel). record before { kernel = next; history = before.history ++ event ∷ [] } in
    let came = option_map_some made (after_event boot before.kernel event) after e in
    let move = moves came.0 came.1 in
    let within : cpu < length inside = subst (λ (n : ℕ). cpu < n) (sym stands.eight) few in
    let tells = one_tells inside before.kernel.processors cpu move.was move.now within move.there stands.tells in
    let by : Stands boot (slice_set inside cpu now) (made came.0) = record {
      comes = comes_more boot before.history event before.kernel came.0 stands.comes came.1;
      eight = length-set inside cpu now ∙ stands.eight;
      tells = subst (λ (ps : List Processor). Tells (slice_set inside cpu now) ps) (sym move.set)
          (subst (λ (b : Bool). Tells (slice_set inside cpu b) (slice_set before.kernel.processors cpu move.now))
          move.is tells);
      lanes = stands.lanes;
    } in
    subst (Stands boot (slice_set inside cpu now)) came.2 by

-- RAM that was written, and lines, change nothing else
written_stands : (boot : Booted) (inside : List Bool) (cpu : ℕ) (writes : List Write) (play : Play) → cpu < boot.cpus
    → Stands boot inside play → Stands boot inside (with_writes cpu writes play)
written_stands boot inside cpu writes play there stands = record {
  comes = stands.comes;
  eight = stands.eight;
  tells = stands.tells;
  lanes = lanes_written boot.cpus cpu play.lanes writes there stands.lanes;
}

-- ---- one item

pub entry_stands : (boot : Booted) (visit : Visit) (inside : List Bool) (before after : Play) → visit.cpu < 8
    → Stands boot inside before
    → after.refused ≡ None → Entered boot visit before after → Stands boot (slice_set inside visit.cpu true) after
entry_stands boot visit inside before after few stands going (CameIn reads bytes came) =
    event_stands boot (entry_event visit reads) visit.cpu true inside before after few
    (λ next. comes_in boot before.kernel next visit reads) stands came
entry_stands boot visit inside before after few stands going (WasRefused reads much is) =
    let no = ap (λ (p : Play). p.refused) is ∙ going in absurd cc

exit_stands : (boot : Booted) (cpu : ℕ) (inside : List Bool) (before after : Play) → cpu < 8 → cpu < boot.cpus
    → Stands boot inside before
    → Left boot cpu before after → Stands boot (slice_set inside cpu false) after
exit_stands boot cpu inside before after few there stands out =
    let regs : Regs = record { a = out.exited.regs } in
    let gone = event_stands boot (Exit cpu regs) cpu false inside before out.gone few
    (λ next. goes_outside boot before.kernel next cpu regs) stands out.came in
    let wrote = written_stands boot (slice_set inside cpu false) cpu out.exited.writes out.gone there gone in
    subst (Stands boot (slice_set inside cpu false)) out.is
    (record { comes = wrote.comes; eight = wrote.eight; tells = wrote.tells; lanes = wrote.lanes })

-- one that is outside comes in and goes out again
in_and_out : (inside : List Bool) (cpu : ℕ) → cpu < length inside → slice_index_or inside cpu false ≡ false
    → slice_set (slice_set inside cpu true) cpu false ≡ inside
in_and_out inside cpu within is =
    set_twice inside cpu true false (slice_get-get_or inside cpu false within ∙ ap (λ (b : Bool). Some b) is)

both_stand : (boot : Booted) (visit : Visit) (inside : List Bool) (before between after : Play) → visit.cpu < 8
    → visit.cpu < boot.cpus
    → Stands boot inside before → after.refused ≡ None → Entered boot visit before between
    → GoesOn (leaves boot visit.cpu) between after
    → Stands boot (slice_set (slice_set inside visit.cpu true) visit.cpu false) after
both_stand boot visit inside before between after few there stands going came (Onward is e) =
    exit_stands boot visit.cpu (slice_set inside visit.cpu true) between after few there
    (entry_stands boot visit inside before between few stands is came) (left boot visit.cpu between after e)
both_stand boot visit inside before between after few there stands going came (Ended more is same) =
    let no : None ≡ Some more = sym going ∙ ap (λ (p : Play). p.refused) (sym same) ∙ is in absurd cc

pub below_eight : (cpus cpu : ℕ) → cpus ≤ 8 → cpu < cpus → cpu < 8
below_eight cpus cpu few there = omega (arith, few, there)

pub item_stands : (boot : Booted) (i : Item) (inside : List Bool) (before after : Play) → boot.cpus ≤ 8
    → IsSoundItem boot.cpus i
    → IsTrue (can_come inside i) → Stands boot inside before → after_item boot i before ≡ Some after
    → after.refused ≡ None
    → Stands boot (moved inside i) after
item_stands boot (item.Smc cpu steps regs) inside before after few sound can stands e going =
    let visit = visit_of before.history cpu steps regs in
    let eight = below_eight boot.cpus cpu few sound.processor in
    let within : cpu < length inside = subst (λ (n : ℕ). cpu < n) (sym stands.eight) eight in
    option_and_then_some (unless_refused (leaves boot cpu)) (enters boot before visit) after e
    (λ (between : Play) there onward.
    subst (λ (ins : List Bool). Stands boot ins after)
    (in_and_out inside cpu within (not-true (slice_index_or inside cpu false) can))
    (both_stand boot visit inside before between after eight sound.processor stands going
    (entered boot visit before between there)
    (goes_on (leaves boot cpu) between after onward)))
item_stands boot (item.Enter cpu steps regs) inside before after few sound can stands e going =
    let visit = visit_of before.history cpu steps regs in
    entry_stands boot visit inside before after (below_eight boot.cpus cpu few sound.processor) stands going
    (entered boot visit before after e)
item_stands boot (item.Leave cpu) inside before after few sound can stands e going =
    exit_stands boot cpu inside before after (below_eight boot.cpus cpu few sound) sound stands
    (left boot cpu before after e)
item_stands boot (item.Write cpu addr bytes) inside before after few sound can stands e going =
    subst (Stands boot inside) (some_is _ after e)
    (written_stands boot inside cpu (record { addr = addr; bytes = bytes } ∷ []) before sound.0 stands)
item_stands boot (item.Show cpu addr len) inside before after few sound can stands e going =
    subst (Stands boot inside) (some_is _ after e)
    (record { comes = stands.comes; eight = stands.eight; tells = stands.tells; lanes = stands.lanes })

-- ---- items in a row

-- what follows on a play that no entry has ended was no refusal either
first_went : (boot : Booted) (first : Item) (items : List Item) (before next after : Play) → before.refused ≡ None
    → after.refused ≡ None
    → GoesOn (after_item boot first) before next → after_items boot items next ≡ Some after
    → (after_item boot first before ≡ Some next) × (next.refused ≡ None)
first_went boot first items before next after going still (Ended more is same) rest =
    let no : None ≡ Some more = sym going ∙ is in absurd cc
first_went boot first items before next after going still (Onward is e) rest = (e, by next.refused refl)
  where
    by : (refused : Option ℕ) → next.refused ≡ refused → next.refused ≡ None
    by None is = is
    by (Some more) is =
        let same = ended_stays boot items next after more is rest in
        let no : None ≡ Some more = sym still ∙ ap (λ (p : Play). p.refused) (sym same) ∙ is in absurd cc

items_stand : (boot : Booted) (items : List Item) (inside : List Bool) (before after : Play) → boot.cpus ≤ 8
    → AllByRecursion (IsSoundItem boot.cpus) items → ComeInTurn inside items → before.refused ≡ None
    → Stands boot inside before
    → after_items boot items before ≡ Some after → after.refused ≡ None → Stands boot (fold moved inside items) after
items_stand boot [] inside before after few sound turn going stands e still = subst (Stands boot inside)
    (some_is before after e) stands
items_stand boot (first ∷ items) inside before after few sound turn going stands e still =
    option_and_then_some (λ next. after_items boot items next) (unless_refused (after_item boot first) before) after e
    (λ (next : Play) there onward.
    let went = first_went boot first items before next after going still
    (goes_on (after_item boot first) before next there) onward in
    items_stand boot items (moved inside first) next after few sound.1 turn.1 went.1
    (item_stands boot first inside before next few sound.0 turn.0 stands went.0 went.1) onward still)

-- ---- the next item

sound_split : (cpus : ℕ) (taken more : List Item) → AllByRecursion (IsSoundItem cpus) (taken ++ more)
    → AllByRecursion (IsSoundItem cpus) taken × AllByRecursion (IsSoundItem cpus) more
sound_split cpus [] more all = (tt, all)
sound_split cpus (first ∷ taken) more all = let rest = sound_split cpus taken more all.1 in ((all.0, rest.0), rest.1)

turn_split : (inside : List Bool) (taken more : List Item) → ComeInTurn inside (taken ++ more)
    → ComeInTurn inside taken × ComeInTurn (fold moved inside taken) more
turn_split inside [] more turn = (tt, turn)
turn_split inside (first ∷ taken) more turn = let rest = turn_split (moved inside first) taken more turn.1 in
    ((turn.0, rest.0), rest.1)

outside_there : (processors : List Processor) (cpu : ℕ) (found : Option Processor) → slice_get processors cpu ≡ found
    → cpu < length processors
    → is_in found ≡ false → slice_get processors cpu ≡ Some Outside
outside_there processors cpu None is within out =
    let there = slice_get-get_or processors cpu Outside within in let no = sym is ∙ there in absurd cc
outside_there processors cpu (Some Outside) is within out = is
outside_there processors cpu (Some (Inside regs steps errand)) is within out = absurd cc

pub inside_there : (kernel : Kernel) (cpu : ℕ) (found : Option Processor) → slice_get kernel.processors cpu ≡ found
    → is_in found ≡ true → IsInside kernel cpu
inside_there kernel cpu None is in_it = absurd cc
inside_there kernel cpu (Some Outside) is in_it = absurd cc
inside_there kernel cpu
    (Some (Inside regs steps errand)) is in_it = record { regs = regs; steps = steps; errand = errand; inside = is }

pub is_ready : (cpus : ℕ) (kernel : Kernel) (i : Item) (inside : List Bool) → length kernel.processors ≡ cpus
    → Tells inside kernel.processors
    → IsSoundItem cpus i → IsTrue (can_come inside i) → IsReadyFor kernel i
is_ready cpus kernel (item.Smc cpu steps regs) inside many tells sound can =
    outside_there kernel.processors cpu (slice_get kernel.processors cpu) refl
    (subst (λ (n : ℕ). cpu < n) (sym many) sound.processor)
    (sym (tells cpu) ∙ not-true (slice_index_or inside cpu false) can)
is_ready cpus kernel (item.Enter cpu steps regs) inside many tells sound can =
    outside_there kernel.processors cpu (slice_get kernel.processors cpu) refl
    (subst (λ (n : ℕ). cpu < n) (sym many) sound.processor)
    (sym (tells cpu) ∙ not-true (slice_index_or inside cpu false) can)
is_ready cpus kernel (item.Leave cpu) inside many tells sound can =
    inside_there kernel cpu (slice_get kernel.processors cpu) refl (sym (tells cpu) ∙ can)
is_ready cpus kernel (item.Write cpu addr bytes) inside many tells sound can = tt
is_ready cpus kernel (item.Show cpu addr len) inside many tells sound can = tt

-- ---- the first play

pub first_stands : (ram : List ℕ) (boot : Booted) (fills : List Fill) → IsWhole ram
    → Stands boot outside (first_play ram boot fills)
first_stands ram boot fills whole = record {
  comes = refl;
  eight = refl;
  tells = none_inside boot.cpus;
  lanes = first_lanes ram boot fills whole;
}

pub few_cpus : (on : Booted) → IsBooted on → on.cpus ≤ 8
few_cpus on boots = subst (λ (b : Booted). b.cpus ≤ 8) (sym boots.same) boots.is_boot.few_processors

pub items_can_come : ItemsCanCome
items_can_come ram natives uuids boot trace taken rest i play whole boots sound is cut e going =
    let on = booted boot natives in
    let each : AllByRecursion (IsSoundItem boot.cpus) (taken ++ i ∷ rest) =
    subst (AllByRecursion (IsSoundItem boot.cpus)) cut
    (subst (λ (b : Option Boot). AllByRecursion (IsSoundItem (cpus_of b)) trace.items) is
    (recursion_from_All (IsSoundItem (cpus_of trace.boot)) trace.items sound.items)) in
    let items = sound_split boot.cpus taken (i ∷ rest) each in
    let turns = turn_split outside taken (i ∷ rest) (subst (ComeInTurn outside) cut sound.in_turn) in
    let first = first_play ram on trace.fills in
    let stands = items_stand on taken outside first play (few_cpus on boots) items.0 turns.0 refl
    (first_stands ram on trace.fills whole) e going in
    let many = (as_many on play.history play.kernel boots stands.comes).processors in
    record {
      legal = record { boots = boots; follows = subst IsSome (sym stands.comes) refl };
      kernel = stands.comes;
      ready = is_ready boot.cpus play.kernel i (fold moved outside taken) many stands.tells items.1.0 turns.1.0;
      sound = items.1.0;
      lanes = stands.lanes;
    }
