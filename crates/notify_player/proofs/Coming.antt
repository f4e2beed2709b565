-- Who is inside behind the steps of a trace with signals, and that what can come comes.
use Rattle.std.proofs.Common.{◌≡◌, ℕ, ◌<◌, ◌≤◌, Bool, true, false, List, [], ◌∷◌, ◌++◌, length}
use Rattle.std.proofs.Common.{Option, Some, None, refl, ap, subst, sym, ◌∙◌}
use Rattle.std.specs.Prelude.{IsSome, IsTrue, slice_index_or, slice_set}
use Rattle.std.specs.Option.{option_and_then, option_map, option_map_or}
use Rattle.std.proofs.lemmas.Bool.{not-true}
use Rattle.std.proofs.lemmas.List.{get_or-set_same}
use Rattle.std.proofs.lemmas.Option.{option_and_then_some, slice_get-get_or}
use Rattle.event_journal.specs.declared.event.Event.{Event}
use Rattle.event_journal.specs.declared.event.Event.TheVariants.{Exit}
use Rattle.kernel_model.specs.Application.{Booted, IsBooted}
use Rattle.kernel_model.specs.Exit.{Exited, exit}
use Rattle.kernel_model.specs.History.{after_event, kernel_after}
use Rattle.kernel_model.specs.Kernel.{Kernel, Visit}
use Rattle.kernel_model.proofs.Parts.{option_map_some, set_twice, some_of}
use Rattle.kernel_model.proofs.SoundSteps.{as_many}
use Rattle.notify_play.specs.NotifyPlay.{Drivers, NotifyPlay, after_item, comes_in, duty_at, goes_out, goes_out_with, tells, unless_refused, visit_with, with_play}
use Rattle.notify_play.specs.Told.{told_writes}
use Rattle.notify_play.specs.NotifyPlay.{desk_of}
use Rattle.play_model.specs.Coming.{AreLanes, IsInside, IsReadyFor}
use Rattle.play_model.specs.Line.{Ret}
use Rattle.play_model.specs.Play.{Play, enters, leaves, leaves_with, with_event, with_line, with_writes}
use Rattle.play_model.specs.Play as trace_play
use Rattle.play_model.proofs.Coming.{Stands, below_eight, entry_stands, is_ready, item_stands, lanes_written}
use Rattle.play_model.proofs.Entries.{Entered, entered, left}
use Rattle.play_model.proofs.PlaysThere.{came_inside, entry_comes, exit_comes, granted, lane_whole}
use Rattle.trace_text.specs.Limits.{moved}
use Rattle.trace_text.specs.Sound.{IsSoundCall, IsSoundItem, can_come}
use Rattle.trace_text.specs.declared.item.Item.{Item}
use Rattle.trace_text.specs.declared.item.Item.TheVariants as item
use Rattle.trace_text.specs.declared.item.Reg.{Reg}

-- ---- entries and exits of a play with signals

comes_stand : (boot : Booted) (cpu steps : ℕ) (regs : List Reg) (inside : List Bool) (before after : NotifyPlay)
    → cpu < 8 → Stands boot inside before.play → comes_in boot cpu steps regs before ≡ Some after
    → after.play.refused ≡ None → Stands boot (slice_set inside cpu true) after.play
comes_stand boot cpu steps regs inside before after few stands e going =
    let visit = visit_with before cpu steps regs in
    let came = option_map_some (with_play before) (enters boot before.play visit) after e in
    subst (λ (n : NotifyPlay). Stands boot (slice_set inside cpu true) n.play) came.2
    (entry_stands boot visit inside before.play came.0 few stands (ap (λ (n : NotifyPlay). n.play.refused) came.2 ∙ going)
    (entered boot visit before.play came.0 came.1))

-- what an exit comes to: the kernel's, its event, and what is told
pub record WentOut (boot : Booted) (drivers : Drivers) (cpu : ℕ) (before after : NotifyPlay) : Type 0 where
  pub exited : Exited
  pub there : exit before.play.kernel cpu ≡ Some exited
  pub gone : Play
  pub came : with_event boot (Exit cpu (record { a = exited.regs })) before.play ≡ Some gone
  pub is : tells drivers before cpu exited (duty_at before cpu exited) gone ≡ after

pub went_out : (boot : Booted) (drivers : Drivers) (cpu : ℕ) (before after : NotifyPlay)
    → goes_out boot drivers cpu before ≡ Some after → WentOut boot drivers cpu before after
went_out boot drivers cpu before after e =
    option_and_then_some (goes_out_with boot drivers before cpu) (exit before.play.kernel cpu) after e
    (λ (exited : Exited) found onward.
    let came = option_map_some (tells drivers before cpu exited (duty_at before cpu exited))
    (with_event boot (Exit cpu (record { a = exited.regs })) before.play) after onward in
    record { exited = exited; there = found; gone = came.0; came = came.1; is = came.2 })

-- the event of an exit leaves lines, RAM and a refusal as they were
pub gone_same : (boot : Booted) (event : Event) (before gone : Play) → with_event boot event before ≡ Some gone
    → (gone.lanes ≡ before.lanes) × (gone.lines ≡ before.lines) × (gone.refused ≡ before.refused)
gone_same boot event before gone e =
    let came = option_map_some
    (λ (next : Kernel). record before { kernel = next; history = before.history ++ event ∷ [] })
    (after_event boot before.kernel event) gone e in (
      ap (λ (p : Play). p.lanes) (sym came.2),
      ap (λ (p : Play). p.lines) (sym came.2),
      ap (λ (p : Play). p.refused) (sym came.2),
    )

goes_stand : (boot : Booted) (drivers : Drivers) (cpu : ℕ) (inside : List Bool) (before after : NotifyPlay)
    → boot.cpus ≤ 8 → cpu < boot.cpus → IsTrue (slice_index_or inside cpu false)
    → Stands boot inside before.play → goes_out boot drivers cpu before ≡ Some after → before.play.refused ≡ None
    → Stands boot (slice_set inside cpu false) after.play
goes_stand boot drivers cpu inside before after few there in_it stands e going =
    let w = went_out boot drivers cpu before after e in
    let same = gone_same boot (Exit cpu (record { a = w.exited.regs })) before.play w.gone w.came in
    let told : Play = with_line (Ret cpu w.exited.regs) (with_writes cpu w.exited.writes w.gone) in
    let leaves_so : leaves boot cpu before.play ≡ Some told =
    ap (option_and_then (leaves_with boot before.play cpu)) w.there
    ∙ ap (option_map (λ (next : Play). with_line (Ret cpu w.exited.regs) (with_writes cpu w.exited.writes next))) w.came in
    let kernels = item_stands boot (item.Leave cpu) inside before.play told few there in_it stands leaves_so
    (same.2 ∙ going) in
    let writes = w.exited.writes ++ told_writes drivers (desk_of drivers before) (duty_at before cpu w.exited) in
    subst (λ (n : NotifyPlay). Stands boot (slice_set inside cpu false) n.play) w.is
    (record {
      comes = kernels.comes;
      eight = kernels.eight;
      tells = kernels.tells;
      lanes = lanes_written boot.cpus cpu w.gone.lanes writes there
          (subst (AreLanes boot.cpus) (sym same.0) stands.lanes);
    })

-- ---- what comes

out_comes : (boot : Booted) (drivers : Drivers) (cpu : ℕ) (before : NotifyPlay) → IsBooted boot
    → kernel_after boot before.play.history ≡ Some before.play.kernel → IsInside before.play.kernel cpu
    → IsSome (goes_out boot drivers cpu before)
out_comes boot drivers cpu before boots comes inside =
    let gone = some_of (leaves boot cpu before.play) (exit_comes boot before.play cpu boots comes inside) in
    let l = left boot cpu before.play gone.0 gone.1 in
    subst IsSome (sym (ap (option_and_then (goes_out_with boot drivers before cpu)) l.there
    ∙ ap (option_map (tells drivers before cpu l.exited (duty_at before cpu l.exited))) l.came)) refl

pub unless_none : (onward : NotifyPlay → Option NotifyPlay) (told : NotifyPlay) → told.play.refused ≡ None
    → unless_refused onward told ≡ onward told
unless_none onward told is = ap (λ (o : Option ℕ). option_map_or (λ more. Some told) o (onward told)) is

pub unless_some : (onward : NotifyPlay → Option NotifyPlay) (told : NotifyPlay) (more : ℕ) → told.play.refused ≡ Some more
    → unless_refused onward told ≡ Some told
unless_some onward told more is = ap (λ (o : Option ℕ). option_map_or (λ more. Some told) o (onward told)) is

-- an exit behind an entry, which may have been refused
then_comes : (boot : Booted) (drivers : Drivers) (cpu : ℕ) (before : NotifyPlay) (visit : Visit) (old : Play) → IsBooted boot
    → visit.cpu ≡ cpu → kernel_after boot old.history ≡ Some old.kernel → Entered boot visit old before.play
    → (refused : Option ℕ) → before.play.refused ≡ refused → IsSome (unless_refused (goes_out boot drivers cpu) before)
then_comes boot drivers cpu before visit old boots same comes came None is =
    let inside = came_inside boot visit old before.play comes is came in
    subst IsSome (sym (unless_none (goes_out boot drivers cpu) before is))
    (out_comes boot drivers cpu before boots inside.comes (subst (IsInside before.play.kernel) same inside.inside))
then_comes boot drivers cpu before visit old boots same comes came (Some more) is =
    subst IsSome (sym (unless_some (goes_out boot drivers cpu) before more is)) refl

-- ---- an item

module _ (boot : Booted) (drivers : Drivers) (boots : IsBooted boot) (few : boot.cpus ≤ 8) where
  -- the processor of an item stands as the item wants it
  pub ready : (i : Item) (inside : List Bool) (before : NotifyPlay) → Stands boot inside before.play
      → IsSoundItem boot.cpus i → IsTrue (can_come inside i) → IsReadyFor before.play.kernel i
  ready i inside before stands sound can =
      is_ready boot.cpus before.play.kernel i inside
      (as_many boot before.play.history before.play.kernel boots stands.comes).processors stands.tells sound can

  -- an entry comes, or is refused
  in_comes : (cpu steps : ℕ) (regs : List Reg) (inside : List Bool) (before : NotifyPlay) → Stands boot inside before.play
      → IsSoundCall boot.cpus cpu steps regs → IsReadyFor before.play.kernel (item.Enter cpu steps regs)
      → (next : Play) × (enters boot before.play (visit_with before cpu steps regs) ≡ Some next)
  in_comes cpu steps regs inside before stands sound out =
      some_of (enters boot before.play (visit_with before cpu steps regs))
      (entry_comes boot before.play (visit_with before cpu steps regs) boots stands.comes out
      (granted boot.cpus cpu steps regs sound)
      (lane_whole boot.cpus cpu before.play.lanes before.play stands.lanes sound.processor))

  -- what can come comes
  pub item_comes : (i : Item) (inside : List Bool) (before : NotifyPlay) → Stands boot inside before.play
      → IsSoundItem boot.cpus i → IsTrue (can_come inside i) → IsSome (after_item boot drivers i before)
  item_comes (item.Smc cpu steps regs) inside before stands sound can =
      let out = ready (item.Smc cpu steps regs) inside before stands sound can in
      let first = in_comes cpu steps regs inside before stands sound out in
      subst (λ (o : Option Play). IsSome (option_and_then (unless_refused (goes_out boot drivers cpu))
      (option_map (with_play before) o))) (sym first.1)
      (then_comes boot drivers cpu (with_play before first.0) (visit_with before cpu steps regs) before.play boots refl
      stands.comes (entered boot (visit_with before cpu steps regs) before.play first.0 first.1) first.0.refused refl)
  item_comes (item.Enter cpu steps regs) inside before stands sound can =
      let out = ready (item.Enter cpu steps regs) inside before stands sound can in
      let first = in_comes cpu steps regs inside before stands sound out in
      subst (λ (o : Option Play). IsSome (option_map (with_play before) o)) (sym first.1) refl
  item_comes (item.Leave cpu) inside before stands sound can =
      out_comes boot drivers cpu before boots stands.comes (ready (item.Leave cpu) inside before stands sound can)
  item_comes (item.Write cpu addr bytes) inside before stands sound can = refl
  item_comes (item.Show cpu addr len) inside before stands sound can = refl

  -- one that is outside comes in and goes out again
  in_and_out : (inside : List Bool) (cpu : ℕ) → cpu < length inside → slice_index_or inside cpu false ≡ false
      → slice_set (slice_set inside cpu true) cpu false ≡ inside
  in_and_out inside cpu within is =
      set_twice inside cpu true false (slice_get-get_or inside cpu false within ∙ ap (λ (b : Bool). Some b) is)

  -- an exit that follows, unless its entry was refused
  both_stand : (cpu steps : ℕ) (regs : List Reg) (inside : List Bool) (before between after : NotifyPlay) → cpu < boot.cpus
      → Stands boot inside before.play → after.play.refused ≡ None → comes_in boot cpu steps regs before ≡ Some between
      → (refused : Option ℕ) → between.play.refused ≡ refused
      → unless_refused (goes_out boot drivers cpu) between ≡ Some after
      → Stands boot (slice_set (slice_set inside cpu true) cpu false) after.play
  both_stand cpu steps regs inside before between after there stands still came None is onward =
      let eight = below_eight boot.cpus cpu few there in
      let within : cpu < length inside = subst (λ (n : ℕ). cpu < n) (sym stands.eight) eight in
      goes_stand boot drivers cpu (slice_set inside cpu true) between after few there
      (get_or-set_same inside cpu true false within)
      (comes_stand boot cpu steps regs inside before between eight stands came is)
      (sym (unless_none (goes_out boot drivers cpu) between is) ∙ onward) is
  both_stand cpu steps regs inside before between after there stands still came (Some more) is onward =
      let here : Some between ≡ Some after = sym (unless_some (goes_out boot drivers cpu) between more is) ∙ onward in
      let same : between ≡ after = cc in
      let no : None ≡ Some more = sym still ∙ ap (λ (n : NotifyPlay). n.play.refused) (sym same) ∙ is in absurd cc

  -- who is inside behind it
  pub items_stand : (i : Item) (inside : List Bool) (before after : NotifyPlay) → IsSoundItem boot.cpus i
      → IsTrue (can_come inside i) → Stands boot inside before.play → before.play.refused ≡ None
      → after_item boot drivers i before ≡ Some after → after.play.refused ≡ None
      → Stands boot (moved inside i) after.play
  items_stand (item.Smc cpu steps regs) inside before after sound can stands going e still =
      let within : cpu < length inside =
      subst (λ (n : ℕ). cpu < n) (sym stands.eight) (below_eight boot.cpus cpu few sound.processor) in
      option_and_then_some (unless_refused (goes_out boot drivers cpu)) (comes_in boot cpu steps regs before) after e
      (λ (between : NotifyPlay) came onward.
      subst (λ (ins : List Bool). Stands boot ins after.play)
      (in_and_out inside cpu within (not-true (slice_index_or inside cpu false) can))
      (both_stand cpu steps regs inside before between after sound.processor stands still came between.play.refused refl
      onward))
  items_stand (item.Enter cpu steps regs) inside before after sound can stands going e still =
      comes_stand boot cpu steps regs inside before after (below_eight boot.cpus cpu few sound.processor) stands e still
  items_stand (item.Leave cpu) inside before after sound can stands going e still =
      goes_stand boot drivers cpu inside before after few sound can stands e going
  items_stand (item.Write cpu addr bytes) inside before after sound can stands going e still =
      let came = option_map_some (with_play before) (trace_play.after_item boot (item.Write cpu addr bytes) before.play)
      after e in
      subst (λ (n : NotifyPlay). Stands boot inside n.play) came.2
      (item_stands boot (item.Write cpu addr bytes) inside before.play came.0 few sound can stands came.1
      (ap (λ (n : NotifyPlay). n.play.refused) came.2 ∙ still))
  items_stand (item.Show cpu addr len) inside before after sound can stands going e still =
      let came = option_map_some (with_play before) (trace_play.after_item boot (item.Show cpu addr len) before.play)
      after e in
      subst (λ (n : NotifyPlay). Stands boot inside n.play) came.2
      (item_stands boot (item.Show cpu addr len) inside before.play came.0 few sound can stands came.1
      (ap (λ (n : NotifyPlay). n.play.refused) came.2 ∙ still))
