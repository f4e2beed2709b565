-- Plays of steps: what the desk changes leaves the kernel and its history alone.
use Rattle.std.proofs.Common.{◌≡◌, ℕ, Bool, true, false, List, [], ◌∷◌, ◌++◌, Option, Some, None, refl, ap, subst, sym, ◌∙◌}
use Rattle.std.specs.Prelude.{IsSome, ◌==◌, if◌then◌else◌}
use Rattle.std.specs.Option.{option_and_then, option_map, option_map_or}
use Rattle.std.proofs.lemmas.Bool.Decides.{Decides-eqb}
use Rattle.std.proofs.lemmas.List.{append-nil}
use Rattle.std.proofs.lemmas.Option.{option_and_then_some}
use Rattle.event_journal.specs.declared.event.Event.{Event}
use Rattle.event_journal.specs.declared.event.Event.TheVariants.{Entry, Exit}
use Rattle.kernel_model.specs.Application.{Booted, booted}
use Rattle.kernel_model.specs.Argument.{reg}
use Rattle.kernel_model.specs.Exit.{Exited, exit}
use Rattle.kernel_model.specs.History.{IsLegal, after_event, after_events, kernel_after}
use Rattle.kernel_model.specs.Kernel.{Kernel, Visit, first_kernel}
use Rattle.kernel_model.proofs.Parts.{option_map_some}
use Rattle.kernel_model.proofs.Past.{after_events-append}
use Rattle.notif.proofs.Reaching.{signals_reach_drivers}
use Rattle.notify_text.specs.Steps.{Signals, Step, Takes}
use Rattle.ns_ram.specs.Writes.{Write}
use Rattle.play_model.specs.Laws.{ReadsAtMost}
use Rattle.play_model.specs.Line.{Ret}
use Rattle.play_model.specs.Play.{Play, enters, first_play_within, leaves, leaves_with, with_event, with_line}
use Rattle.play_model.specs.Play.{with_writes}
use Rattle.play_model.proofs.Entries.{CameIn, Entered, WasRefused, entered}
use Rattle.play_model.proofs.Realms.{histories_have_realms}
use Rattle.play_model.proofs.Returns.{alone_in, no_call_in, no_slot_in, returns_in, together_in}
use Rattle.play_model.proofs.TrueToKernel.{exits_in, refused_in}
use Rattle.play_model.proofs.Within.{entry_within, first_within, out_within, within_same}
use Rattle.smc_abi.specs.Call.{call_of}
use Rattle.smc_abi.specs.declared.call.Call.{Call}
use Rattle.smc_abi.specs.declared.call.Call.TheVariants.{Resume, Unknown}
use Rattle.trace_text.specs.declared.item.Item.{Item}
use Rattle.trace_text.specs.declared.item.Item.TheVariants as item
use Rattle.trace_text.specs.declared.item.Reg.{Reg}
use Rattle.notify_play.specs.Duty.{Duty, Enables, Nothing, TellsValue, duty_of_call}
use Rattle.notify_play.specs.Laws.{OtherExitsStay, ResumesAskNothing, StepsArePlayed}
use Rattle.notify_play.specs.NotifyPlay.{Drivers, NotifyPlay, after_item, after_step, after_steps, comes_in, duty_at}
use Rattle.notify_play.specs.NotifyPlay.{first_notify_play, goes_out, goes_out_with, tells, unless_refused, visit_with}
use Rattle.notify_play.specs.NotifyPlay.{with_play}

-- the play's kernel is the one that its history comes to
abbrev pub Follows : Booted → Play → Type 0
Follows boot play = kernel_after boot play.history ≡ Some play.kernel

-- ---- entries and exits

pub event_follows : (boot : Booted) (event : Event) (before after : Play) → with_event boot event before ≡ Some after
    → Follows boot before → Follows boot after
event_follows boot event before after e there =
    let came = option_map_some
    (λ (next : Kernel). record before { kernel = next; history = before.history ++ event ∷ [] })
    (after_event boot before.kernel event) after e in
    subst (λ (p : Play). Follows boot p) came.2
    (after_events-append boot (first_kernel boot) before.history (event ∷ [])
    ∙ ap (λ (o : Option Kernel). option_and_then (λ k. after_events boot k (event ∷ [])) o) there
    ∙ ap (λ (o : Option Kernel). option_and_then (λ k. Some k) o) came.1)

entry_follows : (boot : Booted) (visit : Visit) (before after : Play) → Entered boot visit before after
    → Follows boot before → Follows boot after
entry_follows boot visit before after (CameIn reads few e) there =
    event_follows boot (Entry visit.cpu (record { a = visit.regs }) visit.steps reads) before after e there
entry_follows boot visit before after (WasRefused reads much is) there =
    subst (λ (p : Play). Follows boot p) is there

-- and its entries have read no more bytes than they may
record Keeps (most_bytes : ℕ) (boot : Booted) (play : Play) : Type 0 where
  follows : Follows boot play
  within : ReadsAtMost most_bytes play

-- a play with signals, seen as the kernel's
abbrev Kept : ℕ → Booted → NotifyPlay → Type 0
Kept most_bytes boot told = Keeps most_bytes boot told.play

comes_in_kept : {most_bytes : ℕ} (boot : Booted) (cpu steps : ℕ) (regs : List Reg) (before after : NotifyPlay)
    → comes_in boot cpu steps regs before ≡ Some after → before.play.refused ≡ None → Kept most_bytes boot before
    → Kept most_bytes boot after
comes_in_kept {most_bytes} boot cpu steps regs before after e going there =
    let visit = visit_with before cpu steps regs in
    let came = option_map_some (with_play before) (enters boot before.play visit) after e in
    let entry = entered boot visit before.play came.0 came.1 in
    let here : Keeps most_bytes boot came.0 = record {
      follows = entry_follows boot visit before.play came.0 entry there.follows;
      within = entry_within boot visit before.play came.0 entry going there.within;
    } in
    subst (λ (p : NotifyPlay). Kept most_bytes boot p) came.2 here

goes_out_kept : {most_bytes : ℕ} (boot : Booted) (drivers : Drivers) (cpu : ℕ) (before after : NotifyPlay)
    → goes_out boot drivers cpu before ≡ Some after → before.play.refused ≡ None → Kept most_bytes boot before
    → Kept most_bytes boot after
goes_out_kept {most_bytes} boot drivers cpu before after e going there =
    option_and_then_some (goes_out_with boot drivers before cpu) (exit before.play.kernel cpu) after e
    (λ (exited : Exited) found onward.
    let event : Event = Exit cpu (record { a = exited.regs }) in
    let tell = tells drivers before cpu exited (duty_at before cpu exited) in
    let came = option_map_some tell (with_event boot event before.play) after onward in
    let told : NotifyPlay = tell came.0 in
    let here : Keeps most_bytes boot told.play = record {
      follows = event_follows boot event before.play came.0 came.1 there.follows;
      within = within_same came.0 told.play refl refl refl
          (out_within boot cpu exited.regs before.play came.0 came.1 going there.within);
    } in
    subst (λ (p : NotifyPlay). Kept most_bytes boot p) came.2 here)

-- ---- steps

-- it goes on, or an entry was refused
unless_kept : {most_bytes : ℕ} (boot : Booted) (onward : NotifyPlay → Option NotifyPlay) (before after : NotifyPlay)
    (refused : Option ℕ) → before.play.refused ≡ refused → unless_refused onward before ≡ Some after
    → (before.play.refused ≡ None → onward before ≡ Some after → Kept most_bytes boot after) → Kept most_bytes boot before
    → Kept most_bytes boot after
unless_kept boot onward before after None is e goes there =
    goes is (sym (ap (λ (o : Option ℕ). option_map_or (λ more. Some before) o (onward before)) is) ∙ e)
unless_kept {most_bytes} boot onward before after (Some more) is e goes there =
    let here : Some before ≡ Some after = sym
    (ap (λ (o : Option ℕ). option_map_or (λ more. Some before) o (onward before)) is) ∙ e in
    let same : before ≡ after = cc in
    subst (λ (p : NotifyPlay). Kept most_bytes boot p) same there

-- RAM is written or shown
ram_kept : {most_bytes : ℕ} (boot : Booted) (before now after : Play) → now ≡ after → now.history ≡ before.history
    → now.kernel ≡ before.kernel → now.refused ≡ before.refused → now.most_bytes ≡ before.most_bytes
    → Keeps most_bytes boot before → Keeps most_bytes boot after
ram_kept {most_bytes} boot before now after is history kernel refused limit there =
    let here : Keeps most_bytes boot now = record {
      follows = ap (kernel_after boot) history ∙ there.follows ∙ ap (λ (k : Kernel). Some k) (sym kernel);
      within = within_same before now history refused limit there.within;
    } in
    subst (Keeps most_bytes boot) is here

item_kept : {most_bytes : ℕ} (boot : Booted) (drivers : Drivers) (i : Item) (before after : NotifyPlay)
    → after_item boot drivers i before ≡ Some after → before.play.refused ≡ None → Kept most_bytes boot before
    → Kept most_bytes boot after
item_kept boot drivers (item.Smc cpu steps regs) before after e going there =
    option_and_then_some (unless_refused (goes_out boot drivers cpu)) (comes_in boot cpu steps regs before) after e
    (λ (between : NotifyPlay) came onward.
    let inside = comes_in_kept boot cpu steps regs before between came going there in
    unless_kept boot (goes_out boot drivers cpu) between after between.play.refused refl onward
    (λ still out. goes_out_kept boot drivers cpu between after out still inside) inside)
item_kept boot drivers (item.Enter cpu steps regs) before after e going there =
    comes_in_kept boot cpu steps regs before after e going there
item_kept boot drivers (item.Leave cpu) before after e going there =
    goes_out_kept boot drivers cpu before after e going there
item_kept boot drivers (item.Write cpu addr bytes) before after e going there =
    let play = ap (λ (o : Option NotifyPlay). option_map_or (λ (p : NotifyPlay). p.play) o before.play) e in
    ram_kept boot before.play _ after.play play refl refl refl refl there
item_kept boot drivers (item.Show cpu addr len) before after e going there =
    let play = ap (λ (o : Option NotifyPlay). option_map_or (λ (p : NotifyPlay). p.play) o before.play) e in
    ram_kept boot before.play _ after.play play refl refl refl refl there

step_kept : {most_bytes : ℕ} (boot : Booted) (drivers : Drivers) (step : Step) (before after : NotifyPlay)
    → after_step boot drivers step before ≡ Some after → before.play.refused ≡ None → Kept most_bytes boot before
    → Kept most_bytes boot after
step_kept boot drivers (Takes i) before after e going there = item_kept boot drivers i before after e going there
step_kept {most_bytes} boot drivers (Signals value) before after e going there =
    let play = ap (λ (o : Option NotifyPlay). option_map_or (λ (p : NotifyPlay). p.play) o before.play) e in
    subst (Keeps most_bytes boot) play there

steps_kept : {most_bytes : ℕ} (boot : Booted) (drivers : Drivers) (steps : List Step) (before after : NotifyPlay)
    → after_steps boot drivers steps before ≡ Some after → Kept most_bytes boot before → Kept most_bytes boot after
steps_kept {most_bytes} boot drivers [] before after e there =
    let same : before ≡ after = cc in
    subst (λ (p : NotifyPlay). Kept most_bytes boot p) same there
steps_kept boot drivers (first ∷ steps) before after e there =
    option_and_then_some (λ next. after_steps boot drivers steps next)
    (unless_refused (after_step boot drivers first) before) after e
    (λ (next : NotifyPlay) came onward.
    steps_kept boot drivers steps next after onward
    (unless_kept boot (after_step boot drivers first) before next before.play.refused refl came
    (λ going taken. step_kept boot drivers first before next taken going there) there))

-- ---- the law

pub steps_are_played : StepsArePlayed
steps_are_played most_bytes ram natives drivers boot fills steps told boots e =
    let on = booted boot natives in
    let first = first_play_within most_bytes ram on fills in
    let begins : Keeps most_bytes on first = record { follows = refl; within = first_within most_bytes ram on fills } in
    let kept = steps_kept on drivers steps (first_notify_play on first) told e begins in
    let legal : IsLegal on told.play.history = record { boots = boots; follows = subst IsSome (sym kept.follows) refl } in
    record {
      legal = legal;
      kernel = kept.follows;
      limit = kept.within.limit;
      few_bytes = kept.within.few_bytes;
      too_many = kept.within.too_many;
      exits = exits_in on told.play.history legal;
      returns = returns_in on told.play.history legal;
      no_call = no_call_in on told.play.history legal;
      change_nothing = refused_in on told.play.history legal;
      no_slot = no_slot_in on told.play.history legal;
      alone = alone_in on told.play.history legal;
      together = together_in on told.play.history legal;
      realms = histories_have_realms on told.play.history legal;
      bottom_half = signals_reach_drivers drivers told.calls;
    }

-- ---- exits that ask nothing

module _ (boot : Booted) (drivers : Drivers) (before : NotifyPlay) (cpu : ℕ) (exited : Exited)
    (there : exit before.play.kernel cpu ≡ Some exited) (nothing : duty_at before cpu exited ≡ Nothing) where
  -- the play with its event
  abbrev gone : Option Play
  gone = with_event boot (Exit cpu (record { a = exited.regs })) before.play

  -- what it comes to where it asks this
  abbrev come_to : Duty → Option Play → Option Play
  come_to duty o = option_map (λ (after : NotifyPlay). after.play) (option_map (tells drivers before cpu exited duty) o)

  abbrev writes_and_tells : List Write → Play → Play
  writes_and_tells writes next = with_line (Ret cpu exited.regs) (with_writes cpu writes next)

  as_ever : (o : Option Play) → come_to Nothing o ≡ option_map (writes_and_tells exited.writes) o
  as_ever None = refl
  as_ever (Some next) = ap (λ (writes : List Write). Some (writes_and_tells writes next)) (append-nil exited.writes)

  goes_as_ever : option_map (λ (after : NotifyPlay). after.play) (goes_out boot drivers cpu before)
      ≡ leaves boot cpu before.play
  goes_as_ever =
      ap (λ (o : Option Exited).
      option_map (λ (after : NotifyPlay). after.play) (option_and_then (goes_out_with boot drivers before cpu) o)) there
      ∙ ap (λ (duty : Duty). come_to duty gone) nothing
      ∙ as_ever gone
      ∙ sym (ap (λ (o : Option Exited). option_and_then (leaves_with boot before.play cpu) o) there)

-- a function id that stands for another call isn't that of a return from RPC
not_resumes : (id other : ℕ) → call_of id ≡ Resume → call_of other ≡ Unknown → (id == other) ≡ true → ⊥
not_resumes id other resumes unknown same =
    let both : Unknown ≡ Resume =
    sym unknown ∙ subst (λ (n : ℕ). call_of n ≡ Resume) ((Decides-eqb id other).0 same) resumes in
    absurd cc

pub resumes_ask_nothing : ResumesAskNothing
resumes_ask_nothing came a0 resumes = by_first (reg came.regs 0 == 0xb2000010) refl
  where
    by_second : (test : Bool) → (reg came.regs 0 == 0xb2000011) ≡ test
        → (if test then TellsValue else duty_of_call (call_of (reg came.regs 0)) came.reads a0) ≡ Nothing
    by_second true is = absurd (not_resumes (reg came.regs 0) 0xb2000011 resumes refl is)
    by_second false is = ap (λ (call : Call). duty_of_call call came.reads a0) resumes

    by_first : (test : Bool) → (reg came.regs 0 == 0xb2000010) ≡ test
        → (if test then Enables
        else (if reg came.regs 0 == 0xb2000011 then TellsValue
        else duty_of_call (call_of (reg came.regs 0)) came.reads a0)) ≡ Nothing
    by_first true is = absurd (not_resumes (reg came.regs 0) 0xb2000010 resumes refl is)
    by_first false is = by_second (reg came.regs 0 == 0xb2000011) refl

pub other_exits_stay : OtherExitsStay
other_exits_stay boot drivers before cpu exited there nothing =
    goes_as_ever boot drivers before cpu exited there nothing
