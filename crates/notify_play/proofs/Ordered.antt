-- Plays of steps hold what their steps let happen in its order, and print what was told at each exit.
use Rattle.std.proofs.Common.{◌≡◌, ℕ, ◌<◌, Bool, true, false, List, [], ◌∷◌, ◌++◌, length, map, Option, Some, None, refl, ap, subst, sym, ◌∙◌}
use Rattle.std.specs.Prelude.{◌==◌, if◌then◌else◌, filter_map, replicate, slice_get, slice_index_or, slice_set}
use Rattle.std.specs.List.{flat_map}
use Rattle.std.specs.Option.{option_and_then, option_map_or}
use Rattle.std.proofs.lemmas.Bool.Decides.{Decides-eqb}
use Rattle.std.proofs.lemmas.List.{append-nil, append_assoc, get_or-replicate, get_or-set_other, get_or-set_same, length-replicate, length-set}
use Rattle.std.proofs.lemmas.List.Elements.{filter_map-append}
use Rattle.std.proofs.lemmas.Option.{option_and_then_some, slice_get_within}
use Rattle.event_journal.specs.declared.event.Event.{Event}
use Rattle.event_journal.specs.declared.event.Event.TheVariants.{Entry, Exit}
use Rattle.kernel_model.specs.Application.{Booted, IsBooted, booted}
use Rattle.kernel_model.specs.Exit.{Exited, exit}
use Rattle.kernel_model.specs.History.{after_event, kernel_after}
use Rattle.kernel_model.specs.Kernel.{Kernel, Processor}
use Rattle.kernel_model.proofs.Parts.{option_map_some}
use Rattle.kernel_model.proofs.SoundSteps.{as_many}
use Rattle.notify_text.specs.Steps.{Signals, Step, Takes}
use Rattle.ns_ram.specs.Lane.{bytes_at}
use Rattle.ns_ram.specs.declared.read.Read.{Read}
use Rattle.play_model.specs.Line.{Line, Mem, Ret}
use Rattle.play_model.specs.Order.{Comes, Leaves, line_of_event, told_by_line}
use Rattle.play_model.specs.Play.{Play, enters, first_play_within, lane_of, last_answer, number_in, with_event, with_line, with_writes}
use Rattle.play_model.proofs.Coming as coming
use Rattle.play_model.proofs.Entries.{CameIn, Entered, WasRefused, entered, event_made}
use Rattle.play_model.proofs.LastAnswers.{last_answer-entry, last_answer-exit}
use Rattle.play_model.proofs.LinesStay.{event_prints}
use Rattle.smc_abi.specs.declared.regs.Regs.{Regs}
use Rattle.trace_text.specs.declared.item.Item.{Item}
use Rattle.trace_text.specs.declared.item.Item.TheVariants as item
use Rattle.trace_text.specs.declared.item.Reg.{Reg}
use Rattle.notify_play.specs.Duty.{last_entry}
use Rattle.notify_play.specs.Laws.{StepsHoldInOrder}
use Rattle.notify_play.specs.NotifyPlay.{Drivers, NotifyPlay, after_item, after_step, after_steps, comes_in, desk_of, duty_at}
use Rattle.notify_play.specs.NotifyPlay.{first_notify_play, goes_out, goes_out_with, tells, unless_refused, visit_with}
use Rattle.notify_play.specs.NotifyPlay.{with_play}
use Rattle.notify_play.specs.Order.{Lead, Moment, Moves, Signalled, Turn, at_first, event_comes, signal_comes, turns_of}
use Rattle.notify_play.specs.Told.{told_regs, with_duty}
use Rattle.notify_play.proofs.Asking.{refused_stays}
use Rattle.notify_play.proofs.Following.{event_follows}

-- ---- turns in a row

lead-append : (drivers : Drivers) (now between end : Moment) (turns more : List Turn) (events behind : List Event)
    → Lead drivers now turns events between → Lead drivers between more behind end
    → Lead drivers now (turns ++ more) (events ++ behind) end
lead-append drivers now between end [] more [] behind first second =
    subst (λ (m : Moment). Lead drivers m more behind end) first second
lead-append drivers now between end [] more (event ∷ events) behind first second = absurd first
lead-append drivers now between end (Signalled value ∷ turns) more events behind first second =
    lead-append drivers (signal_comes now value) between end turns more events behind first second
lead-append drivers now between end (Moves move ∷ turns) more [] behind first second = absurd first
lead-append drivers now between end (Moves move ∷ turns) more (event ∷ events) behind first second =
    (first.0, lead-append drivers (event_comes drivers now event) between end turns more events behind first.1 second)

-- ---- where a play stands

-- its moment, where this was told
abbrev moment_of : List Event → NotifyPlay → Moment
moment_of told play = record { history = play.play.history; told = told; calls = play.calls }

record Stands (boot : Booted) (told : List Event) (play : NotifyPlay) : Type 0 where
  comes : kernel_after boot play.play.history ≡ Some play.play.kernel
  count : length play.answers ≡ boot.cpus
  answers : (cpu : ℕ) → cpu < boot.cpus → slice_index_or play.answers cpu [] ≡ last_answer told cpu
  returns : filter_map told_by_line play.play.lines ≡ filter_map line_of_event told

-- the turns lead from one play to the other
record Goes (boot : Booted) (drivers : Drivers) (turns : List Turn) (told : List Event) (before after : NotifyPlay) : Type 0
  where
    events : List Event
    history : after.play.history ≡ before.play.history ++ events
    later : List Event
    lead : Lead drivers (moment_of told before) turns events (moment_of later after)
    stands : Stands boot later after

goes_both : (boot : Booted) (drivers : Drivers) (turns more : List Turn) (told : List Event)
    (before between after : NotifyPlay) (first : Goes boot drivers turns told before between)
    → Goes boot drivers more first.later between after → Goes boot drivers (turns ++ more) told before after
goes_both boot drivers turns more told before between after first second = record {
  events = first.events ++ second.events;
  history = second.history ∙ ap (λ (h : List Event). h ++ second.events) first.history
      ∙ append_assoc before.play.history first.events second.events;
  later = second.later;
  lead = lead-append drivers (moment_of told before) (moment_of first.later between) (moment_of second.later after) turns
      more first.events second.events first.lead second.lead;
  stands = second.stands;
}

goes_nowhere : (boot : Booted) (drivers : Drivers) (told : List Event) (before : NotifyPlay) → Stands boot told before
    → Goes boot drivers [] told before before
goes_nowhere boot drivers told before stands = record {
  events = [];
  history = sym (append-nil before.play.history);
  later = told;
  lead = refl;
  stands = stands;
}

-- nothing came but RAM, lines of it and a refusal
stays_at : (boot : Booted) (drivers : Drivers) (told : List Event) (before : NotifyPlay) (play : Play) (after : NotifyPlay)
    → play.history ≡ before.play.history → play.kernel ≡ before.play.kernel
    → filter_map told_by_line play.lines ≡ filter_map told_by_line before.play.lines → with_play before play ≡ after
    → Stands boot told before → Goes boot drivers [] told before after
stays_at boot drivers told before play after history kernel lines is stands =
    let here : Stands boot told (with_play before play) = record {
      comes = ap (kernel_after boot) history ∙ stands.comes ∙ ap (λ (k : Kernel). Some k) (sym kernel);
      count = stands.count;
      answers = stands.answers;
      returns = lines ∙ stands.returns;
    } in
    let goes : Goes boot drivers [] told before (with_play before play) = record {
      events = [];
      history = history ∙ sym (append-nil before.play.history);
      later = told;
      lead = ap (λ (h : List Event). record { history = h; told = told; calls = before.calls }) history;
      stands = here;
    } in
    subst (Goes boot drivers [] told before) is goes

-- ---- entries and exits

module _ (boot : Booted) (boots : IsBooted boot) (drivers : Drivers) where
  -- a processor that is there has a number below the boot's
  within : (play : Play) (cpu : ℕ) (was : Processor) → kernel_after boot play.history ≡ Some play.kernel
      → slice_get play.kernel.processors cpu ≡ Some was → cpu < boot.cpus
  within play cpu was comes there =
      subst (λ (n : ℕ). cpu < n) (as_many boot play.history play.kernel boots comes).processors
      (slice_get_within play.kernel.processors cpu was there)

  entry_goes : (cpu steps : ℕ) (regs : List Reg) (reads : List Read) (told : List Event) (before : NotifyPlay) (came : Play)
      → (let visit = visit_with before cpu steps regs in
      with_event boot (Entry cpu (record { a = visit.regs }) steps reads) before.play ≡ Some came)
      → Stands boot told before → Goes boot drivers (Moves (Comes cpu steps regs) ∷ []) told before (with_play before came)
  entry_goes cpu steps regs reads told before came e stands =
      let visit = visit_with before cpu steps regs in
      let given : Regs = record { a = visit.regs } in
      let event : Event = Entry cpu given steps reads in
      let made = event_made boot event before.play came e in
      let next = option_map_some
      (λ (k : Kernel). record before.play { kernel = k; history = before.play.history ++ event ∷ [] })
      (after_event boot before.play.kernel event) came e in
      let moves = coming.comes_in boot before.play.kernel next.0 visit reads next.1 in
      let below = within before.play cpu moves.was stands.comes moves.there in
      let lines = event_prints boot event before.play came e in
      record {
        events = event ∷ [];
        history = made.0;
        later = told ++ event ∷ [];
        lead = (
          ap (λ (answer : List ℕ). record { cpu = cpu; regs = map (number_in answer) regs; steps = steps })
              (sym (stands.answers cpu below)),
          ap (λ (h : List Event). record { history = h; told = told ++ event ∷ []; calls = before.calls }) made.0,
        );
        stands = record {
          comes = event_follows boot event before.play came e stands.comes;
          count = stands.count;
          answers = λ other few. stands.answers other few ∙ sym (last_answer-entry told cpu given steps reads other);
          returns = ap (λ (ls : List Line). filter_map told_by_line ls) lines ∙ stands.returns
              ∙ sym (filter_map-append line_of_event told (event ∷ []) ∙ append-nil (filter_map line_of_event told));
        };
      }

  -- at an exit its own processor is told
  was_told : (told : List Event) (answers : List (List ℕ)) (cpu other : ℕ) (regs : List ℕ) (same : Bool)
      → (cpu == other) ≡ same → other < length answers → slice_index_or answers other [] ≡ last_answer told other
      → slice_index_or (slice_set answers cpu regs) other [] ≡ (if same then regs else last_answer told other)
  was_told told answers cpu other regs true is few was =
      let one : cpu ≡ other = (Decides-eqb cpu other).0 is in
      subst (λ (n : ℕ). slice_index_or (slice_set answers n regs) other [] ≡ regs) (sym one)
      (get_or-set_same answers other regs [] few)
  was_told told answers cpu other regs false is few was =
      get_or-set_other answers cpu other regs []
      (λ (e : other ≡ cpu). let also : (cpu == other) ≡ true = (Decides-eqb cpu other).1 (sym e) in absurd cc)
      ∙ was

  exit_goes : (cpu : ℕ) (told : List Event) (before : NotifyPlay) (exited : Exited) (gone : Play)
      → with_event boot (Exit cpu (record { a = exited.regs })) before.play ≡ Some gone → Stands boot told before
      → Goes boot drivers (Moves (Leaves cpu) ∷ []) told before
      (tells drivers before cpu exited (duty_at before cpu exited) gone)
  exit_goes cpu told before exited gone e stands =
      let event : Event = Exit cpu (record { a = exited.regs }) in
      let duty = duty_at before cpu exited in
      let regs = told_regs (desk_of drivers before) (last_entry before.play.history cpu).regs exited.regs duty in
      let line : Line = Ret cpu regs in
      let saying : Event = Exit cpu (record { a = regs }) in
      let made = event_made boot event before.play gone e in
      let lines = event_prints boot event before.play gone e in
      record {
        events = event ∷ [];
        history = made.0;
        later = told ++ saying ∷ [];
        lead = (
          refl,
          ap (λ (h : List Event). record { history = h; told = told ++ saying ∷ []; calls = with_duty duty before.calls })
              made.0,
        );
        stands = record {
          comes = event_follows boot event before.play gone e stands.comes;
          count = length-set before.answers cpu regs ∙ stands.count;
          answers = λ other few.
              was_told told before.answers cpu other regs (cpu == other) refl
              (subst (λ (n : ℕ). other < n) (sym stands.count) few) (stands.answers other few)
              ∙ sym (last_answer-exit told cpu (record { a = regs }) other);
          returns = filter_map-append told_by_line gone.lines (line ∷ [])
              ∙ ap (λ (ls : List Line). filter_map told_by_line ls ++ line ∷ []) lines
              ∙ ap (λ (ls : List Line). ls ++ line ∷ []) stands.returns
              ∙ sym (filter_map-append line_of_event told (saying ∷ []));
        };
      }

  goes_out_goes : (cpu : ℕ) (told : List Event) (before after : NotifyPlay) → goes_out boot drivers cpu before ≡ Some after
      → Stands boot told before → Goes boot drivers (Moves (Leaves cpu) ∷ []) told before after
  goes_out_goes cpu told before after e stands =
      option_and_then_some (goes_out_with boot drivers before cpu) (exit before.play.kernel cpu) after e
      (λ (exited : Exited) found onward.
      let came = option_map_some (tells drivers before cpu exited (duty_at before cpu exited))
      (with_event boot (Exit cpu (record { a = exited.regs })) before.play) after onward in
      subst (Goes boot drivers (Moves (Leaves cpu) ∷ []) told before) came.2
      (exit_goes cpu told before exited came.0 came.1 stands))

  -- ---- one step

  -- it was taken, or its entry was refused
  data Came (turns : List Turn) (told : List Event) (before after : NotifyPlay) : Type 0 where
    Taken : Goes boot drivers turns told before after → after.play.refused ≡ None → Came turns told before after
    Refused : Goes boot drivers [] told before after → (more : ℕ) → after.play.refused ≡ Some more
        → Came turns told before after

  -- an event refuses nothing
  still_going : (event : Event) (before came : Play) → with_event boot event before ≡ Some came → before.refused ≡ None
      → came.refused ≡ None
  still_going event before came e going = (event_made boot event before came e).1 ∙ going

  entered_came : (cpu steps : ℕ) (regs : List Reg) (told : List Event) (before : NotifyPlay) (came : Play)
      → Entered boot (visit_with before cpu steps regs) before.play came → before.play.refused ≡ None
      → Stands boot told before → Came (Moves (Comes cpu steps regs) ∷ []) told before (with_play before came)
  entered_came cpu steps regs told before came (CameIn reads few e) going stands =
      let visit = visit_with before cpu steps regs in
      Taken (entry_goes cpu steps regs reads told before came e stands)
      (still_going (Entry cpu (record { a = visit.regs }) steps reads) before.play came e going)
  entered_came cpu steps regs told before came (WasRefused reads much is) going stands =
      Refused (stays_at boot drivers told before came (with_play before came) (ap (λ (p : Play). p.history) (sym is))
      (ap (λ (p : Play). p.kernel) (sym is)) (ap (λ (p : Play). filter_map told_by_line p.lines) (sym is)) refl stands)
      _ (ap (λ (p : Play). p.refused) (sym is))

  comes_in_came : (cpu steps : ℕ) (regs : List Reg) (told : List Event) (before after : NotifyPlay)
      → comes_in boot cpu steps regs before ≡ Some after → before.play.refused ≡ None → Stands boot told before
      → Came (Moves (Comes cpu steps regs) ∷ []) told before after
  comes_in_came cpu steps regs told before after e going stands =
      let visit = visit_with before cpu steps regs in
      let came = option_map_some (with_play before) (enters boot before.play visit) after e in
      subst (Came (Moves (Comes cpu steps regs) ∷ []) told before) came.2
      (entered_came cpu steps regs told before came.0 (entered boot visit before.play came.0 came.1) going stands)

  out_going : (cpu : ℕ) (before after : NotifyPlay) → goes_out boot drivers cpu before ≡ Some after
      → before.play.refused ≡ None → after.play.refused ≡ None
  out_going cpu before after e going =
      option_and_then_some (goes_out_with boot drivers before cpu) (exit before.play.kernel cpu) after e
      (λ (exited : Exited) found onward.
      let event : Event = Exit cpu (record { a = exited.regs }) in
      let came = option_map_some (tells drivers before cpu exited (duty_at before cpu exited))
      (with_event boot event before.play) after onward in
      ap (λ (n : NotifyPlay). n.play.refused) (sym came.2) ∙ still_going event before.play came.0 came.1 going)

  goes_out_came : (cpu : ℕ) (told : List Event) (before after : NotifyPlay) → goes_out boot drivers cpu before ≡ Some after
      → before.play.refused ≡ None → Stands boot told before → Came (Moves (Leaves cpu) ∷ []) told before after
  goes_out_came cpu told before after e going stands =
      Taken (goes_out_goes cpu told before after e stands) (out_going cpu before after e going)

  -- an exit behind an entry, unless that was refused
  both_came : (cpu : ℕ) (first : Turn) (told : List Event) (before between after : NotifyPlay)
      → Came (first ∷ []) told before between → (refused : Option ℕ) → between.play.refused ≡ refused
      → unless_refused (goes_out boot drivers cpu) between ≡ Some after
      → Came (first ∷ Moves (Leaves cpu) ∷ []) told before after
  both_came cpu first told before between after (Taken goes going) None is e =
      let out : goes_out boot drivers cpu between ≡ Some after = sym
      (ap (λ (o : Option ℕ). option_map_or (λ more. Some between) o (goes_out boot drivers cpu between)) is) ∙ e in
      Taken
      (goes_both boot drivers (first ∷ []) (Moves (Leaves cpu) ∷ []) told before between after goes
      (goes_out_goes cpu goes.later between after out goes.stands))
      (out_going cpu between after out going)
  both_came cpu first told before between after (Taken goes going) (Some more) is e =
      let none : None ≡ Some more = sym going ∙ is in absurd cc
  both_came cpu first told before between after (Refused goes other not) None is e =
      let none : None ≡ Some other = sym is ∙ not in absurd cc
  both_came cpu first told before between after (Refused goes other not) (Some more) is e =
      let here : Some between ≡ Some after = sym
      (ap (λ (o : Option ℕ). option_map_or (λ more. Some between) o (goes_out boot drivers cpu between)) is) ∙ e in
      let same : between ≡ after = cc in
      subst (Came (first ∷ Moves (Leaves cpu) ∷ []) told before) same (Refused goes other not)

  -- RAM is written or shown
  ram_came : (told : List Event) (before : NotifyPlay) (play : Play) (after : NotifyPlay)
      → play.history ≡ before.play.history → play.kernel ≡ before.play.kernel
      → filter_map told_by_line play.lines ≡ filter_map told_by_line before.play.lines
      → play.refused ≡ before.play.refused → Some (with_play before play) ≡ Some after → before.play.refused ≡ None
      → Stands boot told before → Came [] told before after
  ram_came told before play after history kernel lines refused e going stands =
      let is : with_play before play ≡ after = cc in
      Taken (stays_at boot drivers told before play after history kernel lines is stands)
      (ap (λ (n : NotifyPlay). n.play.refused) (sym is) ∙ refused ∙ going)

  item_came : (i : Item) (told : List Event) (before after : NotifyPlay) → after_item boot drivers i before ≡ Some after
      → before.play.refused ≡ None → Stands boot told before → Came (turns_of (Takes i)) told before after
  item_came (item.Smc cpu steps regs) told before after e going stands =
      option_and_then_some (unless_refused (goes_out boot drivers cpu)) (comes_in boot cpu steps regs before) after e
      (λ (between : NotifyPlay) came onward.
      both_came cpu (Moves (Comes cpu steps regs)) told before between after
      (comes_in_came cpu steps regs told before between came going stands) between.play.refused refl onward)
  item_came (item.Enter cpu steps regs) told before after e going stands =
      comes_in_came cpu steps regs told before after e going stands
  item_came (item.Leave cpu) told before after e going stands = goes_out_came cpu told before after e going stands
  item_came (item.Write cpu addr bytes) told before after e going stands =
      ram_came told before (with_writes cpu (record { addr = addr; bytes = bytes } ∷ []) before.play) after refl refl refl
      refl e going stands
  item_came (item.Show cpu addr len) told before after e going stands =
      let line : Line = Mem cpu addr (bytes_at (lane_of before.play cpu) addr len) in
      ram_came told before (with_line line before.play) after refl refl
      (filter_map-append told_by_line before.play.lines (line ∷ []) ∙ append-nil (filter_map told_by_line before.play.lines))
      refl e going stands

  step_came : (step : Step) (told : List Event) (before after : NotifyPlay) → after_step boot drivers step before ≡ Some after
      → before.play.refused ≡ None → Stands boot told before → Came (turns_of step) told before after
  step_came (Takes i) told before after e going stands = item_came i told before after e going stands
  step_came (Signals value) told before after e going stands =
      let signalled : NotifyPlay = record before { calls = (signal_comes (moment_of told before) value).calls } in
      let is : signalled ≡ after = cc in
      let goes : Goes boot drivers (Signalled value ∷ []) told before signalled = record {
        events = [];
        history = sym (append-nil before.play.history);
        later = told;
        lead = refl;
        stands = record {
          comes = stands.comes;
          count = stands.count;
          answers = stands.answers;
          returns = stands.returns;
        };
      } in
      subst (Came (Signalled value ∷ []) told before) is (Taken goes going)

  -- ---- steps in a row

  -- a beginning of the steps was taken, and all of them where nothing was refused
  record Ran (steps : List Step) (told : List Event) (before after : NotifyPlay) : Type 0 where
    taken : List Step
    rest : List Step
    cut : steps ≡ taken ++ rest
    goes : Goes boot drivers (flat_map turns_of taken) told before after
    all : after.play.refused ≡ None → rest ≡ []

  refused_ran : (steps : List Step) (told : List Event) (before after : NotifyPlay) (more : ℕ)
      → after.play.refused ≡ Some more → Goes boot drivers [] told before after → Ran steps told before after
  refused_ran steps told before after more is goes = record {
    taken = [];
    rest = steps;
    cut = refl;
    goes = goes;
    all = λ none. let not : None ≡ Some more = sym none ∙ is in absurd cc;
  }

  first_ran : (first : Step) (steps : List Step) (told : List Event) (before next after : NotifyPlay)
      → Came (turns_of first) told before next
      → ((later : List Event) → next.play.refused ≡ None → Stands boot later next → Ran steps later next after)
      → ((more : ℕ) → next.play.refused ≡ Some more → next ≡ after) → Ran (first ∷ steps) told before after
  first_ran first steps told before next after (Taken goes going) ran stays =
      let others = ran goes.later going goes.stands in
      record {
        taken = first ∷ others.taken;
        rest = others.rest;
        cut = ap (λ (some : List Step). first ∷ some) others.cut;
        goes = goes_both boot drivers (turns_of first) (flat_map turns_of others.taken) told before next after goes
            others.goes;
        all = others.all;
      }
  first_ran first steps told before next after (Refused goes more is) ran stays =
      subst (Ran (first ∷ steps) told before) (stays more is) (refused_ran (first ∷ steps) told before next more is goes)

  steps_ran : (steps : List Step) (told : List Event) (before after : NotifyPlay) → before.play.refused ≡ None
      → Stands boot told before → after_steps boot drivers steps before ≡ Some after → Ran steps told before after
  steps_ran [] told before after going stands e =
      let same : before ≡ after = cc in
      subst (Ran [] told before) same (record {
        taken = [];
        rest = [];
        cut = refl;
        goes = goes_nowhere boot drivers told before stands;
        all = λ none. refl;
      })
  steps_ran (first ∷ steps) told before after going stands e =
      let onward : option_and_then (λ next. after_steps boot drivers steps next) (after_step boot drivers first before)
      ≡ Some after = sym
      (ap (λ (o : Option ℕ).
      option_and_then (λ next. after_steps boot drivers steps next)
      (option_map_or (λ more. Some before) o (after_step boot drivers first before))) going) ∙ e in
      option_and_then_some (λ next. after_steps boot drivers steps next) (after_step boot drivers first before) after onward
      (λ (next : NotifyPlay) came rest.
      first_ran first steps told before next after (step_came first told before next came going stands)
      (λ later still stood. steps_ran steps later next after still stood rest)
      (λ more is. refused_stays boot drivers steps next after more is rest))

-- ---- the law

pub steps_hold_in_order : StepsHoldInOrder
steps_hold_in_order most_bytes ram natives drivers boot fills steps told boots e =
    let on = booted boot natives in
    let first = first_notify_play on (first_play_within most_bytes ram on fills) in
    let stands : Stands on [] first = record {
      comes = refl;
      count = length-replicate on.cpus (replicate 8 0);
      answers = λ cpu few. get_or-replicate on.cpus cpu (replicate 8 0) [] few;
      returns = refl;
    } in
    let ran = steps_ran on boots drivers steps [] first told refl stands e in
    let history : told.play.history ≡ ran.goes.events = ran.goes.history in
    record {
      taken = ran.taken;
      rest = ran.rest;
      cut = ran.cut;
      all = ran.all;
      end = moment_of ran.goes.later told;
      lead = subst
          (λ (h : List Event). Lead drivers at_first (flat_map turns_of ran.taken) h (moment_of ran.goes.later told))
          (sym history) ran.goes.lead;
      calls = refl;
      returns = ran.goes.stands.returns;
    }
