-- Where the desk of signals is asked nothing, a play with signals is that of its trace without them.
use Rattle.std.proofs.Common.{◌≡◌, ℕ, zero, suc, ◌+◌, ◌<◌, ◌≢◌, Bool, true, false, eqb, List, [], ◌∷◌, ◌++◌, length, map, filter, Option, Some, None, refl, sym, ap, subst, ◌∙◌, length-set, eq-eqb}
use Rattle.std.specs.Prelude.{if◌then◌else◌, replicate, slice_get, slice_index, slice_index_or, slice_set}
use Rattle.std.specs.List.{AllByRecursion}
use Rattle.std.specs.Option.{option_and_then, option_map, option_map_or}
use Rattle.std.proofs.lemmas.Bool.{eqb-true}
use Rattle.std.proofs.lemmas.Grind.{get_or-set_at}
use Rattle.std.proofs.lemmas.List.{get_or-set_other, length-replicate}
use Rattle.std.proofs.lemmas.Option.{option_and_then_some, slice_get_within}
use Rattle.event_journal.specs.declared.event.Event.{Event}
use Rattle.event_journal.specs.declared.event.Event.TheVariants.{Entry, Exit}
use Rattle.kernel_model.specs.Application.{Booted, IsBooted, Native, booted}
use Rattle.kernel_model.specs.Argument.{reg}
use Rattle.kernel_model.specs.Exit.{Exited, exit, exit_of}
use Rattle.kernel_model.specs.History.{after_event, after_events, kernel_after}
use Rattle.kernel_model.specs.Kernel.{Kernel, Processor, Visit, first_kernel}
use Rattle.kernel_model.proofs.Parts.{option_map_some}
use Rattle.kernel_model.proofs.Past.{after_events-append}
use Rattle.kernel_model.proofs.SoundSteps.{as_many}
use Rattle.notif.specs.History.{Signal}
use Rattle.notify_play.specs.Duty.{Nothing, duty_of, last_entry}
use Rattle.notify_play.specs.NotifyPlay.{Drivers, NotifyPlay, after_item, after_step, after_steps, comes_in, desk_of, duty_at, first_notify_play, goes_out, goes_out_with, notify_played_within, tells, unless_refused, visit_with, with_play}
use Rattle.notify_play.specs.Told.{told_regs}
use Rattle.notify_play.proofs.Asking.{steps_call_desk}
use Rattle.notify_play.proofs.Following.{other_exits_stay}
use Rattle.notify_text.specs.Steps.{Signals, Step, Takes, signals_at, steps_from, steps_of}
use Rattle.notify_text.specs.declared.notify_trace.NotifyTrace.{NotifyTrace}
use Rattle.notify_text.specs.declared.notify_trace.Signal as trace_signal
use Rattle.ns_ram.specs.Lane.{bytes_at}
use Rattle.play_model.specs.Line.{Mem}
use Rattle.play_model.specs.Play.{with_line, lane_of, Play, after_items, enters, first_play_within, last_answer, leaves, number_in, played_within, told_last, visit_of, with_event, with_writes}
use Rattle.play_model.specs.Play as trace_play
use Rattle.play_model.proofs.Entries.{CameIn, Entered, WasRefused, entered, event_made}
use Rattle.smc_abi.specs.declared.regs.Regs.{Regs}
use Rattle.ta_isa.specs.declared.boot.Boot.{Boot}
use Rattle.trace_text.specs.declared.item.Item.{Item}
use Rattle.trace_text.specs.declared.item.Item.TheVariants as item
use Rattle.trace_text.specs.declared.item.Reg.{Reg}
use Rattle.trace_text.specs.declared.item.Reg.TheVariants.{Last, Num}
use Rattle.live_play.specs.Returns.{AsksNothing, ExitAt, duty_in, exit_at, exits_behind, exits_in}
use Rattle.live_play.proofs.Returned.{exits-append}

-- ---- the items among steps

abbrev items_in : List Step → List Item
items_in [] = []
items_in (Takes i ∷ steps) = i ∷ items_in steps
items_in (Signals value ∷ steps) = items_in steps

items-append : (steps more : List Step) → items_in (steps ++ more) ≡ items_in steps ++ items_in more
items-append [] more = refl
items-append (Takes i ∷ steps) more = ap (λ (items : List Item). i ∷ items) (items-append steps more)
items-append (Signals value ∷ steps) more = items-append steps more

no_items : (signals : List trace_signal.Signal) → items_in (map (λ (signal : trace_signal.Signal). Signals signal.value) signals) ≡ []
no_items [] = refl
no_items (signal ∷ signals) = no_items signals

items-steps : (at : ℕ) (items : List Item) (signals : List trace_signal.Signal) → items_in (steps_from at items signals) ≡ items
items-steps at [] signals = no_items (filter (λ (signal : trace_signal.Signal). eqb signal.at at) signals)
items-steps at (i ∷ items) signals =
    items-append (signals_at at signals) (Takes i ∷ steps_from (at + 1) items signals)
    ∙ ap (λ (front : List Item). front ++ i ∷ items_in (steps_from (at + 1) items signals))
    (no_items (filter (λ (signal : trace_signal.Signal). eqb signal.at at) signals))
    ∙ ap (λ (rest : List Item). i ∷ rest) (items-steps (at + 1) items signals)

-- ---- a history in which nothing is asked

all_front : {X : Type 0} (P : X → Type 0) (xs ys : List X) → AllByRecursion P (xs ++ ys) → AllByRecursion P xs
all_front P [] ys all = tt
all_front P (x ∷ xs) ys all = (all.0, all_front P xs ys all.1)

all_back : {X : Type 0} (P : X → Type 0) (xs ys : List X) → AllByRecursion P (xs ++ ys) → AllByRecursion P ys
all_back P [] ys all = all
all_back P (x ∷ xs) ys all = all_back P xs ys all.1

abbrev IsQuietExit : ExitAt → Type 0
IsQuietExit gone = duty_in gone ≡ Nothing

unasked_before : (history events : List Event) → AsksNothing (history ++ events) → AsksNothing history
unasked_before history events asks =
    all_front IsQuietExit (exits_in history) (exits_behind history events)
    (subst (AllByRecursion IsQuietExit) (exits-append [] history events) asks)

unasked_last : (history : List Event) (cpu : ℕ) (regs : Regs) → AsksNothing (history ++ Exit cpu regs ∷ [])
    → duty_of (last_entry history cpu) (reg regs.a 0) ≡ Nothing
unasked_last history cpu regs asks =
    let last : AllByRecursion IsQuietExit (exit_at history cpu regs.a ∷ []) =
    all_back IsQuietExit (exits_in history) (exit_at history cpu regs.a ∷ [])
    (subst (AllByRecursion IsQuietExit) (exits-append [] history (Exit cpu regs ∷ [])) asks) in
    last.0

-- ---- what a processor was told last

told-append : (cpu : ℕ) (regs : List ℕ) (events more : List Event)
    → told_last cpu regs (events ++ more) ≡ told_last cpu (told_last cpu regs events) more
told-append cpu regs [] more = refl
told-append cpu regs (Entry came given steps reads ∷ events) more = told-append cpu regs events more
told-append cpu regs (Exit went told ∷ events) more =
    told-append cpu (if eqb went cpu then told.a else regs) events more

answer-event : (history : List Event) (event : Event) (cpu : ℕ)
    → last_answer (history ++ event ∷ []) cpu ≡ told_last cpu (last_answer history cpu) (event ∷ [])
answer-event history event cpu = told-append cpu (replicate 8 0) history (event ∷ [])

zeros_at : (count register : ℕ) → slice_index (replicate count 0) register ≡ 0
zeros_at zero register = refl
zeros_at (suc count) zero = refl
zeros_at (suc count) (suc register) = zeros_at count register

first_told : (cpus cpu register : ℕ)
    → slice_index (slice_index_or (replicate cpus (replicate 8 0)) cpu []) register ≡ slice_index (replicate 8 0) register
first_told zero cpu register = sym (zeros_at 8 register)
first_told (suc cpus) zero register = refl
first_told (suc cpus) (suc cpu) register = first_told cpus cpu register

exit_told : (answers : List (List ℕ)) (cpu other register : ℕ) (regs last : List ℕ) (same : Bool) → eqb cpu other ≡ same
    → cpu < length answers → slice_index (slice_index_or answers other []) register ≡ slice_index last register
    → slice_index (slice_index_or (slice_set answers cpu regs) other []) register
    ≡ slice_index (if same then regs else last) register
exit_told answers cpu other register regs last true is below told =
    let there : other ≡ cpu = sym (eqb-true cpu other is) in
    ap (λ (l : List ℕ). slice_index l register) (get_or-set_at answers cpu other regs [] there below)
exit_told answers cpu other register regs last false is below told =
    let apart : other ≢ cpu = λ (e : other ≡ cpu).
    let also : eqb cpu other ≡ true = eq-eqb cpu other (sym e) in
    let no : false ≡ true = sym is ∙ also in cc in
    ap (λ (l : List ℕ). slice_index l register) (get_or-set_other answers cpu other regs [] apart) ∙ told

number_alike : (one other : List ℕ) → ((register : ℕ) → slice_index one register ≡ slice_index other register) → (r : Reg)
    → number_in one r ≡ number_in other r
number_alike one other alike (Num number) = refl
number_alike one other alike (Last register) = alike register

numbers_alike : (one other : List ℕ) → ((register : ℕ) → slice_index one register ≡ slice_index other register)
    → (regs : List Reg) → map (number_in one) regs ≡ map (number_in other) regs
numbers_alike one other alike [] = refl
numbers_alike one other alike (r ∷ regs) =
    ap (λ (n : ℕ). n ∷ map (number_in one) regs) (number_alike one other alike r)
    ∙ ap (λ (ns : List ℕ). number_in other r ∷ ns) (numbers_alike one other alike regs)

-- ---- a play with signals that has come as a trace's

-- its answers are those of its history, and its kernel is the one that the history comes to
record IsAsTrace (boot : Booted) (told : NotifyPlay) : Type 0 where
  many : length told.answers ≡ boot.cpus
  last : (cpu register : ℕ) → slice_index (slice_index_or told.answers cpu []) register
      ≡ slice_index (last_answer told.play.history cpu) register
  kernel : kernel_after boot told.play.history ≡ Some told.play.kernel

trace-first : (most_bytes : ℕ) (boot : Booted) (ram : List ℕ) (told : NotifyTrace)
    → IsAsTrace boot (first_notify_play boot (first_play_within most_bytes ram boot told.trace.fills))
trace-first most_bytes boot ram told = record {
  many = length-replicate boot.cpus (replicate 8 0);
  last = λ cpu register. first_told boot.cpus cpu register;
  kernel = refl;
}

-- a play of items comes to the play of these steps
record ComesAsTrace (boot : Booted) (came : Option Play) (after : NotifyPlay) : Type 0 where
  is : came ≡ Some after.play
  as_trace : IsAsTrace boot after

event-kernel : (boot : Booted) (event : Event) (before after : Play) → with_event boot event before ≡ Some after
    → kernel_after boot before.history ≡ Some before.kernel → kernel_after boot after.history ≡ Some after.kernel
event-kernel boot event before after e there =
    let came = option_map_some
    (λ (next : Kernel). record before { kernel = next; history = before.history ++ event ∷ [] })
    (after_event boot before.kernel event) after e in
    subst (λ (p : Play). kernel_after boot p.history ≡ Some p.kernel) came.2
    (after_events-append boot (first_kernel boot) before.history (event ∷ [])
    ∙ ap (λ (o : Option Kernel). option_and_then (λ k. after_events boot k (event ∷ [])) o) there
    ∙ ap (λ (o : Option Kernel). option_and_then (λ k. Some k) o) came.1)

module _ (boot : Booted) (drivers : Drivers) (boots : IsBooted boot) where
  -- ---- entries and exits

  entry-as_trace : (told : NotifyPlay) (visit : Visit) (came : Play) → Entered boot visit told.play came → IsAsTrace boot told
      → IsAsTrace boot (with_play told came)
  entry-as_trace told visit came (CameIn reads few e) stands =
      let event : Event = Entry visit.cpu (record { a = visit.regs }) visit.steps reads in
      let made = event_made boot event told.play came e in
      record {
        many = stands.many;
        last = λ cpu register.
            stands.last cpu register
            ∙ ap (λ (l : List ℕ). slice_index l register)
            (sym (ap (λ (h : List Event). last_answer h cpu) made.0 ∙ answer-event told.play.history event cpu));
        kernel = event-kernel boot event told.play came e stands.kernel;
      }
  entry-as_trace told visit came (WasRefused reads much is) stands =
      subst (λ (p : Play). IsAsTrace boot (with_play told p)) is
      (record { many = stands.many; last = stands.last; kernel = stands.kernel })

  comes-as_trace : (cpu steps : ℕ) (regs : List Reg) (before after : NotifyPlay)
      → comes_in boot cpu steps regs before ≡ Some after → IsAsTrace boot before
      → ComesAsTrace boot (enters boot before.play (visit_of before.play.history cpu steps regs)) after
  comes-as_trace cpu steps regs before after e stands =
      let visit : Visit = visit_with before cpu steps regs in
      let came = option_map_some (with_play before) (enters boot before.play visit) after e in
      let same : visit ≡ visit_of before.play.history cpu steps regs =
      ap (λ (l : List ℕ). record { cpu = cpu; regs = l; steps = steps })
      (numbers_alike (slice_index_or before.answers cpu []) (last_answer before.play.history cpu) (stands.last cpu) regs) in
      record {
        is = sym (ap (enters boot before.play) same) ∙ came.1
            ∙ ap (λ (n : NotifyPlay). Some n.play) came.2;
        as_trace = subst (IsAsTrace boot) came.2
            (entry-as_trace before visit came.0 (entered boot visit before.play came.0 came.1) stands);
      }

  -- the processor that goes out is one of the boot's
  has_answer : (before : NotifyPlay) (cpu : ℕ) (exited : Exited) → exit before.play.kernel cpu ≡ Some exited
      → IsAsTrace boot before → cpu < length before.answers
  has_answer before cpu exited found stands =
      option_and_then_some (exit_of before.play.kernel cpu) (slice_get before.play.kernel.processors cpu) exited found
      (λ (processor : Processor) there onward.
      let below : cpu < length before.play.kernel.processors =
      slice_get_within before.play.kernel.processors cpu processor there in
      let many = (as_many boot before.play.history before.play.kernel boots stands.kernel).processors in
      subst (λ (n : ℕ). cpu < n) (many ∙ sym stands.many) below)

  exit-as_trace : (before : NotifyPlay) (cpu : ℕ) (exited : Exited) (gone : Play)
      → exit before.play.kernel cpu ≡ Some exited → duty_at before cpu exited ≡ Nothing
      → with_event boot (Exit cpu (record { a = exited.regs })) before.play ≡ Some gone → IsAsTrace boot before
      → IsAsTrace boot (tells drivers before cpu exited (duty_at before cpu exited) gone)
  exit-as_trace before cpu exited gone found nothing e stands =
      let event : Event = Exit cpu (record { a = exited.regs }) in
      let made = event_made boot event before.play gone e in
      let caller : List ℕ = (last_entry before.play.history cpu).regs in
      let regs : List ℕ = told_regs (desk_of drivers before) caller exited.regs (duty_at before cpu exited) in
      let kernels : regs ≡ exited.regs = ap (told_regs (desk_of drivers before) caller exited.regs) nothing in
      record {
        many = length-set before.answers cpu regs ∙ stands.many;
        last = λ other register.
            exit_told before.answers cpu other register regs (last_answer before.play.history other) (eqb cpu other) refl
            (has_answer before cpu exited found stands) (stands.last other register)
            ∙ ap (λ (l : List ℕ). slice_index (if eqb cpu other then l else last_answer before.play.history other) register) kernels
            ∙ ap (λ (l : List ℕ). slice_index l register)
            (sym (ap (λ (h : List Event). last_answer h other) made.0 ∙ answer-event before.play.history event other));
        kernel = event-kernel boot event before.play gone e stands.kernel;
      }

  goes-as_trace : (cpu : ℕ) (before after : NotifyPlay) → goes_out boot drivers cpu before ≡ Some after → IsAsTrace boot before
      → AsksNothing after.play.history → ComesAsTrace boot (leaves boot cpu before.play) after
  goes-as_trace cpu before after e stands asks =
      option_and_then_some (goes_out_with boot drivers before cpu) (exit before.play.kernel cpu) after e
      (λ (exited : Exited) found onward.
      let event : Event = Exit cpu (record { a = exited.regs }) in
      let came = option_map_some (tells drivers before cpu exited (duty_at before cpu exited))
      (with_event boot event before.play) after onward in
      let history : after.play.history ≡ before.play.history ++ event ∷ [] =
      ap (λ (n : NotifyPlay). n.play.history) (sym came.2) ∙ (event_made boot event before.play came.0 came.1).0 in
      let nothing : duty_at before cpu exited ≡ Nothing =
      unasked_last before.play.history cpu (record { a = exited.regs }) (subst AsksNothing history asks) in
      record {
        is = sym (other_exits_stay boot drivers before cpu exited found nothing)
            ∙ ap (option_map (λ (n : NotifyPlay). n.play)) e;
        as_trace = subst (IsAsTrace boot) came.2 (exit-as_trace before cpu exited came.0 found nothing came.1 stands);
      })

  -- ---- steps

  -- what follows, unless an entry was refused
  unless-as_trace : (onward : NotifyPlay → Option NotifyPlay) (plays : Play → Option Play) (before after : NotifyPlay)
      → (onward before ≡ Some after → ComesAsTrace boot (plays before.play) after) → IsAsTrace boot before
      → (refused : Option ℕ) → option_map_or (λ more. Some before) refused (onward before) ≡ Some after
      → ComesAsTrace boot (option_map_or (λ more. Some before.play) refused (plays before.play)) after
  unless-as_trace onward plays before after goes stands None e = goes e
  unless-as_trace onward plays before after goes stands (Some more) e =
      let same : before ≡ after = cc in
      record { is = ap (λ (n : NotifyPlay). Some n.play) same; as_trace = subst (IsAsTrace boot) same stands }

  -- an item that nobody goes in or out by
  ram-as_trace : (before after : NotifyPlay) (next : Play) → next.history ≡ before.play.history
      → next.kernel ≡ before.play.kernel → Some (with_play before next) ≡ Some after → IsAsTrace boot before
      → ComesAsTrace boot (Some next) after
  ram-as_trace before after next history kernel e stands =
      let same : with_play before next ≡ after = cc in
      record {
        is = ap (λ (n : NotifyPlay). Some n.play) same;
        as_trace = subst (IsAsTrace boot) same (record {
          many = stands.many;
          last = λ cpu register.
              stands.last cpu register ∙ ap (λ (h : List Event). slice_index (last_answer h cpu) register) (sym history);
          kernel = ap (kernel_after boot) history ∙ stands.kernel ∙ ap (λ (k : Kernel). Some k) (sym kernel);
        });
      }

  item-as_trace : (i : Item) (before after : NotifyPlay) → after_item boot drivers i before ≡ Some after
      → IsAsTrace boot before → AsksNothing after.play.history
      → ComesAsTrace boot (trace_play.after_item boot i before.play) after
  item-as_trace (item.Smc cpu steps regs) before after e stands asks =
      option_and_then_some (unless_refused (goes_out boot drivers cpu)) (comes_in boot cpu steps regs before) after e
      (λ (between : NotifyPlay) came onward.
      let inside = comes-as_trace cpu steps regs before between came stands in
      let out = unless-as_trace (goes_out boot drivers cpu) (leaves boot cpu) between after
      (λ e. goes-as_trace cpu between after e inside.as_trace asks) inside.as_trace between.play.refused onward in
      record {
        is = ap (option_and_then (trace_play.unless_refused (leaves boot cpu))) inside.is ∙ out.is;
        as_trace = out.as_trace;
      })
  item-as_trace (item.Enter cpu steps regs) before after e stands asks = comes-as_trace cpu steps regs before after e stands
  item-as_trace (item.Leave cpu) before after e stands asks = goes-as_trace cpu before after e stands asks
  item-as_trace (item.Write cpu addr bytes) before after e stands asks =
      ram-as_trace before after (with_writes cpu (record { addr = addr; bytes = bytes } ∷ []) before.play) refl refl e stands
  item-as_trace (item.Show cpu addr len) before after e stands asks =
      ram-as_trace before after (with_line (Mem cpu addr (bytes_at (lane_of before.play cpu) addr len)) before.play)
      refl refl e stands

  signal-as_trace : (value : ℕ) (before after : NotifyPlay) → after_step boot drivers (Signals value) before ≡ Some after
      → IsAsTrace boot before → ComesAsTrace boot (Some before.play) after
  signal-as_trace value before after e stands =
      let same : record before { calls = Signal value ∷ before.calls } ≡ after = cc in
      record {
        is = ap (λ (n : NotifyPlay). Some n.play) same;
        as_trace = subst (IsAsTrace boot) same (record { many = stands.many; last = stands.last; kernel = stands.kernel });
      }

  -- nothing was asked by any earlier exit
  asks_before : (steps : List Step) (before after : NotifyPlay) → after_steps boot drivers steps before ≡ Some after
      → AsksNothing after.play.history → AsksNothing before.play.history
  asks_before steps before after e asks =
      let between = (steps_call_desk boot drivers steps before after e).0 in
      unasked_before before.play.history between.events (subst AsksNothing between.history asks)

  same_play : (refused : Option ℕ) (play : Play) → option_map_or (λ more. Some play) refused (Some play) ≡ Some play
  same_play None play = refl
  same_play (Some more) play = refl

  steps-as_trace : (steps : List Step) (before after : NotifyPlay) → after_steps boot drivers steps before ≡ Some after
      → IsAsTrace boot before → AsksNothing after.play.history
      → after_items boot (items_in steps) before.play ≡ Some after.play
  steps-as_trace [] before after e stands asks =
      let same : before ≡ after = cc in ap (λ (n : NotifyPlay). Some n.play) same
  steps-as_trace (Takes i ∷ steps) before after e stands asks =
      option_and_then_some (λ (next : NotifyPlay). after_steps boot drivers steps next)
      (unless_refused (after_step boot drivers (Takes i)) before) after e
      (λ (next : NotifyPlay) came onward.
      let asks_next = asks_before steps next after onward asks in
      let taken = unless-as_trace (after_item boot drivers i) (trace_play.after_item boot i) before next
      (λ e. item-as_trace i before next e stands asks_next) stands before.play.refused came in
      ap (option_and_then (λ (p : Play). after_items boot (items_in steps) p)) taken.is
      ∙ steps-as_trace steps next after onward taken.as_trace asks)
  steps-as_trace (Signals value ∷ steps) before after e stands asks =
      option_and_then_some (λ (next : NotifyPlay). after_steps boot drivers steps next)
      (unless_refused (after_step boot drivers (Signals value)) before) after e
      (λ (next : NotifyPlay) came onward.
      let taken = unless-as_trace (after_step boot drivers (Signals value)) (λ (p : Play). Some p) before next
      (λ e. signal-as_trace value before next e stands) stands before.play.refused came in
      let same : Some before.play ≡ Some next.play = sym (same_play before.play.refused before.play) ∙ taken.is in
      let plays : before.play ≡ next.play = cc in
      ap (after_items boot (items_in steps)) plays ∙ steps-as_trace steps next after onward taken.as_trace asks)

-- ---- the law

pub unasked_play : (most_bytes : ℕ) (ram : List ℕ) (natives : List Native) (drivers : Drivers) (boot : Boot) (told : NotifyTrace)
    (play : NotifyPlay) → IsBooted (booted boot natives)
    → notify_played_within most_bytes ram natives drivers boot told ≡ Some play
    → AsksNothing play.play.history → played_within most_bytes ram natives boot told.trace ≡ Some play.play
unasked_play most_bytes ram natives drivers boot told play boots e asks =
    let kernel : Booted = booted boot natives in
    let start : Play = first_play_within most_bytes ram kernel told.trace.fills in
    ap (λ (items : List Item). after_items kernel items start) (sym (items-steps 0 told.trace.items told.signals))
    ∙ steps-as_trace kernel drivers boots (steps_of told) (first_notify_play kernel start) play e
    (trace-first most_bytes kernel ram told) asks
