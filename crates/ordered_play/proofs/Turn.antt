-- What a processor's turn makes of a play, where its next event is one that can follow.
use Rattle.std.proofs.Common.{◌≡◌, ℕ, ◌+◌, ◌<◌, ◌≤◌, Bool, true, false, List, [], ◌∷◌, ◌++◌, Option, Some, length}
use Rattle.std.proofs.Common.{◌∙◌, ap, arith}
use Rattle.std.specs.Prelude.{◌^◌, nat_lt, if◌then◌else◌, slice_get}
use Rattle.std.specs.Option.{option_and_then, option_map}
use Rattle.std.proofs.lemmas.Bool.Decides.{nat_tests}
use Rattle.event_journal.specs.Journal.{copied_bytes}
use Rattle.event_journal.specs.declared.event.Event.{Event}
use Rattle.event_journal.specs.declared.event.Event.TheVariants.{Exit}
use Rattle.kernel_model.specs.Application.{Booted}
use Rattle.kernel_model.specs.Entry.{entry}
use Rattle.kernel_model.specs.Exit.{Exited, exit}
use Rattle.kernel_model.specs.History.{after_event}
use Rattle.kernel_model.specs.Kernel.{Kernel}
use Rattle.ns_ram.proofs.ReaderLaws.{over_lane-reading}
use Rattle.ns_ram.specs.Reads.{HoldsReads, total_bytes}
use Rattle.ns_ram.specs.declared.read.Read.{Read}
use Rattle.own_model.proofs.FixedAnswers as fixed
use Rattle.play_model.specs.Play.{entry_event}
use Rattle.ordered_play.proofs.Ready.{ready_anew}
use Rattle.ordered_play.specs.Act.{Act, Comes, Leaves}
use Rattle.ordered_play.specs.Merge.{seat_left}
use Rattle.ordered_play.specs.Ordered.{OrderedPlay, after_act, after_turn, enters_with, gone_seat, leaves_with}
use Rattle.ordered_play.specs.Ordered.{reads_of, refused_seat, visit_with, with_event, with_seat}
use Rattle.ordered_play.specs.Seat.{Seat, ready_for}
use Rattle.trace_text.specs.declared.item.Reg.{Reg}

-- the play with one event more, this kernel, and its processor's seat
abbrev pub moved_on : OrderedPlay → ℕ → Seat → Event → Kernel → OrderedPlay
moved_on play cpu seat event next =
    with_seat cpu seat (record play { kernel = next; history = play.history ++ event ∷ [] })

turn_of : (boot : Booted) (play : OrderedPlay) (cpu : ℕ) (seat : Seat) → slice_get play.seats cpu ≡ Some seat
    → after_turn boot cpu play ≡ after_act boot play cpu seat seat.acts
turn_of boot play cpu seat there =
    ap (λ (o : Option Seat). option_and_then (λ (s : Seat). after_act boot play cpu s s.acts) o) there

-- an event that can follow comes
comes_with : (boot : Booted) (play : OrderedPlay) (cpu : ℕ) (seat : Seat) (event : Event) (next : Kernel)
    → after_event boot play.kernel event ≡ Some next
    → with_event boot cpu seat event play ≡ Some (moved_on play cpu seat event next)
comes_with boot play cpu seat event next came =
    ap (λ (o : Option Kernel). option_map (moved_on play cpu seat event) o) came

-- few enough bytes
not_above : (n : ℕ) → n ≤ 2 ^ 28 → nat_lt (2 ^ 28) n ≡ false
not_above n few = grind (arith, nat_tests)

above : (n : ℕ) → 2 ^ 28 < n → nat_lt (2 ^ 28) n ≡ true
above n many = grind (arith, nat_tests)

-- the events of an entry and of an exit
abbrev pub entry_by : ℕ → Seat → ℕ → List Reg → List Read → Event
entry_by cpu seat steps regs reads = entry_event (visit_with cpu seat steps regs) reads

module _ (boot : Booted) (play : OrderedPlay) (cpu : ℕ) (seat : Seat) (acts : List Act) (next : Kernel) where
  pub entry_turn : (steps : ℕ) (regs : List Reg) (reads : List Read)
      → slice_get play.seats cpu ≡ Some (seat_left seat (Comes steps regs ∷ acts))
      → HoldsReads seat.lane reads
      → after_event boot play.kernel (entry_by cpu seat steps regs reads) ≡ Some next
      → copied_bytes play.history + total_bytes reads ≤ 2 ^ 28
      → after_turn boot cpu play
      ≡ Some (moved_on play cpu (ready_for acts (record seat { entry_at = length play.history }))
      (entry_by cpu seat steps regs reads) next)
  entry_turn steps regs reads there holds came few =
      let visit = visit_with cpu seat steps regs in
      let event = entry_by cpu seat steps regs reads in
      let now = seat_left seat (Comes steps regs ∷ acts) in
      let with_reads = enters_with boot play now acts visit in
      let decided = fixed.entered boot play.kernel next cpu steps (record { a = visit.regs }) reads came in
      let over = (over_lane-reading (entry boot play.kernel visit) seat.lane reads next).1 (decided, holds) in
      let onward = record now { entry_at = length play.history } in
      turn_of boot play cpu now there
      ∙ ap (λ (o : Option (Kernel × List Read)). option_and_then with_reads (option_map (λ end. end.1) o)) over
      ∙ ap (λ (much : Bool). if much
      then Some (with_seat cpu (refused_seat now
      (record { copied = copied_bytes play.history; more = total_bytes reads })) play)
      else with_event boot cpu (ready_for acts onward) event play)
      (not_above (copied_bytes play.history + total_bytes reads) few)
      ∙ comes_with boot play cpu (ready_for acts onward) event next came
      ∙ ap (λ (s : Seat). Some (moved_on play cpu s event next))
      (ready_anew acts (Comes steps regs ∷ acts) (record seat { entry_at = length play.history }))

  -- one that would read too much is refused
  pub refused_turn : (steps : ℕ) (regs : List Reg) (reads : List Read)
      → slice_get play.seats cpu ≡ Some (seat_left seat (Comes steps regs ∷ acts))
      → reads_of boot play.kernel seat (visit_with cpu seat steps regs) ≡ Some reads
      → 2 ^ 28 < copied_bytes play.history + total_bytes reads
      → after_turn boot cpu play
      ≡ Some (with_seat cpu (refused_seat (seat_left seat (Comes steps regs ∷ acts))
      (record { copied = copied_bytes play.history; more = total_bytes reads })) play)
  refused_turn steps regs reads there would_read many =
      let visit = visit_with cpu seat steps regs in
      let now = seat_left seat (Comes steps regs ∷ acts) in
      turn_of boot play cpu now there
      ∙ ap (λ (o : Option (List Read)). option_and_then (enters_with boot play now acts visit) o) would_read
      ∙ ap (λ (much : Bool). if much
      then Some (with_seat cpu (refused_seat now
      (record { copied = copied_bytes play.history; more = total_bytes reads })) play)
      else with_event boot cpu (ready_for acts (record now { entry_at = length play.history }))
      (entry_by cpu seat steps regs reads) play)
      (above (copied_bytes play.history + total_bytes reads) many)

  pub exit_turn : (exited : Exited)
      → slice_get play.seats cpu ≡ Some (seat_left seat (Leaves ∷ acts))
      → exit play.kernel cpu ≡ Some exited
      → after_event boot play.kernel (Exit cpu (record { a = exited.regs })) ≡ Some next
      → after_turn boot cpu play
      ≡ Some (moved_on play cpu (gone_seat seat acts (length play.history) exited)
      (Exit cpu (record { a = exited.regs })) next)
  exit_turn exited there goes came =
      let event = Exit cpu (record { a = exited.regs }) in
      let now = seat_left seat (Leaves ∷ acts) in
      turn_of boot play cpu now there
      ∙ ap (λ (o : Option Exited). option_and_then (leaves_with boot play cpu now acts) o) goes
      ∙ comes_with boot play cpu (gone_seat now acts (length play.history) exited) event next came
      ∙ ap (λ (s : Seat). Some (moved_on play cpu s event next))
      (ready_anew acts (Leaves ∷ acts) _)
