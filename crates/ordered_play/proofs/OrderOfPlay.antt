-- Where no entry is refused, the order of a play is that of its events.
use Rattle.std.proofs.Common.{◌≡◌, ℕ, zero, suc, ◌+◌, Bool, true, false, List, [], ◌∷◌, ◌++◌, Some, length, map}
use Rattle.std.proofs.Common.{refl, sym, ◌∙◌, ap, append_assoc, append-nil, inl, inr}
use Rattle.std.specs.Prelude.{◌||◌, ◌^◌, ◌⊎◌, if◌then◌else◌, nat_lt, slice_get, slice_set}
use Rattle.std.specs.List.{list_any}
use Rattle.std.specs.Option.{is_some}
use Rattle.std.proofs.lemmas.List.{map-append}
use Rattle.std.proofs.lemmas.Option.{option_and_then_some}
use Rattle.event_journal.specs.declared.event.Event.{Event}
use Rattle.event_journal.specs.declared.event.Event.TheVariants.{Exit}
use Rattle.event_journal.specs.Journal.{copied_bytes}
use Rattle.kernel_model.proofs.Parts.{option_map_some, set_found}
use Rattle.kernel_model.specs.Application.{Booted}
use Rattle.kernel_model.specs.Exit.{Exited, exit}
use Rattle.kernel_model.specs.History.{after_event}
use Rattle.kernel_model.specs.Turns.{cpu_of}
use Rattle.ns_ram.specs.Lane.{bytes_at}
use Rattle.ns_ram.specs.Reads.{total_bytes}
use Rattle.ns_ram.specs.declared.read.Read.{Read}
use Rattle.play_model.specs.Play.{entry_event}
use Rattle.trace_text.specs.declared.item.Reg.{Reg}
use Rattle.ordered_play.proofs.BlocksOfSeats.{one_passes}
use Rattle.ordered_play.proofs.Events.{same_some}
use Rattle.ordered_play.proofs.Turn.{moved_on}
use Rattle.ordered_play.specs.Act.{Act, Comes, Leaves, Writes, Shows}
use Rattle.ordered_play.specs.Blocks.{has_refused}
use Rattle.ordered_play.specs.Merge.{Setting, first_in}
use Rattle.ordered_play.specs.Ordered.{OrderedPlay, after_act, after_turn, after_turns, enters_with, gone_seat}
use Rattle.ordered_play.specs.Ordered.{leaves_with, reads_of, refused_seat, visit_with, with_event, with_seat}
use Rattle.ordered_play.specs.Seat.{Refusal, Seat, Shown, ready_for, with_line, with_writes}

-- ---- one turn

-- one event of the processor has come, and no refusal
pub record HasMoved (cpu : ℕ) (play next : OrderedPlay) : Type 0 where
  pub event : Event
  pub history : next.history ≡ play.history ++ event ∷ []
  pub own : cpu_of event ≡ cpu
  pub as_before : has_refused next ≡ has_refused play

ready_keeps : (acts : List Act) (seat : Seat) → (ready_for acts seat).refused ≡ seat.refused
ready_keeps [] seat = refl
ready_keeps (Comes steps regs ∷ acts) seat = refl
ready_keeps (Leaves ∷ acts) seat = refl
ready_keeps (Writes addr bytes ∷ acts) seat = ready_keeps acts (with_writes (record { addr = addr; bytes = bytes } ∷ []) seat)
ready_keeps (Shows addr len ∷ acts) seat = ready_keeps acts (with_line (Shown addr (bytes_at seat.lane addr len)) seat)

any_kept : (test : Seat → Bool) (seats : List Seat) (k : ℕ) (old new : Seat) → slice_get seats k ≡ Some old
    → test new ≡ test old → list_any test (slice_set seats k new) ≡ list_any test seats
any_kept test [] k old new there same = absurd cc
any_kept test (first ∷ seats) zero old new there same =
    ap (λ (b : Bool). b || list_any test seats) (same ∙ ap test (sym (same_some first old there)))
any_kept test (first ∷ seats) (suc k) old new there same =
    ap (λ (b : Bool). test first || b) (any_kept test seats k old new there same)

module _ (boot : Booted) (cpu : ℕ) (play next : OrderedPlay) (seat : Seat) (there : slice_get play.seats cpu ≡ Some seat) where
  abbrev HasTurned : Type 0
  HasTurned = (has_refused next ≡ true) ⊎ HasMoved cpu play next

  moves : (new : Seat) (event : Event) → new.refused ≡ seat.refused → cpu_of event ≡ cpu → with_event boot cpu new event play ≡ Some next → HasMoved cpu play next
  moves new event refused own e =
      let came = option_map_some (moved_on play cpu new event) (after_event boot play.kernel event) next e in
      record {
        event = event;
        history = ap (λ (p : OrderedPlay). p.history) (sym came.2);
        own = own;
        as_before = ap has_refused (sym came.2)
            ∙ any_kept (λ (s : Seat). is_some s.refused) play.seats cpu seat new there (ap is_some refused);
      }

  is_refused : (refusal : Refusal) → with_seat cpu (refused_seat seat refusal) play ≡ next → has_refused next ≡ true
  is_refused refusal same =
      ap has_refused (sym same)
      ∙ one_passes (λ (s : Seat). is_some s.refused) (slice_set play.seats cpu (refused_seat seat refusal)) cpu
      (refused_seat seat refusal) (set_found play.seats cpu (refused_seat seat refusal) seat there) refl

  comes : (steps : ℕ) (regs : List Reg) (acts : List Act)
      → after_act boot play cpu seat (Comes steps regs ∷ acts) ≡ Some next → HasTurned
  comes steps regs acts e =
      let visit = visit_with cpu seat steps regs in
      option_and_then_some (enters_with boot play seat acts visit) (reads_of boot play.kernel seat visit) next e
      (λ (reads : List Read) read onward. by reads (nat_lt (2 ^ 28) (copied_bytes play.history + total_bytes reads)) onward)
    where
      by : (reads : List Read) (much : Bool)
          → (if much
          then Some (with_seat cpu (refused_seat seat (record { copied = copied_bytes play.history; more = total_bytes reads })) play)
          else with_event boot cpu (ready_for acts (record seat { entry_at = length play.history }))
          (entry_event (visit_with cpu seat steps regs) reads) play) ≡ Some next
          → HasTurned
      by reads true onward = inl (is_refused _ (same_some _ next onward))
      by reads false onward =
          let entered = record seat { entry_at = length play.history } in
          inr (moves (ready_for acts entered) (entry_event (visit_with cpu seat steps regs) reads) (ready_keeps acts entered)
          refl onward)

  goes : (acts : List Act) → after_act boot play cpu seat (Leaves ∷ acts) ≡ Some next → HasTurned
  goes acts e =
      option_and_then_some (leaves_with boot play cpu seat acts) (exit play.kernel cpu) next e
      (λ (exited : Exited) went onward.
      let new = gone_seat seat acts (length play.history) exited in
      let kept : new.refused ≡ seat.refused = ready_keeps acts _ in
      inr (moves new (Exit cpu (record { a = exited.regs })) kept refl onward))

  turns : (acts : List Act) → after_act boot play cpu seat acts ≡ Some next → HasTurned
  turns [] e = absurd cc
  turns (Comes steps regs ∷ acts) e = comes steps regs acts e
  turns (Leaves ∷ acts) e = goes acts e
  turns (Writes addr bytes ∷ acts) e = absurd cc
  turns (Shows addr len ∷ acts) e = absurd cc

turn_so : (boot : Booted) (cpu : ℕ) (play next : OrderedPlay) → after_turn boot cpu play ≡ Some next
    → (has_refused next ≡ true) ⊎ HasMoved cpu play next
turn_so boot cpu play next e =
    option_and_then_some (λ (seat : Seat). after_act boot play cpu seat seat.acts) (slice_get play.seats cpu) next e
    (λ (seat : Seat) there onward. turns boot cpu play next seat there seat.acts onward)

-- ---- all turns

-- where the last play has refused none, neither has one before it, and the processors of its events are those of the order
pub record HasOrder (order : List ℕ) (play last : OrderedPlay) : Type 0 where
  pub none : has_refused play ≡ false
  pub order_is : map cpu_of last.history ≡ map cpu_of play.history ++ order

in_order : (boot : Booted) (order : List ℕ) (play last : OrderedPlay) → after_turns boot order play ≡ Some last
    → has_refused last ≡ false → HasOrder order play last
in_order boot [] play last e none =
    let same = same_some play last e in
    record {
      none = ap has_refused same ∙ none;
      order_is = ap (λ (p : OrderedPlay). map cpu_of p.history) (sym same) ∙ sym (append-nil (map cpu_of play.history));
    }
in_order boot (cpu ∷ order) play last e none =
    option_and_then_some (after_turns boot order) (after_turn boot cpu play) last e
    (λ (next : OrderedPlay) turned onward.
    by next (in_order boot order next last onward none) (turn_so boot cpu play next turned))
  where
    by : (next : OrderedPlay) → HasOrder order next last → (has_refused next ≡ true) ⊎ HasMoved cpu play next
        → HasOrder (cpu ∷ order) play last
    by next rest (inl refused) = let not = rest.none in absurd cc
    by next rest (inr moved) =
        let one : map cpu_of next.history ≡ map cpu_of play.history ++ cpu ∷ [] =
        ap (map cpu_of) moved.history ∙ map-append cpu_of play.history (moved.event ∷ [])
        ∙ ap (λ (n : ℕ). map cpu_of play.history ++ n ∷ []) moved.own in
        record {
          none = sym moved.as_before ∙ rest.none;
          order_is = rest.order_is ∙ ap (λ (l : List ℕ). l ++ order) one ∙ append_assoc (map cpu_of play.history) (cpu ∷ []) order;
        }

-- ---- from the first on

pub is_its_order : (on : Setting) (order : List ℕ) (play : OrderedPlay) → after_turns on.boot order (first_in on) ≡ Some play
    → has_refused play ≡ false → map cpu_of play.history ≡ order
is_its_order on order play e none = (in_order on.boot order (first_in on) play e none).order_is
