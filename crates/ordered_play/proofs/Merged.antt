-- The play in the order of a history's events is merged of its processors' parts: by induction over the history, at each
-- place of which first the entries that come to be refused there have their turns, by their processors' numbers, and
-- then the event there has its own.
use Rattle.std.proofs.Common.{◌≡◌, ℕ, zero, suc, ◌+◌, ◌==◌, ◌<◌, ◌≤◌, Bool, true, false, List, [], ◌∷◌, ◌++◌, Option, Some, None}
use Rattle.std.proofs.Common.{length, map, inl, inr, refl, sym, ◌∙◌, ap, subst, arith, append-nil}
use Rattle.std.specs.Prelude.{◌^◌, ◌⊎◌, IsSome, cond, filter, slice_get}
use Rattle.std.specs.List.{range_with_len}
use Rattle.std.specs.Option.{option_and_then, option_map_or}
use Rattle.std.proofs.lemmas.Bool.Decides.{nat_tests}
use Rattle.std.proofs.lemmas.List.{length-set}
use Rattle.std.proofs.lemmas.List.FromFn.{length-map-range_with_len}
use Rattle.event_journal.specs.Event.{copied_by}
use Rattle.event_journal.specs.Journal.{copied_bytes}
use Rattle.event_journal.specs.declared.event.Event.{Event}
use Rattle.kernel_model.proofs.Parts.{set_found, set_other}
use Rattle.kernel_model.proofs.SoundSlots.{by_number}
use Rattle.kernel_model.specs.History.{IsLegal, after_event, kernel_after}
use Rattle.kernel_model.specs.Kernel.{Kernel}
use Rattle.play_model.specs.Play.{filled}
use Rattle.kernel_model.specs.Turns.{cpu_of}
use Rattle.ordered_play.proofs.Events.{cut_behind, next_other, next_own, none_at_end, one_longer, same_some}
use Rattle.ordered_play.proofs.Legal.{few_with, follows, one_event_more, processor_below}
use Rattle.ordered_play.proofs.Midway.{IsMidway, Turned, below_once, ended, first_midway, first_there, turn}
use Rattle.ordered_play.proofs.Refused.{none_behind, refused_turn_of}
use Rattle.ordered_play.proofs.Turn.{moved_on}
use Rattle.ordered_play.specs.Laws.{PartsMerge, RefusalsMerge}
use Rattle.ordered_play.specs.Merge.{ComesTo, IsRefusedIf, Parts, Setting, first_in, is_refused_at, order_with, refused_at}
use Rattle.ordered_play.specs.Merge.{role_in, seat_of, seat_with}
use Rattle.ordered_play.specs.Ordered.{OrderedPlay, after_turn, after_turns, with_seat}
use Rattle.ordered_play.specs.Part.{next_event}
use Rattle.ordered_play.specs.Seat.{Seat, first_seat}

module _ (on : Setting) (history : List Event) (parts : Parts on history) (places : ℕ → Option ℕ)
    (refusals : (cpu : ℕ) (below : cpu < on.boot.cpus) →
    IsRefusedIf (role_in on history cpu) (parts cpu below) (places cpu)) where
  -- what a processor comes to
  abbrev pub final : (cpu : ℕ) → cpu < on.boot.cpus → Seat
  final cpu below = seat_with (role_in on history cpu) (parts cpu below)
      (places cpu) (refusals cpu below)

  -- ---- how far all have come

  -- up to this place, and at it up to the processor of this number, entries have been refused
  abbrev IsOver : ℕ → ℕ → ℕ → ℕ → Type 0
  IsOver at number cpu place = (place < at) ⊎ ((place ≡ at) × (cpu < number))

  abbrev IsToCome : ℕ → ℕ → ℕ → ℕ → Type 0
  IsToCome at number cpu place = (at < place) ⊎ ((place ≡ at) × (number ≤ cpu))

  -- a processor goes on with its part, or its entry was refused
  data Stage (at number cpu : ℕ) (below : cpu < on.boot.cpus) (seat : Seat) : Type 0 where
    GoesOn : ((place : ℕ) → places cpu ≡ Some place → IsToCome at number cpu place) →
        IsMidway on history parts cpu below at seat → Stage at number cpu below seat
    Stopped : (place : ℕ) → places cpu ≡ Some place → IsOver at number cpu place →
        next_event history cpu at ≡ None → seat ≡ final cpu below → Stage at number cpu below seat

  record HasSeat (play : OrderedPlay) (at number cpu : ℕ) (below : cpu < on.boot.cpus) : Type 0 where
    seat : Seat
    there : slice_get play.seats cpu ≡ Some seat
    stage : Stage at number cpu below seat

  record IsMiddle (before : List Event) (number : ℕ) (play : OrderedPlay) : Type 0 where
    same : play.history ≡ before
    comes : kernel_after on.boot before ≡ Some play.kernel
    count : length play.seats ≡ on.boot.cpus
    seats : (cpu : ℕ) (below : cpu < on.boot.cpus) → HasSeat play (length before) number cpu below

  first_middle : IsMiddle [] 0 (first_in on)
  first_middle = record {
    same = refl;
    comes = refl;
    count = length-map-range_with_len (first_seat (filled on.ram on.trace.fills) on.trace.items) 0 on.boot.cpus;
    seats = λ cpu below. record {
      seat = first_seat (filled on.ram on.trace.fills) on.trace.items cpu;
      there = first_there on cpu below;
      stage = GoesOn (λ place is. grind arith) (first_midway on history parts cpu below);
    };
  }

  -- ---- refused entries at a place

  module _ (before behind : List Event) (cut : history ≡ before ++ behind) where
    -- the next number: all others stand as they did
    passed : (number cpu : ℕ) (below : cpu < on.boot.cpus) (seat : Seat) → (places cpu ≡ Some (length before) → number ≡ cpu → ⊥)
        → Stage (length before) number cpu below seat → Stage (length before) (number + 1) cpu below seat
    passed number cpu below seat other (GoesOn to_come midway) = GoesOn (λ place is. further place is (to_come place is)) midway
      where
        further : (place : ℕ) → places cpu ≡ Some place → IsToCome (length before) number cpu place
            → IsToCome (length before) (number + 1) cpu place
        further place is (inl later) = inl later
        further place is (inr here) =
            let apart = other (is ∙ ap Some here.0) in
            inr (
              here.0,
              by_number number cpu (λ same. absurd (apart same))
                  (λ differ. let le = here.1 in grind arith),
            )
    passed number cpu below seat other (Stopped place is over none same) =
        Stopped place is (further over) none same
      where
        further : IsOver (length before) number cpu place → IsOver (length before) (number + 1) cpu place
        further (inl earlier) = inl earlier
        further (inr here) = let lt = here.1 in inr (here.0, omega arith)

    module _ (number : ℕ) (below : number < on.boot.cpus) (play : OrderedPlay) (middle : IsMiddle before number play) where
      -- nobody is refused
      none_refused : (places number ≡ Some (length before) → ⊥) → IsMiddle before (number + 1) play
      none_refused not = record {
        same = middle.same;
        comes = middle.comes;
        count = middle.count;
        seats = λ cpu here.
            let had = middle.seats cpu here in record {
              seat = had.seat;
              there = had.there;
              stage = passed number cpu here had.seat (λ is same. not (ap places same ∙ is)) had.stage;
            };
      }

      record Stops : Type 0 where
        after : OrderedPlay
        turned : after_turn on.boot number play ≡ Some after
        onward : IsMiddle before (number + 1) after

      stopped_at : places number ≡ Some (length before) → Stage (length before) number number below (middle.seats number below).seat
          → Stops
      stopped_at is (Stopped place was over none same) = absurd (not_over place was over)
        where
          not_over : (place : ℕ) → places number ≡ Some place → IsOver (length before) number number place → ⊥
          not_over place was over = let at = same_some place (length before) (sym was ∙ is) in grind arith
      stopped_at is (GoesOn to_come midway) =
          let part = parts number below in
          let had = middle.seats number below in
          let none = none_behind on history before behind cut number part (places number)
          (refusals number below) is in
          let over = ended on history parts number below (length before) had.seat midway none in
          let turned = refused_turn_of on history before behind cut number part play middle.same
          middle.comes had.seat had.there over (places number) (refusals number below) is in
          let after = with_seat number (final number below) play in
          record {
            after = after;
            turned = turned;
            onward = record {
              same = middle.same;
              comes = middle.comes;
              count = length-set play.seats number (final number below) ∙ middle.count;
              seats = λ cpu here. by_number number cpu
                  (λ same. own is none cpu same here)
                  (λ apart.
                  let other = middle.seats cpu here in
                  record {
                    seat = other.seat;
                    there = set_other play.seats number cpu (final number below) apart ∙ other.there;
                    stage = passed number cpu here other.seat (λ is_there same. apart same) other.stage;
                  });
            };
          }
        where
          own : places number ≡ Some (length before) → next_event history number (length before) ≡ None
              → (cpu : ℕ) → number ≡ cpu → (here : cpu < on.boot.cpus)
              → HasSeat (with_seat number (final number below) play) (length before) (number + 1) cpu here
          own at none cpu same = subst (λ (c : ℕ). (here : c < on.boot.cpus) →
              HasSeat (with_seat number (final number below) play) (length before) (number + 1) c here) same
              (λ here. record {
                seat = final number below;
                there = set_found play.seats number (final number below) (middle.seats number below).seat
                    (middle.seats number below).there;
                stage = Stopped (length before) at (inr (refl, omega arith)) none
                    (ap (final number) (below_once number on.boot.cpus below here));
              })

      stopped : places number ≡ Some (length before) → Stops
      stopped is = stopped_at is (middle.seats number below).stage

    -- so many numbers, from this one on
    record AllStop (numbers : List ℕ) (play : OrderedPlay) : Type 0 where
      after : OrderedPlay
      turns : (order : List ℕ) → after_turns on.boot (numbers ++ order) play ≡ after_turns on.boot order after
      onward : IsMiddle before on.boot.cpus after

    is_place : (found : Option ℕ) → option_map_or (λ place. place == length before) found false ≡ true
        → found ≡ Some (length before)
    is_place None e = absurd cc
    is_place (Some place) e = let same : place ≡ length before = grind (arith, nat_tests) in ap Some same

    no_place : (found : Option ℕ) → option_map_or (λ place. place == length before) found false ≡ false
        → found ≡ Some (length before) → ⊥
    no_place None e is = absurd cc
    no_place (Some place) e is =
        let same = same_some place (length before) is in grind (arith, nat_tests)

    all_stop : (count number : ℕ) → number + count ≡ on.boot.cpus → (play : OrderedPlay) → IsMiddle before number play
        → AllStop (filter (is_refused_at places (length before)) (range_with_len number count)) play
    all_stop zero number sum play middle = record {
      after = play;
      turns = λ order. refl;
      onward = let all : number ≡ on.boot.cpus = omega arith in subst (λ (n : ℕ). IsMiddle before n play) all middle;
    }
    all_stop (suc count) number sum play middle =
        by (is_refused_at places (length before) number) refl
        (all_stop count (number + 1) (omega arith))
      where
        below : number < on.boot.cpus
        below = omega arith

        rest : List ℕ
        rest = filter (is_refused_at places (length before)) (range_with_len (number + 1) count)

        by : (test : Bool) → is_refused_at places (length before) number ≡ test
            → ((next : OrderedPlay) → IsMiddle before (number + 1) next → AllStop rest next)
            → AllStop (cond test (number ∷ rest) rest) play
        by true is others =
            let stops = stopped number below play middle (is_place (places number) is) in
            let onward = others stops.after stops.onward in
            record {
              after = onward.after;
              turns = λ order.
                  ap (λ (o : Option OrderedPlay). option_and_then (after_turns on.boot (rest ++ order)) o) stops.turned
                  ∙ onward.turns order;
              onward = onward.onward;
            }
        by false is others = others play (none_refused number below play middle (no_place (places number) is))

    -- all of them
    all_refused : (play : OrderedPlay) → IsMiddle before 0 play
        → AllStop (refused_at places on.boot.cpus (length before)) play
    all_refused play middle = all_stop on.boot.cpus 0 (omega arith) play middle

  -- ---- the event at a place

  module _ (before behind : List Event) (event : Event) (cut : history ≡ before ++ event ∷ behind) (play : OrderedPlay)
      (middle : IsMiddle before on.boot.cpus play) where
    -- behind it, no entry has been refused yet
    longer_place : (cpu : ℕ) → cpu < on.boot.cpus → (place : ℕ) → IsToCome (length before) on.boot.cpus cpu place
        → IsToCome (length (before ++ event ∷ [])) 0 cpu place
    longer_place cpu below place to_come = let long = one_longer before event in grind arith

    goes_further : (cpu : ℕ) (below : cpu < on.boot.cpus) (seat : Seat) → (cpu_of event ≡ cpu → ⊥)
        → Stage (length before) on.boot.cpus cpu below seat → Stage (length (before ++ event ∷ [])) 0 cpu below seat
    goes_further cpu below seat apart (GoesOn to_come midway) =
        GoesOn (λ place is. longer_place cpu below place (to_come place is))
        (record {
          mid = midway.mid;
          is = midway.is;
          next = midway.next ∙ next_other cpu history before behind event cut apart;
        })
    goes_further cpu below seat apart (Stopped place is over none same) =
        let long = one_longer before event in
        Stopped place is (grind arith) (sym (next_other cpu history before behind event cut apart) ∙ none) same

    module _ (next : Kernel) (came : after_event on.boot play.kernel event ≡ Some next)
        (below : cpu_of event < on.boot.cpus) (few : copied_bytes before + copied_by event ≤ 2 ^ 28) where
      record Happens : Type 0 where
        after : OrderedPlay
        turned : after_turn on.boot (cpu_of event) play ≡ Some after
        onward : IsMiddle (before ++ event ∷ []) 0 after

      moved : (to_come : (place : ℕ) → places (cpu_of event) ≡ Some place →
          IsToCome (length before) on.boot.cpus (cpu_of event) place)
          → Turned on history parts before behind event cut play next came middle.same middle.comes → Happens
      moved to_come turned =
          let cpu = cpu_of event in
          record {
            after = moved_on play cpu turned.seat event next;
            turned = turned.turned;
            onward = record {
              same = ap (λ (h : List Event). h ++ event ∷ []) middle.same;
              comes = one_event_more on.boot before event play.kernel next middle.comes came;
              count = length-set play.seats cpu turned.seat ∙ middle.count;
              seats = λ other here. by_number cpu other
                  (λ same. own other same here)
                  (λ apart.
                  let had = middle.seats other here in
                  record {
                    seat = had.seat;
                    there = set_other play.seats cpu other turned.seat apart ∙ had.there;
                    stage = goes_further other here had.seat apart had.stage;
                  });
            };
          }
        where
          after : OrderedPlay
          after = moved_on play (cpu_of event) turned.seat event next

          own : (cpu : ℕ) → cpu_of event ≡ cpu → (here : cpu < on.boot.cpus)
              → HasSeat after (length (before ++ event ∷ [])) 0 cpu here
          own cpu same = subst (λ (c : ℕ). (here : c < on.boot.cpus) →
              HasSeat after (length (before ++ event ∷ [])) 0 c here) same
              (λ here. record {
                seat = turned.seat;
                there = set_found play.seats (cpu_of event) turned.seat
                    (middle.seats (cpu_of event) below).seat
                    (middle.seats (cpu_of event) below).there;
                stage = GoesOn
                    (λ place is. longer_place (cpu_of event) below place (to_come place is))
                    (turned.midway here);
              })

      happens_at : Stage (length before) on.boot.cpus (cpu_of event) below
          (middle.seats (cpu_of event) below).seat → Happens
      happens_at (GoesOn to_come midway) =
          let had = middle.seats (cpu_of event) below in
          moved to_come
          (turn on history parts before behind event cut play next came middle.same middle.comes below few
          had.seat had.there midway)
      happens_at (Stopped place is over none same) =
          let both = sym none ∙ next_own history before behind event cut in absurd cc

      happens : Happens
      happens = happens_at (middle.seats (cpu_of event) below).stage

  -- ---- all events

  -- a turn, and others behind it
  turns_then : (cpu : ℕ) (order : List ℕ) (play next end : OrderedPlay) → after_turn on.boot cpu play ≡ Some next
      → after_turns on.boot order next ≡ Some end → after_turns on.boot (cpu ∷ order) play ≡ Some end
  turns_then cpu order play next end first others =
      ap (λ (o : Option OrderedPlay). option_and_then (after_turns on.boot order) o) first ∙ others

  -- refused entries, and turns behind them
  stops_then : (before behind : List Event) (cut : history ≡ before ++ behind) (numbers : List ℕ) (play : OrderedPlay)
      (stopped : AllStop before behind cut numbers play) (order : List ℕ) (end : OrderedPlay)
      → after_turns on.boot order stopped.after ≡ Some end → after_turns on.boot (numbers ++ order) play ≡ Some end
  stops_then before behind cut numbers play stopped order end others = stopped.turns order ∙ others

  record Merged (order : List ℕ) (play : OrderedPlay) : Type 0 where
    end : OrderedPlay
    turns : after_turns on.boot order play ≡ Some end
    middle : IsMiddle history on.boot.cpus end

  merge : IsLegal on.boot history → copied_bytes history ≤ 2 ^ 28 → (before behind : List Event) (play : OrderedPlay)
      → history ≡ before ++ behind → IsMiddle before 0 play
      → Merged (order_with places on.boot.cpus (length before) behind) play
  merge legal few before [] play cut middle =
      let stopped = all_refused before [] cut play middle in
      let whole = cut ∙ append-nil before in
      record {
        end = stopped.after;
        turns = subst (λ (order : List ℕ). after_turns on.boot order play ≡ Some stopped.after)
            (append-nil (refused_at places on.boot.cpus (length before)))
            (stops_then before [] cut (refused_at places on.boot.cpus (length before)) play stopped [] stopped.after refl);
        middle = subst (λ (h : List Event). IsMiddle h on.boot.cpus stopped.after) (sym whole) stopped.onward;
      }
  merge legal few before (event ∷ behind) play cut middle =
      let stopped = all_refused before (event ∷ behind) cut play middle in
      let now = stopped.after in
      let next = follows on.boot before behind event now.kernel stopped.onward.comes
      (subst (λ (h : List Event). IsSome (kernel_after on.boot h)) cut legal.follows) in
      let below = processor_below on.boot before now.kernel next.0 event legal.boots stopped.onward.comes next.1 in
      let little = few_with before behind event (2 ^ 28)
      (subst (λ (h : List Event). copied_bytes h ≤ 2 ^ 28) cut few) in
      let happened = happens before behind event cut now stopped.onward next.0 next.1 below little in
      let onward = merge legal few (before ++ event ∷ []) behind happened.after
      (cut_behind history before behind event cut) happened.onward in
      let others = order_with places on.boot.cpus (length before + 1) behind in
      let long = one_longer before event in
      let then = subst (λ (at : ℕ). after_turns on.boot (order_with places on.boot.cpus at behind) happened.after ≡ Some onward.end)
      long onward.turns in
      record {
        end = onward.end;
        turns = stops_then before (event ∷ behind) cut (refused_at places on.boot.cpus (length before)) play stopped
            (cpu_of event ∷ others) onward.end
            (turns_then (cpu_of event) others now happened.after onward.end happened.turned then);
        middle = onward.middle;
      }

  -- ---- the end

  -- an entry that is still to come would come behind the whole history
  final_seat : (cpu : ℕ) (below : cpu < on.boot.cpus) (place : Option ℕ)
      (refused : IsRefusedIf (role_in on history cpu) (parts cpu below) place)
      → ((at : ℕ) → place ≡ Some at → IsToCome (length history) on.boot.cpus cpu at)
      → seat_of (parts cpu below)
      ≡ seat_with (role_in on history cpu) (parts cpu below) place refused
  final_seat cpu below None refused to_come = refl
  final_seat cpu below (Some at) refused to_come =
      let later = to_come at refl in let within = refused.within in absurd (grind arith)

  seat_at_end : (cpu : ℕ) (below : cpu < on.boot.cpus) (seat : Seat) → Stage (length history) on.boot.cpus cpu below seat
      → seat ≡ final cpu below
  seat_at_end cpu below seat (GoesOn to_come midway) =
      ended on history parts cpu below (length history) seat midway (none_at_end cpu history)
      ∙ final_seat cpu below (places cpu) (refusals cpu below) to_come
  seat_at_end cpu below seat (Stopped place is over none same) = same

  comes_to : (play : OrderedPlay) → IsMiddle history on.boot.cpus play → ComesTo on.boot history final play
  comes_to play middle = record {
    history = middle.same;
    kernel = middle.comes;
    count = middle.count;
    seats = λ cpu below.
        let had = middle.seats cpu below in
        had.there ∙ ap Some (seat_at_end cpu below had.seat had.stage);
  }

pub refusals_merge : RefusalsMerge
refusals_merge on history apart legal few =
    let merged = merge on history apart.parts apart.places apart.refusals legal few [] history
    (first_in on) refl
    (first_middle on history apart.parts apart.places apart.refusals) in (
      merged.end,
      merged.turns,
      comes_to on history apart.parts apart.places apart.refusals merged.end merged.middle,
    )

-- ---- without refusals

no_numbers : (numbers : List ℕ) → filter (λ (cpu : ℕ). false) numbers ≡ []
no_numbers [] = refl
no_numbers (cpu ∷ numbers) = no_numbers numbers

plain_order : (cpus at : ℕ) (events : List Event) → order_with (λ cpu. None) cpus at events ≡ map cpu_of events
plain_order cpus at [] = no_numbers (range_with_len 0 cpus)
plain_order cpus at (event ∷ events) =
    ap (λ (numbers : List ℕ). numbers ++ cpu_of event ∷ order_with (λ cpu. None) cpus (at + 1) events)
    (no_numbers (range_with_len 0 cpus))
    ∙ ap (λ (order : List ℕ). cpu_of event ∷ order) (plain_order cpus (at + 1) events)

pub parts_merge : PartsMerge
parts_merge on history parts legal few =
    let merged = refusals_merge on history
    (record { parts = parts; places = λ cpu. None; refusals = λ cpu below. tt }) legal few in
    let order = plain_order on.boot.cpus 0 history in (
      merged.0,
      ap (λ (o : List ℕ). after_turns on.boot o (first_in on)) (sym order) ∙ merged.1,
      merged.2,
    )
