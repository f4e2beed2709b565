-- Each play in an order is one of parts: with each turn its processor's part grows, or stays with a refused entry, and
-- the parts of all others stay.
use Rattle.std.proofs.Common.{◌≡◌, ℕ, ◌+◌, ◌<◌, ◌≤◌, Bool, true, false, List, [], ◌∷◌, Option, Some, None, length}
use Rattle.std.proofs.Common.{append-nil, take, refl, sym, ◌∙◌, ap, subst, arith}
use Rattle.std.specs.Prelude.{◌^◌, IsSome, nat_lt, if◌then◌else◌, slice_get}
use Rattle.std.specs.List.{AllByRecursion}
use Rattle.std.specs.Option.{option_and_then}
use Rattle.std.proofs.Math.Seq.{take-append_seam}
use Rattle.std.proofs.lemmas.Bool.Decides.{nat_tests}
use Rattle.std.proofs.lemmas.List.{length-set}
use Rattle.std.proofs.lemmas.List.FromFn.{length-map-range_with_len}
use Rattle.std.proofs.lemmas.List.Sums.{sum_by-append}
use Rattle.std.proofs.lemmas.Option.{option_and_then_some, slice_get_within}
use Rattle.event_journal.specs.Event.{copied_by}
use Rattle.event_journal.specs.Journal.{copied_bytes}
use Rattle.event_journal.specs.declared.event.Event.{Event}
use Rattle.event_journal.specs.declared.event.Event.TheVariants.{Entry, Exit}
use Rattle.kernel_model.proofs.Parts.{option_map_some, set_found, set_other}
use Rattle.kernel_model.proofs.SoundSlots.{by_number}
use Rattle.kernel_model.specs.Application.{IsBooted}
use Rattle.kernel_model.specs.Entry.{entry}
use Rattle.kernel_model.specs.Exit.{Exited, exit}
use Rattle.kernel_model.specs.History.{after_event, kernel_after}
use Rattle.kernel_model.specs.Kernel.{Kernel}
use Rattle.kernel_model.specs.Laws.{IsOfOther}
use Rattle.ns_ram.proofs.ReaderLaws.{over_lane-reading}
use Rattle.ns_ram.specs.Reader.{over_lane}
use Rattle.ns_ram.specs.Reads.{HoldsReads, total_bytes}
use Rattle.ns_ram.specs.declared.read.Read.{Read}
use Rattle.play_model.specs.Play.{filled}
use Rattle.trace_text.specs.declared.item.Reg.{Reg}
use Rattle.kernel_model.specs.Turns.{cpu_of}
use Rattle.ordered_play.proofs.Events.{none_at_end, same_some}
use Rattle.ordered_play.proofs.Growing.{parts_grow}
use Rattle.ordered_play.proofs.Legal.{one_event_more}
use Rattle.ordered_play.proofs.Longer.{kept, refused_stays, seat_stays}
use Rattle.ordered_play.proofs.Midway.{first_there}
use Rattle.ordered_play.proofs.Ready.{ready_anew}
use Rattle.ordered_play.proofs.Turn.{entry_by, moved_on}
use Rattle.ordered_play.specs.Act.{Act, Comes, Leaves, Writes, Shows}
use Rattle.ordered_play.specs.Laws.{PlaysHaveParts, later}
use Rattle.ordered_play.specs.Merge.{HasPart, IsOfParts, IsRefusedIf, Part, Setting, first_in, role_in, seat_left, seat_of, seat_with}
use Rattle.ordered_play.specs.Ordered.{OrderedPlay, after_act, after_turn, after_turns, enters_with}
use Rattle.ordered_play.specs.Ordered.{leaves_with, reads_of, refused_seat, visit_with, with_event, with_seat}
use Rattle.ordered_play.specs.Part.{Role, StopsAtEvent}
use Rattle.ordered_play.specs.Seat.{Seat, Told, first_seat, ready_for, with_line, with_writes}

take_whole : (history : List Event) → take (length history) history ≡ history
take_whole history = ap (take (length history)) (sym (append-nil history)) ∙ take-append_seam history []

module _ (on : Setting) where
  abbrev HasPartIn : OrderedPlay → ℕ → Type 0
  HasPartIn play cpu = HasPart on play cpu

  -- a processor's seat and part, where another has its event
  other_kept : (play : OrderedPlay) (event : Event) (seat : Seat) (next : Kernel) (cpu : ℕ)
      → (cpu_of event ≡ cpu → ⊥) → HasPartIn play cpu
      → HasPartIn (moved_on play (cpu_of event) seat event next) cpu
  other_kept play event seat next cpu apart had =
      let of = role_in on play.history cpu in
      let others : AllByRecursion (IsOfOther cpu) (event ∷ []) = (not_its cpu event apart, tt) in
      record {
        part = kept of (event ∷ []) had.part others;
        place = had.place;
        refused = refused_stays of (event ∷ []) had.part others had.place had.refused;
        seat = set_other play.seats (cpu_of event) cpu seat apart ∙ had.seat
            ∙ ap Some (seat_stays of (event ∷ []) had.part others had.place had.refused);
      }
    where
      not_its : (cpu : ℕ) (event : Event) → (cpu_of event ≡ cpu → ⊥) → IsOfOther cpu event
      not_its cpu (Entry came regs steps reads) apart = apart
      not_its cpu (Exit went regs) apart = apart

  -- an event that came, with what its processor's part has come to
  with_own : (play : OrderedPlay) (event : Event) (seat : Seat) (next : Kernel) → IsOfParts on play
      → after_event on.boot play.kernel event ≡ Some next → copied_bytes play.history + copied_by event ≤ 2 ^ 28
      → HasPartIn (moved_on play (cpu_of event) seat event next) (cpu_of event)
      → IsOfParts on (moved_on play (cpu_of event) seat event next)
  with_own play event seat next of_parts came few own =
      let kernel = one_event_more on.boot play.history event play.kernel next of_parts.kernel came in
      let sum = sum_by-append copied_by play.history (event ∷ []) in
      record {
        legal = record { boots = of_parts.legal.boots; follows = subst IsSome (sym kernel) refl };
        kernel = kernel;
        few = omega (arith, sum, few);
        count = length-set play.seats (cpu_of event) seat ∙ of_parts.count;
        parts = λ cpu below. by_number (cpu_of event) cpu
            (λ same. subst (HasPartIn (moved_on play (cpu_of event) seat event next)) same own)
            (λ apart. other_kept play event seat next cpu apart (of_parts.parts cpu below));
      }

  module _ (play : OrderedPlay) (of_parts : IsOfParts on play) (cpu : ℕ) (below : cpu < on.boot.cpus)
      (part : Part (role_in on play.history cpu))
      (there : slice_get play.seats cpu ≡ Some (seat_of part)) where
    abbrev of : Role
    of = role_in on play.history cpu

    -- an event of it came, and its seat is that of the part which has grown by it
    goes_on : (event : Event) (seat : Seat) (after : OrderedPlay) (now : Part (later of (event ∷ [])))
        → cpu_of event ≡ cpu → seat ≡ seat_of now → copied_bytes play.history + copied_by event ≤ 2 ^ 28
        → with_event on.boot cpu seat event play ≡ Some after → IsOfParts on after
    goes_on event seat after now own ready few e =
        let came = option_map_some (moved_on play cpu seat event) (after_event on.boot play.kernel event) after e in
        subst (IsOfParts on)
        (ap (λ (c : ℕ). moved_on play c seat event came.0) own ∙ came.2)
        (with_own play event seat came.0 of_parts came.1 few
        (subst (λ (c : ℕ). HasPartIn (moved_on play c seat event came.0) c) (sym own)
        (record {
          part = now;
          place = None;
          refused = tt;
          seat = set_found play.seats cpu seat (seat_of part) there ∙ ap Some ready;
        })))

    comes_on : (steps : ℕ) (regs : List Reg) (rest : List Act) (reads : List Read) (after : OrderedPlay)
        → part.is_part.left ≡ Comes steps regs ∷ rest → HoldsReads part.end.seat.lane reads
        → copied_bytes play.history + total_bytes reads ≤ 2 ^ 28
        → with_event on.boot cpu
        (ready_for rest (record (seat_left part.end.seat (Comes steps regs ∷ rest)) { entry_at = length play.history }))
        (entry_by cpu part.end.seat steps regs reads) play ≡ Some after
        → IsOfParts on after
    comes_on steps regs rest reads after left holds few e =
        let now = parts_grow.comes of part steps regs rest reads left holds in
        let entered = record part.end.seat { entry_at = length play.history } in
        goes_on (entry_by cpu part.end.seat steps regs reads) _ after now.0 refl
        (ready_anew rest (Comes steps regs ∷ rest) entered ∙ sym (ready_anew rest part.is_part.left entered) ∙ now.1) few e

    -- its entry was refused
    is_refused : (steps : ℕ) (regs : List Reg) (rest : List Act) (reads : List Read) (after : OrderedPlay)
        → part.is_part.left ≡ Comes steps regs ∷ rest
        → reads_of on.boot play.kernel part.end.seat (visit_with cpu part.end.seat steps regs) ≡ Some reads
        → 2 ^ 28 < copied_bytes play.history + total_bytes reads
        → with_seat cpu (refused_seat (seat_left part.end.seat (Comes steps regs ∷ rest))
        (record { copied = copied_bytes play.history; more = total_bytes reads })) play ≡ after
        → IsOfParts on after
    is_refused steps regs rest reads after left would_read many e =
        let whole = take_whole play.history in
        let refused : IsRefusedIf of part (Some (length play.history)) = record {
          within = omega arith;
          last = none_at_end cpu play.history;
          steps = steps;
          regs = regs;
          rest = rest;
          left = left;
          kernel = play.kernel;
          before = ap (kernel_after on.boot) whole ∙ of_parts.kernel;
          reads = reads;
          would_read = would_read;
          many = subst (λ (h : List Event). 2 ^ 28 < copied_bytes h + total_bytes reads) (sym whole) many;
        } in
        let seat = refused_seat (seat_left part.end.seat (Comes steps regs ∷ rest))
        (record { copied = copied_bytes play.history; more = total_bytes reads }) in
        let same = ap (λ (acts : List Act). refused_seat (seat_left part.end.seat acts)
        (record { copied = copied_bytes play.history; more = total_bytes reads })) (sym left)
        ∙ ap (λ (h : List Event). refused_seat (seat_of part)
        (record { copied = copied_bytes h; more = total_bytes reads })) (sym whole) in
        subst (IsOfParts on) e (record {
          legal = of_parts.legal;
          kernel = of_parts.kernel;
          few = of_parts.few;
          count = length-set play.seats cpu seat ∙ of_parts.count;
          parts = λ other here. by_number cpu other
              (λ is. subst (HasPartIn (with_seat cpu seat play)) is (record {
                part = part;
                place = Some (length play.history);
                refused = refused;
                seat = set_found play.seats cpu seat (seat_of part) there ∙ ap Some same;
              }))
              (λ apart.
              let had = of_parts.parts other here in
              record {
                part = had.part;
                place = had.place;
                refused = had.refused;
                seat = set_other play.seats cpu other seat apart ∙ had.seat;
              });
        })

    entry_on : (steps : ℕ) (regs : List Reg) (rest : List Act) (after : OrderedPlay)
        → part.is_part.left ≡ Comes steps regs ∷ rest
        → after_act on.boot play cpu (seat_left part.end.seat (Comes steps regs ∷ rest)) (Comes steps regs ∷ rest) ≡ Some after
        → IsOfParts on after
    entry_on steps regs rest after left e =
        let seat = seat_left part.end.seat (Comes steps regs ∷ rest) in
        let visit = visit_with cpu part.end.seat steps regs in
        option_and_then_some (enters_with on.boot play seat rest visit) (reads_of on.boot play.kernel seat visit) after e
        (λ (reads : List Read) would_read onward.
        let over = option_map_some (λ end. end.1) (over_lane (entry on.boot play.kernel visit) part.end.seat.lane []) reads
        would_read in
        let holds = ((over_lane-reading (entry on.boot play.kernel visit) part.end.seat.lane over.0.1 over.0.0).0 over.1).1 in
        by reads would_read (subst (HoldsReads part.end.seat.lane) over.2 holds)
        (nat_lt (2 ^ 28) (copied_bytes play.history + total_bytes reads)) refl onward)
      where
        by : (reads : List Read)
            → reads_of on.boot play.kernel part.end.seat (visit_with cpu part.end.seat steps regs) ≡ Some reads
            → HoldsReads part.end.seat.lane reads → (much : Bool)
            → nat_lt (2 ^ 28) (copied_bytes play.history + total_bytes reads) ≡ much
            → (if much
            then Some (with_seat cpu (refused_seat (seat_left part.end.seat (Comes steps regs ∷ rest))
            (record { copied = copied_bytes play.history; more = total_bytes reads })) play)
            else with_event on.boot cpu
            (ready_for rest (record (seat_left part.end.seat (Comes steps regs ∷ rest)) { entry_at = length play.history }))
            (entry_by cpu part.end.seat steps regs reads) play) ≡ Some after
            → IsOfParts on after
        by reads would_read holds true is onward =
            is_refused steps regs rest reads after left would_read (grind (arith, nat_tests))
            (same_some _ after onward)
        by reads would_read holds false is onward =
            comes_on steps regs rest reads after left holds (grind (arith, nat_tests)) onward

    exit_on : (rest : List Act) (after : OrderedPlay) → part.is_part.left ≡ Leaves ∷ rest
        → after_act on.boot play cpu (seat_left part.end.seat (Leaves ∷ rest)) (Leaves ∷ rest) ≡ Some after
        → IsOfParts on after
    exit_on rest after left e =
        let seat = seat_left part.end.seat (Leaves ∷ rest) in
        option_and_then_some (leaves_with on.boot play cpu seat rest) (exit play.kernel cpu) after e
        (λ (exited : Exited) goes onward.
        let exits = ap (λ (o : Option Kernel). option_and_then (λ kernel. exit kernel cpu) o) of_parts.kernel ∙ goes in
        let now = parts_grow.goes of part rest exited left exits in
        let told = with_line (Told exited.regs part.end.seat.entry_at (length play.history))
        (with_writes exited.writes (record part.end.seat { answer = exited.regs })) in
        let few = of_parts.few in
        goes_on (Exit cpu (record { a = exited.regs })) _ after now.0 refl
        (ready_anew rest (Leaves ∷ rest) told ∙ sym (ready_anew rest part.is_part.left told) ∙ now.1)
        (omega (arith, few)) onward)

    turn_on : (left : List Act) (after : OrderedPlay) → part.is_part.left ≡ left → StopsAtEvent left
        → after_act on.boot play cpu (seat_left part.end.seat left) left ≡ Some after → IsOfParts on after
    turn_on [] after is stops e = absurd cc
    turn_on (Comes steps regs ∷ rest) after is stops e = entry_on steps regs rest after is e
    turn_on (Leaves ∷ rest) after is stops e = exit_on rest after is e
    turn_on (Writes addr bytes ∷ rest) after is stops e = absurd stops
    turn_on (Shows addr len ∷ rest) after is stops e = absurd stops

  -- ---- a turn

  turn_by : (play after : OrderedPlay) → IsOfParts on play → (cpu : ℕ) → cpu < on.boot.cpus → (seat : Seat)
      → slice_get play.seats cpu ≡ Some seat → after_act on.boot play cpu seat seat.acts ≡ Some after
      → HasPartIn play cpu → IsOfParts on after
  turn_by play after of_parts cpu below seat there e had = by had.place had.refused had.seat
    where
      by : (place : Option ℕ)
          (refused : IsRefusedIf (role_in on play.history cpu) had.part place)
          → slice_get play.seats cpu
          ≡ Some (seat_with (role_in on play.history cpu) had.part place refused)
          → IsOfParts on after
      by None refused is =
          let same = same_some seat (seat_of had.part) (sym there ∙ is) in
          turn_on play of_parts cpu below had.part is had.part.is_part.left after refl had.part.is_part.stops
          (subst (λ (s : Seat). after_act on.boot play cpu s s.acts ≡ Some after) same e)
      by (Some place) refused is =
          let same = ap (λ (s : Seat). s.acts) (same_some seat _ (sym there ∙ is)) in
          let none = subst (λ (acts : List Act). after_act on.boot play cpu seat acts ≡ Some after) same e in
          absurd cc

  one_turn : (play after : OrderedPlay) (cpu : ℕ) → IsOfParts on play
      → after_turn on.boot cpu play ≡ Some after → IsOfParts on after
  one_turn play after cpu of_parts e =
      option_and_then_some (λ (seat : Seat). after_act on.boot play cpu seat seat.acts) (slice_get play.seats cpu) after e
      (λ (seat : Seat) there onward.
      let within = slice_get_within play.seats cpu seat there in
      let many = of_parts.count in
      let below : cpu < on.boot.cpus = omega (arith, within, many) in
      turn_by play after of_parts cpu below seat there onward (of_parts.parts cpu below))

  -- ---- all turns

  first_of_parts : IsBooted on.boot → IsOfParts on (first_in on)
  first_of_parts boots = record {
    legal = record { boots = boots; follows = refl };
    kernel = refl;
    few = omega arith;
    count = length-map-range_with_len (first_seat (filled on.ram on.trace.fills) on.trace.items) 0 on.boot.cpus;
    parts = λ cpu below.
        let start = parts_grow.begins (role_in on [] cpu) refl in
        record {
          part = start.0;
          place = None;
          refused = tt;
          seat = first_there on cpu below ∙ ap Some start.1;
        };
  }

  all_turns : (order : List ℕ) (play after : OrderedPlay) → IsOfParts on play
      → after_turns on.boot order play ≡ Some after → IsOfParts on after
  all_turns [] play after of_parts e = subst (IsOfParts on) (same_some play after e) of_parts
  all_turns (cpu ∷ order) play after of_parts e =
      option_and_then_some (after_turns on.boot order) (after_turn on.boot cpu play) after e
      (λ (next : OrderedPlay) there onward. all_turns order next after (one_turn play next cpu of_parts there) onward)

pub plays_have_parts : PlaysHaveParts
plays_have_parts on order play boots e =
    all_turns on order (first_in on) play (first_of_parts on boots) e
