-- The places that the processors of a play have printed, where it has ended: each of them once.
use Rattle.std.proofs.Common.{◌≡◌, ℕ, zero, suc, ◌+◌, ◌*◌, ◌==◌, ◌<◌, ◌≤◌, Bool, true, false, List, [], ◌∷◌, ◌++◌, Option, Some, None, length}
use Rattle.std.proofs.Common.{refl, sym, ◌∙◌, ap, subst, arith, append_assoc, append-nil}
use Rattle.std.specs.Prelude.{IsPermutation, if◌then◌else◌, replicate, slice_get, slice_set}
use Rattle.std.specs.List.{AllByRecursion, flat_map, list_all, range_with_len}
use Rattle.std.proofs.lemmas.Bool.{and_parts, eqb-true}
use Rattle.std.proofs.lemmas.Bool.Decides.{nat_tests}
use Rattle.std.proofs.lemmas.List.Sorted.{IsPermutation-append_right, IsPermutation-cons, IsPermutation-middle, IsPermutation-refl, IsPermutation-trans}
use Rattle.std.proofs.lemmas.Option.{option_and_then_some, slice_get_within}
use Rattle.event_journal.specs.declared.event.Event.{Event}
use Rattle.event_journal.specs.declared.event.Event.TheVariants.{Entry, Exit}
use Rattle.kernel_model.proofs.Parts.{some_of}
use Rattle.kernel_model.proofs.Past.{after_events-append}
use Rattle.kernel_model.proofs.SoundSteps.{as_many}
use Rattle.kernel_model.proofs.StandingBy.{event_leaves, stand_by_their_events}
use Rattle.kernel_model.specs.Application.{Booted}
use Rattle.kernel_model.specs.History.{IsLegal, after_event, after_events, is_outside, kernel_after}
use Rattle.kernel_model.specs.Kernel.{Kernel, Outside, Processor, first_kernel}
use Rattle.kernel_model.specs.Turns.{IsLeftBy, cpu_of, last_by}
use Rattle.ordered_play.proofs.Events.{same_some}
use Rattle.ordered_play.proofs.Legal.{follows, processor_below}
use Rattle.ordered_play.proofs.Places.{came_in, inside_by, part_prints, stood_so}
use Rattle.ordered_play.specs.Act.{Act, Comes, Leaves, Writes, Shows}
use Rattle.ordered_play.specs.Blocks.{has_ended, is_none}
use Rattle.ordered_play.specs.Merge.{HasPart, IsOfParts, IsRefusedIf, Part, Setting, role_in, seat_with}
use Rattle.ordered_play.specs.Ordered.{OrderedPlay}
use Rattle.ordered_play.specs.Part.{IsPart, Role}
use Rattle.ordered_play.specs.Places.{ComeAndGo, ComesAndGoes, HasPrinted, PlacesAreEachOnce, PrintsItsPlaces, is_entry, place_inside, places_from, places_of, places_printed, printed_places, smcs_of}
use Rattle.ordered_play.specs.Seat.{Seat}

-- ---- all are out in the end

pub each_passes : {X : Type 0} (test : X → Bool) (xs : List X) (k : ℕ) (x : X) → list_all test xs ≡ true
    → slice_get xs k ≡ Some x → test x ≡ true
each_passes test [] k x all there = absurd cc
each_passes test (first ∷ xs) zero x all there =
    let same = same_some first x there in
    ap test (sym same) ∙ (and_parts (test first) (list_all test xs) all).0
each_passes test (first ∷ xs) (suc k) x all there =
    each_passes test xs k x (and_parts (test first) (list_all test xs) all).1 there

none_left : (acts : List Act) → is_none acts ≡ true → acts ≡ []
none_left [] e = refl
none_left (act ∷ acts) e = absurd cc

-- what is left goes on from where the acts that are done have led
on_behind : (inside : Bool) (done left : List Act) → ComesAndGoes inside (done ++ left) → ComesAndGoes (inside_by inside done) left
on_behind inside [] left turns = turns
on_behind inside (Comes steps regs ∷ done) left turns = on_behind true done left turns.1
on_behind inside (Leaves ∷ done) left turns = on_behind false done left turns.1
on_behind inside (Writes addr bytes ∷ done) left turns = on_behind inside done left turns
on_behind inside (Shows addr len ∷ done) left turns = on_behind inside done left turns

with_refusal : (of : Role) (part : Part of) (place : Option ℕ) (refused : IsRefusedIf of part place)
    → PrintsItsPlaces of.share.cpu of.share.history part.end.seat
    → PrintsItsPlaces of.share.cpu of.share.history (seat_with of part place refused)
with_refusal of part None refused prints = prints
with_refusal of part (Some place) refused prints = prints

-- a processor that is out has printed all its places
out_is_whole : (last : Option Event) (n : ℕ) → came_in last ≡ false → place_inside last n ≡ []
out_is_whole None n out = refl
out_is_whole (Some (Entry cpu regs steps reads)) n out = absurd cc
out_is_whole (Some (Exit cpu regs)) n out = refl

module _ (on : Setting) (play : OrderedPlay) (is : IsOfParts on play)
    (turns : ComeAndGo on.boot.cpus on.trace.items) (ended : has_ended play ≡ true) where
  is_out : (cpu : ℕ) → cpu < on.boot.cpus → came_in (last_by cpu play.history) ≡ false
  is_out cpu below =
      (part_prints of its.part.end below is.legal part).stands ∙ by its.place its.refused its.seat
    where
      of : Role
      of = role_in on play.history cpu

      its : HasPart on play cpu
      its = is.parts cpu below

      part : IsPart of its.part.end
      part = its.part.is_part

      onward : (left : List Act) → part.left ≡ left → ComesAndGoes (inside_by false part.done) left
      onward left same = subst (ComesAndGoes (inside_by false part.done)) same
          (on_behind false part.done part.left (subst (ComesAndGoes false) part.cut (turns cpu below)))

      by : (place : Option ℕ) (refused : IsRefusedIf of its.part place)
          → slice_get play.seats cpu ≡ Some (seat_with of its.part place refused)
          → inside_by false part.done ≡ false
      by None refused seat =
          onward [] (none_left part.left (each_passes (λ (s : Seat). is_none s.acts) play.seats cpu _ ended seat))
      by (Some place) refused seat = (onward (Comes refused.steps refused.regs ∷ refused.rest) refused.left).0

  -- each has printed the places of its events
  pub by_each : (cpu : ℕ) → cpu < on.boot.cpus → HasPrinted play cpu
  by_each cpu below =
      let of = role_in on play.history cpu in
      let its = is.parts cpu below in
      let seat = seat_with of its.part its.place its.refused in
      let prints = with_refusal of its.part its.place its.refused
      (part_prints of its.part.end below is.legal its.part.is_part).prints in
      let none = out_is_whole (last_by cpu play.history) seat.entry_at (is_out cpu below) in
      record {
        seat = seat;
        there = its.seat;
        prints = sym (append-nil (printed_places seat.lines))
            ∙ ap (λ (l : List ℕ). printed_places seat.lines ++ l) (sym none) ∙ prints;
      }

-- ---- each place once

-- the processors of events are below a count
abbrev pub AreBelow : ℕ → List Event → Type 0
AreBelow count events = AllByRecursion (λ (event : Event). cpu_of event < count) events

-- the processor of an event of a legal history is there
event_below : (boot : Booted) (before behind : List Event) (event : Event) → IsLegal boot (before ++ event ∷ behind)
    → cpu_of event < boot.cpus
event_below boot before behind event legal =
    let end = some_of (kernel_after boot (before ++ event ∷ behind)) legal.follows in
    option_and_then_some (λ k. after_events boot k (event ∷ behind)) (kernel_after boot before) end.0
    (sym (after_events-append boot (first_kernel boot) before (event ∷ behind)) ∙ end.1)
    (λ (kernel : Kernel) there rest.
    let next = follows boot before behind event kernel there legal.follows in
    processor_below boot before kernel next.0 event legal.boots there next.1)

pub all_below : (boot : Booted) (before events : List Event) → IsLegal boot (before ++ events) → AreBelow boot.cpus events
all_below boot before [] legal = tt
all_below boot before (event ∷ events) legal = (
  event_below boot before events event legal,
  all_below boot (before ++ event ∷ []) events (subst (IsLegal boot) (sym (append_assoc before (event ∷ []) events)) legal),
)

-- one of these numbers has this place before its others
module _ (own at : ℕ) (others : ℕ → List ℕ) where
  abbrev with_place : ℕ → List ℕ
  with_place cpu = if own == cpu then at ∷ others cpu else others cpu

  not_behind : (from count : ℕ) → own < from
      → flat_map with_place (range_with_len from count) ≡ flat_map others (range_with_len from count)
  not_behind from zero low = refl
  not_behind from (suc count) low =
      let apart : (own == from) ≡ false = grind (arith, nat_tests) in
      let later : own < from + 1 = omega arith in
      ap (λ (test : Bool). (if test then at ∷ others from else others from) ++ flat_map with_place (range_with_len (from + 1) count)) apart
      ∙ ap (λ (l : List ℕ). others from ++ l) (not_behind (from + 1) count later)

  in_front : (from count : ℕ) → from ≤ own → own < from + count
      → IsPermutation (flat_map with_place (range_with_len from count)) (at ∷ flat_map others (range_with_len from count))
  in_front from zero low high = absurd (omega (arith, low, high))
  in_front from (suc count) low high =
      by (own == from) refl (λ behind within. in_front (from + 1) count behind within)
    where
      rest : List ℕ
      rest = flat_map others (range_with_len (from + 1) count)

      by : (test : Bool) → (own == from) ≡ test
          → (from + 1 ≤ own → own < from + 1 + count
          → IsPermutation (flat_map with_place (range_with_len (from + 1) count)) (at ∷ rest))
          → IsPermutation ((if test then at ∷ others from else others from) ++ flat_map with_place (range_with_len (from + 1) count))
          (at ∷ (others from ++ rest))
      by true is later =
          let same : own ≡ from = eqb-true own from is in
          let past : own < from + 1 = omega (arith, same) in
          subst (λ (l : List ℕ). IsPermutation (at ∷ (others from ++ l)) (at ∷ (others from ++ rest)))
          (sym (not_behind (from + 1) count past)) (IsPermutation-refl (at ∷ (others from ++ rest)))
      by false is later =
          let apart : own ≡ from → ⊥ = λ same. absurd (grind (arith, nat_tests)) in
          let behind : from + 1 ≤ own = omega (arith, apart, low) in
          let within : own < from + 1 + count = omega (arith, high) in
          IsPermutation-trans (others from ++ flat_map with_place (range_with_len (from + 1) count))
          (others from ++ at ∷ rest) (at ∷ (others from ++ rest))
          (IsPermutation-append_right (others from) (flat_map with_place (range_with_len (from + 1) count)) (at ∷ rest)
          (later behind within))
          (IsPermutation-middle (others from) at rest)

none_at_all : (at from count : ℕ) → flat_map (λ cpu. places_from cpu at []) (range_with_len from count) ≡ []
none_at_all at from zero = refl
none_at_all at from (suc count) = none_at_all at (from + 1) count

pub all_places : (count at : ℕ) (events : List Event) → AreBelow count events
    → IsPermutation (flat_map (λ cpu. places_from cpu at events) (range_with_len 0 count)) (range_with_len at (length events))
all_places count at [] below =
    subst (λ (l : List ℕ). IsPermutation l []) (sym (none_at_all at 0 count)) (IsPermutation-refl [])
all_places count at (event ∷ events) below =
    let others = λ (cpu : ℕ). places_from cpu (at + 1) events in
    let own = below.0 in
    let within : cpu_of event < 0 + count = omega (arith, own) in
    IsPermutation-trans (flat_map (with_place (cpu_of event) at others) (range_with_len 0 count))
    (at ∷ flat_map others (range_with_len 0 count)) (at ∷ range_with_len (at + 1) (length events))
    (in_front (cpu_of event) at others 0 count (omega arith) within)
    (IsPermutation-cons at (flat_map others (range_with_len 0 count)) (range_with_len (at + 1) (length events))
    (all_places count (at + 1) events below.1))

-- what the seats have printed is the places of one processor after the other
seats_print : (history : List Event) (from : ℕ) (seats : List Seat)
    → ((k : ℕ) (seat : Seat) → slice_get seats k ≡ Some seat → printed_places seat.lines ≡ places_of (from + k) history)
    → flat_map (λ (seat : Seat). printed_places seat.lines) seats
    ≡ flat_map (λ cpu. places_of cpu history) (range_with_len from (length seats))
seats_print history from [] each = refl
seats_print history from (seat ∷ seats) each =
    let here : from + 0 ≡ from = omega arith in
    let first = each 0 seat refl ∙ ap (λ (n : ℕ). places_of n history) here in
    let rest = seats_print history (from + 1) seats (λ k other there.
    let next : from + suc k ≡ from + 1 + k = omega arith in
    each (suc k) other there ∙ ap (λ (n : ℕ). places_of n history) next) in
    ap (λ (l : List ℕ). l ++ flat_map (λ (seat : Seat). printed_places seat.lines) seats) first
    ∙ ap (λ (l : List ℕ). places_of from history ++ l) rest

-- ---- an entry and an exit of each SMC

abbrev pub total : {X : Type 0} → (X → ℕ) → List X → ℕ
total f [] = 0
total f (x ∷ xs) = f x + total f xs

pub total-set : {X : Type 0} (f : X → ℕ) (xs : List X) (i : ℕ) (x y : X) → slice_get xs i ≡ Some x
    → total f (slice_set xs i y) + f x ≡ total f xs + f y
total-set f [] i x y there = absurd cc
total-set f (z ∷ xs) zero x y there = let same = ap f (same_some z x there) in omega (arith, same)
total-set f (z ∷ xs) (suc i) x y there = let rest = total-set f xs i x y there in omega (arith, rest)

-- a processor that is inside counts
abbrev is_within : Processor → ℕ
is_within processor = if is_outside processor then 0 else 1

within_by : (event : Event) (processor : Processor) → IsLeftBy (Some event) processor
    → is_within processor ≡ (if is_entry event then 1 else 0)
within_by (Entry cpu regs steps reads) processor left = ap is_within left.1
within_by (Exit cpu regs) processor left = ap is_within left

-- an entry is one more inside, and an exit one less
one_more : (boot : Booted) (kernel next : Kernel) (event : Event) → after_event boot kernel event ≡ Some next
    → total is_within next.processors + (if is_entry event then 0 else 1)
    ≡ total is_within kernel.processors + (if is_entry event then 1 else 0)
one_more boot kernel next event came =
    let so = stood_so boot kernel next event came in
    let leaves = event_leaves boot kernel next event came in
    ap (λ (all : List Processor). total is_within all + (if is_entry event then 0 else 1)) leaves.set
    ∙ ap (λ (out : Bool). total is_within (slice_set kernel.processors (cpu_of event) leaves.processor)
    + (if out then 0 else 1)) (sym so.stood)
    ∙ total-set is_within kernel.processors (cpu_of event) so.processor leaves.processor so.there
    ∙ ap (λ (n : ℕ). total is_within kernel.processors + n) (within_by event leaves.processor leaves.left)

events_paired : (boot : Booted) (kernel last : Kernel) (events : List Event) → after_events boot kernel events ≡ Some last
    → length events + total is_within last.processors ≡ 2 * smcs_of events + total is_within kernel.processors
events_paired boot kernel last [] e =
    let same = ap (λ (k : Kernel). total is_within k.processors) (same_some kernel last e) in
    omega (arith, same)
events_paired boot kernel last (Entry cpu regs steps reads ∷ events) e =
    option_and_then_some (λ next. after_events boot next events) (after_event boot kernel (Entry cpu regs steps reads)) last e
    (λ (next : Kernel) came onward.
    let rest = events_paired boot next last events onward in
    let more = one_more boot kernel next (Entry cpu regs steps reads) came in
    omega (arith, rest, more))
events_paired boot kernel last (Exit cpu regs ∷ events) e =
    option_and_then_some (λ next. after_events boot next events) (after_event boot kernel (Exit cpu regs)) last e
    (λ (next : Kernel) came onward.
    let rest = events_paired boot next last events onward in
    let more = one_more boot kernel next (Exit cpu regs) came in
    omega (arith, rest, more))

none_within : (processors : List Processor)
    → ((k : ℕ) (processor : Processor) → slice_get processors k ≡ Some processor → is_outside processor ≡ true)
    → total is_within processors ≡ 0
none_within [] each = refl
none_within (processor ∷ processors) each =
    let first = ap {B = ℕ} (λ (out : Bool). if out then 0 else 1) (each 0 processor refl) in
    let rest = none_within processors (λ k other there. each (suc k) other there) in
    omega (arith, first, rest)

none_at_first : (count : ℕ) → total is_within (replicate count Outside) ≡ 0
none_at_first zero = refl
none_at_first (suc count) = let rest = none_at_first count in omega (arith, rest)

left_outside : (last : Option Event) (processor : Processor) → IsLeftBy last processor → came_in last ≡ false
    → is_outside processor ≡ true
left_outside None processor left out = ap is_outside left
left_outside (Some (Entry cpu regs steps reads)) processor left out = absurd cc
left_outside (Some (Exit cpu regs)) processor left out = ap is_outside left

-- ---- all of it

pub places_are_each_once : PlacesAreEachOnce
places_are_each_once on play is turns ended = record {
  events = many;
  once = subst (λ (n : ℕ). IsPermutation (places_printed play) (range_with_len 0 n)) many
      (subst (λ (l : List ℕ). IsPermutation l (range_with_len 0 (length play.history))) (sym printed)
      (all_places on.boot.cpus 0 play.history (all_below on.boot [] play.history is.legal)));
  own = own;
}
  where
    own : (cpu : ℕ) → cpu < on.boot.cpus → HasPrinted play cpu
    own = by_each on play is turns ended

    printed : places_printed play ≡ flat_map (λ cpu. places_of cpu play.history) (range_with_len 0 on.boot.cpus)
    printed = seats_print play.history 0 play.seats (λ k seat there.
        let within = slice_get_within play.seats k seat there in
        let count = is.count in
        let below : k < on.boot.cpus = omega (arith, within, count) in
        let its = own k below in
        let same : its.seat ≡ seat = same_some its.seat seat (sym its.there ∙ there) in
        let number : k ≡ 0 + k = omega arith in
        ap (λ (s : Seat). printed_places s.lines) (sym same) ∙ its.prints ∙ ap (λ (n : ℕ). places_of n play.history) number)
        ∙ ap (λ (n : ℕ). flat_map (λ cpu. places_of cpu play.history) (range_with_len 0 n)) is.count

    all_outside : total is_within play.kernel.processors ≡ 0
    all_outside = none_within play.kernel.processors (λ k processor there.
        let within = slice_get_within play.kernel.processors k processor there in
        let count = (as_many on.boot play.history play.kernel is.legal.boots is.kernel).processors in
        let below : k < on.boot.cpus = omega (arith, within, count) in
        let stands = stand_by_their_events on.boot play.history play.kernel k below is.kernel in
        let same : stands.processor ≡ processor = same_some stands.processor processor (sym stands.there ∙ there) in
        ap is_outside (sym same)
        ∙ left_outside (last_by k play.history) stands.processor stands.left (is_out on play is turns ended k below))

    many : length play.history ≡ 2 * smcs_of play.history
    many =
        let pairs = events_paired on.boot (first_kernel on.boot) play.kernel play.history is.kernel in
        let first : total is_within (first_kernel on.boot).processors ≡ 0 = none_at_first on.boot.cpus in
        let last = all_outside in
        omega (arith, pairs, first, last)
