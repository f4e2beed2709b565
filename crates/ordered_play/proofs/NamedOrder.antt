-- The order that the printed places of a play name: two orders with the same blocks are one, where no entry is refused.
use Rattle.std.proofs.Common.{◌≡◌, ℕ, ◌+◌, ◌*◌, ◌==◌, ◌<◌, ◌≤◌, Bool, true, false, List, [], ◌∷◌, Some, None, length, map}
use Rattle.std.proofs.Common.{refl, sym, ◌∙◌, ap, subst, arith}
use Rattle.std.specs.Prelude.{◌^◌, if◌then◌else◌}
use Rattle.std.specs.List.{AllByRecursion, flat_map, list_any, range_with_len}
use Rattle.std.specs.Option.{option_and_then}
use Rattle.std.proofs.lemmas.Bool.{eqb-true}
use Rattle.std.proofs.lemmas.Bool.Decides.{nat_tests}
use Rattle.std.proofs.lemmas.List.FromFn.{length-range_with_len}
use Rattle.std.proofs.lemmas.List.Sorted.{length_permutation}
use Rattle.std.proofs.lemmas.Option.{option_and_then_some, slice_get_within}
use Rattle.event_journal.specs.declared.event.Event.{Event}
use Rattle.kernel_model.specs.Application.{Booted, IsBooted, Native}
use Rattle.kernel_model.specs.Turns.{cpu_of}
use Rattle.ta_isa.specs.declared.boot.Boot.{Boot}
use Rattle.trace_text.specs.declared.trace.Trace.{Trace}
use Rattle.ordered_play.proofs.Events.{same_some}
use Rattle.ordered_play.proofs.OrderOfPlay.{is_its_order}
use Rattle.ordered_play.proofs.PartsOfPlay.{plays_have_parts}
use Rattle.ordered_play.proofs.PlacesOfPlays.{AreBelow, all_below, by_each, places_are_each_once}
use Rattle.ordered_play.proofs.RowsOfBlocks.{IsShort, blocks_long, body, is_full, rows_are, rows_from, rows_short, rows_tell, same_bodies, same_places, some_full, told_of}
use Rattle.ordered_play.specs.Blocks.{blocks_by, blocks_in, blocks_of, blocks_of_ended, has_ended, has_refused}
use Rattle.ordered_play.specs.Merge.{IsOfParts, Setting, first_in, setting_of}
use Rattle.ordered_play.specs.Ordered.{OrderedPlay, after_turns, played_in}
use Rattle.ordered_play.specs.Places.{BlocksNameTheOrder, ComeAndGo, places_from, places_of, places_printed, printed_places, smcs_of}
use Rattle.ordered_play.specs.Seat.{Seat}

-- ---- events by their places

-- none stands before the first
no_earlier : (cpu at place : ℕ) (events : List Event) (rest : List ℕ) → places_from cpu at events ≡ place ∷ rest → at ≤ place
no_earlier cpu at place [] rest e = absurd cc
no_earlier cpu at place (event ∷ events) rest e = by (cpu_of event == cpu) e (no_earlier cpu (at + 1) place events rest)
  where
    by : (test : Bool) → (if test then at ∷ places_from cpu (at + 1) events else places_from cpu (at + 1) events) ≡ place ∷ rest
        → (places_from cpu (at + 1) events ≡ place ∷ rest → at + 1 ≤ place) → at ≤ place
    by true e later = let same : at ≡ place = cc in omega (arith, same)
    by false e later = let le = later e in omega (arith, le)

-- two lists of events in which each of so many processors has the same places
abbrev SamePlaces : ℕ → ℕ → List Event → List Event → Type 0
SamePlaces count at one other = (cpu : ℕ) → cpu < count → places_from cpu at one ≡ places_from cpu at other

own_first : (at : ℕ) (event : Event) (events : List Event)
    → places_from (cpu_of event) at (event ∷ events) ≡ at ∷ places_from (cpu_of event) (at + 1) events
own_first at event events =
    let own : (cpu_of event == cpu_of event) ≡ true = grind (arith, nat_tests) in
    let rest = places_from (cpu_of event) (at + 1) events in
    ap (λ (test : Bool). if test then at ∷ rest else rest) own

-- the first event is of the same processor in both
same_first : (at : ℕ) (event first : Event) (events others : List Event)
    → places_from (cpu_of event) at (event ∷ events) ≡ places_from (cpu_of event) at (first ∷ others) → cpu_of first ≡ cpu_of event
same_first at event first events others same =
    by (cpu_of first == cpu_of event) refl (sym same ∙ own_first at event events)
  where
    by : (test : Bool) → (cpu_of first == cpu_of event) ≡ test
        → (if test then at ∷ places_from (cpu_of event) (at + 1) others else places_from (cpu_of event) (at + 1) others)
        ≡ at ∷ places_from (cpu_of event) (at + 1) events
        → cpu_of first ≡ cpu_of event
    by true is e = eqb-true (cpu_of first) (cpu_of event) is
    by false is e =
        let late = no_earlier (cpu_of event) (at + 1) at others _ e in
        absurd (omega (arith, late))

-- and so the others have the same places behind it
same_behind : (cpu at : ℕ) (event first : Event) (events others : List Event) → cpu_of first ≡ cpu_of event
    → places_from cpu at (event ∷ events) ≡ places_from cpu at (first ∷ others)
    → places_from cpu (at + 1) events ≡ places_from cpu (at + 1) others
same_behind cpu at event first events others alike same =
    by (cpu_of event == cpu) (same ∙ ap (λ (n : ℕ). if n == cpu then at ∷ places_from cpu (at + 1) others
    else places_from cpu (at + 1) others) alike)
  where
    by : (test : Bool)
        → (if test then at ∷ places_from cpu (at + 1) events else places_from cpu (at + 1) events)
        ≡ (if test then at ∷ places_from cpu (at + 1) others else places_from cpu (at + 1) others)
        → places_from cpu (at + 1) events ≡ places_from cpu (at + 1) others
    by true e = cc
    by false e = e

same_order : (count at : ℕ) (one other : List Event) → AreBelow count one → AreBelow count other → SamePlaces count at one other
    → map cpu_of one ≡ map cpu_of other
same_order count at [] [] first second same = refl
same_order count at [] (event ∷ others) first second same =
    let none : [] ≡ at ∷ places_from (cpu_of event) (at + 1) others = same (cpu_of event) second.0 ∙ own_first at event others in
    absurd cc
same_order count at (event ∷ events) [] first second same =
    let none : at ∷ places_from (cpu_of event) (at + 1) events ≡ [] = sym (own_first at event events) ∙ same (cpu_of event) first.0 in
    absurd cc
same_order count at (event ∷ events) (other ∷ others) first second same =
    let alike = same_first at event other events others (same (cpu_of event) first.0) in
    let rest = same_order count (at + 1) events others first.1 second.1
    (λ cpu below. same_behind cpu at event other events others alike (same cpu below)) in
    ap (λ (n : ℕ). n ∷ map cpu_of events) (sym alike) ∙ ap (λ (l : List ℕ). cpu_of other ∷ l) rest

-- the places stand in the history
places_below : (cpu at most : ℕ) (events : List Event) → at + length events ≤ most
    → AllByRecursion (λ place. place < most) (places_from cpu at events)
places_below cpu at most [] within = tt
places_below cpu at most (event ∷ events) within =
    by (cpu_of event == cpu) (places_below cpu (at + 1) most events (omega (arith, within)))
  where
    by : (test : Bool) → AllByRecursion (λ place. place < most) (places_from cpu (at + 1) events)
        → AllByRecursion (λ place. place < most)
        (if test then at ∷ places_from cpu (at + 1) events else places_from cpu (at + 1) events)
    by true rest = (omega (arith, within), rest)
    by false rest = rest

-- ---- plays

few_cpus : (boot : Booted) → IsBooted boot → boot.cpus < 2 ^ 64
few_cpus boot boots =
    let few = boots.is_boot.few_processors in
    let same = ap (λ (b : Booted). b.cpus) boots.same in
    omega (arith, few, same)

-- a play that refuses no entry and has come to its end, in this order
pub record IsWhole (on : Setting) (order : List ℕ) (play : OrderedPlay) : Type 0 where
  pub is_play : after_turns on.boot order (first_in on) ≡ Some play
  pub ended : has_ended play ≡ true
  pub none : has_refused play ≡ false

module _ (on : Setting) (order : List ℕ) (play : OrderedPlay) (boots : IsBooted on.boot)
    (turns : ComeAndGo on.boot.cpus on.trace.items) (few : length (blocks_of play) < 2 ^ 64)
    (whole : IsWhole on order play) where
  of_parts : IsOfParts on play
  of_parts = plays_have_parts on order play boots whole.is_play

  order_is : map cpu_of play.history ≡ order
  order_is = is_its_order on order play whole.is_play whole.none

  few_events : length play.history < 2 ^ 64
  few_events =
      let counted = places_are_each_once on play of_parts turns whole.ended in
      let events = counted.events in
      let count = length_permutation (places_printed play) (range_with_len 0 (2 * smcs_of play.history)) counted.once in
      let many = length-range_with_len 0 (2 * smcs_of play.history) in
      let long = blocks_long 0 play.seats in
      omega (arith, events, count, many, long, few)

  events_below : AreBelow on.boot.cpus play.history
  events_below = all_below on.boot [] play.history of_parts.legal

  -- its rows tell of each processor the places of its events
  rows_tell_places : (cpu : ℕ) → cpu < on.boot.cpus → flat_map (told_of cpu) (rows_from 0 play.seats) ≡ places_of cpu play.history
  rows_tell_places cpu below =
      let its = by_each on play of_parts turns whole.ended cpu below in
      let number : cpu ≡ 0 + cpu = omega arith in
      rows_tell cpu 0 cpu play.seats its.seat number its.there ∙ its.prints

  are_short : AllByRecursion IsShort (rows_from 0 play.seats)
  are_short =
      let count = of_parts.count in
      let few = few_cpus on.boot boots in
      let events = few_events in
      rows_short 0 (length play.history) play.seats (omega (arith, count, few)) (omega (arith, events)) (λ k seat there.
      let within = slice_get_within play.seats k seat there in
      let below : k < on.boot.cpus = omega (arith, within, count) in
      let its = by_each on play of_parts turns whole.ended k below in
      let same : its.seat ≡ seat = same_some its.seat seat (sym its.there ∙ there) in
      subst (λ (l : List ℕ). AllByRecursion (λ place. place < length play.history) l)
      (sym (ap (λ (s : Seat). printed_places s.lines) (sym same) ∙ its.prints))
      (places_below k 0 (length play.history) play.history (omega arith)))

-- blocks that are the same have the same lines
same_rows : (one other : OrderedPlay) → blocks_of one ≡ blocks_of other
    → map body (rows_from 0 one.seats) ≡ map body (rows_from 0 other.seats)
same_rows one other same = same_bodies (rows_from 0 one.seats) (rows_from 0 other.seats)
    (rows_are 0 one.seats ∙ same ∙ sym (rows_are 0 other.seats))

pub orders_are_one : (on : Setting) (one other : List ℕ) (first second : OrderedPlay)
    → IsBooted on.boot → ComeAndGo on.boot.cpus on.trace.items → length (blocks_of first) < 2 ^ 64
    → IsWhole on one first → after_turns on.boot other (first_in on) ≡ Some second
    → has_ended second ≡ true → blocks_of first ≡ blocks_of second → one ≡ other
orders_are_one on one other first second boots turns few whole is_second ended same =
    let rows = same_rows first second same in
    let none : has_refused second ≡ false =
    sym (some_full 0 second.seats) ∙ ap (λ (texts : List (List ℕ)). list_any is_full texts) (sym rows)
    ∙ some_full 0 first.seats ∙ whole.none in
    let other_whole : IsWhole on other second = record { is_play = is_second; ended = ended; none = none } in
    let other_few : length (blocks_of second) < 2 ^ 64 = subst (λ (l : List ℕ). length l < 2 ^ 64) same few in
    sym (order_is on one first boots turns few whole)
    ∙ same_order on.boot.cpus 0 first.history second.history
    (events_below on one first boots turns few whole)
    (events_below on other second boots turns other_few other_whole)
    (λ cpu below.
    sym (rows_tell_places on one first boots turns few whole cpu below)
    ∙ same_places cpu (rows_from 0 first.seats) (rows_from 0 second.seats)
    (are_short on one first boots turns few whole)
    (are_short on other second boots turns other_few other_whole) rows
    ∙ rows_tell_places on other second boots turns other_few other_whole cpu below)
    ∙ order_is on other second boots turns other_few other_whole

-- ---- blocks of a trace

-- a text that a play has is that of its blocks, at its end
pub record IsEndedWith (play : OrderedPlay) (text : List ℕ) : Type 0 where
  pub ended : has_ended play ≡ true
  pub text_is : blocks_of play ≡ text

ended_with : (play : OrderedPlay) (text : List ℕ) → blocks_of_ended play ≡ Some text → IsEndedWith play text
ended_with play text e = by (has_ended play) refl e
  where
    by : (test : Bool) → has_ended play ≡ test → (if test then Some (blocks_of play) else None) ≡ Some text → IsEndedWith play text
    by true is e = record { ended = is; text_is = same_some (blocks_of play) text e }
    by false is e = absurd cc

in_boot : (natives : List Native) (boot : Boot) (trace : Trace) (order text : List ℕ) → trace.boot ≡ Some boot
    → blocks_in natives trace order ≡ Some text
    → option_and_then blocks_of_ended (played_in natives boot trace order) ≡ Some text
in_boot natives boot trace order text is e = ap (blocks_by natives trace order) (sym is) ∙ e

pub has_blocks : (natives : List Native) (boot : Boot) (trace : Trace) (order text : List ℕ) (play : OrderedPlay)
    → trace.boot ≡ Some boot → played_in natives boot trace order ≡ Some play → blocks_in natives trace order ≡ Some text
    → IsEndedWith play text
has_blocks natives boot trace order text play is is_play blocks =
    ended_with play text
    (ap (option_and_then blocks_of_ended) (sym is_play) ∙ in_boot natives boot trace order text is blocks)

pub blocks_name_the_order : BlocksNameTheOrder
blocks_name_the_order natives boot trace one other text play boots is turns is_play none few first second =
    let on = setting_of natives boot trace in
    let own = has_blocks natives boot trace one text play is is_play first in
    option_and_then_some blocks_of_ended (played_in natives boot trace other) text (in_boot natives boot trace other text is second)
    (λ (others : OrderedPlay) played onward.
    let its = ended_with others text onward in
    orders_are_one on one other play others boots turns
    (subst (λ (l : List ℕ). length l < 2 ^ 64) (sym own.text_is) few)
    (record { is_play = is_play; ended = own.ended; none = none }) played its.ended (own.text_is ∙ sym its.text_is))
