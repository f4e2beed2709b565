-- The places of a processor's events, and what its part of a history prints of them.
use Rattle.std.proofs.Common.{◌≡◌, ℕ, ◌+◌, ◌==◌, ◌<◌, Bool, true, false, List, [], ◌∷◌, ◌++◌, Option, Some, None, length}
use Rattle.std.proofs.Common.{refl, sym, ◌∙◌, ap, subst, arith, append_assoc, append-nil, length-append, zero-add}
use Rattle.std.specs.Prelude.{◌&&◌, if◌then◌else◌, slice_get}
use Rattle.std.specs.List.{last_or}
use Rattle.std.proofs.lemmas.Bool.{and_parts, eqb-true}
use Rattle.std.proofs.lemmas.Grind.{flat_map-append}
use Rattle.std.proofs.lemmas.List.Elements.{filter-append}
use Rattle.std.proofs.lemmas.Option.{option_and_then_some}
use Rattle.event_journal.specs.declared.event.Event.{Event}
use Rattle.event_journal.specs.declared.event.Event.TheVariants.{Entry, Exit}
use Rattle.kernel_model.proofs.Parts.{some_of}
use Rattle.kernel_model.proofs.Past.{after_events-append}
use Rattle.kernel_model.proofs.StandingBy.{stand_by_their_events}
use Rattle.kernel_model.specs.Application.{Booted}
use Rattle.kernel_model.specs.Entry.{after_entry}
use Rattle.kernel_model.specs.Exit.{Exited, exit, exit_of}
use Rattle.kernel_model.specs.History.{IsLegal, after_event, after_events, can_be_granted, entry_from, exit_to, is_outside, kernel_after}
use Rattle.kernel_model.specs.Kernel.{Inside, Kernel, Outside, Processor, Visit, first_kernel}
use Rattle.kernel_model.specs.Turns.{IsLeftBy, cpu_of, events_by, last_by}
use Rattle.ordered_play.proofs.Events.{next_from, same_some}
use Rattle.ordered_play.proofs.Legal.{follows}
use Rattle.ordered_play.proofs.Turn.{entry_by}
use Rattle.trace_text.specs.declared.item.Reg.{Reg}
use Rattle.ordered_play.specs.Act.{Act, Comes, Leaves, Writes, Shows}
use Rattle.ordered_play.specs.Part.{AreActsOf, ComesIn, GoesOut, IsActOf, IsPart, Role, Share, Standing, first_of, first_standing, next_event}
use Rattle.ordered_play.specs.Places.{PartsPrintTheirPlaces, PrintsItsPlaces, is_entry, place_inside, places_from, places_in, places_of, printed_places}
use Rattle.ordered_play.specs.Seat.{PlacedLine, Shown, Told}

-- ---- places of events

module _ (cpu : ℕ) where
  pub places_from-append : (at : ℕ) (events more : List Event)
      → places_from cpu at (events ++ more) ≡ places_from cpu at events ++ places_from cpu (at + length events) more
  places_from-append at [] more =
      let same : at ≡ at + 0 = omega arith in
      ap (λ (n : ℕ). places_from cpu n more) same
  places_from-append at (event ∷ events) more =
      by (cpu_of event == cpu) (places_from-append (at + 1) events more
      ∙ ap (λ (n : ℕ). places_from cpu (at + 1) events ++ places_from cpu n more) shift)
    where
      shift : at + 1 + length events ≡ at + length (event ∷ events)
      shift = omega arith

      by : (test : Bool)
          → places_from cpu (at + 1) (events ++ more)
          ≡ places_from cpu (at + 1) events ++ places_from cpu (at + length (event ∷ events)) more
          → (if test then at ∷ places_from cpu (at + 1) (events ++ more) else places_from cpu (at + 1) (events ++ more))
          ≡ (if test then at ∷ places_from cpu (at + 1) events else places_from cpu (at + 1) events)
          ++ places_from cpu (at + length (event ∷ events)) more
      by true later = ap (λ (l : List ℕ). at ∷ l) later
      by false later = later

  -- where none of the events is the processor's
  pub record HasNone (at : ℕ) (events : List Event) : Type 0 where
    pub places : places_from cpu at events ≡ []
    pub by_it : events_by cpu events ≡ []

  pub no_places : (at : ℕ) (events : List Event) → first_of cpu at events ≡ None → HasNone at events
  no_places at [] e = record { places = refl; by_it = refl }
  no_places at (event ∷ events) e = by (cpu_of event == cpu) refl e (no_places (at + 1) events)
    where
      by : (test : Bool) → (cpu_of event == cpu) ≡ test
          → (if test then Some (at, event) else first_of cpu (at + 1) events) ≡ None
          → (first_of cpu (at + 1) events ≡ None → HasNone (at + 1) events)
          → HasNone at (event ∷ events)
      by true is e later = absurd cc
      by false is e later =
          let none = later e in
          record {
            places = ap (λ (test : Bool).
                if test then at ∷ places_from cpu (at + 1) events else places_from cpu (at + 1) events) is ∙ none.places;
            by_it = ap (λ (test : Bool). if test then event ∷ events_by cpu events else events_by cpu events) is ∙ none.by_it;
          }

  -- the first event of the processor, and those before it
  pub record FirstOf (from : ℕ) (events : List Event) (at : ℕ) (event : Event) : Type 0 where
    pub before : List Event
    pub behind : List Event
    pub cut : events ≡ before ++ event ∷ behind
    pub place : at ≡ from + length before
    pub none : first_of cpu from before ≡ None
    pub own : (cpu_of event == cpu) ≡ true

  pub first_cut : (from : ℕ) (events : List Event) (at : ℕ) (event : Event)
      → first_of cpu from events ≡ Some (at, event) → FirstOf from events at event
  first_cut from [] at event e = absurd cc
  first_cut from (first ∷ events) at event e =
      by (cpu_of first == cpu) refl e (first_cut (from + 1) events at event)
    where
      by : (test : Bool) → (cpu_of first == cpu) ≡ test
          → (if test then Some (from, first) else first_of cpu (from + 1) events) ≡ Some (at, event)
          → (first_of cpu (from + 1) events ≡ Some (at, event) → FirstOf (from + 1) events at event)
          → FirstOf from (first ∷ events) at event
      by true is e later =
          let both = same_some (from, first) (at, event) e in
          let place = ap (λ (found : ℕ × Event). found.0) both in
          let same = ap (λ (found : ℕ × Event). found.1) both in
          record {
            before = [];
            behind = events;
            cut = ap (λ (x : Event). x ∷ events) same;
            place = omega (arith, place);
            none = refl;
            own = ap (λ (x : Event). cpu_of x == cpu) (sym same) ∙ is;
          }
      by false is e later =
          let there = later e in
          let place = there.place in
          record {
            before = first ∷ there.before;
            behind = there.behind;
            cut = ap (λ (l : List Event). first ∷ l) there.cut;
            place = omega (arith, place);
            none = ap (λ (test : Bool). if test then Some (from, first) else first_of cpu (from + 1) there.before) is ∙ there.none;
            own = there.own;
          }

  -- ---- the last event

  last_or-push : {A : Type 0} (first : Option A) (xs : List A) (x : A) → last_or first (xs ++ x ∷ []) ≡ Some x
  last_or-push first [] x = refl
  last_or-push first (y ∷ xs) x = last_or-push (Some y) xs x

  -- none of the others changes it
  last_by-none : (past before : List Event) → events_by cpu before ≡ [] → last_by cpu (past ++ before) ≡ last_by cpu past
  last_by-none past before none =
      ap (last_or None) (filter-append (λ event. cpu_of event == cpu) past before
      ∙ ap (λ (l : List Event). events_by cpu past ++ l) none ∙ append-nil (events_by cpu past))

  last_by-own : (past : List Event) (event : Event) → (cpu_of event == cpu) ≡ true → last_by cpu (past ++ event ∷ []) ≡ Some event
  last_by-own past event own =
      ap (last_or None) (filter-append (λ event. cpu_of event == cpu) past (event ∷ [])
      ∙ ap (λ (test : Bool). events_by cpu past ++ (if test then event ∷ [] else [])) own)
      ∙ last_or-push None (events_by cpu past) event

  places_own : (at : ℕ) (event : Event) → (cpu_of event == cpu) ≡ true → places_from cpu at (event ∷ []) ≡ at ∷ []
  places_own at event own = ap (λ (test : Bool). if test then at ∷ [] else []) own

-- ---- where a processor stands at its events

out_prints : (last : Option Event) (processor : Processor) (n : ℕ) → IsLeftBy last processor → is_outside processor ≡ true
    → place_inside last n ≡ []
out_prints None processor n left out = refl
out_prints (Some (Entry cpu regs steps reads)) processor n left out =
    let inside : is_outside processor ≡ false = ap is_outside left.1 in
    absurd cc
out_prints (Some (Exit cpu regs)) processor n left out = refl

in_prints : (last : Option Event) (processor : Processor) (n : ℕ) → IsLeftBy last processor → is_outside processor ≡ false
    → place_inside last n ≡ n ∷ []
in_prints None processor n left inside =
    let out : is_outside processor ≡ true = ap is_outside left in
    absurd cc
in_prints (Some (Entry cpu regs steps reads)) processor n left inside = refl
in_prints (Some (Exit cpu regs)) processor n left inside =
    let out : is_outside processor ≡ true = ap is_outside left in
    absurd cc

-- an entry is of a processor that is outside, and an exit of one that is inside
pub record StoodSo (kernel : Kernel) (event : Event) : Type 0 where
  pub processor : Processor
  pub there : slice_get kernel.processors (cpu_of event) ≡ Some processor
  pub stood : is_outside processor ≡ is_entry event

pub stood_so : (boot : Booted) (kernel next : Kernel) (event : Event) → after_event boot kernel event ≡ Some next → StoodSo kernel event
stood_so boot kernel next (Entry cpu regs steps reads) e =
    let visit : Visit = record { cpu = cpu; regs = regs.a; steps = steps } in
    option_and_then_some (entry_from boot kernel visit reads) (slice_get kernel.processors cpu) next e
    (λ (processor : Processor) there onward. record {
      processor = processor;
      there = there;
      stood = (and_parts (is_outside processor) (can_be_granted steps)
          (tested (is_outside processor && can_be_granted steps) (after_entry boot kernel visit reads) next onward)).0;
    })
  where
    tested : (test : Bool) (found : Option Kernel) (value : Kernel) → (if test then found else None) ≡ Some value → test ≡ true
    tested true found value e = refl
    tested false found value e = absurd cc
stood_so boot kernel next (Exit cpu regs) e =
    option_and_then_some (exit_to regs.a) (exit kernel cpu) next e
    (λ (exited : Exited) goes onward.
    option_and_then_some (exit_of kernel cpu) (slice_get kernel.processors cpu) exited goes
    (λ (processor : Processor) there was. record { processor = processor; there = there; stood = within processor exited was }))
  where
    within : (processor : Processor) (exited : Exited) → exit_of kernel cpu processor ≡ Some exited → is_outside processor ≡ false
    within Outside exited e = absurd cc
    within (Inside regs steps errand) exited e = refl

-- what its last event is before one that follows
last_before : (boot : Booted) (cpu : ℕ) (past behind : List Event) (event : Event) (n : ℕ) → cpu < boot.cpus
    → IsLegal boot (past ++ event ∷ behind) → cpu_of event ≡ cpu
    → place_inside (last_by cpu past) n ≡ (if is_entry event then [] else n ∷ [])
last_before boot cpu past behind event n below legal own =
    let end = some_of (kernel_after boot (past ++ event ∷ behind)) legal.follows in
    option_and_then_some (λ k. after_events boot k (event ∷ behind)) (kernel_after boot past) end.0
    (sym (after_events-append boot (first_kernel boot) past (event ∷ behind)) ∙ end.1)
    (λ (kernel : Kernel) there rest.
    let next = follows boot past behind event kernel there legal.follows in
    let so = stood_so boot kernel next.0 event next.1 in
    let stands = stand_by_their_events boot past kernel cpu below there in
    let same : stands.processor ≡ so.processor =
    same_some stands.processor so.processor (sym stands.there ∙ ap (slice_get kernel.processors) (sym own) ∙ so.there) in
    by (is_entry event) (last_by cpu past) stands.processor stands.left (ap is_outside same ∙ so.stood))
  where
    by : (out : Bool) (last : Option Event) (processor : Processor) → IsLeftBy last processor → is_outside processor ≡ out
        → place_inside last n ≡ (if out then [] else n ∷ [])
    by true last processor left is = out_prints last processor n left is
    by false last processor left is = in_prints last processor n left is

-- ---- a part

-- whether the last event leaves its processor inside
abbrev pub came_in : Option Event → Bool
came_in None = false
came_in (Some event) = is_entry event

-- whether a processor is inside behind an act, and behind several
abbrev inside_behind : Bool → Act → Bool
inside_behind inside (Comes steps regs) = true
inside_behind inside Leaves = false
inside_behind inside (Writes addr bytes) = inside
inside_behind inside (Shows addr len) = inside

abbrev pub inside_by : Bool → List Act → Bool
inside_by inside [] = inside
inside_by inside (act ∷ acts) = inside_by (inside_behind inside act) acts

-- what has been printed of the events so far, and whether the processor is inside
pub record HasWalked (of : Share) (now : Standing) (inside : Bool) : Type 0 where
  pub past : List Event
  pub rest : List Event
  pub cut : of.history ≡ past ++ rest
  pub used : now.used ≡ length past
  pub prints : PrintsItsPlaces of.cpu past now.seat
  pub stands : came_in (last_by of.cpu past) ≡ inside

-- the next event, and what is printed before it
pub record NextEvent (of : Share) (now : Standing) (past : List Event) (at : ℕ) (event : Event) : Type 0 where
  pub before : List Event
  pub behind : List Event
  pub cut : of.history ≡ (before ++ event ∷ []) ++ behind
  pub place : at ≡ length before
  pub places : places_of of.cpu (before ++ event ∷ []) ≡ places_of of.cpu past ++ at ∷ []
  pub stood : place_inside (last_by of.cpu past) now.seat.entry_at ≡ (if is_entry event then [] else now.seat.entry_at ∷ [])
  pub last : last_by of.cpu (before ++ event ∷ []) ≡ Some event

next_in : (of : Share) (now : Standing) (inside : Bool) (at : ℕ) (event : Event) → of.cpu < of.boot.cpus
    → IsLegal of.boot of.history → (walked : HasWalked of now inside)
    → next_event of.history of.cpu now.used ≡ Some (at, event) → NextEvent of now walked.past at event
next_in of now inside at event below legal walked next =
    let cpu = of.cpu in
    let past = walked.past in
    let first = first_cut cpu (length past) walked.rest at event
    (sym (next_from cpu of.history past walked.rest walked.cut)
    ∙ ap (next_event of.history cpu) (sym walked.used) ∙ next) in
    let before = past ++ first.before in
    let none = no_places cpu (length past) first.before first.none in
    let whole : of.history ≡ before ++ event ∷ first.behind =
    walked.cut ∙ ap (λ (l : List Event). past ++ l) first.cut ∙ sym (append_assoc past first.before (event ∷ first.behind)) in
    let sum = length-append past first.before in
    let at_end = first.place in
    let place : at ≡ length before = omega (arith, sum, at_end) in
    let own : cpu_of event ≡ cpu = eqb-true (cpu_of event) cpu first.own in
    let number : 0 + length before ≡ at = omega (arith, place) in
    let here : places_from cpu (0 + length before) (event ∷ []) ≡ at ∷ [] =
    places_own cpu (0 + length before) event first.own ∙ ap (λ (n : ℕ). n ∷ []) number in
    let so_far : places_of cpu before ≡ places_of cpu past =
    places_from-append cpu 0 past first.before
    ∙ ap (λ (l : List ℕ). places_of cpu past ++ l) (ap (λ (n : ℕ). places_from cpu n first.before) (zero-add (length past)) ∙ none.places)
    ∙ append-nil (places_of cpu past) in
    let before_it : last_by cpu before ≡ last_by cpu past = last_by-none cpu past first.before none.by_it in
    record {
      before = before;
      behind = first.behind;
      cut = whole ∙ sym (append_assoc before (event ∷ []) first.behind);
      place = place;
      places = places_from-append cpu 0 before (event ∷ [])
          ∙ ap (λ (l : List ℕ). l ++ places_from cpu (0 + length before) (event ∷ [])) so_far
          ∙ ap (λ (l : List ℕ). places_of cpu past ++ l) here;
      stood = ap (λ (last : Option Event). place_inside last now.seat.entry_at) (sym before_it)
          ∙ last_before of.boot cpu before first.behind event now.seat.entry_at below (subst (IsLegal of.boot) whole legal) own;
      last = last_by-own cpu before event first.own;
    }

one_line : (lines : List PlacedLine) (line : PlacedLine) → printed_places (lines ++ line ∷ []) ≡ printed_places lines ++ (places_in line ++ [])
one_line lines line = flat_map-append places_in lines (line ∷ [])

walk_in : (of : Share) (steps : ℕ) (regs : List Reg) (old new : Standing) (inside : Bool) → of.cpu < of.boot.cpus
    → IsLegal of.boot of.history → HasWalked of old inside → ComesIn of steps regs old new → HasWalked of new true
walk_in of steps regs old new inside below legal walked comes =
    let event = entry_by of.cpu old.seat steps regs comes.reads in
    let next = next_in of old inside comes.at event below legal walked comes.next in
    let now = next.before ++ event ∷ [] in
    let printed = printed_places old.seat.lines in
    let used = ap (λ (s : Standing). s.used) comes.stands in
    let lines : printed_places new.seat.lines ≡ printed = ap (λ (s : Standing). printed_places s.seat.lines) comes.stands in
    let entered : new.seat.entry_at ≡ comes.at = ap (λ (s : Standing). s.seat.entry_at) comes.stands in
    let place = next.place in
    let count = length-append next.before (event ∷ []) in
    let none : printed ≡ places_of of.cpu walked.past =
    sym (append-nil printed) ∙ ap (λ (l : List ℕ). printed ++ l) (sym next.stood) ∙ walked.prints in
    record {
      past = now;
      rest = next.behind;
      cut = next.cut;
      used = omega (arith, used, place, count);
      prints = ap (λ (l : List ℕ). l ++ place_inside (last_by of.cpu now) new.seat.entry_at) lines
          ∙ ap (λ (last : Option Event). printed ++ place_inside last new.seat.entry_at) next.last
          ∙ ap (λ (n : ℕ). printed ++ n ∷ []) entered
          ∙ ap (λ (l : List ℕ). l ++ comes.at ∷ []) none
          ∙ sym next.places;
      stands = ap came_in next.last;
    }

walk_out : (of : Share) (old new : Standing) (inside : Bool) → of.cpu < of.boot.cpus → IsLegal of.boot of.history
    → HasWalked of old inside → GoesOut of old new → HasWalked of new false
walk_out of old new inside below legal walked goes =
    let event = Exit of.cpu (record { a = goes.exited.regs }) in
    let next = next_in of old inside goes.at event below legal walked goes.next in
    let now = next.before ++ event ∷ [] in
    let printed = printed_places old.seat.lines in
    let entry_at = old.seat.entry_at in
    let used = ap (λ (s : Standing). s.used) goes.stands in
    let told : printed_places new.seat.lines ≡ printed ++ entry_at ∷ goes.at ∷ [] =
    ap (λ (s : Standing). printed_places s.seat.lines) goes.stands
    ∙ one_line old.seat.lines (Told goes.exited.regs entry_at goes.at) in
    let place = next.place in
    let count = length-append next.before (event ∷ []) in
    let before : printed ++ entry_at ∷ [] ≡ places_of of.cpu walked.past =
    ap (λ (l : List ℕ). printed ++ l) (sym next.stood) ∙ walked.prints in
    record {
      past = now;
      rest = next.behind;
      cut = next.cut;
      used = omega (arith, used, place, count);
      prints = ap (λ (last : Option Event). printed_places new.seat.lines ++ place_inside last new.seat.entry_at) next.last
          ∙ append-nil (printed_places new.seat.lines)
          ∙ told
          ∙ sym (append_assoc printed (entry_at ∷ []) (goes.at ∷ []))
          ∙ ap (λ (l : List ℕ). l ++ goes.at ∷ []) before
          ∙ sym next.places;
      stands = ap came_in next.last;
    }

walk_act : (of : Share) (act : Act) (old new : Standing) (inside : Bool) → of.cpu < of.boot.cpus
    → IsLegal of.boot of.history → HasWalked of old inside → IsActOf of act old new
    → HasWalked of new (inside_behind inside act)
walk_act of (Comes steps regs) old new inside below legal walked is = walk_in of steps regs old new inside below legal walked is
walk_act of Leaves old new inside below legal walked is = walk_out of old new inside below legal walked is
walk_act of (Writes addr bytes) old new inside below legal walked is =
    subst (λ (s : Standing). HasWalked of s inside) (sym is)
    (record {
      past = walked.past;
      rest = walked.rest;
      cut = walked.cut;
      used = walked.used;
      prints = walked.prints;
      stands = walked.stands;
    })
walk_act of (Shows addr len) old new inside below legal walked is =
    let same : printed_places (old.seat.lines ++ Shown addr _ ∷ []) ≡ printed_places old.seat.lines =
    one_line old.seat.lines (Shown addr _) ∙ append-nil (printed_places old.seat.lines) in
    subst (λ (s : Standing). HasWalked of s inside) (sym is)
    (record {
      past = walked.past;
      rest = walked.rest;
      cut = walked.cut;
      used = walked.used;
      prints = ap (λ (l : List ℕ). l ++ place_inside (last_by of.cpu walked.past) old.seat.entry_at) same ∙ walked.prints;
      stands = walked.stands;
    })

walk_acts : (of : Share) (done : List Act) (old new : Standing) (inside : Bool) → of.cpu < of.boot.cpus
    → IsLegal of.boot of.history → HasWalked of old inside → AreActsOf of done old new
    → HasWalked of new (inside_by inside done)
walk_acts of [] old new inside below legal walked acts =
    subst (λ (s : Standing). HasWalked of s inside) (sym acts) walked
walk_acts of (act ∷ done) old new inside below legal walked acts =
    walk_acts of done acts.0 new (inside_behind inside act) below legal
    (walk_act of act old acts.0 inside below legal walked acts.1) acts.2

-- what a part has printed, and whether its processor is inside behind the acts that are done
pub record HasPartPrinted (of : Share) (end : Standing) (inside : Bool) : Type 0 where
  pub prints : PrintsItsPlaces of.cpu of.history end.seat
  pub stands : came_in (last_by of.cpu of.history) ≡ inside

-- behind the last event of the processor nothing more is to be printed
pub part_prints : (role : Role) (end : Standing) → role.share.cpu < role.share.boot.cpus
    → IsLegal role.share.boot role.share.history → (part : IsPart role end)
    → HasPartPrinted role.share end (inside_by false part.done)
part_prints role end below legal part =
    let of = role.share in
    let cpu = of.cpu in
    let walked = walk_acts of part.done (first_standing role.lane) end false below legal
    (record { past = []; rest = of.history; cut = refl; used = refl; prints = refl; stands = refl }) part.acts in
    let past = walked.past in
    let none = no_places cpu (length past) walked.rest
    (sym (next_from cpu of.history past walked.rest walked.cut)
    ∙ ap (next_event of.history cpu) (sym walked.used) ∙ part.spent) in
    let last : last_by cpu of.history ≡ last_by cpu past =
    ap (last_by cpu) walked.cut ∙ last_by-none cpu past walked.rest none.by_it in
    let all : places_of cpu of.history ≡ places_of cpu past =
    ap (places_of cpu) walked.cut ∙ places_from-append cpu 0 past walked.rest
    ∙ ap (λ (l : List ℕ). places_of cpu past ++ l)
    (ap (λ (n : ℕ). places_from cpu n walked.rest) (zero-add (length past)) ∙ none.places)
    ∙ append-nil (places_of cpu past) in
    record {
      prints = ap (λ (event : Option Event). printed_places end.seat.lines ++ place_inside event end.seat.entry_at) last
          ∙ walked.prints ∙ sym all;
      stands = ap came_in last ∙ walked.stands;
    }

pub parts_print : PartsPrintTheirPlaces
parts_print of end below legal part = (part_prints of end below legal part).prints
