-- In the middle of a history a processor stands in the middle of its part, with its own events before that place used;
-- and the turn for its next event takes it on.
use Rattle.std.proofs.Common.{◌≡◌, ℕ, ◌+◌, ◌<◌, ◌≤◌, List, [], ◌∷◌, ◌++◌, Option, Some, None, length}
use Rattle.std.proofs.Common.{refl, sym, ◌∙◌, ap, subst, arith, take}
use Rattle.std.specs.Prelude.{◌^◌, slice_get}
use Rattle.std.specs.List.{range_with_len}
use Rattle.std.specs.Option.{option_and_then, option_map}
use Rattle.std.proofs.Props.{props}
use Rattle.std.proofs.Math.Seq.{take-append_seam}
use Rattle.std.proofs.lemmas.List.FromFn.{get_or-range_with_len, length-range_with_len}
use Rattle.std.proofs.lemmas.Option.{slice_get-get_or, slice_get-map}
use Rattle.event_journal.specs.Event.{copied_by}
use Rattle.event_journal.specs.Journal.{copied_bytes}
use Rattle.event_journal.specs.declared.event.Event.{Event}
use Rattle.event_journal.specs.declared.event.Event.TheVariants.{Exit}
use Rattle.kernel_model.specs.Exit.{exit}
use Rattle.kernel_model.specs.History.{after_event, exit_after, kernel_after}
use Rattle.kernel_model.specs.Kernel.{Kernel}
use Rattle.ns_ram.specs.Reads.{total_bytes}
use Rattle.play_model.specs.Play.{filled}
use Rattle.trace_text.specs.declared.item.Reg.{Reg}
use Rattle.kernel_model.specs.Turns.{cpu_of}
use Rattle.ordered_play.proofs.Events.{next_own, one_longer, same_some}
use Rattle.ordered_play.proofs.Middle.{Coming, Going, IsReady, NextAct, at_end, next_act}
use Rattle.ordered_play.proofs.Turn.{entry_by, entry_turn, exit_turn, moved_on}
use Rattle.ordered_play.specs.Act.{Act, Comes, Leaves}
use Rattle.ordered_play.specs.Merge.{Part, Parts, Setting, first_in, role_in, seat_left, seat_of, share_of}
use Rattle.ordered_play.specs.Ordered.{OrderedPlay, after_turn, gone_seat}
use Rattle.ordered_play.specs.Part.{AreActsOf, ComesIn, GoesOut, Share, Standing, first_standing}
use Rattle.ordered_play.specs.Part.{next_event}
use Rattle.ordered_play.specs.Seat.{Seat, first_seat, fresh_seat, ready_for}

-- the seats of the beginning
pub first_there : (on : Setting) (cpu : ℕ) → cpu < on.boot.cpus
    → slice_get (first_in on).seats cpu ≡ Some (first_seat (filled on.ram on.trace.fills) on.trace.items cpu)
first_there on cpu below =
    let numbers = range_with_len 0 on.boot.cpus in
    let many = length-range_with_len 0 on.boot.cpus in
    let within : cpu < length numbers = omega (arith, many, below) in
    let number = get_or-range_with_len 0 on.boot.cpus cpu 0 below in
    let same : 0 + cpu ≡ cpu = omega arith in
    slice_get-map (first_seat (filled on.ram on.trace.fills) on.trace.items) numbers cpu
    ∙ ap (λ (o : Option ℕ). option_map (first_seat (filled on.ram on.trace.fills) on.trace.items) o)
    (slice_get-get_or numbers cpu 0 within ∙ ap Some (number ∙ same))

pub below_once : (n m : ℕ) → IsProp (n < m)
below_once n m = hlevel props

module _ (on : Setting) (history : List Event) (parts : Parts on history) where
  -- a processor in the middle of its part, whose events before this place are used
  pub record IsMidway (cpu : ℕ) (below : cpu < on.boot.cpus) (at : ℕ) (seat : Seat) : Type 0 where
    pub mid : Standing
    pub is : IsReady (share_of on.boot history cpu) (parts cpu below).is_part.left (parts cpu below).end mid seat
    pub next : next_event history cpu mid.used ≡ next_event history cpu at

  -- it is so at the beginning
  pub first_midway : (cpu : ℕ) (below : cpu < on.boot.cpus)
      → IsMidway cpu below 0 (first_seat (filled on.ram on.trace.fills) on.trace.items cpu)
  first_midway cpu below =
      let lane = filled on.ram on.trace.fills in
      let part = (parts cpu below).is_part in
      record {
        mid = first_standing lane;
        is = record {
          rest = part.done;
          acts = part.acts;
          ready = ap (λ (acts : List Act). ready_for acts (fresh_seat lane)) part.cut;
        };
        next = refl;
      }

  -- where no event is left for it, its part has ended
  pub ended : (cpu : ℕ) (below : cpu < on.boot.cpus) (at : ℕ) (seat : Seat) → IsMidway cpu below at seat
      → next_event history cpu at ≡ None → seat ≡ seat_of (parts cpu below)
  ended cpu below at seat midway none =
      let part = parts cpu below in
      at_end (share_of on.boot history cpu) part.is_part.left part.end midway.mid seat part.is_part.stops midway.is
      (midway.next ∙ none)

  -- ---- one event

  module _ (before behind : List Event) (event : Event) (cut : history ≡ before ++ event ∷ behind) (play : OrderedPlay)
      (next : Kernel) (came : after_event on.boot play.kernel event ≡ Some next) (same : play.history ≡ before)
      (comes : kernel_after on.boot before ≡ Some play.kernel) where
    -- the turn of its processor
    pub record Turned : Type 0 where
      pub seat : Seat
      pub turned : after_turn on.boot (cpu_of event) play
          ≡ Some (moved_on play (cpu_of event) seat event next)
      pub midway : (below : cpu_of event < on.boot.cpus)
          → IsMidway (cpu_of event) below (length (before ++ event ∷ [])) seat

    module _ (below : cpu_of event < on.boot.cpus) (few : copied_bytes before + copied_by event ≤ 2 ^ 28)
        (had : Seat) (there : slice_get play.seats (cpu_of event) ≡ Some had)
        (midway : IsMidway (cpu_of event) below (length before) had) where
      abbrev of : Share
      of = share_of on.boot history (cpu_of event)

      abbrev part : Part (role_in on history (cpu_of event))
      part = parts (cpu_of event) below

      -- an act of its has come to this, with these acts behind
      now_midway : (at : ℕ) (new : Standing) (rest : List Act) (seat : Seat) → length before ≡ at → new.used ≡ at + 1
          → AreActsOf of rest new part.end → seat ≡ ready_for (rest ++ part.is_part.left) new.seat
          → (here : cpu_of event < on.boot.cpus)
          → IsMidway (cpu_of event) here (length (before ++ event ∷ [])) seat
      now_midway at new rest seat place used acts ready here =
          let long = one_longer before event in
          let is_used : new.used ≡ length (before ++ event ∷ []) = omega (arith, long, place, used) in
          subst (λ (b : cpu_of event < on.boot.cpus). IsMidway (cpu_of event) b
          (length (before ++ event ∷ [])) seat)
          (below_once (cpu_of event) on.boot.cpus below here)
          (record {
            mid = new;
            is = record { rest = rest; acts = acts; ready = ready };
            next = ap (next_event history (cpu_of event)) is_used;
          })

      -- what its next act finds is the event
      found_is : (old : Standing) (at : ℕ) (happened : Event) → old.used ≡ midway.mid.used
          → next_event history (cpu_of event) old.used ≡ Some (at, happened)
          → (length before ≡ at) × (event ≡ happened)
      found_is old at happened used found =
          let here = sym (next_own history before behind event cut) ∙ sym midway.next
          ∙ ap (next_event history (cpu_of event)) (sym used) ∙ found in
          let both = same_some (length before, event) (at, happened) here in
          (ap (λ (f : ℕ × Event). f.0) both, ap (λ (f : ℕ × Event). f.1) both)

      comes_turn : (steps : ℕ) (regs : List Reg) (old new : Standing) (rest : List Act) → old.used ≡ midway.mid.used
          → ComesIn of steps regs old new → AreActsOf of rest new part.end
          → had ≡ seat_left old.seat (Comes steps regs ∷ rest ++ part.is_part.left) → Turned
      comes_turn steps regs old new rest used comes_in acts ready =
          let cpu = cpu_of event in
          let behind_it = rest ++ part.is_part.left in
          let happened = entry_by cpu old.seat steps regs comes_in.reads in
          let found = found_is old comes_in.at happened used comes_in.next in
          let read = ap copied_by found.1 in
          let before_it = ap copied_bytes same in
          let little : copied_bytes play.history + total_bytes comes_in.reads ≤ 2 ^ 28 =
          omega (arith, read, before_it, few) in
          let came_so = subst (λ (e : Event). after_event on.boot play.kernel e ≡ Some next) found.1 came in
          let seat = ready_for behind_it (record old.seat { entry_at = length play.history }) in
          let turned = entry_turn on.boot play cpu old.seat behind_it next steps regs comes_in.reads
          (there ∙ ap Some ready) comes_in.holds came_so little in
          let place = ap length same ∙ found.0 in
          record {
            seat = seat;
            turned = turned ∙ ap (λ (e : Event). Some (moved_on play cpu seat e next)) (sym found.1);
            midway = now_midway comes_in.at new rest seat found.0 (ap (λ (s : Standing). s.used) comes_in.stands) acts
                (ap (λ (at : ℕ). ready_for behind_it (record old.seat { entry_at = at })) place
                ∙ ap (λ (s : Standing). ready_for behind_it s.seat) (sym comes_in.stands));
          }

      goes_turn : (old new : Standing) (rest : List Act) → old.used ≡ midway.mid.used → GoesOut of old new
          → AreActsOf of rest new part.end → had ≡ seat_left old.seat (Leaves ∷ rest ++ part.is_part.left) → Turned
      goes_turn old new rest used goes acts ready =
          let cpu = cpu_of event in
          let behind_it = rest ++ part.is_part.left in
          let happened : Event = Exit cpu (record { a = goes.exited.regs }) in
          let found = found_is old goes.at happened used goes.next in
          let front : take goes.at history ≡ before =
          ap (λ (n : ℕ). take n history) (sym found.0) ∙ ap (take (length before)) cut
          ∙ take-append_seam before (event ∷ behind) in
          let exits : exit play.kernel cpu ≡ Some goes.exited =
          ap (λ (o : Option Kernel). option_and_then (λ kernel. exit kernel cpu) o) (sym comes)
          ∙ ap (λ (h : List Event). exit_after on.boot h cpu) (sym front) ∙ goes.exits in
          let came_so = subst (λ (e : Event). after_event on.boot play.kernel e ≡ Some next) found.1 came in
          let seat = gone_seat old.seat behind_it (length play.history) goes.exited in
          let turned = exit_turn on.boot play cpu old.seat behind_it next goes.exited (there ∙ ap Some ready) exits
          came_so in
          let place = ap length same ∙ found.0 in
          record {
            seat = seat;
            turned = turned ∙ ap (λ (e : Event). Some (moved_on play cpu seat e next)) (sym found.1);
            midway = now_midway goes.at new rest seat found.0 (ap (λ (s : Standing). s.used) goes.stands) acts
                (ap (λ (at : ℕ). gone_seat old.seat behind_it at goes.exited) place
                ∙ ap (λ (s : Standing). ready_for behind_it s.seat) (sym goes.stands));
          }

      turn_by : NextAct of part.is_part.left part.end midway.mid.used had → Turned
      turn_by (Coming steps regs old new rest used comes_in acts ready) =
          comes_turn steps regs old new rest used comes_in acts ready
      turn_by (Going old new rest used goes acts ready) = goes_turn old new rest used goes acts ready

      pub turn : Turned
      turn = turn_by (next_act of part.is_part.left part.end midway.mid had (length before, event) part.is_part.spent
          midway.is (midway.next ∙ next_own history before behind event cut))
