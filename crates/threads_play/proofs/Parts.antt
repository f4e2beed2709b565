-- A processor's part of a history: what it comes to behind events of others, behind its own entry and exit, and where its entry is
-- refused.
use Rattle.std.proofs.Common.{◌≡◌, ℕ, ◌+◌, ◌<◌, List, [], ◌∷◌, ◌++◌, Option, Some, None, length, map, take, ap, sym, subst, refl, ◌∙◌, arith}
use Rattle.std.specs.Prelude.{◌^◌}
use Rattle.std.specs.List.{AllByRecursion}
use Rattle.std.specs.Option.{option_and_then, option_map}
use Rattle.std.proofs.Math.Seq.{take-length}
use Rattle.event_journal.specs.Journal.{copied_bytes}
use Rattle.event_journal.specs.declared.event.Event.{Event}
use Rattle.event_journal.specs.declared.event.Event.TheVariants.{Entry, Exit}
use Rattle.kernel_model.specs.Application.{Booted}
use Rattle.kernel_model.specs.Entry.{entry}
use Rattle.kernel_model.specs.Exit.{Exited}
use Rattle.kernel_model.specs.History.{exit_after, kernel_after}
use Rattle.kernel_model.specs.Kernel.{Kernel, Visit}
use Rattle.kernel_model.specs.Laws.{IsOfOther}
use Rattle.kernel_model.proofs.Parts.{option_map_some}
use Rattle.kernel_state.specs.Entering.{IsTooMuchAfter, bytes_read, visit_of}
use Rattle.normal_cpus.specs.Entering.{coming}
use Rattle.ns_ram.specs.Reader.{over_lane}
use Rattle.ns_ram.specs.Reads.{HoldsReads, total_bytes}
use Rattle.ns_ram.specs.declared.read.Read.{Read}
use Rattle.ordered_play.proofs.Events.{none_at_end}
use Rattle.ordered_play.proofs.Growing.{parts_grow}
use Rattle.ordered_play.proofs.Longer.{parts_stay}
use Rattle.ordered_play.proofs.Ready.{ready_anew}
use Rattle.ordered_play.specs.Act.{Act, Comes, Leaves, acts_for}
use Rattle.ordered_play.specs.Laws.{later}
use Rattle.ordered_play.specs.Merge.{IsRefusedAt, Part, role_of, seat_left, seat_of, share_of}
use Rattle.ordered_play.specs.Ordered.{gone_seat, reads_of, visit_with}
use Rattle.ordered_play.specs.Part.{Role}
use Rattle.ordered_play.specs.Seat.{Seat, Told, fresh_seat, ready_for, with_line, with_writes}
use Rattle.play_model.specs.Play.{entry_event, number_in}
use Rattle.smc_abi.specs.declared.regs.Regs.{Regs}
use Rattle.trace_text.specs.declared.item.Item.{Item}
use Rattle.trace_text.specs.declared.item.Reg.{Reg}
use Rattle.threads_play.specs.Standing.{ComesToSeat}

-- the first value of two steps, each of which may give none
and_then_some : {A B : Type 0} (f : A → Option B) (o : Option A) (b : B) → option_and_then f o ≡ Some b
    → (a : A) × (o ≡ Some a) × (f a ≡ Some b)
and_then_some f None b is = absurd cc
and_then_some f (Some a) b is = (a, refl, is)

module _ (boot : Booted) (cpu : ℕ) (items : List Item) (lane : List ℕ) where
  -- the processor's role in this history
  abbrev pub role : List Event → Role
  role history = role_of (share_of boot history cpu) items lane

  -- before any event
  pub begins : ComesToSeat (role []) (ready_for (acts_for cpu items) (fresh_seat lane))
  begins =
      let first = parts_grow.begins (role []) refl in
      record { part = first.0; comes_to = sym first.1 }

  -- behind events of others
  pub stays : (seat : Seat) (before more history : List Event) → before ++ more ≡ history → AllByRecursion (IsOfOther cpu) more
      → ComesToSeat (role before) seat → ComesToSeat (role history) seat
  stays seat before more history is others was =
      let part = was.part in
      let now = parts_stay.parts (role before) more part.end others part.is_part in
      let still : ComesToSeat (role (before ++ more)) seat = record {
        part = record { end = part.end; is_part = now.0 };
        comes_to = ap (seat_left part.end.seat) now.1 ∙ was.comes_to;
      } in
      subst (λ (h : List Event). ComesToSeat (role h) seat) is still

  module _ (before : List Event) (rest : List Act) (seat : Seat) where
    -- behind its entry
    pub comes : (steps : ℕ) (regs : List Reg) (reads : List Read)
        → ComesToSeat (role before) (ready_for (Comes steps regs ∷ rest) seat)
        → HoldsReads seat.lane reads
        → ComesToSeat
        (role (before ++ Entry cpu (record { a = map (number_in seat.answer) regs }) steps reads ∷ []))
        (ready_for rest (record seat { entry_at = length before }))
    comes steps regs reads was holds =
        let of = role before in
        let part = was.part in
        let left : part.is_part.left ≡ Comes steps regs ∷ rest = ap (λ (s : Seat). s.acts) was.comes_to in
        let lanes : part.end.seat.lane ≡ seat.lane = ap (λ (s : Seat). s.lane) was.comes_to in
        let grown = parts_grow.comes of part steps regs rest reads left
        (subst (λ (l : List ℕ). HoldsReads l reads) (sym lanes) holds) in
        let here = subst (λ (s : Seat).
        (now : Part (later of (entry_event (visit_with cpu s steps regs) reads ∷ [])))
        × (ready_for rest (record s { entry_at = length before }) ≡ seat_of now)) was.comes_to grown in
        record {
          part = here.0;
          comes_to = sym here.1 ∙ ready_anew rest (Comes steps regs ∷ rest) (record seat { entry_at = length before });
        }

    -- behind its exit
    pub goes : (exited : Exited) → ComesToSeat (role before) (ready_for (Leaves ∷ rest) seat)
        → exit_after boot before cpu ≡ Some exited
        → ComesToSeat (role (before ++ Exit cpu (record { a = exited.regs }) ∷ []))
        (ready_for rest (with_line (Told exited.regs seat.entry_at (length before))
        (with_writes exited.writes (record seat { answer = exited.regs }))))
    goes exited was exits =
        let part = was.part in
        let left : part.is_part.left ≡ Leaves ∷ rest = ap (λ (s : Seat). s.acts) was.comes_to in
        let grown = parts_grow.goes (role before) part rest exited left exits in
        let line = Told exited.regs seat.entry_at (length before) in
        record {
          part = grown.0;
          comes_to = sym grown.1 ∙ ap (λ (s : Seat). gone_seat s rest (length before) exited) was.comes_to
              ∙ ready_anew rest (Leaves ∷ rest) (with_line line (with_writes exited.writes (record seat { answer = exited.regs })));
        }

    -- where its entry is refused
    pub refuses : (steps : ℕ) (regs : List Reg) (given : Regs) (copied more : ℕ)
        (was : ComesToSeat (role before) (ready_for (Comes steps regs ∷ rest) seat))
        → given.a ≡ map (number_in seat.answer) regs
        → IsTooMuchAfter boot (2 ^ 28) before (coming cpu given steps) seat.lane copied more
        → (refused : IsRefusedAt (role before) was.part (length before))
        × (copied ≡ copied_bytes before) × (more ≡ total_bytes refused.reads)
    refuses steps regs given copied more was given_is much =
        let of = role before in
        let own = was.part.end.seat in
        let visit = visit_of (coming cpu given steps) in
        let lanes : own.lane ≡ seat.lane = ap (λ (s : Seat). s.lane) was.comes_to in
        let answers : own.answer ≡ seat.answer = ap (λ (s : Seat). s.answer) was.comes_to in
        let there = and_then_some (bytes_read boot seat.lane visit) (kernel_after boot before) more much.of_entry in
        let kernel = there.0 in
        let found = option_map_some (λ (end : Kernel × List Read). total_bytes end.1)
        (over_lane (entry boot kernel visit) seat.lane []) more there.2 in
        let reads = found.0.1 in
        let same : visit ≡ visit_with cpu own steps regs =
        ap (λ (a : List ℕ). record { cpu = cpu; regs = a; steps = steps })
        (given_is ∙ ap (λ (answer : List ℕ). map (number_in answer) regs) (sym answers)) in
        let front : take (length before) before ≡ before = take-length before in
        let so_far = much.so_far ∙ ap copied_bytes (sym front) in
        let would : reads_of boot kernel own (visit_with cpu own steps regs) ≡ Some reads =
        ap (λ (v : Visit). reads_of boot kernel own v) (sym same)
        ∙ ap (λ (l : List ℕ). option_map (λ (end : Kernel × List Read). end.1) (over_lane (entry boot kernel visit) l [])) lanes
        ∙ ap (option_map (λ (end : Kernel × List Read). end.1)) found.1 in
        let refused : IsRefusedAt of was.part (length before) = record {
          within = omega arith;
          last = none_at_end cpu before;
          steps = steps;
          regs = regs;
          rest = rest;
          left = ap (λ (s : Seat). s.acts) was.comes_to;
          kernel = kernel;
          before = ap (kernel_after boot) front ∙ there.1;
          reads = reads;
          would_read = would;
          many = subst (λ (n : ℕ). 2 ^ 28 < n + total_bytes reads) so_far
              (subst (λ (n : ℕ). 2 ^ 28 < copied + n) (sym found.2) much.above);
        } in
        (refused, much.so_far, sym found.2)
