-- The turn of a processor whose entry is refused.
use Rattle.std.proofs.Common.{◌≡◌, ℕ, ◌+◌, ◌<◌, List, ◌∷◌, ◌++◌, Option, Some, None, length}
use Rattle.std.proofs.Common.{sym, ◌∙◌, ap, subst, take}
use Rattle.std.specs.Prelude.{◌^◌, slice_get}
use Rattle.std.proofs.Math.Seq.{take-append_seam}
use Rattle.event_journal.specs.Journal.{copied_bytes}
use Rattle.event_journal.specs.declared.event.Event.{Event}
use Rattle.kernel_model.specs.History.{kernel_after}
use Rattle.kernel_model.specs.Kernel.{Kernel}
use Rattle.ns_ram.specs.Reads.{total_bytes}
use Rattle.ordered_play.proofs.Events.{same_some}
use Rattle.ordered_play.proofs.Turn.{refused_turn}
use Rattle.ordered_play.specs.Act.{Comes}
use Rattle.ordered_play.specs.Merge.{IsRefusedAt, IsRefusedIf, Part, Setting, role_in, seat_left, seat_of, seat_with}
use Rattle.ordered_play.specs.Ordered.{OrderedPlay, after_turn, reads_of, refused_seat, visit_with, with_seat}
use Rattle.ordered_play.specs.Part.{next_event}
use Rattle.ordered_play.specs.Seat.{Seat}

module _ (on : Setting) (history before behind : List Event) (cut : history ≡ before ++ behind) (cpu : ℕ)
    (part : Part (role_in on history cpu)) where
  -- no event of the processor stands behind its refused entry
  pub none_behind : (place : Option ℕ) → IsRefusedIf (role_in on history cpu) part place
      → place ≡ Some (length before) → next_event history cpu (length before) ≡ None
  none_behind None refused is = absurd cc
  none_behind (Some place) refused is =
      ap (next_event history cpu) (sym (same_some place (length before) is)) ∙ refused.last

  module _ (play : OrderedPlay) (same : play.history ≡ before) (comes : kernel_after on.boot before ≡ Some play.kernel)
      (seat : Seat) (there : slice_get play.seats cpu ≡ Some seat) (ended : seat ≡ seat_of part) where
    refused_here : (place : ℕ) (refused : IsRefusedAt (role_in on history cpu) part place)
        → place ≡ length before
        → after_turn on.boot cpu play
        ≡ Some (with_seat cpu (seat_with (role_in on history cpu) part (Some place) refused) play)
    refused_here place refused is =
        let front : take place history ≡ before =
        ap (λ (n : ℕ). take n history) is ∙ ap (take (length before)) cut ∙ take-append_seam before behind in
        let kernel = same_some refused.kernel play.kernel
        (sym refused.before ∙ ap (kernel_after on.boot) front ∙ comes) in
        let visit = visit_with cpu part.end.seat refused.steps refused.regs in
        let read = ap (λ (k : Kernel). reads_of on.boot k part.end.seat visit) (sym kernel) ∙ refused.would_read in
        let copied = ap copied_bytes front ∙ ap copied_bytes (sym same) in
        let many = subst (λ (n : ℕ). 2 ^ 28 < n + total_bytes refused.reads) copied refused.many in
        let left = ap (seat_left part.end.seat) refused.left in
        refused_turn on.boot play cpu part.end.seat refused.rest play.kernel refused.steps refused.regs refused.reads
        (there ∙ ap Some (ended ∙ left)) read many
        ∙ ap (λ (n : ℕ). Some (with_seat cpu (refused_seat
        (seat_left part.end.seat (Comes refused.steps refused.regs ∷ refused.rest))
        (record { copied = n; more = total_bytes refused.reads })) play)) (sym copied)
        ∙ ap (λ (s : Seat). Some (with_seat cpu (refused_seat s
        (record { copied = copied_bytes (take place history); more = total_bytes refused.reads })) play)) (sym left)

    pub refused_turn_of : (place : Option ℕ)
        (refused : IsRefusedIf (role_in on history cpu) part place) → place ≡ Some (length before)
        → after_turn on.boot cpu play
        ≡ Some (with_seat cpu (seat_with (role_in on history cpu) part place refused) play)
    refused_turn_of None refused is = absurd cc
    refused_turn_of (Some place) refused is = refused_here place refused (same_some place (length before) is)
