-- Where a processor stands in the middle of its part: at its next event the next of its entries and exits is done, and
-- where it has no event more, the part has ended.
use Rattle.std.proofs.Common.{◌≡◌, ℕ, List, [], ◌∷◌, ◌++◌, Some, None, refl, sym, ◌∙◌, ap, subst}
use Rattle.event_journal.specs.declared.event.Event.{Event}
use Rattle.ns_ram.specs.Lane.{bytes_at}
use Rattle.ordered_play.proofs.Ready.{ready_stops}
use Rattle.ordered_play.specs.Act.{Act, Comes, Leaves, Writes, Shows}
use Rattle.ordered_play.specs.Merge.{seat_left}
use Rattle.ordered_play.specs.Part.{AreActsOf, ComesIn, GoesOut, IsSpent, Share, Standing, StopsAtEvent, next_event}
use Rattle.ordered_play.specs.Seat.{Seat, Shown, ready_for, with_line, with_writes}
use Rattle.trace_text.specs.declared.item.Reg.{Reg}

module _ (of : Share) (left : List Act) (end : Standing) where
  -- its seat is ready for the rest of the part, from this standing on
  pub record IsReady (mid : Standing) (seat : Seat) : Type 0 where
    pub rest : List Act
    pub acts : AreActsOf of rest mid end
    pub ready : seat ≡ ready_for (rest ++ left) mid.seat

  -- the next entry or exit of such a seat: it is done from this standing, which has used the same events
  pub data NextAct (used : ℕ) (seat : Seat) : Type 0 where
    Coming : (steps : ℕ) (regs : List Reg) (old new : Standing) (rest : List Act) → old.used ≡ used →
        ComesIn of steps regs old new → AreActsOf of rest new end →
        seat ≡ seat_left old.seat (Comes steps regs ∷ rest ++ left) → NextAct used seat
    Going : (old new : Standing) (rest : List Act) → old.used ≡ used →
        GoesOut of old new → AreActsOf of rest new end →
        seat ≡ seat_left old.seat (Leaves ∷ rest ++ left) → NextAct used seat

  pub next_act : (mid : Standing) (seat : Seat) (found : ℕ × Event) → IsSpent of end → IsReady mid seat
      → next_event of.history of.cpu mid.used ≡ Some found → NextAct mid.used seat
  next_act mid seat found spent is next = from is.rest mid is.acts refl is.ready
    where
      from : (rest : List Act) (now : Standing) → AreActsOf of rest now end → now.used ≡ mid.used
          → seat ≡ ready_for (rest ++ left) now.seat → NextAct mid.used seat
      from [] now acts used ready =
          let over : next_event of.history of.cpu now.used ≡ None =
          subst (λ (s : Standing). next_event of.history of.cpu s.used ≡ None) acts spent in
          let both = sym next ∙ ap (next_event of.history of.cpu) (sym used) ∙ over in
          absurd cc
      from (Comes steps regs ∷ rest) now acts used ready =
          Coming steps regs now acts.0 rest used acts.1 acts.2 ready
      from (Leaves ∷ rest) now acts used ready = Going now acts.0 rest used acts.1 acts.2 ready
      from (Writes addr bytes ∷ rest) now acts used ready =
          from rest (record now { seat = with_writes (record { addr = addr; bytes = bytes } ∷ []) now.seat })
          (subst (λ (s : Standing). AreActsOf of rest s end) acts.1 acts.2) used ready
      from (Shows addr len ∷ rest) now acts used ready =
          from rest (record now { seat = with_line (Shown addr (bytes_at now.seat.lane addr len)) now.seat })
          (subst (λ (s : Standing). AreActsOf of rest s end) acts.1 acts.2) used ready

  -- with no event more, the part has ended
  pub at_end : (mid : Standing) (seat : Seat) → StopsAtEvent left → IsReady mid seat
      → next_event of.history of.cpu mid.used ≡ None → seat ≡ seat_left end.seat left
  at_end mid seat stops is none = is.ready ∙ from is.rest mid is.acts none
    where
      from : (rest : List Act) (now : Standing) → AreActsOf of rest now end
          → next_event of.history of.cpu now.used ≡ None
          → ready_for (rest ++ left) now.seat ≡ seat_left end.seat left
      from [] now acts over =
          ready_stops left now.seat stops ∙ ap (λ (s : Standing). seat_left s.seat left) (sym acts)
      from (Comes steps regs ∷ rest) now acts over = let both = sym acts.1.next ∙ over in absurd cc
      from (Leaves ∷ rest) now acts over = let both = sym acts.1.next ∙ over in absurd cc
      from (Writes addr bytes ∷ rest) now acts over =
          from rest (record now { seat = with_writes (record { addr = addr; bytes = bytes } ∷ []) now.seat })
          (subst (λ (s : Standing). AreActsOf of rest s end) acts.1 acts.2) over
      from (Shows addr len ∷ rest) now acts over =
          from rest (record now { seat = with_line (Shown addr (bytes_at now.seat.lane addr len)) now.seat })
          (subst (λ (s : Standing). AreActsOf of rest s end) acts.1 acts.2) over
