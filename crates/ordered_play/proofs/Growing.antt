-- A part grows by its processor's next event: the entry or exit that it leaves is done, and then RAM is written and shown
-- up to the next.
use Rattle.std.proofs.Common.{◌≡◌, ℕ, ◌+◌, ◌≤◌, List, [], ◌∷◌, ◌++◌, Some, length}
use Rattle.std.proofs.Common.{refl, sym, ◌∙◌, ap, subst, arith, append_assoc}
use Rattle.std.proofs.Math.Seq.{take-append_seam}
use Rattle.event_journal.specs.declared.event.Event.{Event}
use Rattle.event_journal.specs.declared.event.Event.TheVariants.{Exit}
use Rattle.kernel_model.specs.Exit.{Exited}
use Rattle.kernel_model.specs.History.{exit_after}
use Rattle.ns_ram.specs.Lane.{bytes_at}
use Rattle.ns_ram.specs.Reads.{HoldsReads}
use Rattle.ns_ram.specs.declared.read.Read.{Read}
use Rattle.trace_text.specs.declared.item.Reg.{Reg}
use Rattle.ordered_play.proofs.Events.{next_last, next_stands, none_at_end, one_longer}
use Rattle.ordered_play.proofs.Longer.{acts_stay}
use Rattle.ordered_play.proofs.Ready.{ready_anew}
use Rattle.ordered_play.proofs.Turn.{entry_by}
use Rattle.ordered_play.specs.Act.{Act, Comes, Leaves, Writes, Shows, acts_for}
use Rattle.ordered_play.specs.Laws.{PartsGrow, later, longer}
use Rattle.ordered_play.specs.Merge.{Part, seat_left, seat_of}
use Rattle.ordered_play.specs.Part.{AreActsOf, ComesIn, GoesOut, IsActOf, IsPart, Role, Share, Standing, StopsAtEvent}
use Rattle.ordered_play.specs.Part.{first_standing, next_event}
use Rattle.ordered_play.specs.Seat.{Shown, Told, ready_for, with_line, with_writes}

-- ---- acts in a row

pub acts_in_row : (of : Share) (done more : List Act) (old mid new : Standing) → AreActsOf of done old mid
    → AreActsOf of more mid new → AreActsOf of (done ++ more) old new
acts_in_row of [] more old mid new first second = subst (λ (s : Standing). AreActsOf of more s new) first second
acts_in_row of (act ∷ done) more old mid new first second =
    (first.0, first.1, acts_in_row of done more first.0 mid new first.2 second)

-- they use up no more than there is
pub used_within : (of : Share) (done : List Act) (old new : Standing) → old.used ≤ length of.history
    → AreActsOf of done old new → new.used ≤ length of.history
used_within of [] old new inside acts = subst (λ (s : Standing). s.used ≤ length of.history) (sym acts) inside
used_within of (act ∷ done) old new inside acts = used_within of done acts.0 new (by act acts.1) acts.2
  where
    by : (act : Act) → IsActOf of act old acts.0 → acts.0.used ≤ length of.history
    by (Comes steps regs) is =
        let there = next_stands of.cpu old.used of.history is.at _ is.next in
        let within = there.within in
        let used = ap (λ (s : Standing). s.used) is.stands in
        omega (arith, within, used)
    by Leaves is =
        let there = next_stands of.cpu old.used of.history is.at _ is.next in
        let within = there.within in
        let used = ap (λ (s : Standing). s.used) is.stands in
        omega (arith, within, used)
    by (Writes addr bytes) is = let used = ap (λ (s : Standing). s.used) is in omega (arith, used, inside)
    by (Shows addr len) is = let used = ap (λ (s : Standing). s.used) is in omega (arith, used, inside)

-- what is written and shown before the next entry or exit
pub record Skipped (of : Share) (acts : List Act) (now : Standing) : Type 0 where
  pub skipped : List Act
  pub left : List Act
  pub end : Standing
  pub cut : acts ≡ skipped ++ left
  pub are : AreActsOf of skipped now end
  pub stops : StopsAtEvent left
  pub used : end.used ≡ now.used
  pub ready : ready_for acts now.seat ≡ seat_left end.seat left

pub skip : (of : Share) (acts : List Act) (now : Standing) → Skipped of acts now
skip of [] now = record {
  skipped = [];
  left = [];
  end = now;
  cut = refl;
  are = refl;
  stops = tt;
  used = refl;
  ready = refl;
}
skip of (Comes steps regs ∷ acts) now = record {
  skipped = [];
  left = Comes steps regs ∷ acts;
  end = now;
  cut = refl;
  are = refl;
  stops = tt;
  used = refl;
  ready = refl;
}
skip of (Leaves ∷ acts) now = record {
  skipped = [];
  left = Leaves ∷ acts;
  end = now;
  cut = refl;
  are = refl;
  stops = tt;
  used = refl;
  ready = refl;
}
skip of (Writes addr bytes ∷ acts) now =
    let written : Standing = record now
    { seat = with_writes (record { addr = addr; bytes = bytes } ∷ []) now.seat } in
    let rest = skip of acts written in
    record {
      skipped = Writes addr bytes ∷ rest.skipped;
      left = rest.left;
      end = rest.end;
      cut = ap (λ (more : List Act). Writes addr bytes ∷ more) rest.cut;
      are = (written, refl, rest.are);
      stops = rest.stops;
      used = rest.used;
      ready = rest.ready;
    }
skip of (Shows addr len ∷ acts) now =
    let shown : Standing = record now
    { seat = with_line (Shown addr (bytes_at now.seat.lane addr len)) now.seat } in
    let rest = skip of acts shown in
    record {
      skipped = Shows addr len ∷ rest.skipped;
      left = rest.left;
      end = rest.end;
      cut = ap (λ (more : List Act). Shows addr len ∷ more) rest.cut;
      are = (shown, refl, rest.are);
      stops = rest.stops;
      used = rest.used;
      ready = rest.ready;
    }

-- ---- one event more

module _ (of : Role) (event : Event) (end : Standing) (part : IsPart of end) where
  -- the part with it
  pub record Grown (rest : List Act) (new : Standing) : Type 0 where
    pub now : Part (later of (event ∷ []))
    pub comes_to : ready_for rest new.seat ≡ seat_of now

  pub grows : (act : Act) (rest : List Act) (new : Standing) → part.left ≡ act ∷ rest
      → IsActOf (longer of.share (event ∷ [])) act end new → new.used ≡ length (of.share.history ++ event ∷ []) → Grown rest new
  grows act rest new left is used =
      let after = longer of.share (event ∷ []) in
      let more = skip after rest new in
      let cut = part.cut ∙ ap (λ (acts : List Act). part.done ++ acts) left
      ∙ ap (λ (acts : List Act). part.done ++ act ∷ acts) more.cut
      ∙ sym (append_assoc part.done (act ∷ more.skipped) more.left) in
      record {
        now = record {
          end = more.end;
          is_part = record {
            done = part.done ++ act ∷ more.skipped;
            left = more.left;
            cut = cut;
            acts = acts_in_row after part.done (act ∷ more.skipped) (first_standing of.lane) end more.end
                (acts_stay of.share (event ∷ []) part.done (first_standing of.lane) end part.acts) (new, is, more.are);
            spent = ap (next_event after.history of.share.cpu) (more.used ∙ used) ∙ none_at_end of.share.cpu after.history;
            stops = more.stops;
          };
        };
        comes_to = more.ready;
      }

  inside : end.used ≤ length of.share.history
  inside = used_within of.share part.done (first_standing of.lane) end (omega arith) part.acts

-- an entry is done
pub come_in : (of : Role) (end : Standing) (part : IsPart of end) (steps : ℕ) (regs : List Reg) (reads : List Read) → HoldsReads end.seat.lane reads
    → ComesIn (longer of.share (entry_by of.share.cpu end.seat steps regs reads ∷ [])) steps regs end
    (record { used = length of.share.history + 1; seat = record end.seat { entry_at = length of.share.history } })
come_in of end part steps regs reads holds =
    let event = entry_by of.share.cpu end.seat steps regs reads in
    record {
      at = length of.share.history;
      reads = reads;
      next = next_last of.share.cpu end.used of.share.history event (inside of event end part) refl part.spent;
      holds = holds;
      stands = refl;
    }

-- an exit is done
pub go_out : (of : Role) (end : Standing) (part : IsPart of end) (exited : Exited) → exit_after of.share.boot of.share.history of.share.cpu ≡ Some exited
    → GoesOut (longer of.share (Exit of.share.cpu (record { a = exited.regs }) ∷ [])) end
    (record {
      used = length of.share.history + 1;
      seat = with_line (Told exited.regs end.seat.entry_at (length of.share.history))
          (with_writes exited.writes (record end.seat { answer = exited.regs }));
    })
go_out of end part exited exits =
    let event : Event = Exit of.share.cpu (record { a = exited.regs }) in
    record {
      at = length of.share.history;
      exited = exited;
      next = next_last of.share.cpu end.used of.share.history event (inside of event end part) refl part.spent;
      exits = ap (λ (h : List Event). exit_after of.share.boot h of.share.cpu) (take-append_seam of.share.history (event ∷ [])) ∙ exits;
      stands = refl;
    }

pub parts_grow : PartsGrow
parts_grow = record {
  begins = λ of none.
      let cpu = of.share.cpu in
      let start = skip of.share (acts_for cpu of.items) (first_standing of.lane) in (
        record {
          end = start.end;
          is_part = record {
            done = start.skipped;
            left = start.left;
            cut = start.cut;
            acts = start.are;
            spent = ap (next_event of.share.history cpu) start.used ∙ ap (λ (h : List Event). next_event h cpu 0) none
                ∙ none_at_end cpu [];
            stops = start.stops;
          };
        },
        start.ready,
      );
  comes = λ of part steps regs rest reads left holds.
      let event = entry_by of.share.cpu part.end.seat steps regs reads in
      let entered = record part.end.seat { entry_at = length of.share.history } in
      let grown = grows of event part.end part.is_part (Comes steps regs) rest
      (record { used = length of.share.history + 1; seat = entered }) left
      (come_in of part.end part.is_part steps regs reads holds) (sym (one_longer of.share.history event)) in
      (grown.now, ready_anew rest part.is_part.left entered ∙ grown.comes_to);
  goes = λ of part rest exited left exits.
      let event : Event = Exit of.share.cpu (record { a = exited.regs }) in
      let gone = with_line (Told exited.regs part.end.seat.entry_at (length of.share.history))
      (with_writes exited.writes (record part.end.seat { answer = exited.regs })) in
      let grown = grows of event part.end part.is_part Leaves rest
      (record { used = length of.share.history + 1; seat = gone }) left
      (go_out of part.end part.is_part exited exits) (sym (one_longer of.share.history event)) in
      (grown.now, ready_anew rest part.is_part.left gone ∙ grown.comes_to);
}
