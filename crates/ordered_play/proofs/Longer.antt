-- A part stays where events of others follow on its history.
use Rattle.std.proofs.Common.{ℕ, ◌≤◌, List, [], ◌∷◌, ◌∙◌, ap, arith, length, refl, ◌≡◌, ◌<◌, ◌+◌, Option, Some, None, sym, subst}
use Rattle.std.specs.List.{AllByRecursion}
use Rattle.std.specs.Prelude.{◌^◌}
use Rattle.std.proofs.lemmas.List.{length-append, take-append-le}
use Rattle.event_journal.specs.declared.event.Event.{Event}
use Rattle.event_journal.specs.Journal.{copied_bytes}
use Rattle.kernel_model.specs.History.{exit_after, kernel_after}
use Rattle.kernel_model.specs.Laws.{IsOfOther}
use Rattle.ns_ram.specs.Reads.{total_bytes}
use Rattle.ordered_play.proofs.Events.{next_stands, next_stays, none_stays}
use Rattle.ordered_play.specs.Act.{Act, Comes, Leaves, Writes, Shows}
use Rattle.ordered_play.specs.Laws.{PartsStay, later, longer}
use Rattle.ordered_play.specs.Merge.{IsRefusedIf, Part, seat_of, seat_with}
use Rattle.ordered_play.specs.Ordered.{refused_seat}
use Rattle.ordered_play.specs.Part.{AreActsOf, ComesIn, GoesOut, IsActOf, IsPart, Role, Share, Standing, first_standing}
use Rattle.trace_text.specs.declared.item.Reg.{Reg}

module _ (of : Share) (more : List Event) where
  coming_stays : (steps : ℕ) (regs : List Reg) (old new : Standing) → ComesIn of steps regs old new
      → ComesIn (longer of more) steps regs old new
  coming_stays steps regs old new comes = record {
    at = comes.at;
    reads = comes.reads;
    next = next_stays of.cpu old.used of.history more comes.at _ comes.next;
    holds = comes.holds;
    stands = comes.stands;
  }

  going_stays : (old new : Standing) → GoesOut of old new → GoesOut (longer of more) old new
  going_stays old new goes =
      let there = next_stands of.cpu old.used of.history goes.at _ goes.next in
      let within = there.within in
      let inside : goes.at ≤ length of.history = omega (arith, within) in
      record {
        at = goes.at;
        exited = goes.exited;
        next = next_stays of.cpu old.used of.history more goes.at _ goes.next;
        exits = ap (λ (h : List Event). exit_after of.boot h of.cpu) (take-append-le goes.at of.history more inside)
            ∙ goes.exits;
        stands = goes.stands;
      }

  act_stays : (act : Act) (old new : Standing) → IsActOf of act old new → IsActOf (longer of more) act old new
  act_stays (Comes steps regs) old new is = coming_stays steps regs old new is
  act_stays Leaves old new is = going_stays old new is
  act_stays (Writes addr bytes) old new is = is
  act_stays (Shows addr len) old new is = is

  pub acts_stay : (done : List Act) (old new : Standing) → AreActsOf of done old new
      → AreActsOf (longer of more) done old new
  acts_stay [] old new are = are
  acts_stay (act ∷ done) old new are = (are.0, act_stays act old are.0 are.1, acts_stay done are.0 new are.2)

-- the part with the same acts
abbrev pub part_stays : (of : Role) (more : List Event) (end : Standing) → AllByRecursion (IsOfOther of.share.cpu) more → IsPart of end
    → IsPart (later of more) end
part_stays of more end others part = record {
  done = part.done;
  left = part.left;
  cut = part.cut;
  acts = acts_stay of.share more part.done (first_standing of.lane) end part.acts;
  spent = none_stays of.share.cpu end.used of.share.history more others part.spent;
  stops = part.stops;
}

-- ---- refused entries

module _ (of : Role) (more : List Event) (part : Part of) (others : AllByRecursion (IsOfOther of.share.cpu) more) where
  abbrev pub kept : Part (later of more)
  kept = record { end = part.end; is_part = part_stays of more part.end others part.is_part }

  pub refused_stays : (place : Option ℕ) → IsRefusedIf of part place → IsRefusedIf (later of more) kept place
  refused_stays None refused = tt
  refused_stays (Some place) refused =
      let front = take-append-le place of.share.history more refused.within in
      let long = length-append of.share.history more in
      let within = refused.within in
      record {
        within = omega (arith, long, within);
        last = none_stays of.share.cpu place of.share.history more others refused.last;
        steps = refused.steps;
        regs = refused.regs;
        rest = refused.rest;
        left = refused.left;
        kernel = refused.kernel;
        before = ap (kernel_after of.share.boot) front ∙ refused.before;
        reads = refused.reads;
        would_read = refused.would_read;
        many = subst (λ (h : List Event). 2 ^ 28 < copied_bytes h + total_bytes refused.reads) (sym front) refused.many;
      }

  pub seat_stays : (place : Option ℕ) (refused : IsRefusedIf of part place)
      → seat_with of part place refused ≡ seat_with (later of more) kept place (refused_stays place refused)
  unfolding refused_stays
  seat_stays None refused = refl
  seat_stays (Some place) refused =
      ap (λ (h : List Event). refused_seat (seat_of part)
      (record { copied = copied_bytes h; more = total_bytes refused.reads }))
      (sym (take-append-le place of.share.history more refused.within))

pub parts_stay : PartsStay
parts_stay = record {
  acts = acts_stay;
  parts = λ of more end others part. (part_stays of more end others part, refl);
  refusals = λ of more part place refused others. (
    kept of more part others,
    refused_stays of more part others place refused,
    seat_stays of more part others place refused,
  );
}
