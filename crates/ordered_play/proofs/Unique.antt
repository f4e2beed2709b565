-- A processor has at most one part of a history.
use Rattle.std.proofs.Common.{◌≡◌, ℕ, List, [], ◌∷◌, ◌++◌, Some, sym, ◌∙◌, ap, subst, ◌+◌, take}
use Rattle.event_journal.specs.declared.event.Event.{Event}
use Rattle.kernel_model.specs.Exit.{Exited}
use Rattle.kernel_model.specs.History.{exit_after}
use Rattle.ordered_play.proofs.Events.{same_some}
use Rattle.ordered_play.specs.Act.{Act, Comes, Leaves, Writes, Shows}
use Rattle.ordered_play.specs.Laws.{PartsAreUnique}
use Rattle.ordered_play.specs.Part.{AreActsOf, ComesIn, GoesOut, IsActOf, IsSpent, Share, Standing}
use Rattle.ordered_play.specs.Part.{StopsAtEvent}
use Rattle.ordered_play.specs.Seat.{Told, with_line, with_writes}
use Rattle.trace_text.specs.declared.item.Reg.{Reg}

-- ---- one act

-- the place of one event
same_place : (one other : ℕ × Event) → Some one ≡ Some other → one.0 ≡ other.0
same_place one other e = ap (λ (found : ℕ × Event). found.0) (same_some one other e)

same_coming : (of : Share) (steps : ℕ) (regs : List Reg) (old one other : Standing)
    → ComesIn of steps regs old one → ComesIn of steps regs old other → one ≡ other
same_coming of steps regs old one other first second =
    let same = same_place _ _ (sym first.next ∙ second.next) in
    first.stands
    ∙ ap (λ (at : ℕ). record { used = at + 1; seat = record old.seat { entry_at = at } }) same
    ∙ sym second.stands

abbrev gone : Standing → Exited → ℕ → Standing
gone old exited at = record {
  used = at + 1;
  seat = with_line (Told exited.regs old.seat.entry_at at)
      (with_writes exited.writes (record old.seat { answer = exited.regs }));
}

same_going : (of : Share) (old one other : Standing) → GoesOut of old one → GoesOut of old other → one ≡ other
same_going of old one other first second =
    let same = same_place _ _ (sym first.next ∙ second.next) in
    let exits = sym first.exits ∙ ap (λ (at : ℕ). exit_after of.boot (take at of.history) of.cpu) same ∙ second.exits in
    let alike = same_some first.exited second.exited exits in
    first.stands
    ∙ ap (λ (at : ℕ). gone old first.exited at) same
    ∙ ap (λ (exited : Exited). gone old exited second.at) alike
    ∙ sym second.stands

same_act : (of : Share) (act : Act) (old one other : Standing) → IsActOf of act old one → IsActOf of act old other
    → one ≡ other
same_act of (Comes steps regs) old one other first second = same_coming of steps regs old one other first second
same_act of Leaves old one other first second = same_going of old one other first second
same_act of (Writes addr bytes) old one other first second = first ∙ sym second
same_act of (Shows addr len) old one other first second = first ∙ sym second

-- ---- acts in a row

-- where no event is left, no entry or exit is done
none_left : (of : Share) (act : Act) (acts : List Act) (old new : Standing) → IsSpent of old
    → StopsAtEvent (act ∷ acts) → IsActOf of act old new → ⊥
none_left of (Comes steps regs) acts old new spent stops is =
    let both = sym is.next ∙ spent in absurd cc
none_left of Leaves acts old new spent stops is = let both = sym is.next ∙ spent in absurd cc
none_left of (Writes addr bytes) acts old new spent stops is = stops
none_left of (Shows addr len) acts old new spent stops is = stops

-- both do the same acts up to the same standing
same_acts : (of : Share) (done more left behind : List Act) (old one other : Standing)
    → done ++ left ≡ more ++ behind → AreActsOf of done old one → AreActsOf of more old other
    → IsSpent of one → IsSpent of other → StopsAtEvent left → StopsAtEvent behind
    → (one ≡ other) × (left ≡ behind)
same_acts of [] [] left behind old one other cut first second spent over stops halts =
    (first ∙ sym second, cut)
same_acts of [] (act ∷ more) left behind old one other cut first second spent over stops halts =
    absurd (none_left of act (more ++ behind) old second.0 (subst (IsSpent of) first spent)
    (subst StopsAtEvent cut stops) second.1)
same_acts of (act ∷ done) [] left behind old one other cut first second spent over stops halts =
    absurd (none_left of act (done ++ left) old first.0 (subst (IsSpent of) second over)
    (subst StopsAtEvent (sym cut) halts) first.1)
same_acts of (act ∷ done) (other_act ∷ more) left behind old one other cut first second spent over stops halts =
    let head : act ≡ other_act = cc in
    let tail : done ++ left ≡ more ++ behind = cc in
    let here = same_act of other_act old first.0 second.0
    (subst (λ (a : Act). IsActOf of a old first.0) head first.1) second.1 in
    same_acts of done more left behind second.0 one other tail
    (subst (λ (s : Standing). AreActsOf of done s one) here first.2) second.2 spent over stops halts

pub parts_are_unique : PartsAreUnique
parts_are_unique of one other first second =
    same_acts of.share first.done second.done first.left second.left _ one other (sym first.cut ∙ second.cut)
    first.acts second.acts first.spent second.spent first.stops second.stops
