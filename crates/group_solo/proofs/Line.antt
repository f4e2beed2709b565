-- The calls that wait in a group's code are the machine's.
use Rattle.std.proofs.Common.{◌≡◌, ℕ, ◌==◌, not, List, sym, ap, ◌∙◌}
use Rattle.std.specs.Prelude.{filter, find}
use Rattle.std.specs.Option.{option_map}
use Rattle.group_model.specs.Group.{Group, GroupWaiter, without_waiter}
use Rattle.group_solo.proofs.Mapped.{filter-mapped, find-mapped}
use Rattle.group_solo.specs.Standing.{IsBeside, waiter_of, waiters_of, without_calls}
use Rattle.group_solo.specs.declared.group.GroupSolo.{GroupSolo}
use Rattle.group_solo.specs.declared.waiter.Waiter.{Waiter}

pub first : (waiting : List Waiter) (instance : ℕ) →
    option_map (λ (w : Waiter). w.call) (find (λ (w : Waiter). w.instance == instance) waiting)
    ≡ option_map (λ (w : GroupWaiter). w.call) (find (λ (w : GroupWaiter). w.instance == instance) (waiters_of waiting))
first waiting instance = find-mapped waiter_of (λ (w : GroupWaiter). w.call) (λ (w : GroupWaiter). w.instance == instance) waiting

pub left : (waiting : List Waiter) (number : ℕ) →
    waiters_of (filter (λ (w : Waiter). not (w.call == number)) waiting) ≡ filter (λ (w : GroupWaiter). not (w.call == number)) (waiters_of waiting)
left waiting number = filter-mapped waiter_of (λ (w : GroupWaiter). not (w.call == number)) waiting

-- the line, after one of them has left it
pub line_left : (s new : GroupSolo) (g : Group) (number : ℕ) → new ≡ record s { waiting = new.waiting } →
    waiters_of new.waiting.items ≡ filter (λ (w : GroupWaiter). not (w.call == number)) (waiters_of s.waiting.items) → IsBeside s g →
    IsBeside new (without_waiter g number)
line_left s new g number stays after beside =
    ap (λ (base : Group). record base { waiting = filter (λ (w : GroupWaiter). not (w.call == number)) base.waiting }) beside
    ∙ sym (ap without_calls stays ∙ ap (λ (waiting : List GroupWaiter). record (without_calls s) { waiting = waiting }) after)
