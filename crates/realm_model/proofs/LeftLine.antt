-- A call of the realm that waits no more leaves those that wait, and the machine's its line.
use Rattle.std.proofs.Common.{◌≡◌, ℕ, Bool, true, false, cond, not, List, [], ◌∷◌, Some, refl, ap, subst, sym, ◌∙◌}
use Rattle.std.specs.Prelude.{◌==◌, is_some, map, filter}
use Rattle.std.proofs.lemmas.List.Elements.{All-filter}
use Rattle.base.specs.NumberMap.{NumberMap, get}
use Rattle.session_table.specs.declared.waiters.Waiter.{Waiter}
use Rattle.session_table.specs.Waiters.{without}
use Rattle.group_model.specs.Group.{GroupWaiter}
use Rattle.realm_model.specs.Tied.{AreTiedWaiters, IsOfRealm, Members, waiting_of}
use Rattle.realm_model.proofs.Woken.{named_same}

-- the line without a call
abbrev pub line_without : List GroupWaiter → ℕ → List GroupWaiter
line_without line number = filter (λ (waiter : GroupWaiter). not (waiter.call == number)) line

-- those that wait for an instance with a name without a call are those without it that wait for one
filters : (instances : NumberMap ℕ) (waiters : List Waiter) (slot : ℕ)
    → waiting_of instances (without waiters slot) ≡ without (waiting_of instances waiters) slot
filters instances [] slot = refl
filters instances (waiter ∷ waiters) slot =
    by_tests (is_some (get instances waiter.instance)) (waiter.slot == slot) refl refl (filters instances waiters slot)
  where
    rest : List Waiter
    rest = without (waiting_of instances waiters) slot

    by_tests : (ours away : Bool) → is_some (get instances waiter.instance) ≡ ours → (waiter.slot == slot) ≡ away
        → waiting_of instances (without waiters slot) ≡ without (waiting_of instances waiters) slot
        → waiting_of instances (cond (not away) (waiter ∷ without waiters slot) (without waiters slot))
        ≡ without (cond ours (waiter ∷ waiting_of instances waiters) (waiting_of instances waiters)) slot
    by_tests true true named gone same =
        same ∙ sym (ap (λ b. cond (not b) (waiter ∷ rest) rest) gone)
    by_tests true false named gone same =
        ap (λ b. cond b (waiter ∷ waiting_of instances (without waiters slot))
        (waiting_of instances (without waiters slot))) named
        ∙ ap (λ (ws : List Waiter). waiter ∷ ws) same
        ∙ sym (ap (λ b. cond (not b) (waiter ∷ rest) rest) gone)
    by_tests false true named gone same = same
    by_tests false false named gone same =
        ap (λ b. cond b (waiter ∷ waiting_of instances (without waiters slot))
        (waiting_of instances (without waiters slot))) named
        ∙ same

-- these calls are the machine's, each for its instance
record AreLined (in_slots instances : NumberMap ℕ) (waiters : List Waiter) (waiting : List GroupWaiter) : Type 0 where
  calls : map (λ (waiter : Waiter). get in_slots waiter.slot) waiters
      ≡ map (λ (own : GroupWaiter). Some own.call) waiting
  instances_of : map (λ (waiter : Waiter). get instances waiter.instance) waiters
      ≡ map (λ (own : GroupWaiter). Some own.instance) waiting

leaves : (in_slots instances : NumberMap ℕ) (slot number : ℕ) (waiters : List Waiter) (waiting : List GroupWaiter)
    → get in_slots slot ≡ Some number
    → ((first second own : ℕ) → get in_slots first ≡ Some own → get in_slots second ≡ Some own → first ≡ second)
    → AreLined in_slots instances waiters waiting
    → AreLined in_slots instances (without waiters slot) (line_without waiting number)
leaves in_slots instances slot number [] [] has apart lined = lined
leaves in_slots instances slot number [] (own ∷ waiting) has apart lined =
    let no : [] ≡ map (λ (o : GroupWaiter). Some o.call) (own ∷ waiting) = lined.calls in absurd cc
leaves in_slots instances slot number (waiter ∷ waiters) [] has apart lined =
    let no : map (λ (w : Waiter). get in_slots w.slot) (waiter ∷ waiters) ≡ [] = lined.calls in absurd cc
leaves in_slots instances slot number (waiter ∷ waiters) (own ∷ waiting) has apart lined =
    let all : map (λ (w : Waiter). get in_slots w.slot) (waiter ∷ waiters)
    ≡ map (λ (o : GroupWaiter). Some o.call) (own ∷ waiting) = lined.calls in
    let of_all : map (λ (w : Waiter). get instances w.instance) (waiter ∷ waiters)
    ≡ map (λ (o : GroupWaiter). Some o.instance) (own ∷ waiting) = lined.instances_of in
    let call : get in_slots waiter.slot ≡ Some own.call = cc in
    let of_it : get instances waiter.instance ≡ Some own.instance = cc in
    let behind : map (λ (w : Waiter). get in_slots w.slot) waiters ≡ map (λ (o : GroupWaiter). Some o.call) waiting = cc in
    let of_behind : map (λ (w : Waiter). get instances w.instance) waiters
    ≡ map (λ (o : GroupWaiter). Some o.instance) waiting = cc in
    subst (λ b. AreLined in_slots instances
    (cond (not (waiter.slot == slot)) (waiter ∷ without waiters slot) (without waiters slot))
    (cond (not b) (own ∷ line_without waiting number) (line_without waiting number)))
    (named_same in_slots waiter.slot slot own.call number apart call has)
    (by_test (waiter.slot == slot) call of_it
    (leaves in_slots instances slot number waiters waiting has apart
    (record { calls = behind; instances_of = of_behind })))
  where
    by_test : (away : Bool) → get in_slots waiter.slot ≡ Some own.call → get instances waiter.instance ≡ Some own.instance
        → AreLined in_slots instances (without waiters slot) (line_without waiting number)
        → AreLined in_slots instances (cond (not away) (waiter ∷ without waiters slot) (without waiters slot))
        (cond (not away) (own ∷ line_without waiting number) (line_without waiting number))
    by_test true call of_it rest = rest
    by_test false call of_it rest = record {
      calls = ap (λ o. o ∷ map (λ (w : Waiter). get in_slots w.slot) (without waiters slot)) call
          ∙ ap (λ os. Some own.call ∷ os) rest.calls;
      instances_of = ap (λ o. o ∷ map (λ (w : Waiter). get instances w.instance) (without waiters slot)) of_it
          ∙ ap (λ os. Some own.instance ∷ os) rest.instances_of;
    }

pub leaves_line : (members : Members) (in_slots instances : NumberMap ℕ) (slot number : ℕ) (waiters : List Waiter)
    (waiting : List GroupWaiter) → get in_slots slot ≡ Some number
    → ((first second own : ℕ) → get in_slots first ≡ Some own → get in_slots second ≡ Some own → first ≡ second)
    → AreTiedWaiters members instances in_slots waiters waiting
    → AreTiedWaiters members instances in_slots (without waiters slot) (line_without waiting number)
leaves_line members in_slots instances slot number waiters waiting has apart tied =
    let lined : AreLined in_slots instances (waiting_of instances (without waiters slot)) (line_without waiting number) =
    subst (λ (ws : List Waiter). AreLined in_slots instances ws (line_without waiting number))
    (sym (filters instances waiters slot))
    (leaves in_slots instances slot number (waiting_of instances waiters) waiting has apart
    (record { calls = tied.calls; instances_of = tied.instances_of })) in
    record {
      calls = lined.calls;
      instances_of = lined.instances_of;
      of_app = All-filter (λ (waiter : Waiter). not (waiter.slot == slot))
          (λ (waiter : Waiter). IsOfRealm members instances waiter.instance waiter.uuid) waiters tied.of_app;
    }
