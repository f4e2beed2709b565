-- A call without a number that waits no more leaves those that have one.
use Rattle.std.proofs.Common.{◌≡◌, ℕ, Bool, true, false, List, [], ◌∷◌, Some, None, refl, ap, sym, ◌∙◌}
use Rattle.std.specs.Prelude.{cond, filter, map, not, ◌==◌}
use Rattle.std.proofs.lemmas.Bool.Decides.{Decides-eqb}
use Rattle.base.specs.NumberMap.{NumberMap, get}
use Rattle.session_table.specs.declared.waiters.Waiter.{Waiter}
use Rattle.session_table.specs.Waiters.{without}
use Rattle.group_model.specs.Group.{GroupWaiter}

-- ---- those that wait

-- the first of those that pass the test has a number, and those behind it are the machine's too
record FirstNumbered (numbers : NumberMap ℕ) (slot : ℕ) (passing : List Waiter) : Type 0 where
  number : ℕ
  has : get numbers slot ≡ Some number
  rest : List GroupWaiter
  behind : map (λ (w : Waiter). get numbers w.slot) passing ≡ map (λ (o : GroupWaiter). Some o.call) rest

first_numbered : (numbers : NumberMap ℕ) (first : Waiter) (passing : List Waiter) (waiting : List GroupWaiter)
    → map (λ (w : Waiter). get numbers w.slot) (first ∷ passing) ≡ map (λ (o : GroupWaiter). Some o.call) waiting
    → FirstNumbered numbers first.slot passing
first_numbered numbers first passing [] order = absurd cc
first_numbered numbers first passing (own ∷ rest) order =
    let here : get numbers first.slot ≡ Some own.call = cc in
    let behind : map (λ (w : Waiter). get numbers w.slot) passing ≡ map (λ (o : GroupWaiter). Some o.call) rest = cc in
    record { number = own.call; has = here; rest = rest; behind = behind }

-- a call without a number that waits no more leaves those that have one
pub others_leave : (numbers : NumberMap ℕ) (test : Waiter → Bool) (slot : ℕ) (waiters : List Waiter)
    (waiting : List GroupWaiter)
    → map (λ (w : Waiter). get numbers w.slot) (filter test waiters) ≡ map (λ (o : GroupWaiter). Some o.call) waiting
    → get numbers slot ≡ None → filter test (without waiters slot) ≡ filter test waiters
others_leave numbers test slot [] waiting order none = refl
others_leave numbers test slot (first ∷ waiters) waiting order none =
    by_test (test first) refl order (first.slot == slot) refl
    (λ rest behind. others_leave numbers test slot waiters rest behind none)
  where
    by_test : (passes : Bool) → test first ≡ passes
        → map (λ (w : Waiter). get numbers w.slot) (cond passes (first ∷ filter test waiters) (filter test waiters))
        ≡ map (λ (o : GroupWaiter). Some o.call) waiting → (same : Bool) → (first.slot == slot) ≡ same
        → ((rest : List GroupWaiter) → map (λ (w : Waiter). get numbers w.slot) (filter test waiters)
        ≡ map (λ (o : GroupWaiter). Some o.call) rest → filter test (without waiters slot) ≡ filter test waiters)
        → filter test (cond (not same) (first ∷ without waiters slot) (without waiters slot))
        ≡ cond passes (first ∷ filter test waiters) (filter test waiters)
    by_test true is here true same onward =
        let its = first_numbered numbers first (filter test waiters) waiting here in
        let clash : None ≡ Some its.number =
        sym none ∙ ap (λ (n : ℕ). get numbers n) (sym ((Decides-eqb first.slot slot).0 same)) ∙ its.has in absurd cc
    by_test true is here false same onward =
        let its = first_numbered numbers first (filter test waiters) waiting here in
        ap (λ b. cond b (first ∷ filter test (without waiters slot)) (filter test (without waiters slot))) is
        ∙ ap (λ (ws : List Waiter). first ∷ ws) (onward its.rest its.behind)
    by_test false is here true same onward = onward waiting here
    by_test false is here false same onward =
        ap (λ b. cond b (first ∷ filter test (without waiters slot)) (filter test (without waiters slot))) is
        ∙ onward waiting here
