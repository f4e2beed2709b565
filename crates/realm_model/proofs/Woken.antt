-- Whom a call of the realm wakes is whom the machine's call wakes.
use Rattle.std.proofs.Common.{◌≡◌, ℕ, Bool, true, false, cond, List, [], ◌∷◌, Option, Some, None, refl, ap, subst, sym}
use Rattle.std.proofs.Common.{◌∙◌}
use Rattle.std.specs.Prelude.{◌==◌, find, if◌then◌else◌, is_some, map}
use Rattle.std.specs.Option.{option_map, option_map_or}
use Rattle.std.proofs.lemmas.Bool.Decides.{Decides-eqb}
use Rattle.base.specs.NumberMap.{NumberMap, get}
use Rattle.job_model.specs.declared.call_kind.CallKind.{CallKind}
use Rattle.job_model.specs.declared.call_kind.CallKind.TheVariants as kind
use Rattle.session_table.specs.declared.waiters.Waiter.{Waiter}
use Rattle.session_table.specs.Waiters.{first_of}
use Rattle.kernel_model.specs.Exit.{woken_by}
use Rattle.kernel_model.specs.Instances.{is_held}
use Rattle.kernel_model.specs.Kernel.{PendingCall, Tables}
use Rattle.own_model.proofs.OwnWakes.{held_alike}
use Rattle.own_model.specs.Tied.{HoldersAlike}
use Rattle.group_model.specs.Group.{Group, GroupCall, GroupWaiter}
use Rattle.group_model.specs.Group as machine
use Rattle.group_model.specs.Tied.{HomesAlike, found_at}
use Rattle.realm_model.specs.Tied.{AreTiedInstances, AreTiedWaiters, waiting_of}
use Rattle.realm_model.specs.Tied.{Members}

-- ---- numbers

-- no two of the kernel's numbers are named alike
abbrev AreApart : NumberMap ℕ → Type 0
AreApart names = (first second own : ℕ) → get names first ≡ Some own → get names second ≡ Some own → first ≡ second

same_some : (a b : ℕ) → Some a ≡ Some b → a ≡ b
same_some a b e = cc

-- two tests of which neither passes where the other fails
same_tests : (a b : Bool) → (a ≡ true → b ≡ true) → (b ≡ true → a ≡ true) → a ≡ b
same_tests true true there back = refl
same_tests false false there back = refl
same_tests true false there back = sym (there refl)
same_tests false true there back = back refl

-- one number is another where their names are the same
pub named_same : (names : NumberMap ℕ) (first second own other : ℕ) → AreApart names → get names first ≡ Some own
    → get names second ≡ Some other → (first == second) ≡ (own == other)
named_same names first second own other apart one two =
    same_tests (first == second) (own == other)
    (λ same. (Decides-eqb own other).1 (same_some own other
    (sym one ∙ ap (λ (n : ℕ). get names n) ((Decides-eqb first second).0 same) ∙ two)))
    (λ same. (Decides-eqb first second).1 (apart first second other
    (one ∙ ap (λ (n : ℕ). Some n) ((Decides-eqb own other).0 same)) two))

-- ---- the first that waits

-- the slot of the first of these that waits for an instance
abbrev first_in : List Waiter → ℕ → Option ℕ
first_in waiters instance = first_of waiters instance

abbrev own_first : List GroupWaiter → ℕ → Option ℕ
own_first waiting number =
    option_map (λ (waiter : GroupWaiter). waiter.call) (find (λ (waiter : GroupWaiter). waiter.instance == number) waiting)

-- among those that wait for an instance with a name
first_alike : (instances in_slots : NumberMap ℕ) (instance number : ℕ) (waiters : List Waiter)
    (waiting : List GroupWaiter) → AreApart instances → get instances instance ≡ Some number
    → map (λ (waiter : Waiter). get in_slots waiter.slot) waiters ≡ map (λ (own : GroupWaiter). Some own.call) waiting
    → map (λ (waiter : Waiter). get instances waiter.instance) waiters
    ≡ map (λ (own : GroupWaiter). Some own.instance) waiting
    → HoldersAlike in_slots (first_in waiters instance) (own_first waiting number)
first_alike instances in_slots instance number [] [] apart on calls of = tt
first_alike instances in_slots instance number [] (own ∷ waiting) apart on calls of = absurd cc
first_alike instances in_slots instance number (waiter ∷ waiters) [] apart on calls of = absurd cc
first_alike instances in_slots instance number (waiter ∷ waiters) (own ∷ waiting) apart on calls of =
    let call : get in_slots waiter.slot ≡ Some own.call = cc in
    let named : get instances waiter.instance ≡ Some own.instance = cc in
    let calls_behind : map (λ (w : Waiter). get in_slots w.slot) waiters ≡ map (λ (o : GroupWaiter). Some o.call) waiting =
    cc in
    let of_behind : map (λ (w : Waiter). get instances w.instance) waiters
    ≡ map (λ (o : GroupWaiter). Some o.instance) waiting = cc in
    let same = named_same instances waiter.instance instance own.instance number apart named on in
    subst (λ b. HoldersAlike in_slots
    (option_map (λ (w : Waiter). w.slot)
    (cond (waiter.instance == instance) (Some waiter) (find (λ (w : Waiter). w.instance == instance) waiters)))
    (option_map (λ (o : GroupWaiter). o.call)
    (cond b (Some own) (find (λ (o : GroupWaiter). o.instance == number) waiting)))) same
    (by_test (waiter.instance == instance) call
    (first_alike instances in_slots instance number waiters waiting apart on calls_behind of_behind))
  where
    by_test : (here : Bool) → get in_slots waiter.slot ≡ Some own.call
        → HoldersAlike in_slots (first_in waiters instance) (own_first waiting number)
        → HoldersAlike in_slots
        (option_map (λ (w : Waiter). w.slot)
        (cond here (Some waiter) (find (λ (w : Waiter). w.instance == instance) waiters)))
        (option_map (λ (o : GroupWaiter). o.call)
        (cond here (Some own) (find (λ (o : GroupWaiter). o.instance == number) waiting)))
    by_test true call rest = call
    by_test false call rest = rest

-- who waits for one of the realm's instances is among those that wait for one
first_of_named : (instances : NumberMap ℕ) (instance number : ℕ) (waiters : List Waiter)
    → get instances instance ≡ Some number
    → first_in waiters instance ≡ first_in (waiting_of instances waiters) instance
first_of_named instances instance number [] on = refl
first_of_named instances instance number (waiter ∷ waiters) on =
    by_test (waiter.instance == instance) refl (is_some (get instances waiter.instance)) refl
    (first_of_named instances instance number waiters on)
  where
    first : List Waiter → Option Waiter
    first ws = find (λ (w : Waiter). w.instance == instance) ws

    here_named : (waiter.instance == instance) ≡ true → is_some (get instances waiter.instance) ≡ true
    here_named here =
        ap (λ (n : ℕ). is_some (get instances n)) ((Decides-eqb waiter.instance instance).0 here)
        ∙ ap (λ (o : Option ℕ). is_some o) on

    by_test : (here : Bool) → (waiter.instance == instance) ≡ here → (ours : Bool)
        → is_some (get instances waiter.instance) ≡ ours
        → first_in waiters instance ≡ first_in (waiting_of instances waiters) instance
        → option_map (λ (w : Waiter). w.slot) (cond (waiter.instance == instance) (Some waiter) (first waiters))
        ≡ first_in (cond (is_some (get instances waiter.instance)) (waiter ∷ waiting_of instances waiters)
        (waiting_of instances waiters)) instance
    by_test here is true ours rest =
        ap (λ b. option_map (λ (w : Waiter). w.slot) (cond b (Some waiter) (first waiters))) is
        ∙ in_line here rest
        ∙ sym (ap (λ b. option_map (λ (w : Waiter). w.slot) (cond b (Some waiter) (first (waiting_of instances waiters))))
        is)
        ∙ sym (ap (λ b. first_in (cond b (waiter ∷ waiting_of instances waiters) (waiting_of instances waiters)) instance)
        ours)
      where
        in_line : (test : Bool) → first_in waiters instance ≡ first_in (waiting_of instances waiters) instance
            → option_map (λ (w : Waiter). w.slot) (cond test (Some waiter) (first waiters))
            ≡ option_map (λ (w : Waiter). w.slot) (cond test (Some waiter) (first (waiting_of instances waiters)))
        in_line true same = refl
        in_line false same = same
    by_test true is false ours rest = let no : true ≡ false = sym (here_named is) ∙ ours in absurd cc
    by_test false is false ours rest =
        ap (λ b. option_map (λ (w : Waiter). w.slot) (cond b (Some waiter) (first waiters))) is
        ∙ rest
        ∙ sym (ap (λ b. first_in (cond b (waiter ∷ waiting_of instances waiters) (waiting_of instances waiters)) instance)
        ours)

-- ---- who is woken

-- whom a call on these wakes
record OnAlike (members : Members) (instances in_slots : NumberMap ℕ) (tables : Tables) (g : Group) : Type 0 where
  apart : AreApart instances
  kept : AreTiedInstances members instances in_slots tables.instances g.instance
  waiters : AreTiedWaiters members instances in_slots tables.waiters g.waiting

free_alike : (members : Members) (instances in_slots : NumberMap ℕ) (tables : Tables) (g : Group) (instance number : ℕ)
    → OnAlike members instances in_slots tables g → get instances instance ≡ Some number
    → HoldersAlike in_slots
    (if option_map_or is_held (get tables.instances instance) false then None else first_of tables.waiters instance)
    (if option_map_or is_held (found_at g.instance number) false then None else own_first g.waiting number)
free_alike members instances in_slots tables g instance number a on =
    subst (λ b. HoldersAlike in_slots (if b then None else first_of tables.waiters instance)
    (if option_map_or is_held (found_at g.instance number) false then None else own_first g.waiting number))
    (sym (held_alike in_slots (get tables.instances instance) (found_at g.instance number)
    (a.kept.alike instance number on)))
    (by_test (option_map_or is_held (found_at g.instance number) false))
  where
    by_test : (held : Bool) → HoldersAlike in_slots (if held then None else first_of tables.waiters instance)
        (if held then None else own_first g.waiting number)
    by_test true = tt
    by_test false =
        subst (λ (o : Option ℕ). HoldersAlike in_slots o (own_first g.waiting number))
        (sym (first_of_named instances instance number tables.waiters on))
        (first_alike instances in_slots instance number (waiting_of instances tables.waiters) g.waiting a.apart on
        a.waiters.calls a.waiters.instances_of)

pub woken_alike : (members : Members) (sessions instances in_slots : NumberMap ℕ) (tables : Tables) (g : Group)
    (call : PendingCall) (own : GroupCall) (call_kind : CallKind)
    → ((first second at : ℕ) → get instances first ≡ Some at → get instances second ≡ Some at → first ≡ second)
    → AreTiedInstances members instances in_slots tables.instances g.instance
    → AreTiedWaiters members instances in_slots tables.waiters g.waiting
    → HomesAlike sessions instances call own call_kind
    → HoldersAlike in_slots (woken_by tables call call_kind) (machine.woken_by g own call_kind)
woken_alike members sessions instances in_slots tables g call own kind.Settled apart kept waiters homes = tt
woken_alike members sessions instances in_slots tables g call own kind.Open apart kept waiters homes =
    free_alike members instances in_slots tables g call.instance own.instance
    (record { apart = apart; kept = kept; waiters = waiters }) homes.1
woken_alike members sessions instances in_slots tables g call own (kind.Invoke func) apart kept waiters homes =
    free_alike members instances in_slots tables g call.instance own.instance
    (record { apart = apart; kept = kept; waiters = waiters }) homes.1
woken_alike members sessions instances in_slots tables g call own kind.Close apart kept waiters homes =
    free_alike members instances in_slots tables g call.instance own.instance
    (record { apart = apart; kept = kept; waiters = waiters }) homes.1
