-- The acts that a processor still has to do, item by item.
use Rattle.std.proofs.Common.{◌≡◌, ℕ, zero, suc, ◌+◌, ◌<◌, ◌≤◌, Bool, true, false, List, [], ◌∷◌, ◌++◌, length, drop, get_or, Result, Ok, Err, refl, ap, sym, subst, ◌∙◌, arith}
use Rattle.std.specs.Prelude.{◌==◌}
use Rattle.std.specs.Option.{is_some}
use Rattle.std.specs.Result.{is_ok}
use Rattle.std.proofs.lemmas.Bool.Decides.{nat_tests}
use Rattle.std.proofs.Math.Seq.{drop-cons}
use Rattle.kernel_model.specs.Application.{Booted}
use Rattle.kernel_state.specs.declared.enter_refusal.EnterRefusal.{EnterRefusal}
use Rattle.kernel_state.specs.declared.enter_refusal.EnterRefusal.TheVariants.{Full, Memory}
use Rattle.ordered_play.specs.Act.{Act, acts_for, acts_of, cpu_of_item}
use Rattle.trace_text.specs.declared.item.Item.{Item}
use Rattle.threads_play.specs.InTurn.{AreInTurn, StaysInTurn}
use Rattle.threads_play.specs.Standing.{LeadsTo}
use Rattle.threads_play.specs.declared.player.CpuPlayer.{CpuPlayer}

is_test : (a b : ℕ) (test : Bool) → (a == b) ≡ test → a ≡ b → (a == b) ≡ true
is_test a b true is same = is
is_test a b false is same = absurd (grind (arith, nat_tests))

is_no_test : (a b : ℕ) (test : Bool) → (a == b) ≡ test → (a ≡ b → ⊥) → (a == b) ≡ false
is_no_test a b true is apart = absurd (apart (grind (arith, nat_tests)))
is_no_test a b false is apart = is

-- those of an item of its own, and of the items behind it
pub own_acts : (cpu : ℕ) (item : Item) (items : List Item) → cpu_of_item item ≡ cpu
    → acts_for cpu (item ∷ items) ≡ acts_of item ++ acts_for cpu items
own_acts cpu item items mine =
    let test = is_test (cpu_of_item item) cpu (cpu_of_item item == cpu) refl mine in
    rw test refl

-- an item of another has none
pub no_acts : (cpu : ℕ) (item : Item) (items : List Item) → (cpu_of_item item ≡ cpu → ⊥)
    → acts_for cpu (item ∷ items) ≡ acts_for cpu items
no_acts cpu item items other =
    let test = is_no_test (cpu_of_item item) cpu (cpu_of_item item == cpu) refl other in
    rw test refl

-- the items from a place on
pub items_from : (items : List Item) (at : ℕ) (item any : Item) → at < length items → item ≡ get_or items at any
    → drop at items ≡ item ∷ drop (at + 1) items
items_from items at item any within is =
    let here : drop at items ≡ get_or items at any ∷ drop (suc at) items = drop-cons items at any within in
    let next : suc at ≡ at + 1 = omega arith in
    here ∙ ap (λ (n : ℕ). get_or items at any ∷ drop n items) next
    ∙ ap (λ (i : Item). i ∷ drop (at + 1) items) (sym is)

-- ---- behind an item

pub turn_outside : (acts : List Act) (player : CpuPlayer) (result : Result (Unit {0}) EnterRefusal)
    → is_some player.work ≡ false → AreInTurn false acts → StaysInTurn acts player result
turn_outside acts player (Ok done) outside turn = subst (λ (inside : Bool). AreInTurn inside acts) (sym outside) turn
turn_outside acts player (Err (Full copied more)) outside turn = outside
turn_outside acts player (Err Memory) outside turn = tt

pub turn_inside : (acts : List Act) (player : CpuPlayer) (result : Result (Unit {0}) EnterRefusal)
    → is_some player.work ≡ is_ok result → AreInTurn true acts → StaysInTurn acts player result
turn_inside acts player (Ok done) inside turn = subst (λ (is : Bool). AreInTurn is acts) (sym inside) turn
turn_inside acts player (Err (Full copied more)) inside turn = inside
turn_inside acts player (Err Memory) inside turn = tt

-- what is said of an answer that isn't Ok doesn't speak of the acts to come
pub err_turn : (one other : List Act) (player : CpuPlayer) (why : EnterRefusal) → StaysInTurn one player (Err why)
    → StaysInTurn other player (Err why)
err_turn one other player (Full copied more) turn = turn
err_turn one other player Memory turn = turn

pub err_leads : (boot : Booted) (all : List Item) (lane : List ℕ) (one other : List Act) (player : CpuPlayer)
    (why : EnterRefusal) → LeadsTo boot all lane one player (Err why) → LeadsTo boot all lane other player (Err why)
err_leads boot all lane one other player (Full copied more) leads = leads
err_leads boot all lane one other player Memory leads = leads

-- the acts of the items from a place on, by the item there
pub acts_next : (n m at : ℕ) (items : List Item) (item : Item) → m ≡ n → at < length items → item ≡ get_or items at item
    → acts_for n (drop at items) ≡ acts_for m (item ∷ drop (at + 1) items)
acts_next n m at items item same within is =
    ap (acts_for n) (items_from items at item item within is)
    ∙ ap (λ (k : ℕ). acts_for k (item ∷ drop (at + 1) items)) (sym same)

-- behind the last item there are none
pub none_left : (items : List Item) (at : ℕ) → length items ≤ at → drop at items ≡ []
none_left [] zero past = refl
none_left [] (suc at) past = refl
none_left (item ∷ items) zero past = absurd (omega arith)
none_left (item ∷ items) (suc at) past = none_left items at (omega arith)
