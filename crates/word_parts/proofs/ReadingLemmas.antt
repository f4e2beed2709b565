-- How the turns of reading join.
use Rattle.std.proofs.Common.{◌≡◌, ℕ, ◌+◌, ◌<◌, ◌≤◌, List, ◌++◌, length, length-append, Option, sym, ap, subst, ◌∙◌, arith}
use Rattle.ports.specs.Port.{Moves}
use Rattle.ports.specs.PortLaws.{Moves-trans}
use Rattle.ports.specs.declared.source.Taken.{Taken}
use Rattle.ports.specs.declared.source.Taken.TheVariants.{Bytes}
use Rattle.word_parts.specs.Input.{TakesAtMost, TakesSome}

-- what was taken in one turn stands behind what was taken before
pub TakesAtMost-then : (a b c : Option (List ℕ)) (x : List ℕ) (n m : ℕ) → Moves a b x → TakesAtMost n b c → length x + n ≤ m → TakesAtMost m a c
TakesAtMost-then a b c x n m p q le =
    (x ++ q.0, omega (arith, length-append x q.0, q.1), Moves-trans a b c x q.0 p q.2)

-- a turn that took bytes, after those before it
pub TakesSome-then : (a b c : Option (List ℕ)) (x y : List ℕ) (most count : ℕ) (taken : Taken) → taken ≡ Bytes count → Moves a b x → TakesSome b c x y most taken
    → Moves a c y × (length x < length y) × (length y ≤ length x + most)
TakesSome-then a b c x y most count taken is p q =
    let t = subst (λ (w : Taken). TakesSome b c x y most w) is q in
    let grown : length y ≡ length x + length t.0 = ap length t.4 ∙ length-append x t.0 in
    (subst (λ (w : List ℕ). Moves a c w) (sym t.4) (Moves-trans a b c x t.0 p t.3), omega arith, omega arith)
