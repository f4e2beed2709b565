-- The tickets from the one that is served on.
use Rattle.std.proofs.Common.{◌≡◌, ℕ, zero, suc, ◌+◌, ◌%◌, ◌<◌, ◌≤◌, ◌≢◌, sym, ap, ◌∙◌, arith}
use mathlib.Core.Logic.{dite}
use native.Mathlib.Decide.{ℕ_discrete}
use Rattle.core_lock.specs.Counts.{same, times, tickets_from}
use Rattle.core_lock.proofs.Totals.{same_self, same_other}
use Rattle.atomic_table.proofs.Lists.{one_turn}

small_mod : (a : ℕ) → a < 18446744073709551616 → a % 18446744073709551616 ≡ a
small_mod a h = omega arith

-- the ticket that is served stands once among those from it on
pub served_once : (serving n : ℕ) → serving < 18446744073709551616 → n ≤ 18446744073709551616 → times serving (tickets_from serving n) ≤ 1
served_once serving zero small few = omega arith
served_once serving (suc n) small few = dite (ℕ_discrete n 0)
    (λ none. let e : times serving (tickets_from serving n) ≡ 0 = ap (λ k. times serving (tickets_from serving k)) none in served_first serving ((serving + n) % 18446744073709551616) (times serving (tickets_from serving n)) e)
    (λ some_more.
    let apart : (serving + n) % 18446744073709551616 ≢ serving = λ e. some_more (let h = one_turn serving (serving + n) 18446744073709551616 (omega arith) (omega arith) (small_mod serving small ∙ sym e) in omega arith) in
    let a = same_other ((serving + n) % 18446744073709551616) serving apart in
    let b = served_once serving n small (omega arith) in omega arith)
  where
    served_first : (serving y rest : ℕ) → rest ≡ 0 → same y serving + rest ≤ 1
    served_first serving y rest none = dite (ℕ_discrete y serving)
        (λ e. let a = same_self y serving e in omega arith)
        (λ ne. let a = same_other y serving ne in omega arith)

-- once the first is served, the others are those from the next on
pub serve_next : (x serving n : ℕ) → serving < 18446744073709551616
    → times x (tickets_from serving (suc n)) ≡ same serving x + times x (tickets_from ((serving + 1) % 18446744073709551616) n)
serve_next x serving zero small = let e : (serving + 0) % 18446744073709551616 ≡ serving = omega arith in ap (λ (k : ℕ). same k x + 0) e
serve_next x serving (suc n) small =
    let h = serve_next x serving n small in
    let e : (serving + suc n) % 18446744073709551616 ≡ ((serving + 1) % 18446744073709551616 + n) % 18446744073709551616 = omega arith in
    let a : same ((serving + suc n) % 18446744073709551616) x ≡ same (((serving + 1) % 18446744073709551616 + n) % 18446744073709551616) x = ap (λ (k : ℕ). same k x) e in
    omega arith
