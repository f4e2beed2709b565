-- What was copied to the front of the buffer stood at the front of what was left.
use Rattle.std.proofs.Common.{◌≡◌, ℕ, ◌+◌, ◌-◌, ◌≤◌, List, ◌++◌, length, take, drop, arith, sym, ap, ◌∙◌, subst, take-append-drop, length-take-le}
use Rattle.std.proofs.lemmas.List.{drop-drop, take_rest}
use Rattle.std.proofs.Math.Seq.{take-append_seam}
use Rattle.ports.proofs.mem_source.MemSourceSource.take.Goals as goal

-- `front`, which is the first `n` of what is left, and what is left behind it
split_front : (all front rest : List ℕ) (at n : ℕ) → n ≤ length (take (length all - at) (drop at all))
    → front ≡ take n (take (length all - at) (drop at all))
    → drop at all ≡ take n (front ++ rest) ++ drop (at + n) all
split_front all front rest at n within copied =
    let same : front ≡ take n (drop at all) = copied ∙ ap (take n) (take_rest all at) in
    let fits : n ≤ length (drop at all) = subst (λ (l : List ℕ). n ≤ length l) (take_rest all at) within in
    let long : length front ≡ n = ap length same ∙ length-take-le n (drop at all) fits in
    let whole : take n (front ++ rest) ≡ front = subst (λ m. take m (front ++ rest) ≡ front) long (take-append_seam front rest) in
    sym (take-append-drop n (drop at all)) ∙ ap (λ l. l ++ drop n (drop at all)) (sym same ∙ sym whole) ∙ ap (λ l. take n (front ++ rest) ++ l) (drop-drop n at all)

pub returns-clause-moved : goal.returns-clause-moved
returns-clause-moved c =
    let bytes_are = c.deref.ensures.value in
    let copied = rw bytes_are at c.copy_from_slice.ensures.after in
    let count_is = rw bytes_are at c.min-count.ensures in
    rw (← c.self.view_is) (split_front c.self.inside.bytes.items _ _ c.self.inside.at c.min-count.result (omega arith) copied)
