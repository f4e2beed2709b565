-- The items of one more number.
use Rattle.std.proofs.Common.{◌≡◌, ℕ, zero, suc, ◌-◌, ◌<◌, List, ◌++◌, append_assoc, ap, ◌∙◌, arith}
use Rattle.trace_text.specs.declared.item.Item.{Item}
use Rattle.workload.specs.Work.{items_of, made_items, next}

pub one_more : (all front now : List Item) (x y left : ℕ) → 0 < left → front ++ made_items x left ≡ all → y ≡ next x → now ≡ front ++ items_of y → now ++ made_items y (left - 1) ≡ all
one_more all front now x y zero some so_far drawn pushed = absurd (omega arith)
one_more all front now x y (suc left) some so_far drawn pushed =
    let less : suc left - 1 ≡ left = omega arith in
    ap (λ (n : ℕ). now ++ made_items y n) less
    ∙ ap (λ (is : List Item). is ++ made_items y left) pushed
    ∙ append_assoc front (items_of y) (made_items y left)
    ∙ ap (λ (z : ℕ). front ++ (items_of z ++ made_items z left)) drawn
    ∙ so_far
