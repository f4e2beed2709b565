-- A trace without items has no fault at its end.
use Rattle.std.proofs.Common.{◌≡◌, cond, List, [], Some, None, subst}
use Rattle.std.specs.List.{list_any}
use Rattle.trace_text.specs.declared.fault.BadKind.{BadKind}
use Rattle.trace_text.specs.declared.fault.BadKind.TheVariants as bad
use Rattle.trace_text.specs.declared.item.Item.{Item}
use Rattle.trace_text.specs.Limits.{Front, end_fault, inside_after}

at_items : (items : List Item) (kind : BadKind) → items ≡ [] → cond (list_any (λ inside. inside) (inside_after items)) (Some bad.Unended) None ≡ Some kind → ⊥
unfolding inside_after
at_items items kind none fault =
    let F : List Item → Type 0 = λ is. cond (list_any (λ inside. inside) (inside_after is)) (Some bad.Unended) None ≡ Some kind in
    let at_none : None ≡ Some kind = subst F none fault in
    absurd cc

pub no_fault : (front : Front) (kind : BadKind) → front.items ≡ [] → end_fault front ≡ Some kind → ⊥
no_fault front kind none fault = at_items front.items kind none fault
