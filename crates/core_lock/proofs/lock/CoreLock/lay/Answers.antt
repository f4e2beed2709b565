use Rattle.std.proofs.Common.{◌≡◌, [], ◌∷◌, ◌++◌, Some, sym, ap, subst, ◌∙◌}
use Rattle.atomic_table.specs.Table.{opening}
use Rattle.core_lock.specs.Rule.{Kept, opening_view}
use Rattle.core_lock.proofs.Opening.{opens}
use Rattle.core_lock.proofs.lock.CoreLock.lay.Goals as goal

pub new-requires : goal.new-requires
new-requires g c =
    let x = c.of.result.value in
    let same : x ≡ c.args.value = c.of.ensures ∙ c.value.ensures in
    let items = c.push_reserved.ensures.items ∙ (λ i. c.in-Ok.ensures.items i ++ Some (sym same i) ∷ []) in
    subst (λ xs. Kept g.T.Logged.entries g.T.Logged.maker g.T.Logged.basis c.args.count (g.T.Logged.basis x) (opening (0 ∷ 0 ∷ 0 ∷ []) xs (opening_view c.args.count (g.T.Logged.basis x)))) (sym items)
    (opens g.T.Logged.entries g.T.Logged.maker g.T.Logged.basis c.args.count x (ap g.T.Logged.entries same ∙ c.requires.entries) c.requires.count.0 c.requires.count.1)
