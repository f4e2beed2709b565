use Rattle.std.proofs.Common.{◌≡◌, List, ◌∷◌, [], ◌++◌, Option, map, refl, ap, subst, sym, ◌∙◌}
use Rattle.std.proofs.lemmas.Iterator.Adapters.{YieldsList-from_vec}
use Rattle.std.proofs.lemmas.Iterator.Consumers.{YieldsList-end}
use Rattle.std.proofs.lemmas.List.{append-nil, append_assoc}
use Rattle.session_compare.specs.Comparisons.{Compares}
use Rattle.session_compare.proofs.differing.add.Goals as goal

pub loop-logged-init : goal.loop-logged-init
loop-logged-init g c its other compares = subst (λ (log : List (g.row.E.Denot × Option g.row.R.Denot)). Compares c.args.side c.args.comparison.now log other) (sym (append-nil its)) compares

pub loop-logged-preserved : goal.loop-logged-preserved
loop-logged-preserved g c its other compares =
    subst (λ (log : List (g.row.E.Denot × Option g.row.R.Denot)). Compares c.args.side c.add_entry.new.comparison log other)
    (append_assoc its c.loop-logged.yielded (c.in-Some.logged ∷ []))
    (c.in_ok-add_entry.ensures (its ++ c.loop-logged.yielded) other (c.loop-logged.invariant its other compares))

module _ {X : Type 0} where
  map_same : (xs : List X) → map (λ x. x) xs ≡ xs
  map_same [] = refl
  map_same (x ∷ xs) = ap (λ (ys : List X). x ∷ ys) (map_same xs)

pub returns : goal.returns
returns g c its other compares =
    let gives = c.into_iter-logged-iterator.ensures.into_iter_gives in
    let ends = YieldsList-end (YieldsList-from_vec {s = c.into_iter-logged-iterator.result} c.args.news.items gives.0 (gives.1 ∙ c.args.news.ok.0))
    c.loop-logged.yielded _ c.loop-logged.yielded_by c.next.result c.next.new.self c.in-None.is c.next.ensures.steps in
    subst (λ (news : List (g.row.E.Denot × Option g.row.R.Denot)). Compares c.args.side c.loop-logged.comparison (its ++ news) other)
    (sym (map_same c.loop-logged.yielded) ∙ ends.0) (c.loop-logged.invariant its other compares)
