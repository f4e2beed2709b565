use Rattle.std.proofs.Common.{rules}
use Rattle.std.proofs.lemmas.List.Sorted.{answers_always}
use Rattle.base.proofs.PlaceLemmas.{searched}
use Rattle.base.proofs.number_table.search.Goals as goal

-- the closure gives an entry's number
pub returns : goal.returns
returns g c =
    let facts = c.binary_search_by_key.ensures in
    let by_number = facts.position (λ entry. entry.0) (answers_always _ _ _ (λ f a r g called. search rules)) in
    searched c.args.entries.now c.args.number c.binary_search_by_key.result c.requires facts.bound by_number
