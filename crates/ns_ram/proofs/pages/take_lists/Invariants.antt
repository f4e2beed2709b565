use Rattle.std.proofs.Common.{◌≡◌, ◌-◌, length, vec_capacity}
use Rattle.ns_ram.proofs.PageWalk.{Walked}
use Rattle.ns_ram.proofs.pages.take_lists.Given as goal

abbrev pub invariant-lists : goal.invariant-lists
invariant-lists l = record {
  walked : Walked l.lane l.list l.count l.fn.reads l.current l.pages.items l.reads;
  room : vec_capacity l.pages ≡ l.count;
}

abbrev pub decreases-lists : goal.decreases-lists
decreases-lists l = l.count - length l.pages.items
