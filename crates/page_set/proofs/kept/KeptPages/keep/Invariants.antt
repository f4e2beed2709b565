use Rattle.std.proofs.Common.{◌≡◌}
use Rattle.page_set.proofs.PagesKept.{IsKeptTo}
use Rattle.page_set.proofs.kept.KeptPages.keep.Given as goal

abbrev pub invariant-loop-number : goal.invariant-loop-number
invariant-loop-number l = record {
  pages : l.self.pages ≡ l.fn.pages;
  bytes : IsKeptTo l.fn.pages l.ram l.number l.self.bytes.items;
}
