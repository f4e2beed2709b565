use Rattle.std.proofs.Common.{◌≡◌, ◌+◌, vec_len, vec_capacity}
use Rattle.ns_ram.proofs.PageScan.{Pushed}
use Rattle.ns_ram.proofs.pages.push_up_to_bad.Given as goal

abbrev pub invariant-loop-i : goal.invariant-loop-i
invariant-loop-i l = record {
  pushed : Pushed l.bytes l.count l.i l.fn.pages.items l.pages.items;
  len : vec_len l.pages ≡ vec_len l.fn.pages + l.i;
  room : vec_capacity l.pages ≡ vec_capacity l.fn.pages;
}
