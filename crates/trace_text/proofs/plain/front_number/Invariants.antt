use Rattle.std.proofs.Common.{◌≡◌, ◌≤◌, take}
use Rattle.std.specs.Str.Parse.{AllDigits, digits_value}
use Rattle.trace_text.proofs.plain.front_number.Given as goal

abbrev pub invariant-loop-count : goal.invariant-loop-count
invariant-loop-count l = record {
  digits : AllDigits l.radix (take l.count l.line);
  value : l.number ≡ digits_value l.radix (take l.count l.line);
  few : l.count ≤ 8;
}
