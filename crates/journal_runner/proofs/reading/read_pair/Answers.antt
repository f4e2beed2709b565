-- Places of the second journal count on behind the first, and none is behind the end of the bytes.
use Rattle.std.proofs.Common.{ℕ, ◌+◌, ◌-◌, ◌≤◌, List, refl, inr, drop, length, length-drop, take, subst, arith}
use Rattle.std.proofs.lemmas.List.{take_all}
use Rattle.journal_bytes.specs.Grammar.{whole_of}
use Rattle.journal_runner.specs.Reading.{IsFaultAlone, IsFaultAloneOf}
use Rattle.journal_runner.proofs.Counted.{early_place, few_records}
use Rattle.journal_runner.proofs.reading.read_pair.Goals as goal

pub overflow_add-result : goal.overflow_add-result
overflow_add-result c =
    let few = few_records c.args.natives.now c.args.bytes.now (whole_of c.in_ok-one.one) c.in_ok-one.ensures.found in
    let short = c.requires in
    omega (arith, few, short)

pub overflow_add-result-in-Err-Bad : goal.overflow_add-result-in-Err-Bad
overflow_add-result-in-Err-Bad c =
    let natives = c.args.natives.now in
    let bytes = c.args.bytes.now in
    let one = c.in_ok-one.one in
    let few = few_records natives bytes (whole_of one) c.in_ok-one.ensures.found in
    let early =
    early_place natives (take (length bytes - one.used) (drop one.used bytes)) c.in-Err-Bad.place c.in-Err-Bad.kind
    (subst (IsFaultAloneOf natives (take (length bytes - one.used) (drop one.used bytes))) c.in-Err-Bad.field-0-is
    c.in-Err-Bad.ensures.bad) in
    let same = take_all (length bytes - one.used) (drop one.used bytes) (omega (arith, length-drop one.used bytes)) in
    let early_there = subst (λ (rest : List ℕ). c.in-Err-Bad.place ≤ length rest + 1) same early in
    let short = c.requires in
    omega (arith, few, early_there, short, length-drop one.used bytes)

pub returns-in-Err-Bad-clause-bad : goal.returns-in-Err-Bad-clause-bad
returns-in-Err-Bad-clause-bad c =
    let natives = c.args.natives.now in
    let bytes = c.args.bytes.now in
    let one = c.in_ok-one.one in
    let behind =
    subst (IsFaultAloneOf natives (take (length bytes - one.used) (drop one.used bytes))) c.in-Err-Bad.field-0-is
    c.in-Err-Bad.ensures.bad in
    inr (record {
      one = whole_of one;
      first = c.in_ok-one.ensures.found;
      behind = c.in-Err-Bad.place;
      fault = subst (λ (rest : List ℕ). IsFaultAlone natives rest c.in-Err-Bad.place c.in-Err-Bad.kind)
          (take_all (length bytes - one.used) (drop one.used bytes) (omega (arith, length-drop one.used bytes))) behind;
      place_is = refl;
    })
