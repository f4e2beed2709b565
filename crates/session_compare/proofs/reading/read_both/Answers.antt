-- The second journal is read on behind each event of the first, and whole in the end.
use Rattle.std.proofs.Common.{◌≡◌, List, [], Option, arith, length, refl, subst, sym, take}
use Rattle.audit_model.specs.Verdicts.{IsIllegalAt}
use Rattle.kernel_model.specs.Application.{Booted}
use Rattle.session_compare.proofs.ReadBoth.{all_read, few_with_next, from_here, illegal_here, read_on, read_through}
use Rattle.session_compare.specs.Comparisons.{Compares}
use Rattle.session_compare.specs.declared.differing.Side.TheVariants.{First}
use Rattle.session_compare.proofs.reading.read_both.Goals as goal

pub loop-at-init : goal.loop-at-init
loop-at-init g c =
    let so_far = g.L.ReadsLog.so_far in
    let code = c.new-comparison.result in
    let none : Compares {R = g.row.L-LogReply.Denot} First code [] [] = record { events = c.new-comparison.ensures.events; replies = c.new-comparison.ensures.replies } in
    record {
      first = c.requires.first.reading;
      second = c.requires.second.reading;
      within = omega arith;
      compares =
          subst (λ (log : List (g.row.L-LogEvent.Denot × Option g.row.L-LogReply.Denot)). Compares First code log (so_far c.args.second.now).log) (sym c.requires.first.log)
          (subst (λ (log : List (g.row.L-LogEvent.Denot × Option g.row.L-LogReply.Denot)). Compares First code [] log) (sym c.requires.second.log) none);
    }

pub read-requires-clause-fits : goal.read-requires-clause-fits
read-requires-clause-fits g c = c.loop-at.invariant.first.fits

pub read-requires-clause-few : goal.read-requires-clause-few
read-requires-clause-few g c =
    let so_far = g.L.ReadsLog.so_far in
    few_with_next (so_far c.args.first.now) c.args.events.now c.loop-at.at (so_far c.loop-at.first) c.loop-at.invariant.first
    c.index-events-at.result c.loop-at-test.true c.index-events-at.is c.requires.few

pub returns-in-None : goal.returns-in-None
returns-in-None g c =
    let so_far = g.L.ReadsLog.so_far in
    illegal_here (so_far c.args.first.now) c.args.events.now c.loop-at.at (so_far c.loop-at.first) c.loop-at.invariant.first
    c.index-events-at.result c.loop-at-test.true c.index-events-at.is (rw c.in-None.is at c.in_ok-read.ensures)

pub catch_up-requires-clause-reading : goal.catch_up-requires-clause-reading
catch_up-requires-clause-reading g c =
    let so_far = g.L.ReadsLog.so_far in
    from_here (so_far c.args.second.now) (take c.loop-at.next c.args.others.now) (so_far c.loop-at.second) c.loop-at.invariant.second

pub catch_up-requires-clause-within : goal.catch_up-requires-clause-within
catch_up-requires-clause-within g c = c.loop-at.invariant.within

pub catch_up-requires-clause-few : goal.catch_up-requires-clause-few
catch_up-requires-clause-few g c = c.requires.few_too

pub returns-in-Ends : goal.returns-in-Ends
returns-in-Ends g c =
    let so_far = g.L.ReadsLog.so_far in
    let has = rw c.in-Some.is at c.in_ok-read.ensures in
    let now = subst (λ (log : List (g.row.L-LogEvent.Denot × Option g.row.L-LogReply.Denot)). Compares First c.add.new.comparison log (so_far c.loop-at.second).log) (sym has.log)
    (c.in_ok-add-in-Some.ensures (so_far c.loop-at.first).log (so_far c.loop-at.second).log c.loop-at.invariant.compares) in
    subst (λ (boot : Booted). IsIllegalAt boot c.args.others.now c.in-Ends.place) c.loop-at.invariant.second.boot
    (rw c.in-Ends.is at (c.in_ok-caught.ensures (so_far c.read.new.self).log now))

pub loop-at-preserved : goal.loop-at-preserved
loop-at-preserved g c =
    let so_far = g.L.ReadsLog.so_far in
    let has = rw c.in-Some.is at c.in_ok-read.ensures in
    let now = subst (λ (log : List (g.row.L-LogEvent.Denot × Option g.row.L-LogReply.Denot)). Compares First c.add.new.comparison log (so_far c.loop-at.second).log) (sym has.log)
    (c.in_ok-add-in-Some.ensures (so_far c.loop-at.first).log (so_far c.loop-at.second).log c.loop-at.invariant.compares) in
    let caught = rw c.in-UpTo.is at (c.in_ok-caught.ensures (so_far c.read.new.self).log now) in
    record {
      first = read_on (so_far c.args.first.now) c.args.events.now c.loop-at.at (so_far c.loop-at.first) c.loop-at.invariant.first
          c.index-events-at.result c.loop-at-test.true c.index-events-at.is (so_far c.read.new.self) has.read;
      second = read_through (so_far c.args.second.now) (take c.loop-at.next c.args.others.now) (so_far c.loop-at.second)
          c.loop-at.invariant.second (take c.in-UpTo.place c.args.others.now) (so_far c.catch_up.new.second) caught.reading;
      within = caught.within;
      compares = caught.compares;
    }

pub catch_up-requires-2-clause-reading : goal.catch_up-requires-2-clause-reading
catch_up-requires-2-clause-reading g c =
    let so_far = g.L.ReadsLog.so_far in
    from_here (so_far c.args.second.now) (take c.loop-at.next c.args.others.now) (so_far c.loop-at.second) c.loop-at.invariant.second

pub catch_up-requires-2-clause-within : goal.catch_up-requires-2-clause-within
catch_up-requires-2-clause-within g c = c.loop-at.invariant.within

pub catch_up-requires-2-clause-few : goal.catch_up-requires-2-clause-few
catch_up-requires-2-clause-few g c = c.requires.few_too

pub returns-in-UpTo-rest : goal.returns-in-UpTo-rest
returns-in-UpTo-rest g c =
    let so_far = g.L.ReadsLog.so_far in
    let caught = rw c.in-UpTo-rest.is at (c.in_ok-rest.ensures (so_far c.loop-at.first).log c.loop-at.invariant.compares) in
    let all : c.in-UpTo-rest.field-0 ≡ length c.args.others.now = caught.whole refl in
    let second = so_far c.catch_up-2.new.second in
    record {
      one = all_read (so_far c.args.first.now) c.args.events.now c.loop-at.at (so_far c.loop-at.first) c.loop-at.invariant.first c.loop-at-test.false;
      two = all_read (so_far c.args.second.now) c.args.others.now c.in-UpTo-rest.field-0 second
          (read_through (so_far c.args.second.now) (take c.loop-at.next c.args.others.now) (so_far c.loop-at.second) c.loop-at.invariant.second
          (take c.in-UpTo-rest.field-0 c.args.others.now) second caught.reading) (omega (arith, all));
      compares = caught.compares;
    }

pub returns-in-Ends-rest : goal.returns-in-Ends-rest
returns-in-Ends-rest g c =
    let so_far = g.L.ReadsLog.so_far in
    subst (λ (boot : Booted). IsIllegalAt boot c.args.others.now c.in-Ends-rest.place) c.loop-at.invariant.second.boot
    (rw c.in-Ends-rest.is at (c.in_ok-rest.ensures (so_far c.loop-at.first).log c.loop-at.invariant.compares))
