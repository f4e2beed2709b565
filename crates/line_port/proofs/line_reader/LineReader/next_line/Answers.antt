-- One part more, and what ends a line.
use Rattle.std.proofs.Common.{rules, ◌∙◌}
use Rattle.line_port.proofs.Lines.{line-ends, line-stops, no_part-before, so_far-more}
use Rattle.line_port.proofs.line_reader.LineReader.next_line.Goals as goal

pub returns-in-Ok-Last-clause-takes : goal.returns-in-Ok-Last-clause-takes
returns-in-Ok-Last-clause-takes g c =
    line-ends _ _ _ _ _ _ _ _ c.heard_line.ensures.long c.heard_line.ensures.line c.loop.invariant.parts
    (rw c.in-Ok-Last.field-0-is at c.in-Ok-Last.ensures.takes)

pub returns-in-Ok-None-clause-takes : goal.returns-in-Ok-None-clause-takes
returns-in-Ok-None-clause-takes g c =
    line-stops _ _ _ _ _ _ _ _ _ c.heard_end.ensures.long c.heard_end.ensures.end c.heard_end.ensures.cut c.loop.invariant.parts
    (rw c.in-Ok-None.field-0-is at c.in-Ok-None.ensures.takes) (search rules)

pub loop-preserved : goal.loop-preserved
loop-preserved g c = record {
  parts = so_far-more _ _ _ _ _ _ _ c.loop.invariant.parts (rw c.in-Ok-Some.field-0-is at c.in-Ok-Some.ensures.takes);
  pending = λ holds.
      absurd (no_part-before _ _ _ (c.loop.invariant.pending holds) holds c.in-Ok-Some.ensures.whole c.in-Ok-Some.field-0-is);
  reader = λ holds.
      absurd (no_part-before _ _ _ (c.loop.invariant.pending holds) holds c.in-Ok-Some.ensures.whole c.in-Ok-Some.field-0-is);
  faults = c.in-Ok-Some.ensures.stays (λ e. cc) ∙ c.loop.invariant.faults;
}
