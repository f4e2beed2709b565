-- One read more.
use Rattle.std.proofs.Common.{rules, sym, subst}
use Rattle.std.specs.Io.KnownBytes.{Consumes}
use Rattle.std.proofs.KnownBytes.{Consumes-trans}
use Rattle.ports.proofs.Parts.{take-written}
use Rattle.ports.proofs.std_source.fill.Goals as goal

pub loop-at-preserved : goal.loop-at-preserved
loop-at-preserved g c =
    let joined = Consumes-trans _ _ _ _ _ c.loop-at.invariant.moved c.in-Ok.ensures.moved in
    record {
      within = search rules;
      moved = subst (Consumes _ _) (sym (take-written c.loop-at.buf c.read.new.buf _ c.loop-at.at c.in-Ok.count c.loop-at.invariant.within (search rules))) joined;
    }
