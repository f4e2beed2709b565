-- One write more.
use Rattle.std.proofs.Common.{rules, sym, subst}
use Rattle.std.specs.Io.KnownBytes.{Appends}
use Rattle.std.proofs.KnownBytes.{Appends-trans}
use Rattle.ports.proofs.Parts.{take-next}
use Rattle.ports.proofs.std_sink.write_all.Goals as goal

pub loop-at-preserved : goal.loop-at-preserved
loop-at-preserved g c =
    let joined = Appends-trans _ _ _ _ _ c.loop-at.invariant.taken c.in_ok-at.ensures.appended in
    record {
      within = search rules;
      taken = subst (Appends _ _) (sym (take-next c.args.bytes.now c.loop-at.at c.in_ok-at.field-0)) joined;
    }
