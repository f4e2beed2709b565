use Rattle.std.proofs.Common.{List, ℕ, ap, sym, subst, ◌∙◌}
use Rattle.ns_ram.specs.Lane.{bytes_put}
use Rattle.ns_ram.specs.Reads.{HoldsRead}
use Rattle.journal_replay.proofs.Laid.{still_held}
use Rattle.journal_replay.proofs.laying.put.Goals as goal

pub returns-clause-kept : goal.returns-clause-kept
returns-clause-kept c of_ram other lies agree held =
    let lane = c.args.lane.now in
    let read = c.args.read.now in
    let written = c.write.ensures.bytes ∙ ap (λ (bytes : List ℕ). bytes_put lane read.addr bytes) c.as_slice-bytes.ensures in
    subst (λ (now : List ℕ). HoldsRead now other) (sym written) (still_held lane read other c.at-was.ensures.whole of_ram lies agree held)
