-- The reads up to each one are in the lane.
use Rattle.std.proofs.Common.{◌≡◌, ◌+◌, [], ◌∷◌, ◌++◌, take, ap, sym, subst, ◌∙◌}
use Rattle.std.proofs.lemmas.List.{take_all, take_more}
use Rattle.kernel_model.specs.Turns.{IsReadOfRam}
use Rattle.ns_ram.specs.Reads.{HoldsReads}
use Rattle.ns_ram.specs.declared.read.Read.{Read}
use Rattle.journal_replay.proofs.ReadLists.{all_at, held_more}
use Rattle.journal_replay.proofs.laying.lay.Goals as goal

pub loop-read-preserved : goal.loop-read-preserved
loop-read-preserved c are =
    let reads = c.args.reads.now in
    let i = c.loop-read.read-index in
    let read = c.read-item.result in
    let below = c.loop-read-test.true in
    let of_ram = all_at IsReadOfRam reads i read below c.read-item.is are.of_ram in
    let more : take (i + 1) reads ≡ take i reads ++ read ∷ [] =
    take_more reads i read below ∙ ap (λ (r : Read). take i reads ++ r ∷ []) (sym c.read-item.is) in
    subst (HoldsReads c.put.new.lane) (sym more)
    (held_more c.loop-read.lane c.put.new.lane read (c.put.ensures.kept of_ram) (c.put.ensures.held of_ram) reads i below c.read-item.is are
    (c.loop-read.invariant are))

pub returns : goal.returns
returns c are =
    subst (HoldsReads c.loop-read.lane) (take_all c.loop-read.read-index c.args.reads.now c.loop-read-test.false) (c.loop-read.invariant are)
