-- Reads that stand behind those of before, each with the lane's bytes.
use Rattle.std.proofs.Common.{ℕ, List, [], ◌++◌, sym, ◌∙◌, ap, append_assoc, append-nil}
use Rattle.ns_ram.specs.declared.read.Read.{Read}
use Rattle.ns_ram.specs.Pages.{AppendsReads}
use Rattle.ns_ram.proofs.ReaderSteps.{HoldsReads-append}

pub AppendsReads-none : (lane : List ℕ) (reads : List Read) → AppendsReads lane reads reads
AppendsReads-none lane reads = record { taken = []; appended = sym (append-nil reads); held = tt }

pub AppendsReads-trans : (lane : List ℕ) (before between after : List Read) → AppendsReads lane before between →
    AppendsReads lane between after → AppendsReads lane before after
AppendsReads-trans lane before between after first second = record {
  taken = first.taken ++ second.taken;
  appended = second.appended ∙ ap (λ xs. xs ++ second.taken) first.appended ∙ append_assoc before first.taken second.taken;
  held = HoldsReads-append lane first.taken second.taken first.held second.held;
}
