-- Which processors are inside, behind an entry and an exit.
use Rattle.std.proofs.Common.{◌≡◌, ℕ, Bool, true, false, List, Some, ap, ◌∙◌}
use Rattle.std.specs.Prelude.{map, not, slice_set}
use Rattle.std.proofs.lemmas.List.{map-set}
use Rattle.core_at_work.specs.Insides.{insides}
use Rattle.kernel_model.specs.Application.{Booted}
use Rattle.kernel_model.specs.Entry.{after_entry}
use Rattle.kernel_model.specs.Exit.{Exited, exit}
use Rattle.kernel_model.specs.History.{is_outside}
use Rattle.kernel_model.specs.Kernel.{Inside, Kernel, Outside, Processor, Visit}
use Rattle.kernel_model.proofs.StandingBy.{entry_sets, exit_sets}
use Rattle.ns_ram.specs.declared.read.Read.{Read}

abbrev is_in : Processor → Bool
is_in processor = not (is_outside processor)

insides_set : (kernel next : Kernel) (cpu : ℕ) (processor : Processor) →
    next.processors ≡ slice_set kernel.processors cpu processor →
    insides next ≡ slice_set (insides kernel) cpu (is_in processor)
insides_set kernel next cpu processor e = ap (map is_in) e ∙ map-set is_in kernel.processors cpu processor

-- an entry
pub insides_entered : (boot : Booted) (kernel next : Kernel) (visit : Visit) (reads : List Read) →
    after_entry boot kernel visit reads ≡ Some next → insides next ≡ slice_set (insides kernel) visit.cpu true
insides_entered boot kernel next visit reads e =
    let sets = entry_sets boot kernel next visit reads e in
    insides_set kernel next visit.cpu (Inside visit.regs visit.steps sets.0) sets.1

-- an exit
pub insides_left : (kernel : Kernel) (cpu : ℕ) (exited : Exited) → exit kernel cpu ≡ Some exited →
    insides exited.kernel ≡ slice_set (insides kernel) cpu false
insides_left kernel cpu exited e = insides_set kernel exited.kernel cpu Outside (exit_sets kernel cpu exited e)
