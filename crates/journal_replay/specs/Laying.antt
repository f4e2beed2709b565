-- Which reads can be those of one entry, by RAM alone. This project's own.
use Rattle.std.specs.Prelude.{AllPairs, List}
use Rattle.std.specs.List.{AllByRecursion}
use Rattle.kernel_model.specs.Turns.{IsReadOfRam}
use Rattle.kernel_state.specs.Reads.{Agree}
use Rattle.ns_ram.specs.declared.read.Read.{Read}

-- each is of some bytes of RAM, and they agree on every address that they share
pub record AreOfOneRam (reads : List Read) : Type 0 where
  pub of_ram : AllByRecursion IsReadOfRam reads
  pub agree : AllPairs Agree reads
