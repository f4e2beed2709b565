-- Where a machine stands in a play.
use Rattle.std.specs.Prelude.{◌≡◌, ℕ, List, [], Some, None, IsSomeAnd}
use Rattle.core_at_work.specs.Insides.{insides}
use Rattle.core_machine.specs.Turns.{ComeInTurn, MayCome}
use Rattle.core_machine.specs.declared.machine.Machine.{Machine}
use Rattle.core_machine.specs.declared.smc.Smc.{Smc}
use Rattle.kernel_model.specs.Application.{Booted}
use Rattle.kernel_model.specs.Kernel.{Kernel, first_kernel}
use Rattle.kernel_state.specs.Meaning.{booted_of, events_of, kernel_of, terms_of}
use Rattle.play_model.specs.Play.{Play}

-- its core was booted so, has the play's history and kernel, and lets its entries read as much as the play does; its
-- processors see the play's RAM; and no entry was refused. Of the lines that are printed it knows nothing, and the play
-- doesn't know whether the core keeps its events
pub record IsAt (boot : Booted) (play : Play) (machine : Machine) : Type 0 where
  pub booted : booted_of machine.at_work.core ≡ boot
  pub history : events_of machine.at_work.core ≡ play.history
  pub kernel : kernel_of machine.at_work.core ≡ Some play.kernel
  pub limit : (terms_of machine.at_work.core).most ≡ play.most_bytes
  pub lanes : machine.lanes.items ≡ play.lanes
  pub goes_on : play.refused ≡ None

-- a play where nothing has happened, with this RAM, whose entries may read so many bytes
abbrev pub begun : ℕ → Booted → List (List ℕ) → Play
begun most_bytes boot lanes = record {
  kernel = first_kernel boot;
  history = [];
  lanes = lanes;
  lines = [];
  refused = None;
  most_bytes = most_bytes;
}

-- the play of a machine with this kernel, which has printed nothing
abbrev pub play_of : Machine → Kernel → Play
play_of machine kernel = record {
  kernel = kernel;
  history = events_of machine.at_work.core;
  lanes = machine.lanes.items;
  lines = [];
  refused = None;
  most_bytes = (terms_of machine.at_work.core).most;
}

-- ---- what can come

-- an entry or an exit can come, by which processors of the machine are inside
abbrev pub CanCome : Machine → Smc → Type 0
CanCome machine smc = IsSomeAnd (kernel_of machine.at_work.core) (λ kernel. MayCome (insides kernel) smc)

-- a list can come, each behind those before it
abbrev pub CanAllCome : Machine → List Smc → Type 0
CanAllCome machine smcs = IsSomeAnd (kernel_of machine.at_work.core) (λ kernel. ComeInTurn (insides kernel) smcs)
