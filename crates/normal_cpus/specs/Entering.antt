-- A processor comes in under a turn of its pass.
use Rattle.std.specs.Prelude.{◌≡◌, ℕ, ◌^◌, List, length, Result, Ok, Err}
use Rattle.event_journal.specs.declared.event.Event.{Event}
use Rattle.event_journal.specs.declared.event.Event.TheVariants.{Entry}
use Rattle.core_lock.specs.Passes.{seen}
use Rattle.kernel_model.specs.Application.{Booted}
use Rattle.kernel_state.specs.Entering.{Coming, HasWorkAfter, IsTooMuchAfter}
use Rattle.kernel_state.specs.declared.enter_refusal.EnterRefusal.{EnterRefusal}
use Rattle.kernel_state.specs.declared.enter_refusal.EnterRefusal.TheVariants.{Full, Memory}
use Rattle.kernel_state.specs.declared.work.Work.{Work}
use Rattle.ns_ram.specs.Reads.{HoldsReads}
use Rattle.ns_ram.specs.declared.read.Read.{Read}
use Rattle.smc_abi.specs.declared.regs.Regs.{Regs}
use Rattle.normal_cpus.specs.Seeing.{HasMade, HasOnlySeen}
use Rattle.normal_cpus.specs.Sharing.{CpuPass}

-- the processor of this number, with these registers, is granted so many steps
abbrev pub coming : ℕ → Regs → ℕ → Coming
coming cpu regs steps = record { cpu = cpu; regs = regs; steps = steps }

-- it has come in: its entry is the last event that the pass has seen, and this is its work. What it has read, with all that was read
-- before, is at most 2^28 bytes (`few` of `makes`), so an entry with more is refused: by Full, or by Memory where that is wanted first
pub record HasCome (boot : Booted) (old new : CpuPass) (coming : Coming) (lane : List ℕ) (work : Work) : Type 0 where
  -- what it has read
  pub reads : List Read
  pub from_lane : HoldsReads lane reads
  pub before : List Event
  pub makes : HasMade boot old new before (Entry coming.cpu coming.regs coming.steps reads)
  -- the work is that of the kernel's call there, with none of the granted steps done
  pub cpu : work.cpu ≡ coming.cpu
  pub entry_at : work.entry_at ≡ length before
  pub fits : HasWorkAfter boot (seen new) work

-- what the answer says of the pass before and after. The numbers of a refusal are those of the history that it has then seen
abbrev pub ComesIn : Booted → CpuPass → CpuPass → Coming → List ℕ → Result Work EnterRefusal → Type 0
ComesIn boot old new coming lane (Ok work) = HasCome boot old new coming lane work
ComesIn boot old new coming lane (Err (Full copied more)) =
    HasOnlySeen boot old new × IsTooMuchAfter boot (2 ^ 28) (seen new) coming lane copied more
ComesIn boot old new coming lane (Err Memory) = HasOnlySeen boot old new
