-- The work of one processor: what its thread is given, and what it gives back.
use Rattle.std.specs.Prelude.{◌≡◌, ℕ, Bool, true, false, List, [], Result, Ok, Err}
use Rattle.core_lock.specs.Passes.{made, number, seen}
use Rattle.kernel_state.specs.declared.enter_refusal.EnterRefusal.{EnterRefusal}
use Rattle.kernel_state.specs.declared.enter_refusal.EnterRefusal.TheVariants.{Full, Memory}
use Rattle.normal_cpus.specs.Sharing.{CpuPass, IsCpuOf, boot_of}
use Rattle.normal_cpus.specs.declared.shared_core.SharedCore.{SharedCore}
use Rattle.ordered_play.specs.Act.{acts_for}
use Rattle.ordered_play.specs.Merge.{role_of, share_of}
use Rattle.trace_text.specs.declared.item.Item.{Item}
use Rattle.threads_play.specs.Ending.{EndsAs}
use Rattle.threads_play.specs.InTurn.{AreInTurn}
use Rattle.threads_play.specs.declared.ending.CpuEnd.{CpuEnd}

-- a pass of this core that has made no event, with RAM, whose processor comes in and goes out by turns
pub record CanPlay (shared : SharedCore) (items : List Item) (job : CpuPass × List ℕ) : Type 0 where
  pub own : IsCpuOf shared job.0
  pub unused : made job.0 ≡ []
  pub turn : AreInTurn false (acts_for (number job.0) items)

-- the pass is back, with what its processor has played over that RAM by what the pass has seen
pub record HasPlayed (shared : SharedCore) (items : List Item) (job : CpuPass × List ℕ) (end : CpuEnd) : Type 0 where
  pub own : IsCpuOf shared end.pass
  pub same : number end.pass ≡ number job.0
  pub ends : EndsAs (role_of (share_of (boot_of shared) (seen end.pass) (number job.0)) items job.1) end end.outcome

-- ---- what its outcome says

abbrev pub lacks_memory : Result (Unit {0}) EnterRefusal → Bool
lacks_memory (Ok done) = false
lacks_memory (Err (Full copied more)) = false
lacks_memory (Err Memory) = true

abbrev pub was_refused : Result (Unit {0}) EnterRefusal → Bool
was_refused (Ok done) = false
was_refused (Err (Full copied more)) = true
was_refused (Err Memory) = false
