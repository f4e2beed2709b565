-- What an entry makes of a core: one event more, whose reads have the lane's bytes, and the work of its processor. Or it
-- is refused, and the core is as it was.
use Rattle.std.specs.Prelude.{◌≡◌, ℕ, ◌+◌, ◌<◌, ◌≤◌, ◌^◌, List, [], ◌∷◌, ◌++◌, length, Option, Some, Result, Ok, Err, IsSomeAnd, slice_get}
use Rattle.std.specs.Option.{option_and_then, option_map}
use Rattle.event_journal.specs.Journal.{copied_bytes}
use Rattle.event_journal.specs.declared.event.Event.{Event}
use Rattle.event_journal.specs.declared.event.Event.TheVariants.{Entry}
use Rattle.kernel_model.specs.Application.{Booted}
use Rattle.kernel_model.specs.Entry.{entry}
use Rattle.kernel_model.specs.History.{kernel_after}
use Rattle.kernel_model.specs.Kernel.{Kernel, Outside, Visit}
use Rattle.ns_ram.specs.Reader.{over_lane}
use Rattle.ns_ram.specs.Reads.{HoldsReads, total_bytes}
use Rattle.ns_ram.specs.declared.read.Read.{Read}
use Rattle.smc_abi.specs.declared.regs.Regs.{Regs}
use Rattle.kernel_state.specs.Meaning.{booted_of, events_of, kernel_of, terms_of}
use Rattle.kernel_state.specs.Work.{IsWorkOf}
use Rattle.kernel_state.specs.declared.enter_refusal.EnterRefusal.{EnterRefusal}
use Rattle.kernel_state.specs.declared.enter_refusal.EnterRefusal.TheVariants.{Full, Memory}
use Rattle.kernel_state.specs.declared.kernel_core.Core.{Core}
use Rattle.kernel_state.specs.declared.work.Work.{Work}

-- a processor that comes in: its number, its registers, and the steps that it is granted
pub record Coming : Type 0 where
  pub cpu : ℕ
  pub regs : Regs
  pub steps : ℕ

abbrev pub visit_of : Coming → Visit
visit_of coming = record { cpu = coming.cpu; regs = coming.regs.a; steps = coming.steps }

-- it can come in: it is outside, and is granted 1 to 1,000,000 steps
pub record CanEnter (core : Core) (coming : Coming) : Type 0 where
  pub outside : IsSomeAnd (kernel_of core) (λ kernel. slice_get kernel.processors coming.cpu ≡ Some Outside)
  pub some_steps : 1 ≤ coming.steps
  pub few_steps : coming.steps ≤ 1000000

-- the core is as it was
pub record IsAsBefore (old new : Core) : Type 0 where
  pub boot : booted_of new ≡ booted_of old
  pub terms : terms_of new ≡ terms_of old
  pub events : events_of new ≡ events_of old

-- ---- an entry

-- after this history the work is that of its processor's open entry: a bare fact, as the one that a core keeps
abbrev pub HasWorkAfter : Booted → List Event → Work → Type 0
HasWorkAfter boot history work = ∥ IsSomeAnd (kernel_after boot history) (λ kernel. IsWorkOf kernel work) ∥₁

abbrev pub HasWork : Core → Work → Type 0
HasWork core work = HasWorkAfter (booted_of core) (events_of core) work

-- it has come in, and this is its work
pub record HasEntered (old new : Core) (coming : Coming) (lane : List ℕ) (work : Work) : Type 0 where
  pub boot : booted_of new ≡ booted_of old
  pub terms : terms_of new ≡ terms_of old
  -- what it has read, each once
  pub reads : List Read
  pub from_lane : HoldsReads lane reads
  pub events : events_of new ≡ events_of old ++ Entry coming.cpu coming.regs coming.steps reads ∷ []
  -- its work is that of its entry, which stands at the end
  pub cpu : work.cpu ≡ coming.cpu
  pub entry_at : work.entry_at ≡ length (events_of old)
  pub fits : HasWork new work

-- ---- a refusal

-- how many bytes an entry reads of a lane
abbrev pub bytes_read : Booted → List ℕ → Visit → Kernel → Option ℕ
bytes_read boot lane visit kernel = option_map (λ end. total_bytes end.1) (over_lane (entry boot kernel visit) lane [])

-- after this history, whose entries have read so many bytes, there are more than the most with those that it would read
pub record IsTooMuchAfter (boot : Booted) (most : ℕ) (history : List Event) (coming : Coming) (lane : List ℕ) (copied more : ℕ)
    : Type 0 where
  pub so_far : copied ≡ copied_bytes history
  pub of_entry : option_and_then (bytes_read boot lane (visit_of coming)) (kernel_after boot history) ≡ Some more
  pub above : most < copied + more

abbrev pub IsTooMuch : Core → Coming → List ℕ → ℕ → ℕ → Type 0
IsTooMuch core coming lane copied more =
    IsTooMuchAfter (booted_of core) (terms_of core).most (events_of core) coming lane copied more

-- ---- both

-- what the answer says of the core before and after. That an entry whose bytes are too many never comes in is a fact of
-- each core, whose reads have at most as many bytes as its terms allow
abbrev pub Enters : Core → Core → Coming → List ℕ → Result Work EnterRefusal → Type 0
Enters old new coming lane (Ok work) = HasEntered old new coming lane work
Enters old new coming lane (Err (Full copied more)) = IsAsBefore old new × IsTooMuch old coming lane copied more
Enters old new coming lane (Err Memory) = IsAsBefore old new
